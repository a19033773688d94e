-- A question grants at most 32 names, so a price has at most 99 lines, and 1,584 bytes are room enough for any.
use Prim.Native.Nat.{ℕ, suc, ◌*◌, ◌≤◌}
use mathlib.Core.Path.{◌≡◌, refl, sym, ◌∙◌, ap}
use mathlib.Core.Bool.{Bool, true, false, not}
use mathlib.Core.List.{List, [], ◌∷◌, ◌++◌, map}
use mathlib.Core.Option.{Option, some, none}
use native.Mathlib.Omega.{arith}
use lib.ListN.{length, length-append, length-map}
use Rattle.rules.specs.Lists.{same, keep, cons_if, gather, cons_some, join}
use Rattle.rules.specs.Book.{Record, rows, base, surcharge, discount}
use Rattle.rules.specs.Question.{Granted, Question, Grant, grants, firsts, placed}
use Rattle.rules.specs.Lines.{named_slot, slots_at, slots, Line, chosen_at, chosen, lines_of, line_size, most_lines, most_lines_size, line_bytes, lines_bytes}
use Rattle.rules.proofs.LinesLaws.{line_rows}

if_length : {A : Type 0} (b : Bool) (x : A) (xs : List A) → length (cons_if b x xs) ≤ suc (length xs)
if_length true x xs = omega arith
if_length false x xs = omega arith

keep_length : {A : Type 0} (p : A → Bool) (xs : List A) → length (keep p xs) ≤ length xs
keep_length p [] = omega arith
keep_length p (x ∷ xs) = omega (arith, if_length (p x) x (keep p xs), keep_length p xs)

some_length : {A : Type 0} (o : Option A) (xs : List A) → length (cons_some o xs) ≤ suc (length xs)
some_length none xs = omega arith
some_length (some x) xs = omega arith

gather_length : {A B : Type 0} (f : A → Option B) (xs : List A) → length (gather f xs) ≤ length xs
gather_length f [] = omega arith
gather_length f (x ∷ xs) = omega (arith, some_length (f x) (gather f xs), gather_length f xs)

placed_length : (n : ℕ) (names : List Granted) → length (placed n names) ≡ length names
placed_length n [] = refl
placed_length n (c ∷ cs) = ap suc (placed_length (suc n) cs)

firsts_length : (gs : List Grant) → length (firsts gs) ≤ length gs
firsts_length [] = omega arith
firsts_length (g ∷ gs) = omega (arith, keep_length (λ h. not (same h.name g.name)) (firsts gs), firsts_length gs)

grants_length : (names : List Granted) → length (grants names) ≤ length names
unfolding grants
grants_length names = omega (arith, firsts_length (placed 1 names), placed_length 1 names)

-- each level has the unconditioned component and one for each granted name
slots_length : (gs : List Grant) → length (slots gs) ≡ 3 * suc (length gs)
unfolding slots
slots_length gs =
    length-append (slots_at gs base) (slots_at gs surcharge ++ slots_at gs discount)
    ∙ omega (arith, length-append (slots_at gs surcharge) (slots_at gs discount), of_level base, of_level surcharge, of_level discount)
  where
    of_level : (level : ℕ) → length (slots_at gs level) ≡ suc (length gs)
    of_level level = ap suc (length-map gs (named_slot level))

lines_length : (book : List Record) (q : Question) → length (lines_of book q) ≡ length (chosen (rows book) q)
lines_length book q = sym (length-map (lines_of book q) (λ l. l.row)) ∙ ap length (line_rows book q) ∙ length-map (chosen (rows book) q) (λ c. c.row)

most_lines_lem : (book : List Record) (q : Question) → length q.granted ≤ 32 → length (lines_of book q) ≤ most_lines
unfolding chosen
most_lines_lem book q h =
    omega
    (arith, lines_length book q, gather_length (chosen_at (rows book) q) (slots (grants q.granted)), slots_length (grants q.granted), grants_length q.granted)

lines_bytes_lem : (ls : List Line) → length (lines_bytes ls) ≡ line_size * length ls
unfolding lines_bytes
lines_bytes_lem [] = refl
lines_bytes_lem (l ∷ ls) = length-append (line_bytes l) (join (map line_bytes ls)) ∙ omega (arith, lines_bytes_lem ls)

pub enough_room : (book : List Record) (q : Question) → length q.granted ≤ 32 → length (lines_bytes (lines_of book q)) ≤ most_lines_size
enough_room book q h = omega (arith, lines_bytes_lem (lines_of book q), most_lines_lem book q h)
