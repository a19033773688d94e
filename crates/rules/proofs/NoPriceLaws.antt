-- When there is no price: a base line stands exactly where a base row is left after the steps of choice.
use Prim.Native.Nat.{ℕ}
use mathlib.Core.Path.{◌≡◌, refl, sym, ◌∙◌, ap}
use mathlib.Core.Bool.{Bool, true, false, ◌&&◌, ◌||◌, not, cond}
use mathlib.Core.List.{List, [], ◌∷◌, ◌++◌, map}
use mathlib.Core.Option
use mathlib.Core.Option.{Option, some, none}
use lib.Dec.{eqb}
use borrow.Author.Tests.{eqb-true}
use Rattle.rules.specs.Lists.{same, keep, any, first, is_some, if_some}
use Rattle.rules.specs.Book.{Record, Row, base, surcharge, discount, rows}
use Rattle.rules.specs.Question.{Question, Grant, grants}
use Rattle.rules.specs.Choice.{component, percent_base, holds_on, is_in, reaches, better, step₁, step₂, step₃, step₄, step₅, surviving, choose}
use Rattle.rules.specs.Lines.{Slot, plain_slot, named_slot, slots_at, slots, Chosen, chosen_in, rows_at, chosen_at, chosen, Line, amounts, of_base, lines_of, total_of}
use Rattle.rules.specs.Refusals.{done, ◌>>=◌, or_refuse, refuse_unless, number_of}
use Rattle.rules.specs.Price.{Priced, priced, in_one_currency, in_range}
use Rattle.rules.specs.declared.Total.{Total}
use Rattle.rules.specs.declared.Total.TheVariants.{InRange, OutOfRange}
use Rattle.rules.proofs.ListLaws.{All, Holds, kept, all_keep, first_holds, first_any, any_append, any_gather}
use Rattle.rules.proofs.TestLaws.{and_left, and_right, and_true, and_false, or_false}
use Rattle.rules.proofs.BestLaws.{held, best_taken}
use Rattle.rules.proofs.LinesLaws.{line_rows}

abbrev pub any_left : List Row → Bool
any_left [] = false
any_left (r ∷ rs) = true

-- the rows of a component that survive the first four steps
unfoldable pub left_at : List Record → Question → Slot → List Row
left_at book q s = surviving q.date q.quantity q.currency (rows_at (rows book) q s)

-- the fifth takes one if there is any
step₅_some : (rs : List Row) → is_some (step₅ rs) ≡ any_left rs
step₅_some [] = unfold step₅ in refl
step₅_some (r ∷ rs) = ap is_some (best_taken (held r rs).2)

-- ---- a chosen row is of its slot's level

pub survivors : (P : Row → Type 0) (date quantity : ℕ) (c : Option (List ℕ)) (rs : List Row) → All P rs → All P (surviving date quantity c rs)
unfolding surviving step₁ step₂ step₄
survivors P date quantity c rs hs =
    all_keep P (reaches quantity) (step₃ c (step₂ date (step₁ rs))) (third c (step₂ date (step₁ rs)) (all_keep P (holds_on date) (step₁ rs) (all_keep P (λ r. not (percent_base r)) rs hs)))
  where
    either : (b : Bool) (xs ys : List Row) → All P xs → All P ys → All P (cond b xs ys)
    either true xs ys h k = h
    either false xs ys h k = k

    third : (c : Option (List ℕ)) (xs : List Row) → All P xs → All P (step₃ c xs)
    third none xs h = unfold step₃ in h
    third (some c) xs h = unfold step₃ in either (any (is_in c) xs) (keep (is_in c) xs) xs (all_keep P (is_in c) xs h) h

all_imply : {P Q : Row → Type 0} → ((r : Row) → P r → Q r) → (rs : List Row) → All P rs → All Q rs
all_imply f [] hs = tt
all_imply f (r ∷ rs) hs = (f r hs.0, all_imply f rs hs.1)

pub level_at : (rs : List Row) (q : Question) (s : Slot) → All (λ r. r.level ≡ s.level) (rows_at rs q s)
unfolding rows_at component
level_at rs q s =
    all_imply
    (λ r t.
    let u = and_right (same r.article q.article) (eqb r.sort q.sort && (eqb r.level s.level && same r.condition s.condition)) t in
    let v = and_right (eqb r.sort q.sort) (eqb r.level s.level && same r.condition s.condition) u in
    eqb-true r.level s.level (and_left (eqb r.level s.level) (same r.condition s.condition) v))
    (rows_at rs q s) (kept (λ r. same r.article q.article && (eqb r.sort q.sort && (eqb r.level s.level && same r.condition s.condition))) rs)

-- ---- base lines, slot by slot

abbrev base_row : Chosen → Bool
base_row c = eqb c.row.level base

module _ (book : List Record) (q : Question) where
  at_slot : (s : Slot) → if_some (chosen_at (rows book) q s) false base_row ≡ (any_left (left_at book q s) && eqb s.level base)
  unfolding chosen_at choose left_at step₅
  at_slot s =
      go (step₅ (left_at book q s)) (first_holds (λ r. r.level ≡ s.level) (λ r. not (any (λ t. better t r) (left_at book q s))) (left_at book q s) (survivors (λ r. r.level ≡ s.level) q.date q.quantity q.currency (rows_at (rows book) q s) (level_at (rows book) q s)))
      ∙ ap (λ b. b && eqb s.level base) (step₅_some (left_at book q s))
    where
      go : (o : Option Row) → Holds (λ r. r.level ≡ s.level) o → if_some (Option.map (chosen_in s) o) false base_row ≡ (is_some o && eqb s.level base)
      go none h = refl
      go (some r) h = ap (λ n. eqb n base) h

any_same : {A : Type 0} (p q : A → Bool) → ((x : A) → p x ≡ q x) → (xs : List A) → any p xs ≡ any q xs
any_same p q h [] = refl
any_same p q h (x ∷ xs) = rw (h x) (ap (λ b. q x || b) (any_same p q h xs))

pub any_map : {A B : Type 0} (f : A → B) (p : B → Bool) (xs : List A) → any p (map f xs) ≡ any (λ x. p (f x)) xs
any_map f p [] = refl
any_map f p (x ∷ xs) = ap (λ b. p (f x) || b) (any_map f p xs)

share : (a b e : Bool) → ((a && e) || (b && e)) ≡ ((a || b) && e)
share true true true = refl
share true true false = refl
share true false true = refl
share true false false = refl
share false b e = refl

-- the slots of a level have that level
of_level : (p : Slot → Bool) (gs : List Grant) (level : ℕ) → any (λ s. p s && eqb s.level base) (slots_at gs level) ≡ (any p (slots_at gs level) && eqb level base)
of_level p gs level =
    ap (λ b. (p (plain_slot level) && eqb level base) || b) (rest gs) ∙ share (p (plain_slot level)) (any p (map (named_slot level) gs)) (eqb level base)
  where
    rest : (gs : List Grant) → any (λ s. p s && eqb s.level base) (map (named_slot level) gs) ≡ (any p (map (named_slot level) gs) && eqb level base)
    rest [] = refl
    rest (g ∷ gs) =
        ap (λ b. (p (named_slot level g) && eqb level base) || b) (rest gs) ∙ share (p (named_slot level g)) (any p (map (named_slot level) gs)) (eqb level base)

-- only the base level has base lines
base_slots : (p : Slot → Bool) (gs : List Grant) → any (λ s. p s && eqb s.level base) (slots gs) ≡ any p (slots_at gs base)
unfolding slots
base_slots p gs =
    any_append t (slots_at gs base) (slots_at gs surcharge ++ slots_at gs discount)
    ∙ ap (λ b. any t (slots_at gs base) || b) (any_append t (slots_at gs surcharge) (slots_at gs discount))
    ∙ rw (of_level p gs base, of_level p gs surcharge, of_level p gs discount, and_true (any p (slots_at gs base)), and_false (any p (slots_at gs surcharge)), and_false (any p (slots_at gs discount)))
    (or_false (any p (slots_at gs base)))
  where
    t : Slot → Bool
    t s = p s && eqb s.level base

-- a base line stands exactly where a base row is left, unconditioned or of a granted name
pub base_line : (book : List Record) (q : Question)
    → is_some (first of_base (lines_of book q)) ≡ any (λ s. any_left (left_at book q s)) (slots_at (grants q.granted) base)
unfolding chosen
base_line book q =
    first_any of_base (lines_of book q)
    ∙ sym (any_map (λ l. l.row) (λ r. eqb r.level base) (lines_of book q))
    ∙ ap (any (λ r. eqb r.level base)) (line_rows book q)
    ∙ any_map (λ c. c.row) (λ r. eqb r.level base) (chosen (rows book) q)
    ∙ any_gather base_row (chosen_at (rows book) q) (slots (grants q.granted))
    ∙ any_same (λ s. if_some (chosen_at (rows book) q s) false base_row) (λ s. any_left (left_at book q s) && eqb s.level base) (at_slot book q) (slots (grants q.granted))
    ∙ base_slots (λ s. any_left (left_at book q s)) (grants q.granted)

-- ---- refusal 4

pub refused_4 : (book : List Record) (q : Question) → eqb (number_of (priced book q)) 4 ≡ not (is_some (first of_base (lines_of book q)))
unfolding priced
refused_4 book q = go (first of_base (lines_of book q))
  where
    later : (p : Priced) (five : Bool) (six : Total) → eqb (number_of {A = Priced} (refuse_unless 5 five >>= λ _. in_range six >>= λ _. done p)) 4 ≡ false
    later p true (InRange c) = refl
    later p true OutOfRange = refl
    later p false six = refl

    go : (o : Option Line)
        → eqb (number_of {A = Priced} (or_refuse 4 o >>= λ b. refuse_unless 5 (in_one_currency b.row.currency (lines_of book q)) >>= λ _. in_range (total_of (amounts (lines_of book q))) >>= λ _. done (record { lines = lines_of book q; currency = b.row.currency }))) 4
        ≡ not (is_some o)
    go none = refl
    go (some b) = later (record { lines = lines_of book q; currency = b.row.currency }) (in_one_currency b.row.currency (lines_of book q)) (total_of (amounts (lines_of book q)))
