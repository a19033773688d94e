-- "Factors on conditions": a factor of 1,000 changes no amount, and a name that is sent again changes nothing by its factor.
use Prim.Native.Nat.{ℕ, zero, suc, ◌+◌, ◌*◌, ◌/◌, ◌<◌}
use mathlib.Core.Path.{◌≡◌, refl, sym, ◌∙◌, ap}
use mathlib.Core.Bool.{Bool, true, false, ◌&&◌, ◌||◌, not, false≢true}
use mathlib.Core.List.{List, [], ◌∷◌, ◌++◌, map}
use mathlib.Core.Option
use mathlib.Core.Option.{Option, some, none}
use native.Mathlib.Nat.{zero-add, add-zero, mul-zero, zero-mul, add-mul, mul-add, mul-sub, suc-mul, mul_comm, mul_right_comm, mul-div-mul_right, div-div-eq-div-mul, add-mul-div_right, div-eq_of_lt}
use native.Mathlib.Omega.{arith}
use lib.Dec.{eqb}
use lib.IntN.{ℤ, pos, negsuc, neg_ℤ, ◌+ℤ◌, ◌*ℤ◌, *ℤ_comm}
use Rattle.integers.specs.Floor.{floor}
use Rattle.integers.proofs.Signed.{parts, eq_parts, mul_pos_pos}
use Rattle.rules.specs.Lists.{same, any, keep, cons_if, gather}
use Rattle.rules.specs.Bytes.{raise}
use Rattle.rules.specs.Book.{Record, Row, article_of, rows, roundings, rounding_for, base, surcharge, discount}
use Rattle.rules.specs.Question.{Question, Granted, Grant, placed, firsts, grants, plain_factor, question_of, on}
use Rattle.rules.specs.Choice.{choose}
use Rattle.rules.specs.Amounts.{exact, factored, ceiling, nearest_of, nearest, steps_by, plus, multiple_by, rounded}
use Rattle.rules.specs.Lines.{Line, Slot, named_slot, slots_at, slots, Chosen, chosen_in, rows_at, chosen_at, chosen, percent_of, line_after, lines_after, lines_of, total}
use Rattle.rules.specs.Refusals.{done, ◌>>=◌, or_refuse}
use Rattle.rules.specs.Price.{priced, answered, answer_of, unused_of, price}
use Rattle.rules.specs.Calendar.{outcome, outcome_of, within, listing, finished, calendar_in, calendar, calendar_list}
use Rattle.rules.specs.FinalNumber.{final_number}
use Rattle.rules.specs.Packaging.{packaging}
use Rattle.rules.specs.declared.Way.{Way}
use Rattle.rules.specs.declared.Way.TheVariants.{Down, Up, Commercial}
use Rattle.rules.specs.declared.Rounding.{Rounding}
use Rattle.rules.specs.declared.Fraction.{Fraction}
use Rattle.rules.proofs.ListLaws.{All, Holds, same_eq, same_refl, keep_keep}
use Rattle.rules.proofs.RowLaws.{all_append, all_gather, firsts_all}

-- ---- quotients of which both sides are multiplied by k

module _ (j : ℕ) where
  abbrev k : ℕ
  k = suc j

  shifted : (a n : ℕ) → (a * k + j) / (n * k) ≡ a / n
  shifted a n =
      ap (λ (m : ℕ). (a * k + j) / m) (mul_comm n k)
      ∙ sym (div-div-eq-div-mul (a * k + j) k n)
      ∙ ap (λ (m : ℕ). m / n)
      (ap (λ (m : ℕ). m / k) (omega arith) ∙ add-mul-div_right j a {z = k} (omega arith) ∙ ap (λ (m : ℕ). m + a) (div-eq_of_lt {n = j} {m = k} (omega arith)) ∙ zero-add a)

  floor_scale : (z : ℤ) (n : ℕ) → floor (z *ℤ pos k) (n * k) ≡ floor z n
  unfolding floor
  floor_scale (pos a) n = ap pos (mul-div-mul_right a n (omega arith))
  floor_scale (negsuc a) n = ap (λ (x : ℤ). floor x (n * k)) (ap neg_ℤ (ap pos (whole a))) ∙ ap negsuc (shifted a n)
    where
      whole : (a : ℕ) → suc a * k ≡ suc (a * k + j)
      whole a = suc-mul a k ∙ omega arith

  neg_times : (z : ℤ) → neg_ℤ (z *ℤ pos k) ≡ neg_ℤ z *ℤ pos k
  neg_times z = eq_parts (neg_ℤ (z *ℤ pos k)) (neg_ℤ z *ℤ pos k) (simp (parts, mul-zero, add-zero, zero-add))

  ceiling_scale : (z : ℤ) (n : ℕ) → ceiling (z *ℤ pos k) (n * k) ≡ ceiling z n
  unfolding ceiling
  ceiling_scale z n = ap neg_ℤ (ap (λ (x : ℤ). floor x (n * k)) (neg_times z) ∙ floor_scale (neg_ℤ z) n)

times_sum : (y z : ℤ) (n : ℕ) → (y +ℤ z) *ℤ pos n ≡ y *ℤ pos n +ℤ z *ℤ pos n
times_sum y z n =
    *ℤ_comm (y +ℤ z) (pos n)
    ∙ eq_parts (pos n *ℤ (y +ℤ z)) (pos n *ℤ y +ℤ pos n *ℤ z) (simp (parts, zero-mul, add-zero, mul-sub, mul-add) (omega arith))
    ∙ (λ i. *ℤ_comm (pos n) y i +ℤ *ℤ_comm (pos n) z i)

module _ (j : ℕ) where
  near_scale : (a n : ℕ) → nearest_of (a * k j) (n * k j) ≡ nearest_of a n
  near_scale a n =
      ap (λ (m : ℕ). m / (n * k j * 2)) (sums a n)
      ∙ ap (λ (m : ℕ). (a * 2 + n) * k j / m) (mul_right_comm n (k j) 2)
      ∙ mul-div-mul_right (a * 2 + n) (n * 2) (omega arith)
    where
      sums : (a n : ℕ) → a * k j * 2 + n * k j ≡ (a * 2 + n) * k j
      sums a n = ap (λ (m : ℕ). m + n * k j) (mul_right_comm a (k j) 2) ∙ sym (add-mul (a * 2) n (k j))

  nearest_below : (m n : ℕ) → 0 < m → nearest (neg_ℤ (pos m)) n ≡ neg_ℤ (pos (nearest_of m n))
  unfolding nearest
  nearest_below zero n h = absurd (omega arith)
  nearest_below (suc m) n h = refl

  nearest_scale : (z : ℤ) (n : ℕ) → nearest (z *ℤ pos (k j)) (n * k j) ≡ nearest z n
  unfolding nearest
  nearest_scale (pos a) n = ap pos (near_scale a n)
  nearest_scale (negsuc a) n =
      nearest_below (suc a * k j) (n * k j) (omega (arith, suc-mul a (k j))) ∙ ap (λ (m : ℕ). neg_ℤ (pos m)) (near_scale (suc a) n)

  steps_scale : (way : Way) (z : ℤ) (n : ℕ) → steps_by way (z *ℤ pos (k j)) (n * k j) ≡ steps_by way z n
  unfolding steps_by
  steps_scale Down z n = floor_scale j z n
  steps_scale Up z n = ceiling_scale j z n
  steps_scale Commercial z n = nearest_scale z n

-- A thousand thousandths of an amount are rounded as the amount is.
pub once_rounded : (r : Rounding) (x : Fraction) → rounded r (factored plain_factor x) ≡ rounded r x
unfolding rounded multiple_by
once_rounded r x =
    ap (λ (z : ℤ). steps_by r.way z (x.bottom * 1000 * r.step) *ℤ pos r.step +ℤ r.after.0) top
    ∙ ap (λ (n : ℕ). steps_by r.way ((plus x r.before).top *ℤ pos 1000) n *ℤ pos r.step +ℤ r.after.0) (mul_right_comm x.bottom 1000 r.step)
    ∙ ap (λ (z : ℤ). z *ℤ pos r.step +ℤ r.after.0) (steps_scale 999 r.way (plus x r.before).top (x.bottom * r.step))
  where
    top : x.top *ℤ pos 1000 +ℤ r.before.0 *ℤ pos (x.bottom * 1000) ≡ (x.top +ℤ r.before.0 *ℤ pos x.bottom) *ℤ pos 1000
    top =
        ap (λ (z : ℤ). x.top *ℤ pos 1000 +ℤ z) (mul_pos_pos r.before.0 x.bottom 1000)
        ∙ sym (times_sum x.top (r.before.0 *ℤ pos x.bottom) 1000)

-- ---- the lines without factors

-- a line as it is where nobody speaks of factors
abbrev pub plain_line : List Rounding → List Line → Chosen → Line
plain_line rs before c =
    record {
      place = c.place;
      factor = plain_factor;
      row = c.row;
      amount = rounded (rounding_for c.row.rounding rs) (exact c.row.value (percent_of c.row.rule before));
    }

unfoldable pub plain_lines : List Rounding → List Line → List Chosen → List Line
plain_lines rs before [] = before
plain_lines rs before (c ∷ cs) = plain_lines rs (before ++ (plain_line rs before c ∷ [])) cs

abbrev Once : Chosen → Type 0
Once c = c.factor ≡ plain_factor

same_line : (rs : List Rounding) (before : List Line) (c : Chosen) → Once c → line_after rs before c ≡ plain_line rs before c
unfolding line_after
same_line rs before c e =
    λ i. record {
      place = c.place;
      factor = e i;
      row = c.row;
      amount =
          (ap (λ (f : ℕ). rounded (rounding_for c.row.rounding rs) (factored f (exact c.row.value (percent_of c.row.rule before)))) e
          ∙ once_rounded (rounding_for c.row.rounding rs) (exact c.row.value (percent_of c.row.rule before))) i;
    }

same_lines : (rs : List Rounding) (before : List Line) (cs : List Chosen) → All Once cs → lines_after rs before cs ≡ plain_lines rs before cs
unfolding lines_after plain_lines
same_lines rs before [] h = refl
same_lines rs before (c ∷ cs) h =
    ap (λ (l : Line). lines_after rs (before ++ (l ∷ [])) cs) (same_line rs before c h.0) ∙ same_lines rs (before ++ (plain_line rs before c ∷ [])) cs h.1

-- ---- a question whose names all have the factor 1,000

abbrev pub AllOnce : List Granted → Type 0
AllOnce gs = All (λ (g : Granted). g.factor ≡ plain_factor) gs

abbrev GrantsOnce : List Grant → Type 0
GrantsOnce gs = All (λ (g : Grant). g.factor ≡ plain_factor) gs

abbrev SlotsOnce : List Slot → Type 0
SlotsOnce ss = All (λ (s : Slot). s.factor ≡ plain_factor) ss

placed_once : (n : ℕ) (gs : List Granted) → AllOnce gs → GrantsOnce (placed n gs)
placed_once n [] h = tt
placed_once n (g ∷ gs) h = (h.0, placed_once (suc n) gs h.1)

named_once : (gs : List Grant) (level : ℕ) → GrantsOnce gs → SlotsOnce (map (named_slot level) gs)
named_once [] level h = tt
named_once (g ∷ gs) level h = (h.0, named_once gs level h.1)

slots_once : (gs : List Grant) → GrantsOnce gs → SlotsOnce (slots gs)
unfolding slots
slots_once gs h =
    all_append _ (slots_at gs base) (slots_at gs surcharge ++ slots_at gs discount) (refl, named_once gs base h)
    (all_append _ (slots_at gs surcharge) (slots_at gs discount) (refl, named_once gs surcharge h) (refl, named_once gs discount h))

chosen_once : (rs : List Row) (q : Question) (s : Slot) → s.factor ≡ plain_factor → Holds Once (chosen_at rs q s)
unfolding chosen_at
chosen_once rs q s e = go (choose q.date q.quantity q.currency (rows_at rs q s))
  where
    go : (o : Option Row) → Holds Once (Option.map (chosen_in s) o)
    go none = tt
    go (some r) = e

-- It has the lines that it would have without factors.
pub lines_once : (book : List Record) (q : Question) → AllOnce q.granted → lines_of book q ≡ plain_lines (roundings book) [] (chosen (rows book) q)
unfolding lines_of chosen grants
lines_once book q h =
    let gs = placed_once 1 q.granted h in
    let ss = slots_once (grants q.granted) (firsts_all (λ (g : Grant). g.factor ≡ plain_factor) (placed 1 q.granted) gs) in
    same_lines (roundings book) [] (chosen (rows book) q)
    (all_gather Once (chosen_at (rows book) q) (chosen_once (rows book) q) (slots (grants q.granted)) ss)

-- ---- a name that is sent again

either_way : (a b : Bool) → (a && b) ≡ (b && a)
either_way true true = refl
either_way true false = refl
either_way false true = refl
either_way false false = refl

keep_swap : (p q : Grant → Bool) (gs : List Grant) → keep p (keep q gs) ≡ keep q (keep p gs)
keep_swap p q gs = keep_keep p q gs ∙ (λ i. keep (λ g. either_way (q g) (p g) i) gs) ∙ sym (keep_keep q p gs)

-- the names without this one
abbrev others : List ℕ → List Grant → List Grant
others n gs = keep (λ (h : Grant). not (same h.name n)) gs

-- one of these is the name, once raised
abbrev pub is_sent : List Granted → List ℕ → Bool
is_sent cs n = any (λ (c : Granted). same (map raise c.name) n) cs

-- the same name with another factor
abbrev pub refactored : Granted → ℕ → Granted
refactored c f = record { name = c.name; factor = f }

module _ (c : Granted) (f : ℕ) where
  abbrev itself : List ℕ
  itself = map raise c.name

  -- the names that count from place n on, with c behind these, and with another factor in its place
  abbrev with_c : ℕ → List Granted → List Granted → List Grant
  with_c n xs ys = firsts (placed n (xs ++ (c ∷ ys)))

  abbrev with_f : ℕ → List Granted → List Granted → List Grant
  with_f n xs ys = firsts (placed n (xs ++ (refactored c f ∷ ys)))

  -- without c itself they are the same
  apart : (n : ℕ) (xs ys : List Granted) → others itself (with_c n xs ys) ≡ others itself (with_f n xs ys)
  apart n [] ys = rw (same_refl itself)
  apart n (x ∷ xs) ys =
      ap (cons_if (not (same (map raise x.name) itself)) (record { place = n; name = map raise x.name; factor = x.factor }))
      (keep_swap _ _ (with_c (suc n) xs ys) ∙ ap (others (map raise x.name)) (apart (suc n) xs ys) ∙ sym (keep_swap _ _ (with_f (suc n) xs ys)))

  again : (n : ℕ) (xs ys : List Granted) → is_sent xs itself ≡ true → with_c n xs ys ≡ with_f n xs ys
  again n [] ys h = absurd (false≢true h)
  again n (x ∷ xs) ys h = ap (λ (gs : List Grant). first ∷ gs) (go (same (map raise x.name) itself) refl h (again (suc n) xs ys))
    where
      first : Grant
      first = record { place = n; name = map raise x.name; factor = x.factor }

      go : (b : Bool) → same (map raise x.name) itself ≡ b → (b || is_sent xs itself) ≡ true → (is_sent xs itself ≡ true → with_c (suc n) xs ys ≡ with_f (suc n) xs ys)
          → others (map raise x.name) (with_c (suc n) xs ys) ≡ others (map raise x.name) (with_f (suc n) xs ys)
      go true e h ih = rw (same_eq (map raise x.name) itself e) (apart (suc n) xs ys)
      go false e h ih = ap (others (map raise x.name)) (ih h)

  -- Behind a name that it repeats, its factor makes no difference to the names that count.
  pub repeat_grants : (xs ys : List Granted) → is_sent xs (map raise c.name) ≡ true → grants (xs ++ (c ∷ ys)) ≡ grants (xs ++ (refactored c f ∷ ys))
  unfolding grants
  repeat_grants xs ys h = again 1 xs ys h

-- ---- what is read of a question

-- the same question with other names granted
abbrev pub granting : Question → List Granted → Question
granting q gs = record {
  article = q.article;
  sort = q.sort;
  currency = q.currency;
  date = q.date;
  quantity = q.quantity;
  granted = gs;
  properties = q.properties;
}

-- of granted names only those that count are read
module _ (book : List Record) (q : Question) (gs gs' : List Granted) (e : grants gs ≡ grants gs') where
  same_listed : lines_of book (granting q gs) ≡ lines_of book (granting q gs')
  unfolding lines_of chosen chosen_at rows_at
  same_listed = ap (λ (ns : List Grant). lines_after (roundings book) [] (gather (chosen_at (rows book) q) (slots ns))) e

  same_priced : priced book (granting q gs) ≡ priced book (granting q gs')
  unfolding priced
  same_priced = rw same_listed

  pub same_answered : answered book (granting q gs) ≡ answered book (granting q gs')
  unfolding answered answer_of unused_of
  same_answered =
      λ i. or_refuse 3 (article_of book q.article) >>= λ _. same_priced i >>= λ p.
      done
      (record {
        unit = total p.lines;
        total = pos q.quantity *ℤ total p.lines;
        currency = p.currency;
        lines = p.lines;
        unused = keep (λ g. not (any (λ l. eqb l.place g.place) p.lines)) (e i);
      })

pub same_outcome : (book : List Record) (q : Question) (gs gs' : List Granted) → grants gs ≡ grants gs' → (d : ℕ)
    → outcome book (granting q gs) d ≡ outcome book (granting q gs') d
unfolding outcome on
same_outcome book q gs gs' e d = ap outcome_of (same_priced book (on q d) gs gs' e)

-- ---- bytes that are the same question

-- every call that reads one question answers both alike
pub record AnsweredAlike (s s' : List ℕ) : Type 0 where
  pub price : (b : List ℕ) (room : ℕ) → price b s room ≡ price b s' room
  pub calendar : (b : List ℕ) (end room : ℕ) → calendar b s end room ≡ calendar b s' end room
  pub list : (b : List ℕ) (end room : ℕ) → calendar_list b s end room ≡ calendar_list b s' end room
  pub number : (b : List ℕ) (room : ℕ) → final_number b s room ≡ final_number b s' room
  pub packaging : (b : List ℕ) → packaging b s ≡ packaging b s'

pub answered_alike : (s s' : List ℕ) → question_of s ≡ question_of s' → AnsweredAlike s s'
unfolding price calendar_in finished listing within final_number packaging
answered_alike s s' e = record {
  price = λ b room. rw e;
  calendar = λ b end room. rw e;
  list = λ b end room. rw e;
  number = λ b room. rw e;
  packaging = λ b. rw e;
}
