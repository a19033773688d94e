-- What a price reads of a book: the rows of the asked article and sort, and the rounding of the number that each of them names.
-- Two books that are alike there price alike.
use Prim.Native.Nat.{ℕ}
use mathlib.Core.Path.{◌≡◌, refl, sym, ◌∙◌, ap, subst}
use mathlib.Core.Bool.{◌&&◌, not, and_assoc}
use mathlib.Core.List.{List, [], ◌∷◌, ◌++◌}
use mathlib.Core.Option.{Option, some, none, map}
use lib.Dec.{eqb}
use Rattle.rules.specs.Lists.{same, any, keep, first, gather}
use Rattle.rules.specs.Book.{Record, Row, rows, rows_of, roundings, rounding_for}
use Rattle.rules.specs.Question.{Question, on, grants}
use Rattle.rules.specs.Choice.{component, better, step₅, surviving, choose}
use Rattle.rules.specs.Amounts.{rounded}
use Rattle.rules.specs.Lines.{Slot, slots, Chosen, chosen_in, rows_at, chosen_at, chosen, Line, exact_after, line_after, lines_after, lines_of}
use Rattle.rules.specs.Price.{priced}
use Rattle.rules.specs.Calendar.{outcome_of, outcome}
use Rattle.rules.specs.Changes.{dated, moving_rows, days_of_change, changes}
use Rattle.rules.specs.declared.Rounding.{Rounding}
use Rattle.rules.proofs.ListLaws.{All, Holds, all_keep, first_holds, keep_keep}
use Rattle.rules.proofs.NoPriceLaws.{survivors}
use Rattle.rules.proofs.RowLaws.{all_gather}

-- ---- what is read

-- the number that a row names rounds the same with these records and with those
abbrev pub Rounds : List Rounding → List Rounding → Row → Type 0
Rounds ra rb r = rounding_for r.rounding ra ≡ rounding_for r.rounding rb

-- The rows of the article and sort are the same in both books, and each number that they name rounds the same: its first record, or none in either.
pub record Alike (a b : List Record) (article : List ℕ) (sort : ℕ) : Type 0 where
  pub same_rows : rows_of article sort a ≡ rows_of article sort b
  pub same_roundings : All (Rounds (roundings a) (roundings b)) (rows_of article sort a)

-- ---- the rows of a component are taken from these alone

module _ (book : List Record) (q : Question) (s : Slot) where
  at_own : rows_at (rows book) q s ≡ keep (λ r. eqb r.level s.level && same r.condition s.condition) (rows_of q.article q.sort book)
  unfolding rows_at component rows_of
  at_own =
      sym
      (keep_keep (λ r. eqb r.level s.level && same r.condition s.condition)
      (λ r. same r.article q.article && eqb r.sort q.sort) (rows book)
      ∙ (λ i.
      keep
      (λ r. and_assoc (same r.article q.article) (eqb r.sort q.sort) (eqb r.level s.level && same r.condition s.condition) i)
      (rows book)))

  -- so what all of them have, the chosen row has
  chosen_has : (P : Row → Type 0) → All P (rows_of q.article q.sort book) → Holds (λ (c : Chosen). P c.row) (chosen_at (rows book) q s)
  unfolding chosen_at choose step₅
  chosen_has P hs =
      go (first (λ r. not (any (λ t. better t r) left)) left)
      (first_holds P (λ r. not (any (λ t. better t r) left)) left (survivors P q.date q.quantity q.currency (rows_at (rows book) q s) at))
    where
      at : All P (rows_at (rows book) q s)
      at = subst (All P) (sym at_own) (all_keep P _ (rows_of q.article q.sort book) hs)

      left : List Row
      left = surviving q.date q.quantity q.currency (rows_at (rows book) q s)

      go : (o : Option Row) → Holds P o → Holds (λ (c : Chosen). P c.row) (map (chosen_in s) o)
      go none h = tt
      go (some r) h = h

-- ---- the lines

module _ (ra rb : List Rounding) where
  lines_alike : (before : List Line) (cs : List Chosen) → All (λ (c : Chosen). Rounds ra rb c.row) cs
      → lines_after ra before cs ≡ lines_after rb before cs
  unfolding lines_after
  lines_alike before [] h = refl
  lines_alike before (c ∷ cs) h =
      let e : line_after ra before c ≡ line_after rb before c =
      unfold line_after in
      λ i. record {
        place = c.place;
        factor = c.factor;
        row = c.row;
        amount = rounded (h.0 i) (exact_after before c);
      } in
      lines_alike (before ++ (line_after ra before c ∷ [])) cs h.1 ∙ ap (λ (l : Line). lines_after rb (before ++ (l ∷ [])) cs) e

anything : (ss : List Slot) → All (λ s. Unit {0}) ss
anything [] = tt
anything (s ∷ ss) = (tt, anything ss)

-- ---- two books

module _ (a b : List Record) where
  -- The same rows of the article and sort: the same rows are chosen, whatever else the books hold.
  pub same_chosen : (q : Question) → rows_of q.article q.sort a ≡ rows_of q.article q.sort b → chosen (rows a) q ≡ chosen (rows b) q
  unfolding chosen chosen_at
  same_chosen q e =
      λ i.
      gather (λ s. map (chosen_in s) (choose q.date q.quantity q.currency (at s i)))
      (slots (grants q.granted))
    where
      at : (s : Slot) → rows_at (rows a) q s ≡ rows_at (rows b) q s
      at s = at_own a q s ∙ (ap (keep (λ r. eqb r.level s.level && same r.condition s.condition)) e ∙ sym (at_own b q s))

  -- and their days of change are the same
  pub same_changes : (article : List ℕ) (sort : ℕ) → rows_of article sort a ≡ rows_of article sort b → changes a article sort ≡ changes b article sort
  unfolding changes moving_rows rows_of
  same_changes article sort e = ap (λ (rs : List Row). days_of_change (keep dated rs)) e

  -- Books that are alike in what is read have the same lines ..
  pub same_lines : (q : Question) → Alike a b q.article q.sort → lines_of a q ≡ lines_of b q
  unfolding lines_of chosen
  same_lines q h =
      lines_alike (roundings a) (roundings b) [] (chosen (rows a) q) every
      ∙ ap (lines_after (roundings b) []) (same_chosen q h.same_rows)
    where
      every : All (λ (c : Chosen). Rounds (roundings a) (roundings b) c.row) (chosen (rows a) q)
      every =
          all_gather (λ (c : Chosen). Rounds (roundings a) (roundings b) c.row) (chosen_at (rows a) q)
          (λ s _. chosen_has a q s (Rounds (roundings a) (roundings b)) h.same_roundings)
          (slots (grants q.granted)) (anything (slots (grants q.granted)))

  -- .. the same price or refusal ..
  pub same_priced : (q : Question) → Alike a b q.article q.sort → priced a q ≡ priced b q
  unfolding priced
  same_priced q h = rw (same_lines q h)

  -- .. and the same outcome on every day, since what is read is not a matter of the day.
  pub same_outcome : (q : Question) → Alike a b q.article q.sort → (d : ℕ) → outcome a q d ≡ outcome b q d
  unfolding outcome on
  same_outcome q h d = ap outcome_of (same_priced (on q d) h)
