-- The price of an accepted question by what was found for it: 3 to 7, and the answer.
use Prim.Native.Nat.{ℕ, ◌*◌, ◌≤◌, ◌<◌}
use mathlib.Core.Path.{◌≡◌, refl, sym, ◌∙◌, ap}
use mathlib.Core.List.{List}
use native.Mathlib.Omega.{arith}
use lib.ListN.{length, take, replicate, length-replicate}
use lib.Seq.{length-take-le}
use borrow.Author.Tests.{le-leb, lt-leb}
use Rattle.std.specs.Prelude.{Some, None}
use Rattle.std.specs.Prelude as Std
use Rattle.rules.specs.Book.{Record}
use Rattle.rules.specs.Lines.{line_size}
use Rattle.rules.specs.Refusals.{Result, done, refused, over}
use Rattle.rules.specs.PlacedRefusals.{ResultAt, Done, RefusedAt, ◌>>=◌, lent_after_at}
use Rattle.rules.specs.Price.{Answer, written, in_room, shown}
use Rattle.rules.specs.Basket.{lines_in}
use Rattle.layout.specs.Ensures.{PutsTo}
use Rattle.layout.proofs.StoreLaws.{puts_front, puts_there}
use Rattle.price.specs.declared.answered.Answered.{Answered}
use Rattle.price.specs.Answered.{answered_to, PutsIfRoom, AnsweredIs}
use Rattle.relation_rules.specs.Derived.{unplaced}
use Rattle.relation_rules.specs.Calls.{shown_derived, lent_after_derived}
use Rattle.derived_price.specs.Price.{refused_by, without_place, priced_in, PricedIs}

abbrev pub zeros : ℕ → List ℕ
zeros n = replicate n 0

pub zeros_count : (n : ℕ) → length (zeros n) ≡ n
zeros_count n = length-replicate n 0

module _ {book : List Record} {s kept : List ℕ} {k : Answered} (answer : AnsweredIs book s (zeros 1584) (Some 0) kept k) where
  abbrev size : ℕ
  size = line_size * k.answer.lines

  pub few_lines : k.answer.lines ≤ 99
  few_lines = answer.told.few

  kept_fits : (r : ℕ) × PutsTo (zeros 1584) 0 (lines_in (answered_to book s)) kept r
  kept_fits = go k.end answer.lines
    where
      go : (e : Std.Option ℕ) → PutsIfRoom (zeros 1584) (Some 0) (lines_in (answered_to book s)) kept e → (r : ℕ) × PutsTo (zeros 1584) 0 (lines_in (answered_to book s)) kept r
      go None p = absurd (omega (arith, p.full, answer.told.size, answer.told.few, zeros_count 1584))
      go (Some r) p = (r, p.put)

  kept_long : length kept ≡ 1584
  kept_long = kept_fits.1.puts.long ∙ zeros_count 1584

  pub lines_there : size ≤ length kept
  lines_there = omega (arith, kept_long, answer.told.few)

  pub lines_long : length (take size kept) ≡ size
  lines_long = length-take-le size kept lines_there

  -- so many lines were kept
  size_is : (x : Result Answer) → answered_to book s ≡ x → size ≡ length (lines_in x)
  size_is x e = answer.told.size ∙ ap (λ (y : Result Answer). length (lines_in y)) e

  module _ (lent : List ℕ) where
    priced_as : (x : Result Answer) → answered_to book s ≡ x → priced_in book s (length lent) ≡ (unplaced x >>= λ a. unplaced (in_room (length lent) a))
    unfolding priced_in
    priced_as x e = ap (λ (y : Result Answer). unplaced y >>= λ a. unplaced (in_room (length lent) a)) e

    pub no_room : length lent < size → PricedIs book s lent (refused_by 7 0) lent
    unfolding shown_derived lent_after_at
    no_room h = go (answered_to book s) refl
      where
        go : (x : Result Answer) → answered_to book s ≡ x → PricedIs book s lent (refused_by 7 0) lent
        go (done a) e =
            let f = lt-leb (length (written a)) (length lent) (omega (arith, h, size_is (done a) e)) in
            let is : priced_in book s (length lent) ≡ RefusedAt 7 0 = priced_as (done a) e ∙ rw f refl in
            record { answer = ap shown_derived (sym is); output = ap (λ (x : ResultAt Answer). lent_after_derived x lent) (sym is) }
        go (refused n) e = absurd (omega (arith, h, size_is (refused n) e))

    -- a refusal from 3 to 6 has no lines, and its place is 0
    pub has_answer : size ≤ length lent → {after : List ℕ} {end : ℕ} → PutsTo lent 0 (take size kept) after end
        → PricedIs book s lent (without_place k.answer) after
    unfolding shown shown_derived lent_after_at
    has_answer h {after} {end} put = go (answered_to book s) refl
      where
        over_lines : (x : Result Answer) → answered_to book s ≡ x → after ≡ over (lines_in x) lent
        over_lines x e =
            puts_front put.puts
            ∙ ap (λ (l : List ℕ). over l lent) (puts_there kept_fits.1.puts size (sym answer.told.size) ∙ ap lines_in e)

        told_so : (x : Result Answer) → answered_to book s ≡ x → without_place k.answer ≡ without_place (shown x)
        told_so x e = ap without_place (answer.told.is ∙ ap shown e)

        go : (x : Result Answer) → answered_to book s ≡ x → PricedIs book s lent (without_place k.answer) after
        go (done a) e =
            let f = le-leb (length (written a)) (length lent) (omega (arith, h, size_is (done a) e)) in
            let is : priced_in book s (length lent) ≡ Done a = priced_as (done a) e ∙ rw f refl in
            record {
              answer = told_so (done a) e ∙ ap shown_derived (sym is);
              output = over_lines (done a) e ∙ ap (λ (x : ResultAt Answer). lent_after_derived x lent) (sym is);
            }
        go (refused n) e =
            let is : priced_in book s (length lent) ≡ RefusedAt n 0 = priced_as (refused n) e in
            record {
              answer = told_so (refused n) e ∙ ap shown_derived (sym is);
              output = over_lines (refused n) e ∙ ap (λ (x : ResultAt Answer). lent_after_derived x lent) (sym is);
            }
