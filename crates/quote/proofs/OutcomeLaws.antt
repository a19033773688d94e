-- What is said of the chosen rows is the outcome of the question's day; and what a quote says.
use Prim.Native.Nat.{ℕ, ◌≤◌}
use mathlib.Core.Path.{◌≡◌, refl, sym, ◌∙◌, ap, subst}
use mathlib.Core.Bool.{Bool, true, false}
use mathlib.Core.List.{List, map}
use lib.Dec.{eqb}
use native.Mathlib.Omega.{arith}
use lib.ListN.{length, take}
use borrow.Author.Tests.{eqb-true, eqb-false}
use Rattle.rules.specs.Question.{Question, on, letters_of}
use Rattle.rules.specs.Calendar.{as_outcome, outcome_of, outcome}
use Rattle.layout.specs.Records.{records_left}
use Rattle.lines.specs.declared.Pick.{Pick}
use Rattle.lines.specs.declared.verdict.Verdict.{Verdict}
use Rattle.lines.specs.Verdict.{VerdictIs}
use Rattle.lines.specs.Views.{View, views_in}
use Rattle.lines.specs.Ensures.{StandFor, Listable}
use Rattle.grants.specs.declared.terms.Terms.{Terms}
use Rattle.grants.specs.Asks.{Asked}
use Rattle.grants.specs.Idle.{UnusedIs}
use Rattle.picks.specs.declared.chosen.Picks.{Picks}
use Rattle.picks.specs.Picks.{PickedAre, PickedFor}
use Rattle.quote.specs.declared.Quote.{Quote}
use Rattle.quote.specs.Quote.{UnusedFor, Quoted, QuoteIs, OutcomeFor}
use Rattle.lines.proofs.SliceLaws.{slice_views, slice_listable, slice_verdict}
use Rattle.picks.proofs.PickLaws.{stand, asked_judge}

module _ {b : List ℕ} {q : Question} {picks : List Pick} {n : ℕ} (picked : PickedAre b q picks n) {v : Verdict} (j : VerdictIs picks n v) where
  said : as_outcome v.outcome ≡ outcome (records_left b 5) q q.date
  unfolding outcome outcome_of on
  said = go (eqb v.outcome.refusal 0) refl
    where
      go : (t : Bool) → eqb v.outcome.refusal 0 ≡ t → as_outcome v.outcome ≡ outcome (records_left b 5) q q.date
      go true e =
          let z = eqb-true v.outcome.refusal 0 e in
          let x = j.answered z (records_left b 5) q (stand picked) in
          (λ i. record {
            refusal = z i;
            currency = letters_of v.outcome.currency;
            unit = sym x.unit i;
          }) ∙ ap outcome_of (sym x.is)
      go false e =
          let x = j.refuses (eqb-false v.outcome.refusal 0 e) (records_left b 5) q (stand picked) in
          ap (λ (y : Verdict). as_outcome y.outcome) x.zeros ∙ ap outcome_of (sym x.is)

module _ {b number table : List ℕ} {terms : Terms} {picks : Picks} (picked : PickedFor b number table terms picks) (asked : Asked number table terms)
    {s : List Pick} (e : s ≡ take picks.n picks.rows) where
  long : picks.n ≤ length picks.rows
  long = let x = picked.of asked.question asked.asks in omega (arith, x.few, x.long)

  -- the slice of the rows can be judged
  pub slice_judge : Listable s (length s)
  slice_judge = slice_listable picks.rows picks.n e long (asked_judge asked picked)

  module _ {v : Verdict} (told : VerdictIs s (length s) v) where
    j : VerdictIs picks.rows picks.n v
    j = slice_verdict picks.rows picks.n e long told

    pub outcome_for : OutcomeFor b number table terms v.outcome
    outcome_for = record { of = λ q a. record { is = said (picked.of q a) j } }

    pub quote_is : {s' : List Pick} → s' ≡ take picks.n picks.rows → {set : ℕ} → UnusedFor table (map (λ v. v.place) (views_in s' (length s'))) set
        → QuoteIs b number table terms (record { picks = picks; verdict = v; unused = record { 0 = set } })
    quote_is f {set} u = record {
      of = λ q a. record {
        picked = picked.of q a;
        judged = j;
        idle = subst (λ (vs : List View). UnusedIs q.granted (map (λ v. v.place) vs) set) (slice_views picks.rows picks.n f) (u.of q.granted a.granted);
      };
    }

-- what a quote says of its rows: they are few, and stand for the question
module _ {b : List ℕ} {q : Question} {r : Quote} (told : Quoted b q r) where
  pub quoted_few : r.picks.n ≤ 99
  quoted_few = told.picked.few

  pub quoted_long : length r.picks.rows ≡ 99
  quoted_long = told.picked.long

  pub quoted_stand : StandFor (records_left b 5) q r.picks.rows r.picks.n
  quoted_stand = stand told.picked
