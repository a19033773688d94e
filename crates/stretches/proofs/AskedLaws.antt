-- The stretches that a question asks for: it asks by what is made of it, and the marks make only days of change due.
use Prim.Native.Nat.{ℕ, ◌+◌, ◌<◌}
use mathlib.Core.Path.{◌≡◌, sym, ◌∙◌, ap, subst}
use mathlib.Core.Bool.{Bool, true, false}
use mathlib.Core.List.{List}
use native.Mathlib.Omega.{arith}
use lib.Dec.{eqb}
use lib.ListN.{length, take, get_or}
use Rattle.rules.specs.Lists.{any}
use Rattle.rules.specs.Days.{is_day, next}
use Rattle.rules.specs.Question.{Question}
use Rattle.rules.specs.Calendar.{stretches, outcome}
use Rattle.rules.specs.Changes.{is_change}
use Rattle.rules.specs.declared.Outcome as Coded
use Rattle.rules.proofs.AlikeLaws.{same_changes}
use Rattle.rules.proofs.StaysLaws.{stays_next}
use Rattle.layout.specs.Records.{records_left}
use Rattle.question.specs.declared.Ask.{Ask}
use Rattle.question.specs.Asked.{ask_in}
use Rattle.grants.specs.declared.asking.Asking.{Asking}
use Rattle.grants.specs.Asking.{AskingIs}
use Rattle.survey.specs.declared.window.Window.{Window}
use Rattle.survey.specs.Window.{Windows}
use Rattle.survey.proofs.WindowLaws.{window_as}
use Rattle.period.specs.Positions.{Dates}
use Rattle.period.specs.Marks.{MarksAre}
use Rattle.outcomes.specs.Outcomes.{OutcomesFor}
use Rattle.stretches.specs.declared.Stretches.{Stretches}
use Rattle.stretches.specs.Stretches.{Marked, Lists, ListsBy}

-- ---- the marks

module _ {b article : List ℕ} {sort : ℕ} {w : Window} (h : Windows b 5 article sort w) where
  -- the days of change are those of the rows of the article and sort
  change_own : (d : ℕ) → is_change (records_left (take w.spans.rows.last b) w.spans.rows.first) article sort d ≡ is_change (records_left b 5) article sort d
  unfolding is_change
  change_own d = ap (any (eqb d)) (same_changes (records_left (take w.spans.rows.last b) w.spans.rows.first) (records_left b 5) article sort h.same)

  -- a question for them has one outcome from a day to the next, but for days of change
  steady : (q : Question) → q.article ≡ article → q.sort ≡ sort → {dates : List ℕ} {marks : List Bool} → Dates dates → 0 < length dates
      → MarksAre (take w.spans.rows.last b) w.spans.rows.first article sort dates marks → Marked (outcome (records_left b 5) q) dates marks
  steady q mine same-sort {dates} {marks} d l m = record {
    some_day = l;
    few = d.few;
    stays = λ i k e.
        let n : get_or dates (i + 1) 0 ≡ next (get_or dates i 0) = d.follow i k in
        let quiet : is_change (records_left b 5) q.article q.sort (next (get_or dates i 0)) ≡ false =
        (λ j. is_change (records_left b 5) (mine j) (same-sort j) (next (get_or dates i 0))) ∙ ap (is_change (records_left b 5) article sort) (sym n)
        ∙ sym (change_own (get_or dates (i + 1) 0))
        ∙ sym (m.is (i + 1) k)
        ∙ e in
        stays_next (records_left b 5) q (get_or dates i 0) (d.each_day i (omega arith)) (subst (λ (x : ℕ). is_day x ≡ true) n (d.each_day (i + 1) k))
        quiet
        ∙ ap (outcome (records_left b 5) q) (sym n);
  }

-- ---- the question, by what it asks

module _ {s : List ℕ} {ask : Ask} {asking : Asking} (is : AskingIs s ask asking) {b : List ℕ} where
  module _ {w : Window} (h : Windows b 5 (ask_in s ask).article ask.sort w) where
    pub asked_window : Windows b 5 asking.article.now asking.terms.sort w
    asked_window = window_as is.asks.article is.asks.sort h

    -- what is known of each day makes the question's stretches
    pub asked_lists : {dates : List ℕ} {marks : List Bool} → Dates dates → 0 < length dates → MarksAre (take w.spans.rows.last b) w.spans.rows.first asking.article.now asking.terms.sort dates marks
        → {outcomes : List Coded.Outcome} → OutcomesFor b asking.article.now asking.table.now asking.terms dates marks outcomes → {r : Stretches} → ListsBy dates marks outcomes r
        → Lists (stretches (outcome (records_left b 5) (ask_in s ask)) dates) r
    asked_lists d l m o r = r.of (outcome (records_left b 5) (ask_in s ask)) (record {
      marked = steady asked_window (ask_in s ask) is.asks.article is.asks.sort d l m;
      priced = o.of (ask_in s ask) is.asks;
    })
