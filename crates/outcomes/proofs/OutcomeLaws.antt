-- The days that are due are priced, block by block: what a block's days share is so on each of them.
use Prim.Native.Nat.{ℕ, ◌-◌, ◌≤◌, ◌<◌}
use mathlib.Core.Path.{◌≡◌, sym, ap, subst}
use mathlib.Core.Bool.{Bool, false}
use mathlib.Core.List.{List}
use native.Mathlib.Omega.{arith}
use native.Mathlib.Decide.{dec_lt}
use lib.ListN.{length, take, get_or}
use Rattle.rules.specs.Calendar.{outcome}
use Rattle.rules.specs.Question.{on}
use Rattle.rules.specs.declared.Outcome as Coded
use Rattle.grants.specs.declared.terms.Terms.{Terms}
use Rattle.grants.specs.declared.asking.Asking.{Asking}
use Rattle.grants.specs.Asks.{Asks, Asked, terms_on}
use Rattle.grants.specs.Asking.{AskingOn}
use Rattle.grants.proofs.AskLaws.{asks_on, asked_on}
use Rattle.survey.specs.declared.window.Window.{Window}
use Rattle.choice.specs.declared.Shared.{Shared}
use Rattle.choice.specs.Block.{SharedFor}
use Rattle.quote.specs.Quote.{OutcomeFor}
use Rattle.period.specs.Positions.{Dates}
use Rattle.outcomes.specs.Outcomes.{BlockEnd, BlockAt, PricedFor}

-- ---- what is asked on a day

module _ {asking : Asking} {d : ℕ} {then : Asking} (t : AskingOn asking d then) where
  -- what holds of the article, the table and the terms of that day
  on_day : (P : List ℕ → List ℕ → Terms → Type 0) → P asking.article.now asking.table.now (terms_on asking.terms d) → P then.article.now then.table.now then.terms
  on_day P h = subst (λ (x : Terms). P then.article.now then.table.now x) (sym t.terms)
      (subst (λ (x : List ℕ). P then.article.now x (terms_on asking.terms d)) (sym t.table) (subst (λ (x : List ℕ). P x asking.table.now (terms_on asking.terms d)) (sym t.article) h))

  pub asked_then : Asked asking.article.now asking.table.now asking.terms → Asked then.article.now then.table.now then.terms
  asked_then a = on_day Asked (asked_on a d)

  -- the question on that day asks by those terms
  pub priced_for : {b : List ℕ} {o : Coded.Outcome} → OutcomeFor b then.article.now then.table.now then.terms o → PricedFor b asking.article.now asking.table.now asking.terms d o
  unfolding outcome on
  priced_for h = record {
    of = λ q a. record { is = (h.of (on q d) (on_day (Asks (on q d)) (asks_on a d))).is };
  }

  -- and what a walk from that day on shares
  from_then : {w : List ℕ} {from last : ℕ} {shared : Shared} → SharedFor w from then.article.now then.table.now then.terms last shared
      → SharedFor w from asking.article.now asking.table.now (terms_on asking.terms d) last shared
  from_then {w} {from} {last} {shared} h =
      subst (λ (x : Terms). SharedFor w from asking.article.now asking.table.now x last shared) t.terms
      (subst (λ (x : List ℕ). SharedFor w from asking.article.now x then.terms last shared) t.table (subst (λ (x : List ℕ). SharedFor w from x then.table.now then.terms last shared) t.article h))

-- ---- a block

ordered : {dates : List ℕ} → Dates dates → (i j : ℕ) → i ≤ j → j < length dates → get_or dates i 0 ≤ get_or dates j 0
ordered {dates} d i j l h = go (dec_lt i j)
  where
    go : Dec (i < j) → get_or dates i 0 ≤ get_or dates j 0
    go (yes k) = omega (arith, d.ascending i j k h)
    go (no k) =
        let e : i ≡ j = omega arith in
        omega (arith, ap (λ (x : ℕ). get_or dates x 0) e)

module _ (b : List ℕ) (w : Window) (asking : Asking) (dates : List ℕ) (i : ℕ) where
  pub block_made : Dates dates → {until : ℕ} → BlockEnd i (length dates) until → {first : Asking} → AskingOn asking (get_or dates i 0) first → {shared : Shared}
      → SharedFor (take w.spans.rows.last b) w.spans.rows.first first.article.now first.table.now first.terms (get_or dates (until - 1) 0) shared
      → BlockAt b w asking.article.now asking.table.now asking.terms dates i (record { shared = shared; until = until })
  block_made d {until} end {first} t {shared} s = record {
    later = end.later;
    from = record {
      on = λ j l m.
          (from_then t s).on (get_or dates j 0) (ordered d i j l (omega (arith, end.fits))) (ordered d j (until - 1) (omega arith) (omega (arith, end.fits, end.later)));
    };
  }

-- ---- the next day that is due

-- none from i on to before k is
pub record Seeking (marks : List Bool) (i k : ℕ) : Type 0 where
  pub low : i ≤ k
  pub none_due : (j : ℕ) → i ≤ j → j < k → get_or marks j false ≡ false
