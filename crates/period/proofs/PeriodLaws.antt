-- The days of a period by steps: each day written down, until the end is met or there would be too many.
use Prim.Native.Nat.{ℕ, suc, ◌+◌, ◌-◌, ◌≤◌, ◌<◌}
use mathlib.Core.Path.{◌≡◌, refl, sym, ◌∙◌, ap, subst}
use mathlib.Core.Bool.{true, false}
use mathlib.Core.List.{List, [], ◌∷◌, ◌++◌, append_assoc}
use mathlib.Core.Option.{Option, some, none}
use native.Mathlib.Omega.{arith}
use native.Mathlib.Numerals.{add-one}
use lib.ListN.{take, set, replicate, length-set, length-replicate}
use lib.Seq.{take-suc-set}
use borrow.Author.Tests.{eq-eqb, ne_eqb, le-leb, lt-leb}
use Rattle.rules.specs.Days.{is_day, next, days_to, also}
use Rattle.rules.specs.Calendar.{most_days, period_to}
use Rattle.rules.proofs.TestLaws.{and_false}
use Rattle.rules.proofs.DayLaws.{next_least, next_is_day, day_most}
use Rattle.layout.proofs.StoreLaws.{all_same, behind_store}
use Rattle.period.specs.Ensures.{DaysOf, behind, Counting}

-- ---- the definition's days, one at a time

days_more : (n d end : ℕ) → (d ≡ end → ⊥) → days_to (suc n) d end ≡ also d (days_to n (next d) end)
unfolding days_to
days_more n d end h = rw (ne_eqb d end h, days_to)

days_met : (n d end : ℕ) → d ≡ end → days_to (suc n) d end ≡ some (d ∷ [])
unfolding days_to
days_met n d end h = rw (eq-eqb d end h, days_to)

behind_none : (o : Option (List ℕ)) → o ≡ behind [] o
behind_none none = refl
behind_none (some ys) = refl

behind_also : (xs : List ℕ) (d : ℕ) (o : Option (List ℕ)) → behind xs (also d o) ≡ behind (xs ++ (d ∷ [])) o
behind_also xs d none = refl
behind_also xs d (some ys) = ap some (sym (append_assoc xs (d ∷ []) ys))

-- ---- there is none

module _ (start end : ℕ) where
  pub no_end : {r : _} → r ≡ is_day end → r ≡ false → period_to start end ≡ none
  no_end e f = unfold period_to in rw (sym e ∙ f)

  pub end_before : end < start → period_to start end ≡ none
  end_before l = unfold period_to in rw (lt-leb start end l, and_false (is_day end))

-- ---- the loop

pub count_start : {start end : ℕ} {r : _} → is_day start ≡ true → r ≡ is_day end → r ≡ true → start ≤ end → Counting start end (replicate 1096 0) start 0
count_start {start} {end} e f g l =
    record {
      end_day = sym f ∙ g;
      order = l;
      is_day_lem = e;
      low = l;
      most = omega arith;
      long = length-replicate {A = ℕ} 1096 0;
      empty = λ i z. all_same 1096 i 0;
      is = behind_none (days_to most_days start end);
    }

module _ {start end : ℕ} {dates : List ℕ} {d n : ℕ} (w : Counting start end dates d n) where
  period_is : period_to start end ≡ days_to most_days start end
  unfolding period_to
  period_is = rw (w.end_day, le-leb start end w.order)

  written : n < most_days → (m : ℕ) → most_days - n ≡ suc m → (d ≡ end → ⊥) → days_to most_days start end ≡ behind (take (n + 1) (set dates n d)) (days_to m (next d) end)
  written f m e h =
      w.is
      ∙ ap (behind (take n dates)) (ap (λ (k : ℕ). days_to k d end) e ∙ days_more m d end h)
      ∙ behind_also (take n dates) d (days_to m (next d) end)
      ∙ ap (λ (l : List ℕ). behind l (days_to m (next d) end)) (sym (ap (λ (k : ℕ). take k (set dates n d)) (add-one n) ∙ take-suc-set dates n d (omega (arith, w.long))))

  module _ (h : d ≡ end → ⊥) where
    before_end : d < end
    before_end = omega (arith, w.low)

    pub count_turn : {d' : ℕ} → n < most_days → d' ≡ next d → Counting start end (set dates n d) d' (n + 1)
    count_turn {d'} f e =
        record {
          end_day = w.end_day;
          order = w.order;
          is_day_lem = subst (λ (x : ℕ). is_day x ≡ true) (sym e) (next_is_day d w.is_day_lem (omega (arith, before_end, day_most end w.end_day)));
          low = subst (λ (x : ℕ). x ≤ end) (sym e) (next_least d end w.is_day_lem w.end_day before_end);
          most = omega arith;
          long = length-set dates n d ∙ w.long;
          empty = λ i l. behind_store dates n d 0 (λ j f. w.empty j (omega arith)) i (omega arith);
          is = written f (most_days - (n + 1)) (omega arith) h ∙ ap (λ (x : ℕ). behind (take (n + 1) (set dates n d)) (days_to (most_days - (n + 1)) x end)) (sym e);
        }

  pub count_over : most_days ≤ n → period_to start end ≡ none
  unfolding days_to
  count_over f =
      let z : most_days - n ≡ 0 = omega arith in
      period_is ∙ w.is ∙ ap (λ (k : ℕ). behind (take n dates) (days_to k d end)) z

  pub count_met : n < most_days → d ≡ end → {few : n + 1 ≤ 1096} → DaysOf start end (record { dates = set dates n d; n = n + 1; few = few })
  count_met f h =
      let s : most_days - n ≡ suc (1095 - n) = omega arith in
      record {
        long = length-set dates n d ∙ w.long;
        some_day = omega arith;
        is =
            period_is ∙ w.is
            ∙ ap (behind (take n dates)) (ap (λ (k : ℕ). days_to k d end) s ∙ days_met (1095 - n) d end h)
            ∙ ap some (sym (ap (λ (k : ℕ). take k (set dates n d)) (add-one n) ∙ take-suc-set dates n d (omega (arith, w.long))));
        behind = λ i l. behind_store dates n d 0 (λ j f. w.empty j (omega arith)) i (omega arith);
      }
