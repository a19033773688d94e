-- The first n rows as a slice: what is asked and said of it is asked and said of them.
use Prim.Native.Nat.{ℕ, ◌≤◌}
use mathlib.Core.Path.{◌≡◌, sym, ap, ◌∙◌, subst}
use mathlib.Core.List.{List, map}
use native.Mathlib.Omega.{arith}
use lib.ListN.{length, take}
use lib.Seq.{length-take-le, take-length}
use Rattle.rules.specs.Calendar.{OutcomeIs}
use Rattle.rules.proofs.ListLaws.{All}
use Rattle.lines.specs.declared.Pick.{Pick}
use Rattle.lines.specs.declared.verdict.Verdict.{Verdict}
use Rattle.lines.specs.Views.{View, view_in, views_in, views_bytes, base_first, amounts_of, amounts_in}
use Rattle.lines.specs.Ensures.{Sound, Listable}
use Rattle.lines.specs.Verdict.{judged, VerdictIs}

module _ (rows : List Pick) (n : ℕ) {s : List Pick} (e : s ≡ take n rows) where
  pub slice_views : views_in s (length s) ≡ views_in rows n
  slice_views = ap (map view_in) (take-length s ∙ e)

  module _ (k : n ≤ length rows) where
    pub slice_count : length s ≡ n
    slice_count = ap length e ∙ length-take-le n rows k

    pub slice_listable : Listable rows n → Listable s (length s)
    slice_listable h = record {
      few = omega (arith, slice_count, h.few);
      sound = subst (All Sound) (sym slice_views) h.sound;
      base_first_lem = ap base_first slice_views ∙ h.base_first_lem;
    }

    pub slice_verdict : {v : Verdict} → VerdictIs s (length s) v → VerdictIs rows n v
    slice_verdict {v} j = record {
      each_in = j.each_in;
      unit_in = j.unit_in;
      is = subst (λ (vs : List View). OutcomeIs (judged vs) v.outcome) slice_views j.is;
      amounts = λ z. ap (amounts_in v.amounts) (sym slice_count) ∙ j.amounts z ∙ ap amounts_of slice_views;
      behind = λ i h. j.behind i (omega (arith, slice_count));
      zeros = j.zeros;
      answered = λ z book q st.
          let x = j.answered z book q (record { is = slice_views ∙ st.is }) in
          record {
            is = x.is;
            unit = x.unit;
            bytes = x.bytes ∙ (λ i. views_bytes (slice_views i) (amounts_in v.amounts (slice_count i)));
          };
      refuses = λ z book q st. j.refuses z book q (record { is = slice_views ∙ st.is });
    }
