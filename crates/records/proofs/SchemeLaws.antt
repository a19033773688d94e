-- Scheme records: where the names end, and the parts.
use Prim.Native.Nat.{ℕ, ◌+◌, ◌-◌, ◌<◌}
use mathlib.Core.Path.{◌≡◌, ◌∙◌}
use mathlib.Core.List.{List}
use native.Mathlib.Omega.{arith}
use lib.ListN.{length, get_or}
use Rattle.rules.specs.Book.{SchemeRecord}
use Rattle.rules.specs.BookLayout.{scheme_body}
use Rattle.layout.specs.Reads.{name_stop}
use Rattle.layout.specs.Ensures.{Number}
use Rattle.kinds.specs.Fields.{second_stop, third_stop, scheme_at}
use Rattle.kinds.specs.Ensures.{Stands}
use Rattle.kinds.proofs.PartsLaws.{scheme_parts, record_is, body_ok}
use Rattle.records.specs.Asks.{OfKind, SchemeNames}
use Rattle.records.specs.Ensures.{SchemeIs, scheme_in}
use Rattle.records.proofs.BoundLaws.{in_bounds_lem}

module _ {t : List ℕ} (p : OfKind 5 t) where
  stands : Stands scheme_body t 1 (third_stop t 1) 4 (SchemeRecord (scheme_at t 1 (name_stop t 1) (second_stop t 1) (third_stop t 1)))
  stands = scheme_parts t 1 (body_ok t 5 p.ok p.kind)

  pub scheme_first : 1 < length t
  scheme_first = omega (arith, stands.long)

  module _ {a x : ℕ} (e : Number (name_stop t 1) x a) where
    pub scheme_second : a < length t
    scheme_second = omega (arith, e.is, stands.long)

    module _ {b y : ℕ} (g : Number (name_stop t a) y b) where
      long : name_stop t b + 4 ≡ length t
      long = rw (g.is, e.is) stands.long

      pub scheme_third : b < length t
      scheme_third = omega (arith, long)

      pub scheme_names : {c z : ℕ} → Number (name_stop t b) z c → SchemeNames t a b c
      scheme_names h = record {
        low = omega (arith, e.is);
        middle = omega (arith, g.is);
        high = omega (arith, h.is);
        long = rw h.is long;
        is = rw (h.is, g.is, e.is) (record_is t 5 p.ok p.kind ∙ stands.is);
      }

pub scheme_is : (t : List ℕ) (a b p : ℕ) → SchemeNames t a b p
    → SchemeIs t (record {
      id = record { at = 2; size = a - 2 };
      numbersep = record { at = a + 1; size = b - (a + 1) };
      valuesep = record { at = b + 1; size = p - (b + 1) };
      visibility = get_or t p 0;
      hidden = get_or t (p + 1) 0;
      unselected = get_or t (p + 2) 0;
      trim = get_or t (p + 3) 0;
    })
unfolding scheme_at scheme_in
scheme_is t a b p here = record {
  is = here.is;
  id_in = omega (arith, here.low, here.middle, here.high, here.long);
  numbersep_in = omega (arith, here.middle, here.high, here.long);
  valuesep_in = omega (arith, here.high, here.long);
  bounds = in_bounds_lem t (SchemeRecord (scheme_at t 1 a b p)) here.is;
}
