-- The written stretches read back.
use Prim.Native.Nat.{ℕ, ◌<◌, ◌≤◌}
use mathlib.Core.Path.{◌≡◌, refl, ◌∙◌, ap}
use mathlib.Core.List.{List, [], ◌∷◌, ◌++◌, append_assoc}
use native.Mathlib.Omega.{arith}
use lib.IntN.{nat_abs}
use lib.ListN.{length, drop}
use Rattle.rules.specs.Lines.{most_total}
use Rattle.rules.specs.Calendar.{Stretch, stretch_bytes, stretches_bytes}
use Rattle.rules.proofs.ListLaws.{All}
use Rattle.layout.proofs.StoreLaws.{number_back, fits_near, bytes_back}
use Rattle.calendar.specs.Read.{stretch_in, read_stretches}

-- a stretch that 20 bytes can hold
pub record Readable (s : Stretch) : Type 0 where
  pub first : s.first < 4294967296
  pub last : s.last < 4294967296
  pub letters : length s.outcome.currency ≡ 3
  pub unit : nat_abs s.outcome.unit ≤ most_total

-- a stretch with other letters
abbrev pub lettered : Stretch → List ℕ → Stretch
lettered s c = record {
  first = s.first;
  last = s.last;
  outcome = record { refusal = s.outcome.refusal; currency = c; unit = s.outcome.unit };
}

module _ (s : Stretch) (rest : List ℕ) (w : Readable s) where
  stretch_back : (c : List ℕ) → length c ≡ 3 → (stretch_in (stretch_bytes (lettered s c) ++ rest) ≡ lettered s c) × (drop 20 (stretch_bytes (lettered s c) ++ rest) ≡ rest)
  stretch_back [] e = absurd (omega arith)
  stretch_back (x ∷ []) e = absurd (omega arith)
  stretch_back (x ∷ y ∷ []) e = absurd (omega arith)
  stretch_back (x ∷ y ∷ z ∷ []) e = (
    λ i.
        record {
          first = number_back 4 s.first w.first i;
          last = number_back 4 s.last w.last i;
          outcome = record {
            refusal = s.outcome.refusal;
            currency = x ∷ y ∷ z ∷ [];
            unit = bytes_back 8 (omega arith) s.outcome.unit (fits_near 8 s.outcome.unit (omega (arith, w.unit))) i;
          };
        },
    refl,
  )
  stretch_back (x ∷ y ∷ z ∷ (v ∷ c)) e = absurd (omega arith)

pub stretches_back : (ss : List Stretch) (rest : List ℕ) → All Readable ss → read_stretches (length ss) (stretches_bytes ss ++ rest) ≡ ss
unfolding stretches_bytes
stretches_back [] rest h = refl
stretches_back (s ∷ ss) rest h =
    let x = stretch_back s (stretches_bytes ss ++ rest) h.0 s.outcome.currency h.0.letters in
    ap (read_stretches (length (s ∷ ss))) (append_assoc (stretch_bytes s) (stretches_bytes ss) rest)
    ∙ (λ i. x.0 i ∷ read_stretches (length ss) (x.1 i))
    ∙ ap (λ l. s ∷ l) (stretches_back ss rest h.1)
