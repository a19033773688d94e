-- What a caller reads: the stretches in the lent output, 20 bytes each or a record each.
use Rattle.std.specs.Prelude.{ℕ, zero, suc, List, [], ◌∷◌, map, take, drop, get_or}
use Rattle.rules.specs.Bytes.{big, signed_of}
use Rattle.rules.specs.Calendar.{Stretch}
use Rattle.stretches.specs.declared.Stretch as Declared
use Rattle.stretches.specs.Stretches.{as_stretch}

abbrev pub stretch_in : List ℕ → Stretch
stretch_in s = record {
  first = big (take 4 s);
  last = big (take 4 (drop 4 s));
  outcome = record { refusal = get_or s 8 0; currency = take 3 (drop 9 s); unit = signed_of 8 (big (take 8 (drop 12 s))) };
}

abbrev pub read_stretches : ℕ → List ℕ → List Stretch
read_stretches zero s = []
read_stretches (suc n) s = stretch_in s ∷ read_stretches n (drop 20 s)

abbrev pub listed_stretches : ℕ → List Declared.Stretch → List Stretch
listed_stretches n l = map as_stretch (take n l)
