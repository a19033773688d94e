-- What packaging records come to: units, and one record more.
use Rattle.std.specs.Prelude.{ℕ, ◌+◌, ◌≤◌, ◌<◌, ◌≡◌, Bool, true, false, ◌&&◌, Result, Ok, Err, List, [], ◌∷◌, map, ℤ, pos, nat_abs, ◌+ℤ◌, get_or, replicate}
use Rattle.std.specs.Int.Bits.{bit_or}
use Rattle.rules.specs.Lists.{all, keep, bit_set}
use Rattle.rules.specs.Book.{Pack}
use Rattle.rules.specs.BookLayout.{eight, no_unit}
use Rattle.rules.specs.Packaging.{present_in, value_in, unit_in, units_agree, three}
use Rattle.rules.specs.declared.Refusal.{Refusal}
use Rattle.rules.specs.declared.Refusal.TheVariants.{UnfitPackaging}
use Rattle.rules.proofs.PackagingLaws.{unit_after, goes_with}
use Rattle.records.specs.declared.packagings.Packing.{Packing}
use Rattle.records.specs.Ensures.{ValuesIn, units_in}
use Rattle.packed.specs.declared.sums.UnitCode.{UnitCode}
use Rattle.packed.specs.declared.sums.Units.{Units}
use Rattle.packed.specs.declared.sums.Sums.{Sums}

-- ---- units

abbrev pub letters : UnitCode → List ℕ
letters u = u.0 ∷ u.1 ∷ u.2 ∷ []

-- those of length, volume and weight
abbrev pub letters_in : Units → List (List ℕ)
letters_in u = letters u.length ∷ letters u.volume ∷ letters u.weight ∷ []

pub record UnitsOf (bytes : List ℕ) (r : Units) : Type 0 where
  pub is : letters_in r ≡ units_in bytes

pub record UnitAfter (held new r : UnitCode) : Type 0 where
  pub is : letters r ≡ unit_after (letters held) (letters new)

pub record UnitsAfter (held new r : Units) : Type 0 where
  pub is : letters_in r ≡ map (λ i. unit_after (get_or (letters_in held) i no_unit) (get_or (letters_in new) i no_unit)) three

abbrev pub units_go : Units → Units → Bool
units_go held new = all (λ i. goes_with (get_or (letters_in held) i no_unit) (get_or (letters_in new) i no_unit)) three

-- whether the record's units go with those held
abbrev pub units_fit : Sums → Packing → Bool
units_fit s p = all (λ i. goes_with (get_or (letters_in s.units) i no_unit) (get_or (units_in p.units) i no_unit)) three

-- ---- one record more

-- what 32 records can come to, and 33: each of their values is at most 10,000,000 either side of zero
abbrev pub most_before : ℕ
most_before = 320_000_000

abbrev pub most_sum : ℕ
most_sum = 330_000_000

-- values that leave room for one more record's
pub record AddableValues (held new : List ℤ) : Type 0 where
  pub held_in : (i : ℕ) → nat_abs (get_or held i (pos 0)) ≤ most_before
  pub new_in : ValuesIn new

pub record ValuesAfter (held new r : List ℤ) : Type 0 where
  pub is : r ≡ map (λ i. get_or held i (pos 0) +ℤ get_or new i (pos 0)) eight
  pub near : (i : ℕ) → nat_abs (get_or r i (pos 0)) ≤ nat_abs (get_or held i (pos 0)) + 10_000_000

pub record Added (s : Sums) (p : Packing) (r : Sums) : Type 0 where
  pub small : p.present < 256
  pub present : r.present ≡ bit_or s.present p.present
  pub values : ValuesAfter s.values p.values r.values
  pub units : letters_in r.units ≡ map (λ i. unit_after (get_or (letters_in s.units) i no_unit) (get_or (units_in p.units) i no_unit)) three
  pub agree : r.agree ≡ (s.agree && all (λ i. goes_with (get_or (letters_in s.units) i no_unit) (get_or (units_in p.units) i no_unit)) three)

-- and its units are those held
pub record AddedTo (s : Sums) (p : Packing) (r : Sums) : Type 0 where
  pub small : p.present < 256
  pub present : r.present ≡ bit_or s.present p.present
  pub values : ValuesAfter s.values p.values r.values
  pub units : letters_in r.units ≡ map (λ i. unit_after (get_or (letters_in s.units) i no_unit) (get_or (units_in p.units) i no_unit)) three
  pub goes : units_fit s p ≡ true
  pub agree : r.agree ≡ s.agree

-- the record's units are those held, or it gives another one
pub data AddedFitting (s : Sums) (p : Packing) : Result Sums Refusal → Type 0 where
  Fits : {r : Sums} → AddedTo s p r → AddedFitting s p (Ok r)
  Clashes : units_fit s p ≡ false → AddedFitting s p (Err UnfitPackaging)

-- ---- what records come to

-- what no record comes to
abbrev pub nothing : Sums
nothing = record {
  present = 0;
  values = replicate 8 (pos 0);
  units = record {
    length = record { 0 = 0; 1 = 0; 2 = 0 };
    volume = record { 0 = 0; 1 = 0; 2 = 0 };
    weight = record { 0 = 0; 1 = 0; 2 = 0 };
  };
  agree = true;
}

-- `s` is what some records come to
pub record SumsAre (us : List Pack) (s : Sums) : Type 0 where
  pub present : s.present ≡ bit_set (keep (present_in us) eight)
  pub values : s.values ≡ map (value_in us) eight
  pub units : letters_in s.units ≡ map (unit_in us) three
  pub agree : s.agree ≡ all (units_agree us) three

-- and their units agree
pub record SumsFit (us : List Pack) (s : Sums) : Type 0 where
  pub are : SumsAre us s
  pub agree : all (units_agree us) three ≡ true

pub record Within (most : ℕ) (s : Sums) : Type 0 where
  pub each : (i : ℕ) → nat_abs (get_or s.values i (pos 0)) ≤ most
