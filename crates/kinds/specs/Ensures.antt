-- The tests of a body that the functions share out, and what an accepted body is.
use Rattle.std.specs.Prelude.{ℕ, ◌+◌, ◌*◌, ◌<◌, ◌≡◌, List, ◌++◌, Bool, ◌&&◌, ◌||◌, not, eqb, ℤ, length, take, drop, get_or}
use Rattle.std.proofs.Math.Option.{some}
use Rattle.rules.specs.Lists.{any, all, same}
use Rattle.rules.specs.Layout.{Layout, whole}
use Rattle.rules.specs.Bytes.{either_side}
use Rattle.rules.specs.Book.{Record}
use Rattle.rules.specs.BookLayout.{zero_unless_present, has, no_unit, length_units, volume_units, weight_units, keeps_apart}
use Rattle.kinds.specs.Fields.{values_at}

-- ---- tests

-- a scheme's trim byte goes with its value separator
abbrev pub trim_ok : List ℕ → ℕ → ℕ → ℕ → Bool
trim_ok separator hidden unselected trim = eqb trim 0 || keeps_apart separator hidden unselected

-- a value lies at most `most` either side of zero, and is 0 where it is not present
abbrev pub present_ok : Bool → ℕ → ℤ → Bool
present_ok present most v = either_side most v && (present || either_side 0 v)

-- the eight values behind the presence byte at p: six measures, items in a pack, packs
abbrev pub values_ok : List ℕ → ℕ → Bool
values_ok s p =
    (all (either_side 10_000_000) (values_at s p 1 6) && all (either_side 10_000) (values_at s p 25 2))
    && zero_unless_present (get_or s p 0) (values_at s p 1 6 ++ values_at s p 25 2)

-- `r` is the number of three bytes
pub record Letters (x y z r : ℕ) : Type 0 where
  pub is : r ≡ x * 65536 + y * 256 + z
  pub first : x < 256
  pub second : y < 256
  pub third : z < 256

abbrev pub unit_ok : Bool → List (List ℕ) → List ℕ → Bool
unit_ok needed units u = any (same u) units || (same u no_unit && not needed)

-- the three units behind the presence byte x at p and the eight values
abbrev pub units_ok : List ℕ → ℕ → ℕ → Bool
units_ok s p x =
    unit_ok (has 0 x || (has 1 x || has 2 x)) length_units (take 3 (drop (p + 33) s)) && unit_ok (has 3 x) volume_units (take 3 (drop (p + 36) s))
    && unit_ok (has 4 x || has 5 x) weight_units (take 3 (drop (p + 39) s))

-- ---- a body

-- the body m from `at` to the end of s is the record r: its names end at `end`, and behind them are `size` bytes
pub record Stands (m : Layout Record) (s : List ℕ) (at end size : ℕ) (r : Record) : Type 0 where
  pub long : end + size ≡ length s
  pub is : whole m (drop at s) ≡ some r
