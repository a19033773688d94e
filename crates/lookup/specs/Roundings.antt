-- What the lookup of roundings ensures and asks, and where its walk stands.
use Rattle.std.specs.Prelude.{ℕ, ◌+◌, ◌%◌, ◌≤◌, ◌<◌, ◌≡◌, Bool, true, false, ◌&&◌, cond, List, map, eqb, length, take, drop, get_or}
use Rattle.std.proofs.Math.Option.{Option, some, none}
use Rattle.rules.specs.Lists.{if_some}
use Rattle.rules.specs.Layout.{whole}
use Rattle.rules.specs.Book.{Record, as_rounding, roundings, rounding_for, plain}
use Rattle.rules.specs.BookLayout.{kinded}
use Rattle.rules.specs.Amounts.{SoundRounding}
use Rattle.rules.specs.declared.Rounding.{Rounding}
use Rattle.rules.proofs.ListLaws.{All}
use Rattle.layout.specs.Reads.{part}
use Rattle.layout.specs.Records.{record_stop, records_left, Between}
use Rattle.records.specs.Asks.{OfKind}

-- `r` is the rounding that a row with this number takes, among the records from a spot on; its numbers are in their bounds
pub record RoundingUsed (b : List ℕ) (from number : ℕ) (r : Rounding) : Type 0 where
  pub is : r ≡ rounding_for number (roundings (records_left b from))
  pub sound : SoundRounding r

-- ---- a spot

unfoldable pub rounding_held : Option Record → Rounding
rounding_held none = plain
rounding_held (some r) = if_some (as_rounding r) plain (λ x. x)

-- the rounding whose record stands at a spot
abbrev pub rounding_there : List ℕ → ℕ → Rounding
rounding_there b spot = rounding_held (whole kinded (part b (spot + 2) (record_stop b spot)))

-- 0 is the spot of none, and has `other`
unfoldable pub spot_or : List ℕ → ℕ → Rounding → Rounding
spot_or b spot other = cond (eqb spot 0) other (rounding_there b spot)

-- a rounding stands at the spot
pub record RoundingHere (b : List ℕ) (spot : ℕ) : Type 0 where
  pub fits : record_stop b spot ≤ length b
  pub kind : OfKind 3 (part b (spot + 2) (record_stop b spot))

pub record SpotHeld (b : List ℕ) (spot : ℕ) : Type 0 where
  pub held : (spot ≡ 0 → ⊥) → RoundingHere b spot

-- `r` is the rounding that stands there
pub record RoundingAt (b : List ℕ) (spot : ℕ) (r : Rounding) : Type 0 where
  pub is : r ≡ spot_or b spot plain
  pub sound : SoundRounding r

-- what stands there is the rounding of the number, among the records from a spot on
pub record Found (b : List ℕ) (from number spot : ℕ) : Type 0 where
  pub held : SpotHeld b spot
  pub is : spot_or b spot plain ≡ rounding_for number (roundings (records_left b from))

pub record SpotsFound (b : List ℕ) (from : ℕ) (numbers : List ℕ) (n : ℕ) (spots : List ℕ) : Type 0 where
  pub each : (i : ℕ) → i < n → Found b from (get_or numbers i 0) (get_or spots i 0)

-- ---- the walk

-- the number of a spot is found, or the records from `at` on have what all have
pub record Sought (b : List ℕ) (from number spot at : ℕ) : Type 0 where
  pub held : SpotHeld b spot
  pub is : spot_or b spot (rounding_for number (roundings (records_left b at))) ≡ rounding_for number (roundings (records_left b from))

-- there are spots for n numbers, and flags for all low bytes
pub record Room (spots : List ℕ) (flags : List Bool) (n : ℕ) : Type 0 where
  pub spots_long : length spots ≡ 99
  pub flags_long : length flags ≡ 256
  pub few : n ≤ 99

-- the walk stands at a rounding or at the end
pub record Placing (b : List ℕ) (from : ℕ) (numbers : List ℕ) (n : ℕ) (spots : List ℕ) (flags : List Bool) (at : ℕ) : Type 0 where
  pub room : Room spots flags n
  pub between : Between b at
  pub here : at < length b → RoundingHere b at
  pub each : (i : ℕ) → i < n → Sought b from (get_or numbers i 0) (get_or spots i 0) at

-- the number is looked for, by the flags of low bytes and whether there are any
pub record Wants (flags : List Bool) (left : Bool) (number : ℕ) : Type 0 where
  pub some : number ≡ 0 → ⊥
  pub any : left ≡ true
  pub low : get_or flags (number % 256) false ≡ true

-- each of the first n numbers is 0, or has a spot, or is looked for
pub record OpenAre (numbers spots : List ℕ) (n : ℕ) (flags : List Bool) (left : Bool) : Type 0 where
  pub long : length flags ≡ 256
  pub each : (i : ℕ) → i < n → (get_or numbers i 0 ≡ 0 → ⊥) → get_or spots i 0 ≡ 0 → Wants flags left (get_or numbers i 0)

-- `r` is the spot of a rounding or the end, and none of the records passed is looked for
pub record NextOpen (b : List ℕ) (from : ℕ) (flags : List Bool) (left : Bool) (r : ℕ) : Type 0 where
  pub onward : from ≤ r
  pub between : Between b r
  pub here : r < length b → RoundingHere b r
  pub rest : (number : ℕ) → Wants flags left number → rounding_for number (roundings (records_left b r)) ≡ rounding_for number (roundings (records_left b from))

-- `r` is a number's spot once a record at `at` has gone by, which has the number or has not
pub record SpotAfter (spot : ℕ) (here : Bool) (at r : ℕ) : Type 0 where
  pub is : r ≡ cond (eqb spot 0 && here) at spot

-- and so for the first n numbers
pub record SpotsAfter (spots numbers : List ℕ) (n number at : ℕ) (r : List ℕ) : Type 0 where
  pub long : length r ≡ 99
  pub each : (i : ℕ) → i < n → get_or r i 0 ≡ cond (eqb (get_or spots i 0) 0 && eqb (get_or numbers i 0) number) at (get_or spots i 0)

-- and what is looked for then
pub record Noted (spots numbers : List ℕ) (n number at : ℕ) (r : List ℕ) (flags : List Bool) (left : Bool) : Type 0 where
  pub put : SpotsAfter spots numbers n number at r
  pub opened : OpenAre numbers r n flags left

-- ---- spots that were noted

-- a rounding stands at the spot, which is not that of none
pub record RoundingSpot (b : List ℕ) (spot : ℕ) : Type 0 where
  pub low : 0 < spot
  pub here : RoundingHere b spot

-- the first `count` of these are the spots of all roundings among the records from a spot on, in the order of the book
pub record SpotsNoted (b : List ℕ) (from : ℕ) (noted : List ℕ) (count : ℕ) : Type 0 where
  pub fits : count ≤ length noted
  pub there : All (RoundingSpot b) (take count noted)
  pub are : map (rounding_there b) (take count noted) ≡ roundings (records_left b from)

-- the number of a spot is found, or the noted spots that are left have what all have
pub record SoughtAmong (b : List ℕ) (from number spot : ℕ) (left : List ℕ) : Type 0 where
  pub held : SpotHeld b spot
  pub is : spot_or b spot (rounding_for number (map (rounding_there b) left)) ≡ rounding_for number (roundings (records_left b from))

-- and so for the first n numbers, with the noted spots before j gone through
pub record Among (b : List ℕ) (from : ℕ) (noted : List ℕ) (count : ℕ) (numbers : List ℕ) (n : ℕ) (spots : List ℕ) (j : ℕ) : Type 0 where
  pub long : length spots ≡ 99
  pub each : (i : ℕ) → i < n → SoughtAmong b from (get_or numbers i 0) (get_or spots i 0) (drop j (take count noted))
