-- Where to look for a name in a list of properties: names share slots, and a slot has the first property that it is worth to look from.
use Rattle.std.specs.Prelude.{ℕ, ◌+◌, ◌-◌, ◌*◌, ◌%◌, ◌≡◌, true, List, map, length, get_or}
use Rattle.std.proofs.Math.Option.{some}
use Rattle.rules.specs.Lists.{is_some}
use Rattle.rules.specs.Bytes.{raise}
use Rattle.layout.specs.Counted.{Passing}
use Rattle.relation_rules.specs.Truth.{Held, held, properties_of, value_in}
use Rattle.property_list.specs.Listed.{held_at, held_stop, held_from}

-- any slot will do that names alike in capitals share: by the length, the first and the last byte
abbrev pub slot_in : List ℕ → ℕ
slot_in l = (length l + 11 * get_or l 0 0 + 41 * get_or l (length l - 1) 0) % 128

unfoldable pub slot_of : List ℕ → ℕ
slot_of name = slot_in (map raise name)

-- n properties are left from `at` on, up to the end of the list
abbrev pub HeldPass : List ℕ → ℕ → ℕ → Type 0
HeldPass s at n = Passing held held_at held_stop s at n (length s)

-- the first property of the name is the first among those from `at` on
pub record LooksFrom (s name : List ℕ) (at : ℕ) : Type 0 where
  pub left : ℕ
  pub passing : HeldPass s at left
  pub rest : (ps : List Held) → properties_of s ≡ some ps → value_in ps name ≡ value_in (held_from s at left) name

-- the slots of an accepted list
pub record SlotsOf (s slots : List ℕ) : Type 0 where
  pub accepted : is_some (properties_of s) ≡ true
  pub looks : (name : List ℕ) → LooksFrom s name (get_or slots (slot_of name) 0)
