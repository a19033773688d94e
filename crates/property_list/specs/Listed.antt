-- Where the properties of a list stand: each is a name, a byte for the kind of its value, and the value.
use Rattle.std.specs.Prelude.{ℕ, zero, suc, ◌+◌, ◌≤◌, ◌<◌, ◌≡◌, List, ltb, length, take, drop, get_or}
use Rattle.std.proofs.Math.Option.{Option, some, none}
use Rattle.rules.specs.Bytes.{big, signed_of}
use Rattle.layout.specs.Reads.{Reads, name_stop, name_at}
use Rattle.layout.specs.Counted.{Ends, Stands, Standing, values_at}
use Rattle.relation_rules.specs.Grammar.{Constant, Text, Number}
use Rattle.relation_rules.specs.Truth.{Held, held, value_of, properties_of, value_in}

-- ---- a value of a kind: 0 none, 1 a string, 2 a number

abbrev pub value_at : ℕ → List ℕ → ℕ → Option Constant
value_at zero s at = none
value_at (suc zero) s at = some (Text (name_at s at))
value_at (suc (suc k)) s at = some (Number (signed_of 8 (big (take 8 (drop at s)))))

abbrev pub value_stop : ℕ → List ℕ → ℕ → ℕ
value_stop zero s at = at
value_stop (suc zero) s at = name_stop s at
value_stop (suc (suc k)) s at = at + 8

-- it ends at `r`; 0: there is none such
pub record ValueEnds (kind : ℕ) (s : List ℕ) (at r : ℕ) : Type 0 where
  pub reads : Reads (value_of kind) s at (ltb 0 r) (value_at kind s at) (value_stop kind s at)
  pub stops : 0 < r → r ≡ value_stop kind s at
  pub low : 0 < r → at ≤ r
  pub fits : r ≤ length s

-- ---- a property

unfoldable pub held_at : List ℕ → ℕ → Held
held_at s at = record { name = name_at s at; value = value_at (get_or s (name_stop s at) 0) s (name_stop s at + 1) }

unfoldable pub held_stop : List ℕ → ℕ → ℕ
held_stop s at = value_stop (get_or s (name_stop s at) 0) s (name_stop s at + 1)

-- it ends at `r`; 0: none
abbrev pub HeldEnds : List ℕ → ℕ → ℕ → Type 0
HeldEnds = Ends held held_at held_stop

-- it stands there
abbrev pub HeldStands : List ℕ → ℕ → Type 0
HeldStands = Stands held held_at held_stop

-- n of them, one behind the other, the first at `at`
abbrev pub held_from : List ℕ → ℕ → ℕ → List Held
held_from = values_at held_at held_stop

abbrev pub HeldStand : List ℕ → ℕ → ℕ → Type 0
HeldStand = Standing held held_at held_stop

-- ---- the value of a name

-- the value whose kind byte stands at a position behind the count; 0: none
abbrev pub value_here : List ℕ → ℕ → Option Constant
value_here s zero = none
value_here s (suc k) = value_at (get_or s (suc k) 0) s (suc k + 1)

-- a value stands there, behind its kind byte
pub record ValueStands (s : List ℕ) (at : ℕ) : Type 0 where
  pub there : at < length s
  pub kind : get_or s at 0 ≤ 2
  pub fits : value_stop (get_or s at 0) s (at + 1) ≤ length s

-- the kind byte of the property at `at` stands at `r`, behind its name; its value ends where it ends
pub record KindIs (s : List ℕ) (at r : ℕ) : Type 0 where
  pub is : r ≡ name_stop s at
  pub behind : at < r
  pub stands : ValueStands s r

-- the kind byte of a name's value stands at `r`; 0: the name has no value
pub record PositionIs (s name : List ℕ) (r : ℕ) : Type 0 where
  pub is : (ps : List Held) → properties_of s ≡ some ps → value_in ps name ≡ value_here s r
  pub stands : 0 < r → ValueStands s r
