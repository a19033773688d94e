-- What a layout does at a position of a byte string.
use Rattle.std.specs.Prelude.{ℕ, zero, suc, ◌+◌, ◌-◌, ◌<◌, ◌≡◌, List, [], ◌∷◌, Bool, true, false, length, take, drop, get_or}
use Rattle.std.proofs.Math.Option.{Option, some, none}
use Rattle.rules.specs.Layout.{Layout}

abbrev pub only : {A : Type 0} → Bool → A → Option A
only true a = some a
only false a = none

abbrev pub when : {A : Type 0} → Bool → Option A → Option A
when true o = o
when false o = none

-- at `at` the layout reads `v` and stops at `next` where the test holds, and is broken where not
pub record Reads {A : Type 0} (m : Layout A) (s : List ℕ) (at : ℕ) (ok : Bool) (v : A) (next : ℕ) : Type 0 where
  pub is : m (drop at s) ≡ only ok (v, drop next s)

-- every value of the layout takes n bytes
pub record Sized {A : Type 0} (m : Layout A) (n : ℕ) : Type 0 where
  pub takes : (s : List ℕ) (v : A) (t : List ℕ) → m s ≡ some (v, t) → length s ≡ n + length t

-- fewer than n bytes break the layout
pub record Wants {A : Type 0} (m : Layout A) (n : ℕ) : Type 0 where
  pub short : (s : List ℕ) → length s < n → m s ≡ none

-- the bytes from `from` to `to`
abbrev pub part : List ℕ → ℕ → ℕ → List ℕ
part s from to = take (to - from) (drop from s)

-- where a name at `at` ends, by its length byte
abbrev pub name_stop : List ℕ → ℕ → ℕ
name_stop s at = at + 1 + get_or s at 0

-- and the name
abbrev pub name_at : List ℕ → ℕ → List ℕ
name_at s at = part s (at + 1) (name_stop s at)

-- n positions, w apart, from k behind p on
abbrev pub positions_at : ℕ → ℕ → ℕ → ℕ → List ℕ
positions_at p w k zero = []
positions_at p w k (suc n) = (p + k) ∷ positions_at p w (k + w) n
