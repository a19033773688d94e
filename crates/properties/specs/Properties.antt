-- Where the properties of a question stand, and a property read by value.
use Rattle.std.specs.Prelude.{ℕ, ◌+◌, ◌≤◌, ◌≡◌, List, length, take, drop, get_or}
use Rattle.rules.specs.Question.{Property, property, state_number}
use Rattle.rules.specs.declared.State.{State}
use Rattle.layout.specs.Reads.{name_stop, name_at}
use Rattle.layout.specs.Counted.{Ends, Standing, counted, values_at, counted_at, counted_stop}
use Rattle.properties.specs.declared.PropertyParts.{PropertyParts}

-- the property at a place: width, state, and a name
abbrev pub property_at : List ℕ → ℕ → Property
property_at s at = record { width = get_or s at 0; state = get_or s (at + 1) 0; value = name_at s (at + 2) }

abbrev pub property_stop : List ℕ → ℕ → ℕ
property_stop s at = name_stop s (at + 2)

-- ---- as many as their count says

abbrev pub properties_at : List ℕ → ℕ → ℕ → List Property
properties_at = values_at property_at property_stop

-- those counted at `at` end at `r`; 0: none
abbrev pub PropertiesEnd : List ℕ → ℕ → ℕ → Type 0
PropertiesEnd = Ends (counted property) (counted_at property_at property_stop) (counted_stop property_stop)

-- n of them stand one behind the other, the first at `at`
abbrev pub PropertiesStand : List ℕ → ℕ → ℕ → Type 0
PropertiesStand = Standing property property_at property_stop

-- ---- one by value

-- `r` is the state whose number is n
pub record StateIs (n : ℕ) (r : State) : Type 0 where
  pub is : n ≡ state_number r

-- the definition's property that the code's stands for, its value being a part of s
abbrev pub property_in : List ℕ → PropertyParts → Property
property_in s r = record {
  width = r.width;
  state = state_number r.state;
  value = take r.value.size (drop r.value.at s);
}

-- its value lies in s, and is no longer than the property is wide
pub record PropertyFits (s : List ℕ) (r : PropertyParts) : Type 0 where
  pub inside : r.value.at + r.value.size ≤ length s
  pub short : r.value.size ≤ r.width
  pub wide : r.width ≤ 30

-- `r` is the property at `at`, which ends with its value
pub record PropertyIs (s : List ℕ) (at : ℕ) (r : PropertyParts) : Type 0 where
  pub is : property_at s at ≡ property_in s r
  pub next : r.value.at + r.value.size ≡ property_stop s at
  pub fits : PropertyFits s r
