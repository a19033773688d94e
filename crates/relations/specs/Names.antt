-- The names that code derives from a relation text: where each stands in it.
use Rattle.std.specs.Prelude.{ℕ, suc, ◌+◌, ◌≤◌, ◌≡◌, Bool, true, false, ◌&&◌, List, [], ◌∷◌, ◌++◌, map, ltb, length, take, Result, Ok, Err, All}
use Rattle.rules.specs.PlacedRefusals.{ResultAt, Done, RefusedAt}
use Rattle.rules.specs.declared.Part.{Part}
use Rattle.relation_rules.specs.Truth.{Held, grantable, most_names}
use Rattle.relation_rules.specs.Derived.{derived}
use Rattle.relations.specs.Told.{refused_as}
use Rattle.relations.specs.Assignments.{part_in}
use Rattle.relations.specs.declared.assignments.Assigned.{Assigned}
use Rattle.relations.specs.declared.names.Names.{Names}
use Rattle.relations.specs.declared.told.Refused.{Refused}

-- these parts of a text
abbrev pub names_of : List ℕ → List Part → List (List ℕ)
names_of s parts = map (part_in s) parts

-- the parts that are names
abbrev pub parts_in : Names → List Part
parts_in r = take r.count r.names

-- a part lies in the text, and is no longer than a name
pub record PartIn (s : List ℕ) (p : Part) : Type 0 where
  pub inside : p.at + p.size ≤ length s
  pub short : p.size ≤ 20

-- r tells the outcome o: the names, or the refusal and its place
pub record NamesTell (s : List ℕ) (o : ResultAt (List (List ℕ))) (r : Names) : Type 0 where
  pub is : o ≡ Done (names_of s (parts_in r))
  pub few : r.count ≤ 32
  pub each : All (PartIn s) (parts_in r)

pub record RefusalTells (s : List ℕ) (o : ResultAt (List (List ℕ))) (e : Refused) : Type 0 where
  pub most : e.at ≤ length s
  pub is : o ≡ refused_as e

abbrev pub Tells : List ℕ → ResultAt (List (List ℕ)) → Result Names Refused → Type 0
Tells s o (Ok r) = NamesTell s o r
Tells s o (Err e) = RefusalTells s o e

-- what a text s derives from the properties ps
abbrev pub NamesIs : List ℕ → List Held → Result Names Refused → Type 0
NamesIs s ps r = Tells s (derived ps s) r

-- ---- one assignment more

abbrev pub kept_name : Bool → Bool → ℕ → List ℕ → List (List ℕ) → ResultAt (List (List ℕ))
kept_name true true place name names = Done (names ++ (name ∷ []))
kept_name true false place name names = RefusedAt 16 place
kept_name false ok place name names = Done names

-- what it makes of the outcome so far: its name goes behind the others if it is granted; the first refusal stays
unfoldable pub with_name : Bool → ℕ → List ℕ → ResultAt (List (List ℕ)) → ResultAt (List (List ℕ))
with_name granted place name (Done names) = kept_name granted (grantable name && ltb (length names) most_names) place name names
with_name granted place name (RefusedAt number at) = RefusedAt number at

pub record Grows (s : List ℕ) (old : Result Names Refused) (one : Assigned) (r : Result Names Refused) : Type 0 where
  pub grows : (o : ResultAt (List (List ℕ))) → Tells s o old → Tells s (with_name one.granted (suc one.variable) (part_in s one.name) o) r
