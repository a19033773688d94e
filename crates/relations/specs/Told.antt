-- How refusals tell the rules' numbers and places.
use Rattle.std.specs.Prelude.{ℕ, suc}
use Rattle.rules.specs.declared.Refusal.TheVariants.{BadRelation, DeepRelation, UnfitName}
use Rattle.rules.specs.PlacedRefusals.{ResultAt, RefusedAt}
use Rattle.rules.specs.Reasons.{number_for}
use Rattle.property_list.specs.Slots.{SlotsOf}
use Rattle.relations.specs.declared.reader.Reader.{Reader}
use Rattle.relations.specs.declared.told.Refused.{Refused}

-- those that reading tells, at a position
abbrev pub bad_relation : ℕ → Refused
bad_relation at = record { refusal = BadRelation; at = at }

abbrev pub deep_relation : ℕ → Refused
deep_relation at = record { refusal = DeepRelation; at = at }

abbrev pub unfit_name : ℕ → Refused
unfit_name at = record { refusal = UnfitName; at = at }

-- the rules count places from 1
abbrev pub refused_as : {A : Type 0} → Refused → ResultAt A
refused_as e = RefusedAt (number_for e.refusal) (suc e.at)

-- the slots that a reader has are those of its properties
abbrev pub Looks : Reader → Type 0
Looks r = SlotsOf r.properties.now r.slots.now
