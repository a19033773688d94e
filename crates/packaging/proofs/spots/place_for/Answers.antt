-- `packaging::spots::place_for` meets its contract: a packaging of the article by `place_named`, any other record by `place_none`.
use borrow.Author.Rules.{rules}
use Rattle.records.proofs.FieldLaws.{starts_kind}
use Rattle.packaging.proofs.SpotLaws.{place_named, place_none}
use Rattle.packaging.proofs.spots.place_for.Goals as goal

ruleset laws = (rules, starts_kind, place_named, place_none)

pub starts_with-requires : goal.starts_with-requires
starts_with-requires c = search laws

pub packaging_of-packing-requires : goal.packaging_of-packing-requires
packaging_of-packing-requires c = search laws

pub place_of-requires : goal.place_of-requires
place_of-requires c = search laws

pub returns-then-starts_with : goal.returns-then-starts_with
returns-then-starts_with c = search laws

pub returns : goal.returns
returns c = search laws
