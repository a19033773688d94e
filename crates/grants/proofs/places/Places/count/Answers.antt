use borrow.Author.Rules.{rules}
use Rattle.grants.proofs.PlaceSetLaws.{counts}
use Rattle.grants.proofs.places.Places.count.Goals as goal

ruleset laws = (rules, counts)

pub returns : goal.returns
returns c = search laws
