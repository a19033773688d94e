use borrow.Author.Rules.{rules}
use Rattle.grants.proofs.PlaceSetLaws.{with_is}
use Rattle.grants.proofs.places.Places.with.Goals as goal

ruleset laws = (rules, with_is)

pub returns : goal.returns
returns c = search laws
