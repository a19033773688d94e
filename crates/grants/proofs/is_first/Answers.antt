-- `grants::is_first` meets its contract: an entry's length byte says whether a name is there, by `first_is`.
use borrow.Author.Rules.{rules}
use Rattle.grants.proofs.PlaceLaws.{first_is}
use Rattle.grants.proofs.is_first.Goals as goal

ruleset laws = (rules, first_is)

pub returns : goal.returns
returns c = search laws
