-- `quotes::doubled_size` meets its contract.
use borrow.Author.Rules.{rules}
use Rattle.quotes.proofs.NameLaws.{doubled_number}
use Rattle.quotes.proofs.doubled_size.Goals as goal

ruleset laws = (rules, doubled_number)

pub returns : goal.returns
returns c = search laws
