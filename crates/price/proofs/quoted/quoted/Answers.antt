-- `price::quoted::quoted` meets its contract: the question asks so, by the laws `quote_..`.
use borrow.Author.Rules.{rules}
use Rattle.price.proofs.CallLaws.{quote_window, quote_told}
use Rattle.price.proofs.quoted.quoted.Goals as goal

ruleset laws = (rules, quote_window, quote_told)

pub quote_of-requires : goal.quote_of-requires
quote_of-requires c = search laws

pub returns : goal.returns
returns c = search laws
