-- `quotes::name_size` meets its contract.
use borrow.Author.Rules.{rules}
use Rattle.quotes.proofs.NameLaws.{quoted_size, bare_size}
use Rattle.quotes.proofs.name_size.Goals as goal

ruleset laws = (rules, quoted_size, bare_size)

pub returns-then-needs_quotes : goal.returns-then-needs_quotes
returns-then-needs_quotes c = search laws

pub returns : goal.returns
returns c = search laws
