-- `price_text::Named::names_size` meets its contract.
use borrow.Author.Rules.{rules}
use Rattle.price_text.proofs.LineLaws.{short_article, short_condition, names_size}
use Rattle.price_text.proofs.Named.names_size.Goals as goal

ruleset laws = (rules, short_article, short_condition, names_size)

pub returns : goal.returns
returns c = search laws
