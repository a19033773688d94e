-- `records::prices::row_of` meets its contract: the two names end where the definition's do, by the laws `price_..`.
use borrow.Author.Rules.{rules}
use Rattle.records.proofs.PriceLaws.{price_first, price_second, price_names}
use Rattle.records.proofs.prices.row_of.Goals as goal

ruleset laws = (rules, price_first, price_second, price_names)

pub name_stop-condition-requires : goal.name_stop-condition-requires
name_stop-condition-requires c = search laws

pub name_stop-terms-requires : goal.name_stop-terms-requires
name_stop-terms-requires c = search laws

pub row_from-requires : goal.row_from-requires
row_from-requires c = search laws

pub returns : goal.returns
returns c = search laws
