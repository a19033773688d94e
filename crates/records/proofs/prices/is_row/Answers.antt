-- `records::prices::is_row` meets its contract: no price of the article by `no_row`, and of one the sort by `row_told`.
use borrow.Author.Rules.{rules}
use Rattle.records.proofs.PriceLaws.{no_row, row_here, row_told, price_first, price_second, price_terms}
use Rattle.records.proofs.prices.is_row.Goals as goal

ruleset laws = (rules, no_row, row_here, row_told, price_first, price_second, price_terms)

pub starts_with-requires : goal.starts_with-requires
starts_with-requires c = search laws

pub returns-then-not-starts_with : goal.returns-then-not-starts_with
returns-then-not-starts_with c = search laws

pub name_stop-condition-requires : goal.name_stop-condition-requires
name_stop-condition-requires c = search laws

pub name_stop-terms-requires : goal.name_stop-terms-requires
name_stop-terms-requires c = search laws

pub bounds-t-terms : goal.bounds-t-terms
bounds-t-terms c = search laws

pub returns : goal.returns
returns c = search laws
