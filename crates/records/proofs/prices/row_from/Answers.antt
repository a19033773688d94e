-- `records::prices::row_from` meets its contract: each field at its place, by `row_is`.
use borrow.Author.Rules.{rules}
use Rattle.records.proofs.PriceLaws.{row_level, row_rule, row_is}
use Rattle.records.proofs.prices.row_from.Goals as goal

ruleset laws = (rules, row_level, row_rule, row_is)

pub level_of-level-requires : goal.level_of-level-requires
level_of-level-requires c = search laws

pub rule_of-rule-requires : goal.rule_of-rule-requires
rule_of-rule-requires c = search laws

pub value_at-value-requires : goal.value_at-value-requires
value_at-value-requires c = search laws

pub word-requires : goal.word-requires
word-requires c = search laws

pub word-requires-2 : goal.word-requires-2
word-requires-2 c = search laws

pub word-requires-3 : goal.word-requires-3
word-requires-3 c = search laws

pub word-requires-4 : goal.word-requires-4
word-requires-4 c = search laws

pub half-requires : goal.half-requires
half-requires c = search laws

pub returns : goal.returns
returns c = search laws
