-- `relation_truth::listed::eight_at` meets its contract: two halves, by `eight_is`.
use borrow.Author.Rules.{rules}
use Rattle.relation_truth.proofs.ValueLaws.{eight_is}
use Rattle.relation_truth.proofs.listed.eight_at.Goals as goal

ruleset laws = (rules, eight_is)

pub four_at-requires : goal.four_at-requires
four_at-requires c = search laws

pub four_at-requires-2 : goal.four_at-requires-2
four_at-requires-2 c = search laws

pub returns : goal.returns
returns c = search laws
