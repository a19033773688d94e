-- `fields::lines::brings_nothing` meets its contract.
use borrow.Author.Rules.{rules}
use Rattle.fields.proofs.LineLaws.{nothing_is}
use Rattle.fields.proofs.lines.brings_nothing.Goals as goal

ruleset laws = (rules, nothing_is)

pub is_blank-requires : goal.is_blank-requires
is_blank-requires c = search laws

pub is_remark-requires : goal.is_remark-requires
is_remark-requires c = search laws

pub returns : goal.returns
returns c = search laws
