-- `survey::own::ending_of` meets its contract: of no byte, of one, and of more, by the laws `ending_..`.
use borrow.Author.Rules.{rules}
use Rattle.survey.proofs.OwnLaws.{ending_none, ending_one, ending_more}
use Rattle.survey.proofs.own.ending_of.Goals as goal

ruleset laws = (rules, ending_none, ending_one, ending_more)

pub returns-then-n-lt1 : goal.returns-then-n-lt1
returns-then-n-lt1 c = search laws

pub wide-requires : goal.wide-requires
wide-requires c = search laws

pub returns-then-n-lt2 : goal.returns-then-n-lt2
returns-then-n-lt2 c = search laws

pub two_at-requires : goal.two_at-requires
two_at-requires c = search laws

pub returns : goal.returns
returns c = search laws
