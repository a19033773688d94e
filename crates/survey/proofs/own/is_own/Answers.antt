-- `survey::own::is_own` meets its contract: another length, another ending, or all of it compared, by the laws `own_..`.
use borrow.Author.Rules.{rules}
use Rattle.records.proofs.PriceLaws.{price_first}
use Rattle.survey.proofs.OwnLaws.{own_size, own_long, own_ending}
use Rattle.survey.proofs.own.is_own.Goals as goal

ruleset laws = (rules, price_first, own_size, own_long, own_ending)

pub bounds-t-1 : goal.bounds-t-1
bounds-t-1 c = search laws

pub wide-requires : goal.wide-requires
wide-requires c = search laws

pub returns-then-wide-n : goal.returns-then-wide-n
returns-then-wide-n c = search laws

pub two_at-requires : goal.two_at-requires
two_at-requires c = search laws

pub returns-then-two_at-ending : goal.returns-then-two_at-ending
returns-then-two_at-ending c = search laws

pub is_row-requires : goal.is_row-requires
is_row-requires c = search laws

pub returns : goal.returns
returns c = search laws
