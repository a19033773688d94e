use borrow.Author.Rules.{rules}
use Rattle.days.proofs.Laws.{month_at}
use Rattle.days.proofs.days_in.Goals as goal

ruleset laws = (rules, month_at)

pub february-requires : goal.february-requires
february-requires c = search laws

pub returns : goal.returns
returns c = search laws
