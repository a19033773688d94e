-- `grants::grants_of` meets its contract: the names that have come in and those that are left make up the whole, by the laws `fill_..`.
use borrow.Author.Rules.{rules}
use Rattle.grants.proofs.FillLaws.{fill_start, fill_here, fill_long, fill_short, fill_again, fill_end}
use Rattle.grants.proofs.grants_of.Goals as goal

ruleset laws = (rules, fill_start, fill_here, fill_long, fill_short, fill_again, fill_end)

pub loop-k-init : goal.loop-k-init
loop-k-init c = search laws

pub name_stop-stop-requires : goal.name_stop-stop-requires
name_stop-stop-requires c = search laws

pub factor_of-factor-requires : goal.factor_of-factor-requires
factor_of-factor-requires c = search laws

pub next_name-here-requires : goal.next_name-here-requires
next_name-here-requires c = search laws

pub loop-k-preserved : goal.loop-k-preserved
loop-k-preserved c = search laws

pub returns : goal.returns
returns c = search laws
