-- `grants::idle::idle_places` meets its contract: the set and the grants that are left make up the whole, by the laws `idle_..`.
use borrow.Author.Rules.{rules}
use Rattle.grants.proofs.IdleLaws.{idle_start, idle_above, idle_again, idle_end}
use Rattle.grants.proofs.idle.idle_places.Goals as goal

ruleset laws = (rules, idle_start, idle_above, idle_again, idle_end)

pub loop-passed-init : goal.loop-passed-init
loop-passed-init c = search laws

pub after-set-requires : goal.after-set-requires
after-set-requires c = search laws

pub loop-passed-preserved : goal.loop-passed-preserved
loop-passed-preserved c = search laws

pub returns : goal.returns
returns c = search laws
