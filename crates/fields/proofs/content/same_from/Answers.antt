-- `fields::content::same_from` meets its contract: what is left of both texts decides.
use borrow.Author.Rules.{rules}
use Rattle.fields.proofs.SameLaws.{same_start, same_one, same_two, same_on, same_end}
use Rattle.fields.proofs.content.same_from.Goals as goal

ruleset laws = (rules, same_start, same_one, same_two, same_on, same_end)

pub loop-n-init : goal.loop-n-init
loop-n-init c = search laws

pub bounds-line-i : goal.bounds-line-i
bounds-line-i c = search laws

pub bounds-other-j : goal.bounds-other-j
bounds-other-j c = search laws

pub step_in-i-requires : goal.step_in-i-requires
step_in-i-requires c = search laws

pub step_in-j-requires : goal.step_in-j-requires
step_in-j-requires c = search laws

pub loop-n-preserved : goal.loop-n-preserved
loop-n-preserved c = search laws

pub returns : goal.returns
returns c = search laws
