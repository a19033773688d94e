-- `fields::content::put_inner` meets its contract: what was copied, in front of what is read from here, is the text.
use borrow.Author.Rules.{rules}
use Rattle.fields.proofs.ContentLaws.{copy_start, copy_inside, copy_on, copy_end}
use Rattle.fields.proofs.content.put_inner.Goals as goal

ruleset laws = (rules, copy_start, copy_inside, copy_on, copy_end)

pub loop-n-init : goal.loop-n-init
loop-n-init c = search laws

pub bounds-line-i : goal.bounds-line-i
bounds-line-i c = search laws

pub step_over-i-requires : goal.step_over-i-requires
step_over-i-requires c = search laws

pub loop-n-preserved : goal.loop-n-preserved
loop-n-preserved c = search laws

pub returns : goal.returns
returns c = search laws
