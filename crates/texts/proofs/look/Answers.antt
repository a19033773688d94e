-- `texts::look` meets its contract: what was found, and what a look from here on would say, is the whole answer.
use borrow.Author.Rules.{rules}
use Rattle.texts.proofs.LookLaws.{look_headless, look_start, look_end, look_broken, look_again}
use Rattle.texts.proofs.look.Goals as goal

ruleset laws = (rules, look_headless, look_start, look_end)

pub returns-then-not-book_head_ok : goal.returns-then-not-book_head_ok
returns-then-not-book_head_ok c = search laws

pub loop-at-init : goal.loop-at-init
loop-at-init c = search laws

pub returns-in_default : goal.returns-in_default
returns-in_default c = look_broken c.loop-at.invariant c.in_default.ensures c.loop-at-test.true (search rules)

pub loop-at-preserved : goal.loop-at-preserved
loop-at-preserved c = look_again c.loop-at.invariant c.in-Some.ensures.0 c.in-Some.ensures.1 c.first_of-found.ensures

pub returns : goal.returns
returns c = search laws
