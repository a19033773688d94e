-- `fields::content::step_in` meets its contract.
use borrow.Author.Rules.{rules}
use Rattle.fields.proofs.SameLaws.{step_twice, step_once}
use Rattle.fields.proofs.content.step_in.Goals as goal

ruleset laws = (rules, step_twice, step_once)

pub step_over-requires : goal.step_over-requires
step_over-requires c = search laws

pub returns-then-f : goal.returns-then-f
returns-then-f c = search laws

pub returns : goal.returns
returns c = search laws
