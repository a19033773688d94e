-- `fields::content::step_over` meets its contract.
use borrow.Author.Rules.{rules}
use Rattle.fields.proofs.ContentLaws.{step_two, step_one}
use Rattle.fields.proofs.content.step_over.Goals as goal

ruleset laws = (rules, step_two, step_one)

pub returns-then-byte-eq34 : goal.returns-then-byte-eq34
returns-then-byte-eq34 c = search laws

pub returns-else-byte-eq34 : goal.returns-else-byte-eq34
returns-else-byte-eq34 c = search laws
