-- `question::names::next_name` meets its contract: the name ends there, or its factor.
use borrow.Author.Rules.{rules}
use Rattle.question.proofs.PartLaws.{next_far, next_near}
use Rattle.question.proofs.names.next_name.Goals as goal

ruleset laws = (rules, next_far, next_near)

pub returns-then-version-eq-WITH_FACTORS : goal.returns-then-version-eq-WITH_FACTORS
returns-then-version-eq-WITH_FACTORS c = search laws

pub returns-else-version-eq-WITH_FACTORS : goal.returns-else-version-eq-WITH_FACTORS
returns-else-version-eq-WITH_FACTORS c = search laws
