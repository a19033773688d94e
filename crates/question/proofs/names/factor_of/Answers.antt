-- `question::names::factor_of` meets its contract: in version 2 it is the number behind the name.
use borrow.Author.Rules.{rules}
use Rattle.question.proofs.PartLaws.{factor_is}
use Rattle.question.proofs.names.factor_of.Goals as goal

ruleset laws = (rules, factor_is)

pub returns-then-version-eq-WITH_FACTORS : goal.returns-then-version-eq-WITH_FACTORS
returns-then-version-eq-WITH_FACTORS c = search laws
