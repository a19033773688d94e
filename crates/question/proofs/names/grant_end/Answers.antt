-- `question::names::grant_end` meets its contract: by the end of its name, and in version 2 by the number behind it.
use borrow.Author.Rules.{rules}
use Rattle.question.proofs.PartLaws.{grant_plain, grant_cut, grant_good}
use Rattle.question.proofs.names.grant_end.Goals as goal

ruleset laws = (rules, grant_plain, grant_cut, grant_good)

pub returns-then-s-end-lt2 : goal.returns-then-s-end-lt2
returns-then-s-end-lt2 c = let p = c.in_ok-end.ensures {u = tt} in search laws

pub returns-then-version-eq-WITH_FACTORS : goal.returns-then-version-eq-WITH_FACTORS
returns-then-version-eq-WITH_FACTORS c = let p = c.in_ok-end.ensures {u = tt} in search laws

pub returns : goal.returns
returns c = let p = c.in_ok-end.ensures {u = tt} in search laws
