-- `grants::factor_at` meets its contract: without a condition it is 1,000, else the number in the entry, by the laws `factor_..`.
use native.Mathlib.Omega.{arith}
use borrow.Author.Rules.{rules}
use Rattle.grants.proofs.PlaceLaws.{factor_none, factor_there, factor_inside}
use Rattle.grants.proofs.factor_at.Goals as goal

ruleset laws = (rules, factor_none, factor_there, factor_inside)

pub returns-then-place-eq0 : goal.returns-then-place-eq0
returns-then-place-eq0 c = factor_none _ _ (omega arith)

pub two_at-requires : goal.two_at-requires
two_at-requires c = search laws

pub returns : goal.returns
returns c = factor_there c.requires.granting (omega arith) c.requires.place_bound c.two_at.ensures
