-- `basket::located::locate` meets its contract: one question by `located_one`.
use native.Mathlib.Omega.{arith}
use Rattle.basket.proofs.LocatedLaws.{located_one}
use Rattle.basket.proofs.located.locate.Goals as goal

pub returns-then-stretches-eq1 : goal.returns-then-stretches-eq1
returns-then-stretches-eq1 c = located_one c.names_in-all.ensures c.if-stretches-eq1.true c.in_ok-found.ensures c.first_of.ensures
