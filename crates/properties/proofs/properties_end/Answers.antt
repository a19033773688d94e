-- `properties::properties_end` meets its contract: the properties that are left decide about all of them, by the laws `count_..`.
use native.Mathlib.Omega.{arith}
use borrow.Author.Rules.{rules}
use Rattle.layout.proofs.CountedLaws.{count_first, count_end, count_broken, count_next}
use Rattle.layout.proofs.EndLaws.{end_none}
use Rattle.properties.specs.Properties.{PropertiesEnd}
use Rattle.properties.proofs.properties_end.Goals as goal

pub loop-init : goal.loop-init
loop-init c = count_first _ _ _ _ _ (omega arith) c.wide-n.ensures (omega arith)

pub returns-in_err-end : goal.returns-in_err-end
returns-in_err-end c = end_none (PropertiesEnd c.args.s.now c.args.at) _ (search rules) (count_broken c.loop.invariant (omega arith) c.in_err-end.ensures (omega arith))

pub loop-preserved : goal.loop-preserved
loop-preserved c = count_next c.loop.invariant c.loop-test.true c.in_ok-end.ensures.0 c.in_ok-end.ensures.1

pub returns : goal.returns
returns c = (count_end c.loop.invariant (omega arith), omega (arith, c.loop.invariant.low))
