-- `property_list::properties_ok` meets its contract: the properties that are left decide about the list, by the laws `list_..`.
use native.Mathlib.Omega.{arith}
use borrow.Author.Rules.{rules}
use Rattle.property_list.proofs.ListLaws.{list_empty, list_many, list_broken, list_next, list_end}
use Rattle.property_list.proofs.properties_ok.Goals as goal

pub returns-then-p-lt1 : goal.returns-then-p-lt1
returns-then-p-lt1 c = list_empty _ c.if-p-lt1.true

pub returns-then-n-gt64 : goal.returns-then-n-gt64
returns-then-n-gt64 c = list_many _ (search rules) (search rules)

pub returns-in_default : goal.returns-in_default
returns-in_default c = list_broken c.loop.invariant (omega arith) c.in_default.ensures (omega arith)

pub loop-preserved : goal.loop-preserved
loop-preserved c = list_next c.loop.invariant c.loop-test.true c.in-Some.ensures.0 c.in-Some.ensures.1

pub returns : goal.returns
returns c = list_end c.loop.invariant (omega arith)
