-- `property_list::value_end` meets its contract: each kind by its law, a number that is cut off by `value_cut`.
use borrow.Author.Rules.{rules}
use Rattle.layout.specs.Ensures.{NameEnd}
use Rattle.layout.proofs.EndLaws.{end_as}
use Rattle.property_list.specs.Listed.{ValueEnds}
use Rattle.property_list.proofs.HeldLaws.{value_text, value_cut, value_number}
use Rattle.property_list.proofs.value_end.Goals as goal

ruleset laws = (rules, value_cut, value_number)

pub returns-then-kind-eq1 : goal.returns-then-kind-eq1
returns-then-kind-eq1 c = end_as (NameEnd 0 255 c.args.s.now c.args.at) (ValueEnds c.args.kind c.args.s.now c.args.at) _ c.name_end.ensures (λ r q. value_text c.args.kind c.if-kind-eq1.true q)

pub returns-then-s-at-lt8 : goal.returns-then-s-at-lt8
returns-then-s-at-lt8 c = search laws

pub returns : goal.returns
returns c = search laws
