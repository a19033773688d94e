-- `derive::count_position` meets its contract: a question that grants names, or none.
use Rattle.derive.proofs.CallLaws.{grants_some, grants_none}
use Rattle.derive.proofs.count_position.Goals as goal

pub returns-then-ask-ne0 : goal.returns-then-ask-ne0
returns-then-ask-ne0 c = grants_some _ c.ask_of-ask.ensures c.if-ask-ne0.true

pub returns : goal.returns
returns c = grants_none _ c.ask_of-ask.ensures c.if-ask-ne0.false
