-- `grants::enter` meets its contract: what is looked up and put is the raised name, by the laws `entered_..`.
use Rattle.grants.proofs.TableLaws.{nowhere_found, entered_new}
use Rattle.grants.proofs.enter.Goals as goal

pub returns-then-is_none : goal.returns-then-is_none
returns-then-is_none c =
    entered_new _ _ _ _ c.put_raised.ensures c.look.ensures.is (nowhere_found _ c.is_none.ensures c.if-is_none.true) c.put_two.ensures c.put_bytes.ensures
