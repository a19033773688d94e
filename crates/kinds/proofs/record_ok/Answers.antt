-- `kinds::record_ok` meets its contract: no kind but a rounding stands without its names, and what a body is the record is.
use borrow.Author.Rules.{rules}
use Rattle.kinds.proofs.RecordLaws.{kind_any, kind_nameless}
use Rattle.kinds.proofs.record_ok.Goals as goal

ruleset laws = (rules, kind_any, kind_nameless)

pub returns-in_default : goal.returns-in_default
returns-in_default c = let n = c.in_default.ensures {u = tt} in search laws

pub returns-in-2 : goal.returns-in-2
returns-in-2 c = search laws
