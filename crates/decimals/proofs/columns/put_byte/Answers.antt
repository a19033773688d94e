-- `decimals::columns::put_byte` meets its contract.
use borrow.Author.Rules.{rules}
use Rattle.decimals.proofs.ColumnLaws.{byte_put}
use Rattle.decimals.proofs.columns.put_byte.Goals as goal

ruleset laws = (rules, byte_put)

pub returns : goal.returns
returns c = search laws
