-- `decimals::columns::put_text` meets its contract.
use borrow.Author.Rules.{rules}
use Rattle.decimals.proofs.ColumnLaws.{text_room, text_put}
use Rattle.decimals.proofs.columns.put_text.Goals as goal

ruleset laws = (rules, text_room, text_put)

pub put_shown-requires : goal.put_shown-requires
put_shown-requires c = search laws

pub returns : goal.returns
returns c = search laws
