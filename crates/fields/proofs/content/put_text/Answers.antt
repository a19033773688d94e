-- `fields::content::put_text` meets its contract.
use borrow.Author.Rules.{rules}
use Rattle.fields.proofs.ContentLaws.{inner_is, text_inner, text_room, text_bare}
use Rattle.fields.proofs.content.put_text.Goals as goal

ruleset laws = (rules, inner_is, text_inner, text_room, text_bare)

pub put_inner-requires : goal.put_inner-requires
put_inner-requires c = search laws

pub returns-then-count-to : goal.returns-then-count-to
returns-then-count-to c = search laws

pub put_bytes-requires : goal.put_bytes-requires
put_bytes-requires c = search laws

pub returns : goal.returns
returns c = search laws
