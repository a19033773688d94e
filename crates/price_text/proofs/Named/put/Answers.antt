-- `price_text::Named::put` meets its contract.
use borrow.Author.Rules.{rules}
use Rattle.price_text.proofs.LineLaws.{names_room, terms_room, line_put}
use Rattle.price_text.proofs.Named.put.Goals as goal

ruleset laws = (rules, names_room, terms_room, line_put)

pub put_names-behind-requires : goal.put_names-behind-requires
put_names-behind-requires c = search laws

pub put_terms-requires : goal.put_terms-requires
put_terms-requires c = search laws

pub returns : goal.returns
returns c = search laws
