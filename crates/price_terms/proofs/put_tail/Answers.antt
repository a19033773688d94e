-- `price_terms::put_tail` meets its contract.
use borrow.Author.Rules.{rules}
use Rattle.price_terms.proofs.TermLaws.{worth_room, span_room, tail_put}
use Rattle.price_terms.proofs.put_tail.Goals as goal

ruleset laws = (rules, worth_room, span_room, tail_put)

pub put_worth-span-requires : goal.put_worth-span-requires
put_worth-span-requires c = search laws

pub put_span-requires : goal.put_span-requires
put_span-requires c = search laws

pub returns : goal.returns
returns c = search laws
