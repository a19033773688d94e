-- `price_text::Named::put_terms` meets its contract.
use borrow.Author.Rules.{rules}
use Rattle.price_text.proofs.LineLaws.{terms_there, rule_small}
use Rattle.price_terms.proofs.PartLaws.{room_one, room_two, two_put}
use Rattle.price_text.proofs.Named.put_terms.Goals as goal

ruleset laws = (rules, room_one, room_two, two_put)

pub put_kinds-tail-requires : goal.put_kinds-tail-requires
put_kinds-tail-requires c = record {
  p_in_bounds = terms_there c.args.self.now.priced;
  rule_bound = rule_small c.args.self.now.priced;
  room_for = search laws;
}

pub put_tail-requires : goal.put_tail-requires
put_tail-requires c = search laws

pub returns : goal.returns
returns c = search laws
