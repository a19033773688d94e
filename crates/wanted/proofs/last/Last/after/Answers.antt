-- `wanted::last::Last::after` meets its contract: by the laws `last_..`.
use borrow.Author.Rules.{rules}
use Rattle.wanted.proofs.LastLaws.{last_some, last_none, last_long, last_part, last_named}
use Rattle.wanted.proofs.last.Last.after.Goals as goal

ruleset laws = (rules, last_some, last_none, last_long, last_part, last_named)

pub bounds-t-1 : goal.bounds-t-1
bounds-t-1 c = search laws

pub named-requires-clause-part_of : goal.named-requires-clause-part_of
named-requires-clause-part_of c = search laws

pub returns-then-kind : goal.returns-then-kind
returns-then-kind c = search laws

pub returns : goal.returns
returns c = search laws
