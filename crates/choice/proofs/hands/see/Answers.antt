-- `choice::hands::see` meets its contract: a row and none, by the laws `seen_..`.
use borrow.Author.Rules.{rules}
use Rattle.choice.proofs.HandLaws.{seen_is, seen_none}
use Rattle.choice.proofs.hands.see.Goals as goal

ruleset laws = (rules, seen_is, seen_none)

pub returns-in-Some : goal.returns-in-Some
returns-in-Some c = search laws

pub returns-in-None : goal.returns-in-None
returns-in-None c = search laws
