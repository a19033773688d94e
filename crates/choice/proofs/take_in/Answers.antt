-- `choice::take_in` meets its contract: by the laws `took_..`.
use borrow.Author.Rules.{rules}
use Rattle.choice.proofs.WalkLaws.{took_none, took_one}
use Rattle.choice.proofs.take_in.Goals as goal

ruleset laws = (rules, took_none, took_one)

pub returns-in-Some : goal.returns-in-Some
returns-in-Some c = search laws

pub returns-in_default : goal.returns-in_default
returns-in_default c = search laws
