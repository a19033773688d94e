-- `choice::Shared::take_in` meets its contract: by the laws `took_none` and `note_none`.
use borrow.Author.Rules.{rules}
use Rattle.choice.proofs.WalkLaws.{took_none}
use Rattle.choice.proofs.BlockLaws.{note_none}
use Rattle.choice.proofs.Shared.take_in.Goals as goal

ruleset laws = (rules, took_none, note_none)

pub returns-in-Never : goal.returns-in-Never
returns-in-Never c = search laws

pub returns-in-Sometimes : goal.returns-in-Sometimes
returns-in-Sometimes c = search laws
