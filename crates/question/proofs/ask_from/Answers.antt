-- `question::ask_from` meets its contract: the fields are read where `AskAt` says they stand; by `ask_is` they are the definition's.
use borrow.Author.Rules.{rules}
use Rattle.question.proofs.AskLaws.{ask_is}
use Rattle.question.proofs.ask_from.Goals as goal

ruleset laws = (rules, ask_is)

pub returns : goal.returns
returns c = search laws
