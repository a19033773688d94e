use borrow.Author.Rules.{rules}
use Rattle.printing.proofs.InputLaws.{front_is}
use Rattle.printing.proofs.input.front.Goals as goal

ruleset laws = (rules, front_is)

pub returns : goal.returns
returns c = search laws
