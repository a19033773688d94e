-- `packed::sums::add_pack` meets its contract: by the law `added`.
use borrow.Author.Rules.{rules}
use Rattle.packed.proofs.SumLaws.{added}
use Rattle.packed.proofs.sums.add_pack.Goals as goal

ruleset laws = (rules, added)

pub returns : goal.returns
returns c = search laws
