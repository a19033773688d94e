-- `text_names::hash_of` meets its contract.
use borrow.Author.Rules.{rules}
use Rattle.text_names.proofs.HashLaws.{hash_is}
use Rattle.text_names.proofs.hash_of.Goals as goal

ruleset laws = (rules, hash_is)

pub returns : goal.returns
returns c = search laws
