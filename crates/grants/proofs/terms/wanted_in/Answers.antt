-- `grants::terms::wanted_in` meets its contract: the question asks by what is made of it, by the law `wanted_is`.
use borrow.Author.Rules.{rules}
use Rattle.grants.proofs.AskLaws.{names_there, wanted_is}
use Rattle.grants.proofs.terms.wanted_in.Goals as goal

ruleset laws = (rules, names_there, wanted_is)

pub grants_of-table-requires : goal.grants_of-table-requires
grants_of-table-requires c = search laws

pub returns : goal.returns
returns c = search laws
