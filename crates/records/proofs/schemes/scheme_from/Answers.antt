-- `records::schemes::scheme_from` meets its contract: by `scheme_is`.
use borrow.Author.Rules.{rules}
use Rattle.records.proofs.SchemeLaws.{scheme_is}
use Rattle.records.proofs.schemes.scheme_from.Goals as goal

ruleset laws = (rules, scheme_is)

pub returns : goal.returns
returns c = search laws
