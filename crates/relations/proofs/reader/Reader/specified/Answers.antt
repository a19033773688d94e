-- `relations::reader::Reader::specified` meets its contract: no name, or one with a value or without.
use borrow.Author.Rules.{rules}
use Rattle.relations.proofs.SimpleLaws.{no_name, name_told}
use Rattle.relations.proofs.reader.Reader.specified.Goals as goal

ruleset laws = (rules, no_name, name_told)

pub returns-in_err-name : goal.returns-in_err-name
returns-in_err-name c = search laws
