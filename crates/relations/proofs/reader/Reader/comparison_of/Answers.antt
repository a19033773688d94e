-- `relations::reader::Reader::comparison_of` meets its contract: the values of both, compared as the sign says.
use borrow.Author.Rules.{rules}
use Rattle.relations.proofs.SimpleLaws.{compared_is}
use Rattle.relations.proofs.reader.Reader.comparison_of.Goals as goal

ruleset laws = (rules, compared_is)

pub returns : goal.returns
returns c = search laws
