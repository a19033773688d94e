-- `relations::reader::Reader::among` meets its contract: no parenthesis, or the constants behind it.
use borrow.Author.Rules.{rules}
use Rattle.relations.proofs.AmongLaws.{among_none, among_all}
use Rattle.relations.proofs.reader.Reader.among.Goals as goal

pub returns-in_err-open : goal.returns-in_err-open
returns-in_err-open c = search (rules, among_none)

pub returns : goal.returns
returns c = among_all c.in_ok-open.ensures _ _ _ c.value.ensures c.values.ensures
