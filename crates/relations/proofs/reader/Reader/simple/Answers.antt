-- `relations::reader::Reader::simple` meets its contract: SPECIFIED, or an operand.
use Rattle.relations.proofs.FirstLaws.{first_specified, first_operand}
use Rattle.relations.proofs.reader.Reader.simple.Goals as goal

pub comparison-requires : goal.comparison-requires
comparison-requires c = record { looks = c.requires.looks; operand_at = first_operand c.requires.first_at (λ k e. c.in_default.not-Word k e) }

pub returns-in-Word : goal.returns-in-Word
returns-in-Word c = first_specified c.requires.first_at _ c.in-Word.is c.specified.ensures
