-- `texts::text` meets its contract: the answer's place and length lie in the book that it names, and the text stands there.
use borrow.Author.Rules.{rules}
use Rattle.texts.proofs.TextLaws.{fallback_fits, asked_fits, handed_fallback, handed_asked}
use Rattle.texts.proofs.text.Goals as goal

ruleset laws = (rules, fallback_fits, asked_fits, handed_fallback, handed_asked)

pub piece-requires : goal.piece-requires
piece-requires c = search laws

pub piece-requires-else-answer-eq2 : goal.piece-requires-else-answer-eq2
piece-requires-else-answer-eq2 c = search laws

pub returns-then-answer-eq2 : goal.returns-then-answer-eq2
returns-then-answer-eq2 c = search laws

pub returns-else-answer-eq2 : goal.returns-else-answer-eq2
returns-else-answer-eq2 c = search laws
