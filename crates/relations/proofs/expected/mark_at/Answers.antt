-- `relations::expected::mark_at` meets its contract: a mark by its byte, or what is read as anywhere.
use borrow.Author.Rules.{rules}
use Rattle.relations.proofs.MarkLaws.{mark_byte, mark_word}
use Rattle.relations.proofs.expected.mark_at.Goals as goal

pub returns-then-b : goal.returns-then-b
returns-then-b c = search (rules, mark_byte)

pub returns : goal.returns
returns c = mark_word c.in_ok-token.ensures c.word_of.ensures
