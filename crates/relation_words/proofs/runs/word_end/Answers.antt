-- `relation_words::runs::word_end` meets its contract: bytes of a word up to the first that is none.
use Rattle.relation_words.proofs.StretchLaws.{stretched_on}
use Rattle.relation_words.proofs.RunLaws.{word_run}
use Rattle.relation_words.proofs.runs.word_end.Goals as goal

pub returns : goal.returns
returns c = let s = c.stretch_end.ensures in word_run (stretched_on s.on s.most s.each) s.next
