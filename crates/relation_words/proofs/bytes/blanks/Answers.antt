-- `relation_words::bytes::blanks` meets its contract: blanks up to the first byte that is none.
use Rattle.relation_words.proofs.StretchLaws.{stretched, stretch_gap}
use Rattle.relation_words.proofs.bytes.blanks.Goals as goal

pub returns : goal.returns
returns c = let s = c.stretch_end.ensures in stretch_gap (stretched s.on s.most s.each) s.next
