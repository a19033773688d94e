-- `relation_words::tokens::word_by_bytes` meets its contract: a word begins with each part of the token so far.
use Rattle.std.proofs.Common.{map}
use Rattle.relation_words.proofs.RunLaws.{WordGoes}
use Rattle.relation_words.proofs.tokens.word_by_bytes.Given as goal

abbrev pub invariant-loop-i : goal.invariant-loop-i
invariant-loop-i l = WordGoes (map (λ w. w.now) l.words) l.text l.at l.i
