-- `relation_words::lists::is_the_word` meets its contract: a word is the bytes that begin it and are as many.
use Rattle.std.proofs.Common.{rules}
use Rattle.relation_words.proofs.WordLaws.{word_is, word_other}
use Rattle.relation_words.proofs.lists.is_the_word.Goals as goal

ruleset laws = (rules, word_is, word_other)

pub returns-then-bytes-word : goal.returns-then-bytes-word
returns-then-bytes-word c = search laws

pub returns-else-bytes-word : goal.returns-else-bytes-word
returns-else-bytes-word c = search laws
