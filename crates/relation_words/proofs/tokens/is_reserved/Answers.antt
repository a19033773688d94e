-- `relation_words::tokens::is_reserved` meets its contract: only a word of its length can be it.
use Rattle.relation_words.proofs.EndLaws.{reserved_is}
use Rattle.relation_words.proofs.tokens.is_reserved.Goals as goal

pub returns : goal.returns
returns c = reserved_is c.args.word.now c.reserved_of.result.now c.reserved_of.ensures c.which_word.ensures c.is_some.ensures
