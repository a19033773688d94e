-- `relation_words::tokens::name_here` meets its contract: a name, a reserved word that may not come, or one that may.
use Rattle.std.proofs.Common.{sym, ◌∙◌}
use Rattle.relation_words.proofs.HeardLaws.{name_free, name_other, name_word}
use Rattle.relation_words.proofs.WordLaws.{placed_none, placed_some}
use Rattle.relation_words.proofs.tokens.name_here.Goals as goal

pub returns-then-not-is_reserved : goal.returns-then-not-is_reserved
returns-then-not-is_reserved c = name_free c.requires.says c.word_end-to.ensures c.is_reserved.ensures c.if-not-is_reserved.true

pub returns-in-Some : goal.returns-in-Some
returns-in-Some c = name_word c.requires.says c.word_end-to.ensures c.is_reserved.ensures c.if-not-is_reserved.false (placed_some _ c.args.words.now (sym c.which_word.ensures ∙ c.in-Some.is))

pub returns-in-None : goal.returns-in-None
returns-in-None c = name_other c.requires.says c.word_end-to.ensures c.is_reserved.ensures c.if-not-is_reserved.false (placed_none _ c.args.words.now (sym c.which_word.ensures ∙ c.in-None.is))
