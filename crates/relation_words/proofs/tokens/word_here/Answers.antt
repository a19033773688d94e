-- `relation_words::tokens::word_here` meets its contract: a string or a number may not come, nor a token that is no word of the list.
use Rattle.std.proofs.Common.{sym, ◌∙◌}
use Rattle.relation_words.proofs.HeardLaws.{word_odd, word_none, word_found, no_word}
use Rattle.relation_words.proofs.WordLaws.{placed_none, placed_some}
use Rattle.relation_words.proofs.tokens.word_here.Goals as goal

pub returns-then-is_figure-b : goal.returns-then-is_figure-b
returns-then-is_figure-b c = word_odd c.requires c.is_figure.ensures c.if-is_figure-b.true

pub word_by_bytes-requires : goal.word_by_bytes-requires
word_by_bytes-requires c = no_word c.args.words.now c.token_end-to.ensures (placed_none _ c.args.words.now (sym c.which_word.ensures ∙ c.in_default.is))

pub returns-in_default : goal.returns-in_default
returns-in_default c = word_none c.requires c.is_figure.ensures c.if-is_figure-b.false c.word_by_bytes.ensures

pub returns : goal.returns
returns c =
    word_found c.requires c.is_figure.ensures c.if-is_figure-b.false c.token_end-to.ensures (placed_some _ c.args.words.now (sym c.which_word.ensures ∙ c.in-Some.is))
