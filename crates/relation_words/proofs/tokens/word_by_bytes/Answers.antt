-- `relation_words::tokens::word_by_bytes` meets its contract: the first part of the token that no word begins with ends it, or the token does.
use Rattle.std.proofs.Common.{sym, ◌∙◌}
use Rattle.relation_words.proofs.WordLaws.{any_text}
use Rattle.relation_words.proofs.RunLaws.{goes_more, stops_on, stops_end}
use Rattle.relation_words.proofs.tokens.word_by_bytes.Goals as goal

pub returns-then-not-begins_one : goal.returns-then-not-begins_one
returns-then-not-begins_one c =
    stops_on c.requires c.loop-i.auto.i c.loop-i-test.true c.loop-i.invariant (sym (any_text _ c.args.words.now) ∙ sym c.begins_one.ensures ∙ c.if-not-begins_one.true)

pub loop-i-preserved : goal.loop-i-preserved
loop-i-preserved c = goes_more c.loop-i.invariant (sym (any_text _ c.args.words.now) ∙ sym c.begins_one.ensures ∙ c.if-not-begins_one.false)

pub returns : goal.returns
returns c = stops_end c.requires c.loop-i-test.false c.loop-i.invariant
