use Rattle.std.proofs.Common.{rules, tests, nat_eq, ◌∙◌}
use Rattle.std.proofs.lemmas.Iterator.{YieldsList-from_slice, YieldsList-from_zip}
use Rattle.std.proofs.lemmas.Iterator.Search.{all_from_yields_List}
use Rattle.relation_rules.specs.Grammar.{capital}
use Rattle.relation_words.proofs.WordLaws.{letter_is, zip_begins, too_long}
use Rattle.relation_words.proofs.lists.begins_word.Goals as goal

pub returns-then-bytes-word : goal.returns-then-bytes-word
returns-then-bytes-word c =
    all_from_yields_List (λ p. nat_eq (capital p.0) p.1) c.all.new.self _ c.all.result c.all.ensures.ran (YieldsList-from_zip (YieldsList-from_slice c.args.bytes.now cc) (YieldsList-from_slice c.args.word.now cc)) (λ x b q k. search (rules, tests, letter_is)) ∙ zip_begins c.args.bytes.now c.args.word.now c.if-bytes-word.true

pub returns-else-bytes-word : goal.returns-else-bytes-word
returns-else-bytes-word c = too_long c.args.bytes.now c.args.word.now c.if-bytes-word.false
