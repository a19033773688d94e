-- `relation_words::runs::goes_on` meets its contract: by the sort of its first byte.
use borrow.Author.Rules.{rules}
use Rattle.relation_words.proofs.RunLaws.{reach_word, reach_figure, reach_sign}
use Rattle.relation_words.proofs.runs.goes_on.Goals as goal

ruleset laws = (rules, reach_word, reach_figure, reach_sign)

pub returns-then-is_letter-b : goal.returns-then-is_letter-b
returns-then-is_letter-b c = search laws

pub returns-then-is_figure : goal.returns-then-is_figure
returns-then-is_figure c = search laws

pub returns : goal.returns
returns c = search laws
