-- `relation_truth::equals::is_string` meets its contract: two strings are equal where they are the same.
use borrow.Author.Rules.{rules}
use Rattle.relation_truth.proofs.EqualLaws.{strings_same}
use Rattle.relation_truth.proofs.equals.is_string.Goals as goal

pub returns-in-Some-Text : goal.returns-in-Some-Text
returns-in-Some-Text c = search (rules, strings_same)
