-- `records::articles::article_of` meets its contract: where the number ends, and the rest is the scheme's id, by the laws `article_..`.
use borrow.Author.Rules.{rules}
use Rattle.records.proofs.ArticleLaws.{article_first, article_second, article_is}
use Rattle.records.proofs.articles.article_of.Goals as goal

ruleset laws = (rules, article_first, article_second, article_is)

pub name_stop-end-requires : goal.name_stop-end-requires
name_stop-end-requires c = search laws

pub overflow_sub-scheme : goal.overflow_sub-scheme
overflow_sub-scheme c = search laws

pub returns : goal.returns
returns c = search laws
