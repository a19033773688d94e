-- `relations::names::with_name` meets its contract: a refusal stays, a name is not granted, unfit, or one more.
use borrow.Author.Rules.{rules}
use Rattle.std.proofs.Common.{◌∙◌, ap, Err}
use Rattle.std.proofs.lemmas.Result.{err_from_is_err_and}
use Rattle.relations.proofs.NameLaws.{with_err, with_ungranted, with_unfit, with_more}
use Rattle.relations.proofs.names.with_name.Goals as goal

pub returns-in_err-names : goal.returns-in_err-names
returns-in_err-names c = let p = err_from_is_err_and c.from_residual.result c.from_residual.ensures.1 in with_err _ _ c.in_err-names.was (p.1 ∙ ap Err p.2)

pub returns-then-not-one : goal.returns-then-not-one
returns-then-not-one c = search (rules, with_ungranted)

pub returns-then-good-names : goal.returns-then-good-names
returns-then-good-names c = search (rules, with_unfit)

pub returns : goal.returns
returns c = search (rules, with_more)
