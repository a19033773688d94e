-- `relations::names::names_of` meets its contract: the assignments so far and what they derive, by the laws `names_..`.
use Rattle.std.proofs.lemmas.Result.{err_from_is_err_and}
use Rattle.relations.proofs.TextLaws.{names_start, names_wrong, names_end, names_on}
use Rattle.relations.proofs.names.names_of.Goals as goal

pub loop-one-init : goal.loop-one-init
loop-one-init c = names_start c.no_names.ensures

pub returns-in_err-one : goal.returns-in_err-one
returns-in_err-one c = let p = err_from_is_err_and c.from_residual.result c.from_residual.ensures.1 in rw (p.1, p.2) (names_wrong c.loop-one.invariant c.in_err-one.ensures)

pub returns-in-End : goal.returns-in-End
returns-in-End c = names_end c.loop-one.invariant c.in_ok-one.ensures _ c.with_name-names.ensures c.in-End.is

pub loop-one-preserved : goal.loop-one-preserved
loop-one-preserved c = names_on c.loop-one.invariant c.in_ok-one.ensures _ c.with_name-names.ensures c.in_default.not-End
