-- `derived_price::derived` meets its contract: each way out by its law.
use mathlib.Core.Path.{sym}
use Rattle.std.proofs.lemmas.Result.{err_from_is_err_and}
use Rattle.derived_price.proofs.CallLaws.{named_fits, named_long, kept_out, not_derived, named_ready, named_priced, placed_refused}
use Rattle.derived_price.proofs.derived.Goals as goal

pub returns-in_err-entered : goal.returns-in_err-entered
returns-in_err-entered c = let p = err_from_is_err_and c.from_residual.result c.from_residual.ensures.1 in rw p.1 (kept_out _ _ _ _ c.args.lines.now c.in_err-entered.ensures p.2)

pub returns-then-written-ne0 : goal.returns-then-written-ne0
returns-then-written-ne0 c = not_derived _ _ _ _ c.args.lines.now c.in_ok-entered.ensures c.derive-written.ensures c.if-written-ne0.true

pub slice_bounds-asked-end : goal.slice_bounds-asked-end
slice_bounds-asked-end c = named_fits c.derive-written.ensures c.if-written-ne0.false

pub slice_bounds-granting-end : goal.slice_bounds-granting-end
slice_bounds-granting-end c = sym (named_long c.derive-written.ensures c.if-written-ne0.false)

pub priced-requires : goal.priced-requires
priced-requires c = named_ready _ _ _ _ c.args.lines.now c.in_ok-entered.ensures c.derive-written.ensures c.if-written-ne0.false

pub returns-in_err-answer : goal.returns-in_err-answer
returns-in_err-answer c = let p = err_from_is_err_and c.from_residual-in_err-answer.result c.from_residual-in_err-answer.ensures.1 in rw p.1 (placed_refused _ _ _ _ c.args.lines.now p.2 (named_priced _ _ _ _ c.args.lines.now c.in_ok-entered.ensures c.derive-written.ensures c.if-written-ne0.false c.in_err-answer.ensures))

pub returns : goal.returns
returns c = named_priced _ _ _ _ c.args.lines.now c.in_ok-entered.ensures c.derive-written.ensures c.if-written-ne0.false c.in_ok-answer.ensures
