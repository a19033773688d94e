-- `relations::starts::start_of` meets its contract: each way out is a law.
use Rattle.std.proofs.lemmas.Result.{err_from_is_err_and}
use Rattle.relations.proofs.StartLaws.{nots_none, nots_more, start_cut, start_wrong, start_token}
use Rattle.relations.proofs.starts.start_of.Goals as goal

pub loop-at-init : goal.loop-at-init
loop-at-init c = nots_none c.requires

pub returns-then-text-from : goal.returns-then-text-from
returns-then-text-from c = start_cut c.loop-at.invariant c.blanks-from.ensures c.if-text-from.true

pub returns-in_err-first : goal.returns-in_err-first
returns-in_err-first c = let p = err_from_is_err_and c.from_residual.result c.from_residual.ensures.1 in rw (p.1, p.2) (start_wrong c.loop-at.invariant c.blanks-from.ensures c.if-text-from-eq40.false c.in_err-first.ensures)

pub returns-then-word_of-ne1 : goal.returns-then-word_of-ne1
returns-then-word_of-ne1 c = start_token c.loop-at.invariant c.blanks-from.ensures c.in_ok-first.ensures c.word_of.ensures c.if-text-from-eq40.false c.if-word_of-ne1.true

pub loop-at-preserved : goal.loop-at-preserved
loop-at-preserved c = nots_more c.loop-at.invariant c.blanks-from.ensures c.in_ok-first.ensures c.word_of.ensures c.if-word_of-ne1.false
