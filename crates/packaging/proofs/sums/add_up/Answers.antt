-- `packaging::sums::add_up` meets its contract: the sums are those of the places gone through, by the laws `add_..`.
use Rattle.std.proofs.Common.{arith, length-append}
use Rattle.std.proofs.lemmas.Result.{err_from_is_err_and}
use Rattle.packaging.proofs.SumLaws.{turn, turns, add_start, add_held, add_turn, add_clash, add_end}
use Rattle.packaging.proofs.sums.add_up.Goals as goal

pub loop-own-init : goal.loop-own-init
loop-own-init c = add_start c.args.b.now c.args.found.now.own c.args.found.now.any

pub with_spot-requires-clause-held : goal.with_spot-requires-clause-held
with_spot-requires-clause-held c =
    let t = turn c.args.found.now.own c.args.found.now.any c.loop-own.yielded c.loop-own.own-iterator c.next.new.self c.next.result c.into_iter-own-iterator.ensures.into_iter_gives c.zip-own-items.ensures.first c.iter.ensures.rest
    c.zip-own-items.ensures.second.0 c.loop-own.yielded_by c.next.ensures.steps (c.in-Some.own, c.in-Some.any) c.in-Some.is c.or.ensures in
    rw t.1 (add_held c.args.b.now c.args.found.now.own c.args.found.now.any c.loop-own.invariant t.0 c.requires.own c.requires.any)

pub returns-in_err-sums : goal.returns-in_err-sums
returns-in_err-sums c =
    let t = turn c.args.found.now.own c.args.found.now.any c.loop-own.yielded c.loop-own.own-iterator c.next.new.self c.next.result c.into_iter-own-iterator.ensures.into_iter_gives c.zip-own-items.ensures.first c.iter.ensures.rest
    c.zip-own-items.ensures.second.0 c.loop-own.yielded_by c.next.ensures.steps (c.in-Some.own, c.in-Some.any) c.in-Some.is c.or.ensures in
    let p = err_from_is_err_and c.from_residual.result c.from_residual.ensures.1 in
    rw (p.1, p.2) (add_clash c.args.b.now c.args.found.now.own c.args.found.now.any c.loop-own.invariant t.0 c.requires.own c.requires.any (rw t.1 at c.in_err-sums.ensures))

pub loop-own-preserved : goal.loop-own-preserved
loop-own-preserved c =
    let t = turn c.args.found.now.own c.args.found.now.any c.loop-own.yielded c.loop-own.own-iterator c.next.new.self c.next.result c.into_iter-own-iterator.ensures.into_iter_gives c.zip-own-items.ensures.first c.iter.ensures.rest
    c.zip-own-items.ensures.second.0 c.loop-own.yielded_by c.next.ensures.steps (c.in-Some.own, c.in-Some.any) c.in-Some.is c.or.ensures in
    rw length-append (add_turn c.args.b.now c.args.found.now.own c.args.found.now.any c.loop-own.invariant t.0 c.requires.own c.requires.any (rw t.1 at c.in_ok-sums.ensures))

pub returns : goal.returns
returns c =
    let l = turns c.args.found.now.own c.args.found.now.any c.loop-own.yielded c.loop-own.own-iterator c.next.new.self c.next.result c.into_iter-own-iterator.ensures.into_iter_gives c.zip-own-items.ensures.first c.iter.ensures.rest
    c.zip-own-items.ensures.second.0 c.loop-own.yielded_by c.next.ensures.steps c.in-None.is (omega arith) (omega arith) in
    add_end c.args.b.now c.args.found.now.own c.args.found.now.any c.loop-own.invariant l
