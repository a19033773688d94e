-- `rafttwine_calendar_list` meets its contract: there is room for what is handed over, and after the loop all of it is.
use Rattle.std.proofs.Common.{◌≡◌, arith}
use Rattle.calendar.proofs.RecordLaws.{list_room, list_called}
use Rattle.plugin.proofs.rafttwine_calendar_list.Goals as goal

pub bounds-out-i : goal.bounds-out-i
bounds-out-i c =
    omega (arith, list_room c.args.book.now c.args.question.now c.args.end c.args.out.now c.listing_of-listing.ensures c.list_answer-answer.ensures, c.loop-i.auto.out)

pub returns : goal.returns
returns c =
    let called = list_called c.args.book.now c.args.question.now c.args.end c.args.out.now c.listing_of-listing.ensures c.list_answer-answer.ensures in
    let all : c.list_answer-answer.result.length ≡ c.loop-i.i = omega arith in
    rw (c.loop-i.invariant.filled_to, ← all) called
