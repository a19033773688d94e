-- `calendar::calendar` meets its contract: refused, or written, by the laws `calendar_..`.
use Rattle.calendar.proofs.CallLaws.{calendar_refused, calendar_room, calendar_done}
use Rattle.calendar.proofs.calendar.Goals as goal

pub write_stretches-requires : goal.write_stretches-requires
write_stretches-requires c =
    calendar_room c.args.book.now c.args.question.now c.args.end c.args.out.now c.listing_of-listing.ensures c.answer-answer.ensures c.as_slice.ensures c.if-answer-eq0.true

pub returns-then-answer-eq0 : goal.returns-then-answer-eq0
returns-then-answer-eq0 c =
    calendar_done c.args.book.now c.args.question.now c.args.end c.args.out.now c.listing_of-listing.ensures c.answer-answer.ensures c.as_slice.ensures c.if-answer-eq0.true
    c.write_stretches.ensures

pub returns-else-answer-eq0 : goal.returns-else-answer-eq0
returns-else-answer-eq0 c = calendar_refused c.args.book.now c.args.question.now c.args.end c.args.out.now c.listing_of-listing.ensures c.answer-answer.ensures c.if-answer-eq0.false
