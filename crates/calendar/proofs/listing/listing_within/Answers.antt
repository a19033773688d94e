-- `calendar::listing::listing_within` meets its contract: refusals 9 and 3, or the stretches, by the laws `within_..`.
use Rattle.calendar.proofs.ListingLaws.{within_9, within_3, within_done, days_dates}
use Rattle.calendar.proofs.listing.listing_within.Goals as goal

pub returns-in_default : goal.returns-in_default
returns-in_default c = within_9 c.args.book.now c.args.question.now c.args.ask c.args.end c.in_default.ensures c.from.ensures

pub stretches_in-requires-clause-dates : goal.stretches_in-requires-clause-dates
stretches_in-requires-clause-dates c = days_dates c.in-Some.ensures c.as_slice.ensures c.requires.ask_is.day

pub returns-in-Ok : goal.returns-in-Ok
returns-in-Ok c =
    within_done c.args.book.now c.args.question.now c.args.ask c.args.end c.in-Some.ensures c.requires.found_is c.in-Ok.ensures c.as_slice.ensures c.stretches_in.ensures

pub returns-in-Err : goal.returns-in-Err
returns-in-Err c = within_3 c.args.book.now c.args.question.now c.args.ask c.args.end c.in-Some.ensures c.requires.found_is c.in-Err.ensures c.from-in-Err.ensures
