-- `calendar::listing::listing_of` meets its contract: refusals 1 and 2, or what is listed behind them, by the laws `listing_..`.
use Rattle.calendar.proofs.ListingLaws.{listing_refused, listing_is}
use Rattle.calendar.proofs.listing.listing_of.Goals as goal

pub returns-in-Ok : goal.returns-in-Ok
returns-in-Ok c = listing_is c.in-Ok.ensures c.args.end c.listing_within.ensures

pub returns-in-Err : goal.returns-in-Err
returns-in-Err c = listing_refused c.args.end c.in-Err.ensures c.from.ensures
