-- `calendar::listing::ListingFromRefusal::from` meets its contract.
use Rattle.calendar.proofs.ListingLaws.{refused_is}
use Rattle.calendar.proofs.listing.ListingFromRefusal.from.Goals as goal

pub returns : goal.returns
returns c = refused_is c.args.refusal c.from.ensures
