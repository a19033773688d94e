-- `printing::output::listing_in` meets its contract: too long an input by `too_long`, any other by its parts (`asks_listing`).
use borrow.Author.Rules.{rules}
use Rattle.printing.proofs.OutputLaws.{front_size, too_long, asks_listing}
use Rattle.printing.proofs.output.listing_in.Goals as goal

ruleset laws = (rules, too_long, asks_listing)

pub returns : goal.returns
returns c =
    asks_listing _ (search rules) c.front-b.ensures c.front-q.ensures c.end_of-end.ensures c.listing_of.ensures

pub returns-then-input-gt65536 : goal.returns-then-input-gt65536
returns-then-input-gt65536 c = search laws

pub front-b-requires : goal.front-b-requires
front-b-requires c = search laws

pub front-q-requires : goal.front-q-requires
front-q-requires c = search laws

pub end_of-end-requires : goal.end_of-end-requires
end_of-end-requires c = search laws

pub slice_bounds-listing_of-end : goal.slice_bounds-listing_of-end
slice_bounds-listing_of-end c = front_size c.front-b.ensures

pub slice_bounds-listing_of-end-2 : goal.slice_bounds-listing_of-end-2
slice_bounds-listing_of-end-2 c = front_size c.front-q.ensures

pub listing_of-requires : goal.listing_of-requires
listing_of-requires c = search laws
