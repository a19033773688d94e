use borrow.Author.Rules.{rules}
use Rattle.printing.proofs.OutputLaws.{few_listed, output_is}
use Rattle.printing.proofs.output.output.Goals as goal

ruleset laws = (rules, few_listed, output_is)

pub listing_in-listing-requires : goal.listing_in-listing-requires
listing_in-listing-requires c = search laws

pub put_listing-n-requires : goal.put_listing-n-requires
put_listing-n-requires c = search laws

pub returns : goal.returns
returns c = search laws
