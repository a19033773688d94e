use borrow.Author.Rules.{rules}
use Rattle.printing.proofs.OutputLaws.{can_print, lists_lines, lists_refusal}
use Rattle.printing.proofs.output.put_listing.Goals as goal

ruleset laws = (rules, can_print, lists_lines, lists_refusal)

pub put_stretches-requires : goal.put_stretches-requires
put_stretches-requires c = search laws

pub returns-then-listing-eq0 : goal.returns-then-listing-eq0
returns-then-listing-eq0 c = search laws

pub put_refusal-requires : goal.put_refusal-requires
put_refusal-requires c = search laws

pub returns : goal.returns
returns c = search laws
