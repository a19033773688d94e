-- `price_terms::terms_size` meets its contract.
use borrow.Author.Rules.{rules}
use Rattle.price_terms.proofs.TermLaws.{terms_size}
use Rattle.price_terms.proofs.terms_size.Goals as goal

ruleset laws = (rules, terms_size)

pub returns : goal.returns
returns c = search laws
