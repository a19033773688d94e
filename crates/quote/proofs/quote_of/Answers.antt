-- `quote::quote_of` meets its contract: the rows can be judged (`slice_judge`), and what is said of them and of the granted names is so (`quote_is`).
use borrow.Author.Rules.{rules}
use Rattle.quote.proofs.OutcomeLaws.{slice_judge, quote_is}
use Rattle.quote.proofs.quote_of.Goals as goal

pub judge-verdict-requires : goal.judge-verdict-requires
judge-verdict-requires c = slice_judge c.picks_within-picks.ensures c.requires.asked c.as_slice.ensures

pub unused-unused-requires : goal.unused-unused-requires
unused-unused-requires c = search rules

pub returns : goal.returns
returns c =
    quote_is c.picks_within-picks.ensures c.requires.asked c.as_slice.ensures c.judge-verdict.ensures c.as_slice-2.ensures c.unused-unused.ensures
