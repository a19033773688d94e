-- `decimals::columns::put_date` meets its contract.
use borrow.Author.Rules.{rules}
use Rattle.file_rules.specs.Decimals.{date_text}
use Rattle.decimals.specs.Texts.{shown}
use Rattle.decimals.proofs.columns.put_date.Goals as goal

pub put_shown-requires : goal.put_shown-requires
unfolding date_text shown
put_shown-requires c = search rules

pub returns : goal.returns
unfolding date_text shown
returns c = search rules
