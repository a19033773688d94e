-- `decimals::columns::date_size` meets its contract.
use borrow.Author.Rules.{rules}
use Rattle.file_rules.specs.Decimals.{date_text}
use Rattle.decimals.specs.Texts.{shown}
use Rattle.decimals.proofs.columns.date_size.Goals as goal

pub returns : goal.returns
unfolding date_text shown
returns c = search rules
