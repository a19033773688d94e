-- `records::prices::value_at` meets its contract: the flag says which sort of number it is, by `value_percent` and `value_fixed`.
use borrow.Author.Rules.{rules}
use Rattle.records.proofs.PriceLaws.{value_percent, value_fixed}
use Rattle.records.proofs.prices.value_at.Goals as goal

ruleset laws = (rules, value_percent, value_fixed)

pub signed_four_at-v-requires : goal.signed_four_at-v-requires
signed_four_at-v-requires c = search laws

pub returns-then-t-terms-eq0 : goal.returns-then-t-terms-eq0
returns-then-t-terms-eq0 c = search laws

pub returns-else-t-terms-eq0 : goal.returns-else-t-terms-eq0
returns-else-t-terms-eq0 c = search laws
