-- `calendar::bytes::put_currency` meets its contract: four stores.
use borrow.Author.Rules.{rules}
use Rattle.calendar.proofs.ByteLaws.{currency_puts}
use Rattle.calendar.proofs.bytes.put_currency.Goals as goal

ruleset laws = (rules, currency_puts)

pub returns : goal.returns
returns c = search laws
