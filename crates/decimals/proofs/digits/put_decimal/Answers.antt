-- `decimals::digits::put_decimal` meets its contract.
use borrow.Author.Rules.{rules}
use Rattle.decimals.proofs.DigitLaws.{decimal_put}
use Rattle.decimals.proofs.digits.put_decimal.Goals as goal

ruleset laws = (rules, decimal_put)

pub put_digits-requires : goal.put_digits-requires
put_digits-requires c = search laws

pub returns : goal.returns
returns c = search laws
