-- `price_record::twos_of` meets its contract.
use borrow.Author.Rules.{rules}
use Rattle.price_record.proofs.PutLaws.{twos_zero, twos_minus, twos_plus}
use Rattle.price_record.proofs.twos_of.Goals as goal

ruleset laws = (rules, twos_zero, twos_minus, twos_plus)

pub returns-then-n-lt1 : goal.returns-then-n-lt1
returns-then-n-lt1 c = search laws

pub returns-then-amount : goal.returns-then-amount
returns-then-amount c = search laws

pub returns : goal.returns
returns c = search laws
