-- `printing::decimal::put_digits` meets its contract, by the laws of digits.
use Rattle.std.proofs.Common.{rules}
use Rattle.printing.proofs.DigitLaws.{no_digits, last_digit, digit_room, more_digits}
use Rattle.printing.proofs.decimal.+put_digits.Goals as goal

ruleset laws = (rules, no_digits, last_digit, digit_room, more_digits)

pub returns-then-k-eq0 : goal.returns-then-k-eq0
returns-then-k-eq0 t c = search laws

pub returns-then-n-lt10 : goal.returns-then-n-lt10
returns-then-n-lt10 t c = search laws

pub bounds-out-end : goal.bounds-out-end
bounds-out-end t c = search laws

pub returns : goal.returns
returns t c = search laws
