-- `printing::decimal::put_digits` ends: it calls itself for one digit less.
use Rattle.printing.proofs.decimal.+put_digits.Given as goal

abbrev pub decreases-put_digits : goal.decreases-put_digits
decreases-put_digits l = l.k
