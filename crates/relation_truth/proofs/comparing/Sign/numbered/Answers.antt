-- `relation_truth::comparing::Sign::numbered` meets its contract: the numbers of each sign.
use Rattle.std.proofs.Common.{arith}
use Rattle.relation_truth.proofs.SignLaws.{is_below, is_most, is_equal, is_unequal, is_least, is_above}
use Rattle.relation_truth.proofs.comparing.Sign.numbered.Goals as goal

pub returns-in-1 : goal.returns-in-1
returns-in-1 c = is_below c.args.number (omega arith) (omega arith)

pub returns-in-3 : goal.returns-in-3
returns-in-3 c = is_most c.args.number (omega arith) (omega arith)

pub returns-in-5 : goal.returns-in-5
returns-in-5 c = is_equal c.args.number (omega arith) (omega arith)

pub returns-in-7 : goal.returns-in-7
returns-in-7 c = is_unequal c.args.number (omega arith) (omega arith)

pub returns-in-9-to-11 : goal.returns-in-9-to-11
returns-in-9-to-11 c = is_least c.args.number (omega arith) (omega arith)

pub returns-in-12 : goal.returns-in-12
returns-in-12 c = is_above c.args.number (omega arith) (omega arith)

pub returns-in_default : goal.returns-in_default
returns-in_default c = record { beyond = λ l. omega arith }
