-- `printing::input::own_length` meets its contract: the bytes read so far make the number, by the laws `read_..`.
use native.Mathlib.Omega.{arith}
use borrow.Author.Rules.{rules}
use Rattle.printing.proofs.InputLaws.{read_start, read_on, read_fits, read_end}
use Rattle.printing.proofs.input.own_length.Goals as goal

ruleset laws = (rules, read_start, read_on, read_end)

pub loop-b-init : goal.loop-b-init
loop-b-init c = search laws

pub overflow_mul-n : goal.overflow_mul-n
overflow_mul-n c = let small = read_fits c.loop-b.invariant (search rules) in record { fits = omega (arith, small) }

pub overflow_add-n : goal.overflow_add-n
overflow_add-n c = let small = read_fits c.loop-b.invariant (search rules) in record { fits = omega (arith, small, c.wide.ensures.below) }

pub loop-b-preserved : goal.loop-b-preserved
loop-b-preserved c = search laws

pub returns : goal.returns
returns c = search laws
