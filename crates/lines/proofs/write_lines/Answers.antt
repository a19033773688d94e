-- `lines::write_lines` meets its contract: what is written and what is left make up the whole, by the laws `write_..`.
use native.Mathlib.Omega.{arith}
use borrow.Author.Rules.{rules}
use Rattle.lines.proofs.ByteLaws.{write_again, write_end}
use Rattle.lines.proofs.write_lines.Goals as goal

ruleset laws = (rules, write_end)

pub loop-i-preserved : goal.loop-i-preserved
loop-i-preserved c =
    write_again _ c.args.at c.args.picks.now c.args.amounts.now _ _ c.loop-i.i c.loop-i.invariant (omega arith) c.write_line.ensures

pub returns : goal.returns
returns c = search laws
