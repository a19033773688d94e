-- `lines::write_line` meets its contract: four fields, one behind the other, by `line_puts`.
use borrow.Author.Rules.{rules}
use mir.Syntax.{w64}
use mir.Val.{SFits}
use mir.ValLaws.{to_z-of_z}
use Rattle.lines.specs.Views.{view_in}
use Rattle.lines.proofs.ByteLaws.{line_puts}
use Rattle.lines.proofs.write_line.Goals as goal

pub returns : goal.returns
returns c =
    line_puts (view_in c.args.pick) c.args.amount.0 c.letter_of.ensures c.put_four.ensures c.put_pair.ensures
    (let fits : SFits w64 c.args.amount.0 = search rules in simp (to_z-of_z, fits) at c.put_signed_eight.ensures) c.put_two.ensures
