-- `printing::stretch_line::put_stretch` meets its contract: the parts one behind the other, with room for each (`room`), are the line (`line_prints`).
use native.Mathlib.Omega.{arith}
use borrow.Author.Rules.{rules}
use mir.Syntax.{w64}
use mir.Val.{SFits}
use mir.ValLaws.{to_z-of_z}
use Rattle.printing.proofs.LineLaws.{room₁, room₂, room₃, room₄, room₅, line_prints}
use Rattle.printing.proofs.stretch_line.put_stretch.Goals as goal

pub put_number-b-requires : goal.put_number-b-requires
put_number-b-requires c =
    omega (arith, room₁ c.args.stretch c.requires c.put_number-a.ensures)

pub put_number-c-requires : goal.put_number-c-requires
put_number-c-requires c =
    omega (arith, room₂ c.args.stretch c.requires c.put_number-a.ensures c.put_number-b.ensures)

pub put_word-d-requires : goal.put_word-d-requires
put_word-d-requires c =
    omega (arith, room₃ c.args.stretch c.requires c.put_number-a.ensures c.put_number-b.ensures c.put_number-c.ensures)

pub put_signed-e-requires : goal.put_signed-e-requires
put_signed-e-requires c =
    omega (
      arith,
      room₄ c.args.stretch c.requires c.put_number-a.ensures c.put_number-b.ensures c.put_number-c.ensures
          c.word_of-word.ensures c.put_word-d.ensures,
    )

pub put_bytes-requires : goal.put_bytes-requires
put_bytes-requires c =
    let unit_fits : SFits w64 c.args.stretch.outcome.unit.0 = search rules in
    omega (
      arith,
      room₅ c.args.stretch c.requires c.put_number-a.ensures c.put_number-b.ensures c.put_number-c.ensures
          c.word_of-word.ensures c.put_word-d.ensures (simp (to_z-of_z, unit_fits) at c.put_signed-e.ensures),
    )

pub shape_of-out : goal.shape_of-out
shape_of-out c =
    omega (
      arith,
      c.put_bytes.ensures.puts.long,
      c.put_signed-e.ensures.puts.long,
      c.put_word-d.ensures.puts.long,
      c.put_number-c.ensures.puts.long,
      c.put_number-b.ensures.puts.long,
      c.put_number-a.ensures.puts.long,
    )

pub returns : goal.returns
returns c =
    let unit_fits : SFits w64 c.args.stretch.outcome.unit.0 = search rules in
    line_prints c.args.stretch c.requires c.put_number-a.ensures c.put_number-b.ensures c.put_number-c.ensures
    c.word_of-word.ensures c.put_word-d.ensures (simp (to_z-of_z, unit_fits) at c.put_signed-e.ensures) c.put_bytes.ensures
