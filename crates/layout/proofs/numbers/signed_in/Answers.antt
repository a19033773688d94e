-- `layout::numbers::signed_in` meets its contract: the lower half by `signed_low`, the upper by `signed_high`.
use Prim.Native.Nat.{◌-◌}
use native.Mathlib.Omega.{arith}
use borrow.Author.Rules.{rules}
use mir.Syntax.{w64}
use mir.ValLaws.{to_z-of_z, to_z_pos}
use Rattle.layout.proofs.NumberLaws.{signed_low, signed_high, high_fits}
use Rattle.layout.proofs.numbers.signed_in.Goals as goal

ruleset laws = (rules, signed_low)

pub overflow_sub-result-else-n-top : goal.overflow_sub-result-else-n-top
overflow_sub-result-else-n-top c =
    let n = c.args.n in
    let top = c.args.top in
    simp (to_z_pos w64 (top - n) (omega arith)) (high_fits n top (omega arith) (omega arith) (omega arith))

pub returns-else-n-top : goal.returns-else-n-top
returns-else-n-top c =
    let n = c.args.n in
    let top = c.args.top in
    simp (to_z_pos w64 (top - n) (omega arith), to_z-of_z, high_fits n top (omega arith) (omega arith) (omega arith)) (signed_high n top (omega arith) (omega arith))

pub returns-then-n-top : goal.returns-then-n-top
returns-then-n-top c = search laws
