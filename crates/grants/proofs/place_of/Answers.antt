-- `grants::place_of` meets its contract: no condition, one too long to be granted, or what is looked up, by the laws `place_..`.
use mathlib.Core.Path.{◌≡◌, sym, ◌∙◌}
use native.Mathlib.Omega.{arith}
use lib.ListN.{length}
use borrow.Author.Tests.{eqb-true, eqb-false}
use borrow.Author.Rules.{rules}
use Rattle.grants.proofs.PlaceLaws.{place_none, place_long, place_looked}
use Rattle.grants.proofs.place_of.Goals as goal

ruleset laws = (rules, place_none, place_long, place_looked)

pub returns-then-is_empty : goal.returns-then-is_empty
returns-then-is_empty c = place_none _ _ _ (omega (arith, eqb-true (length c.args.condition.now) 0 (sym c.is_empty.ensures ∙ c.if-is_empty.true)))

pub returns-then-condition-gt-LONGEST : goal.returns-then-condition-gt-LONGEST
returns-then-condition-gt-LONGEST c = search laws

pub returns : goal.returns
returns c =
    let some : length c.args.condition.now ≡ 0 → ⊥ = eqb-false (length c.args.condition.now) 0 (sym c.is_empty.ensures ∙ c.if-is_empty.false) in
    rw c.unwrap_or.ensures (place_looked _ _ _ (omega arith) c.look.ensures.is)
