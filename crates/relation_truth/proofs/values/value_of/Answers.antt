-- `relation_truth::values::value_of` meets its contract: a name that is listed, or not.
use mathlib.Core.Path.{◌≡◌}
use native.Mathlib.Omega.{arith}
use borrow.Author.Rules.{rules}
use Rattle.std.specs.Prelude.{None}
use Rattle.relation_truth.proofs.ValueLaws.{value_unlisted, value_listed}
use Rattle.relation_truth.proofs.values.value_of.Goals as goal

pub returns-in_err-at-in-Name-clause-value_is : goal.returns-in_err-at-in-Name-clause-value_is
returns-in_err-at-in-Name-clause-value_is c =
    let e : c.from_residual.result ≡ None = search rules in
    rw e (value_unlisted _ _ _ c.requires.slots_of c.in_err-at-in-Name.ensures c.in-Name.is (omega arith))

pub returns-in_ok-at-in-Name-clause-value_is : goal.returns-in_ok-at-in-Name-clause-value_is
returns-in_ok-at-in-Name-clause-value_is c =
    value_listed _ _ _ c.requires.slots_of c.in_ok-at-in-Name.ensures.0 c.in-Name.is c.in_ok-at-in-Name.ensures.1 c.listed_value.ensures.constant_is
