-- `amounts::factored` meets its contract: as it is where the factor is 1,000, and else the product, by FactoredLaws.
use mir.ValLaws.{to_z-of_z}
use Rattle.amounts.proofs.FactoredLaws.{plain_is, product_fits, top_fits, factor_is, product_is}
use Rattle.amounts.proofs.factored.Goals as goal

pub returns-then-factor-eq-PLAIN_FACTOR : goal.returns-then-factor-eq-PLAIN_FACTOR
returns-then-factor-eq-PLAIN_FACTOR c =
    plain_is c.args.factor c.args.x c.requires c.if-factor-eq-PLAIN_FACTOR.true

pub overflow_mul-result : goal.overflow_mul-result
overflow_mul-result c =
    let f = c.args.factor in
    let x = c.args.x in
    simp (to_z-of_z, top_fits f x c.requires, factor_is f x c.requires) (product_fits f x c.requires)

pub returns : goal.returns
returns c =
    let f = c.args.factor in
    let x = c.args.x in
    simp (to_z-of_z, top_fits f x c.requires, factor_is f x c.requires, product_fits f x c.requires) (product_is f x c.requires)
