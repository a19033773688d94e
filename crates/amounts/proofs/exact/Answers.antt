-- `amounts::exact` meets its contract: in each arm the value is known, and ExactLaws says the rest.
use mir.ValLaws.{to_z-of_z}
use Rattle.amounts.proofs.ExactLaws.{of_fits, fixed_fits, fixed_is, share_fits, product_fits, share_is}
use Rattle.amounts.proofs.exact.Goals as goal

pub overflow_mul-result : goal.overflow_mul-result
overflow_mul-result c =
    let share = c.in-Percent.share in
    let e = c.in-Percent.is in
    let v = c.args.value in
    let of = c.args.of.0 in
    simp (to_z-of_z, share_fits v of c.requires share e, of_fits v of c.requires) (product_fits v of c.requires share e)

pub returns-in-Fixed : goal.returns-in-Fixed
returns-in-Fixed c =
    let cents = c.in-Fixed.cents in
    let e = c.in-Fixed.is in
    let v = c.args.value in
    let of = c.args.of.0 in
    simp (to_z-of_z, fixed_fits v of c.requires cents e) (fixed_is v of c.requires cents e)

pub returns-in-Percent : goal.returns-in-Percent
returns-in-Percent c =
    let share = c.in-Percent.share in
    let e = c.in-Percent.is in
    let v = c.args.value in
    let of = c.args.of.0 in
    let fits = product_fits v of c.requires share e in
    simp (to_z-of_z, share_fits v of c.requires share e, of_fits v of c.requires, fits) (share_is v of c.requires share e)
