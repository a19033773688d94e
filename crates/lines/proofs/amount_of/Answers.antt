-- `lines::amount_of` meets its contract: what the share is of, the exact amount, its factor, and its rounding.
use mathlib.Core.Path.{refl}
use Rattle.lines.specs.Views.{view_in}
use Rattle.lines.proofs.AmountLaws.{share_of, can_factor, can_round, line_is}
use Rattle.lines.proofs.amount_of.Goals as goal

pub exact-exact-requires : goal.exact-exact-requires
exact-exact-requires c =
    share_of (view_in c.args.pick) _ _ c.requires _ _ c.share_of-of.ensures

pub factored-factored-requires : goal.factored-factored-requires
factored-factored-requires c =
    can_factor (view_in c.args.pick) _ _ c.requires _ _ c.share_of-of.ensures _ c.exact-exact.ensures

pub rounded-requires : goal.rounded-requires
rounded-requires c =
    can_round (view_in c.args.pick) _ _ c.requires _ _ c.share_of-of.ensures _ c.exact-exact.ensures _ c.factored-factored.ensures

pub returns : goal.returns
returns c =
    line_is (view_in c.args.pick) _ _ c.requires _ _ c.share_of-of.ensures _ c.exact-exact.ensures _ c.factored-factored.ensures
    refl _ c.rounded.ensures
