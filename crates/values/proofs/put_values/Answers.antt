-- `values::put_values` meets its contract: what is left to write, written where the loop stands, makes up the whole, by the laws `put_..`.
use native.Mathlib.Omega.{arith}
use borrow.Author.Rules.{rules}
use Rattle.values.proofs.PutLaws.{put_start, put_here, put_room, put_again, put_end}
use Rattle.values.proofs.put_values.Goals as goal

pub loop-init : goal.loop-init
loop-init c = search (rules, put_start)

pub property_of-property-requires : goal.property_of-property-requires
property_of-property-requires c = put_here _ _ _ _ _ _ _ c.loop.invariant (omega arith)

pub put_next-at-requires : goal.put_next-at-requires
put_next-at-requires c =
    record { property_fits = c.property_of-property.ensures.fits; scheme_is = c.requires.scheme_is; most_in_bounds = put_room _ _ _ _ _ _ _ c.loop.invariant (omega arith) }

pub loop-preserved : goal.loop-preserved
loop-preserved c = put_again _ _ _ _ _ _ _ c.loop.invariant (omega arith) c.requires.scheme_is c.property_of-property.ensures c.put_next-at.ensures (omega arith)

pub returns : goal.returns
returns c = put_end _ _ _ _ _ _ _ c.loop.invariant (omega arith)
