-- `calendar::listing::refused` meets its contract.
use mathlib.Core.Path.{refl}
use native.Mathlib.Omega.{arith}
use Rattle.calendar.proofs.ListingLaws.{refused_by}
use Rattle.calendar.proofs.listing.refused.Goals as goal

pub returns : goal.returns
returns c = refused_by (λ e. omega (arith, c.requires)) refl refl
