-- The number of a level.
use mathlib.Core.Path.{◌≡◌}
use native.Mathlib.Omega.{arith}
use Rattle.rules.specs.Book.{letter_of}
use Rattle.rules.specs.declared.Level.{Level}
use Rattle.rules.specs.declared.Level.TheVariants.{Base, Surcharge, Discount}
use Rattle.layout.specs.Ensures.{Number}
use Rattle.choice.specs.Slots.{level_of}

module _ (level : Level) where
  pub level_base : level ≡ Base → Number (level_of (letter_of level)) 3 0
  unfolding level_of
  level_base e = record { is = rw e; below = omega arith }

  pub level_surcharge : level ≡ Surcharge → Number (level_of (letter_of level)) 3 1
  unfolding level_of
  level_surcharge e = record { is = rw e; below = omega arith }

  pub level_discount : level ≡ Discount → Number (level_of (letter_of level)) 3 2
  unfolding level_of
  level_discount e = record { is = rw e; below = omega arith }
