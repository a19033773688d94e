-- What the functions of this crate ask. A record t is its kind byte and its body.
use Rattle.std.specs.Prelude.{ℕ, ◌+◌, ◌≤◌, ◌≡◌, List, true, eqb, length, get_or}
use Rattle.std.proofs.Math.Option.{some}
use Rattle.rules.specs.Lists.{any, is_some}
use Rattle.rules.specs.Layout.{whole}
use Rattle.rules.specs.Book.{Record, SchemeRecord}
use Rattle.rules.specs.BookLayout.{kinded}
use Rattle.kinds.specs.Fields.{scheme_at}

-- t is a record of an accepted book
pub record Accepted (t : List ℕ) : Type 0 where
  pub ok : is_some (whole kinded t) ≡ true

-- and its kind is k
pub record OfKind (k : ℕ) (t : List ℕ) : Type 0 where
  pub kind : get_or t 0 0 ≡ k
  pub ok : is_some (whole kinded t) ≡ true

-- the record r is all of t: two names, of which the first ends at a and the second at p, and `size` bytes behind them
pub record TwoNames (t : List ℕ) (a p size : ℕ) (r : Record) : Type 0 where
  pub low : 2 ≤ a
  pub middle : a + 1 ≤ p
  pub long : p + size ≡ length t
  pub is : whole kinded t ≡ some r

-- a scheme is all of t: three names that end at a, b and p, and four bytes behind them
pub record SchemeNames (t : List ℕ) (a b p : ℕ) : Type 0 where
  pub low : 2 ≤ a
  pub middle : a + 1 ≤ b
  pub high : b + 1 ≤ p
  pub long : p + 4 ≡ length t
  pub is : whole kinded t ≡ some (SchemeRecord (scheme_at t 1 a b p))

-- the byte b is one of these
pub record OneOf (bs : List ℕ) (b : ℕ) : Type 0 where
  pub is : any (eqb b) bs ≡ true
