-- The running total: one line more, and all lines of a list.
use Prim.Native.Nat.{ℕ, suc, ◌+◌, ◌≤◌}
use mathlib.Core.Path.{◌≡◌, refl, sym, ◌∙◌}
use mathlib.Core.Bool.{Bool, true, false, ◌&&◌, cond, true≢false}
use mathlib.Core.List.{List, [], ◌∷◌}
use native.Mathlib.Omega.{arith}
use lib.IntN.{ℤ, pos, negsuc, nat_abs, ◌+ℤ◌, +ℤ_idl, +ℤ_idr, +ℤ_assoc}
use borrow.Author.Tests.{lt-leb}
use lib.Signed.{le_z}
use Rattle.integers.proofs.Signed.{abs_le, abs_parts, sum_parts, le_in, lt_in, le_z_true, le_z_false}
use Rattle.rules.specs.Lists.{all}
use Rattle.rules.specs.Bytes.{either_side}
use Rattle.rules.specs.Lines.{sum, running, most_total, total_of}
use Rattle.rules.specs.declared.Cents.{Cents}
use Rattle.rules.specs.declared.Total.{Total}
use Rattle.rules.specs.declared.Total.TheVariants.{InRange, OutOfRange}
use Rattle.amounts.specs.Ensures.{total_after}
use Rattle.rules.proofs.RangeLaws.{either_is, either_in, in_either}
use Rattle.rules.proofs.ListLaws.{All}
use Rattle.rules.proofs.TestLaws.{and_left, and_right}

never : {c : Cents} → InRange c ≡ OutOfRange → ⊥
never e = let w : ◌≡◌ {A = ℕ} 0 1 = cc in omega arith

-- ---- the test, from below and from above

module _ (m : ℕ) (z : ℤ) where
  within_by : (a b : Bool) → le_z (negsuc m) z ≡ a → le_z z (pos (suc m)) ≡ b → (a && b) ≡ true → either_side (suc m) z ≡ true
  within_by true true e f h =
      in_either (suc m) z (abs_le z (omega (arith, le_in (le_z_true z (pos (suc m)) f))) (omega (arith, le_in (le_z_true (negsuc m) z e))))
  within_by true false e f h = absurd (true≢false (sym h))
  within_by false b e f h = absurd (true≢false (sym h))

  beyond_by : (a b : Bool) → le_z (negsuc m) z ≡ a → le_z z (pos (suc m)) ≡ b → (a && b) ≡ false → either_side (suc m) z ≡ false
  beyond_by true true e f h = absurd (true≢false h)
  beyond_by true false e f h =
      either_is (suc m) z ∙ lt-leb (nat_abs z) (suc m) (omega (arith, lt_in (le_z_false z (pos (suc m)) f), abs_parts z))
  beyond_by false b e f h =
      either_is (suc m) z ∙ lt-leb (nat_abs z) (suc m) (omega (arith, lt_in (le_z_false (negsuc m) z e), abs_parts z))

-- ---- one line more

-- the code's test: at least the least total, and at most the greatest
abbrev tested : ℤ → Bool
tested z = le_z (negsuc 999_999_999) z && le_z z (pos most_total)

module _ (total amount : ℤ) where
  pub after_in : tested (total +ℤ amount) ≡ true → InRange (record { 0 = total +ℤ amount }) ≡ total_after total amount
  unfolding total_after
  after_in h = rw (within_by 999_999_999 (total +ℤ amount) _ _ refl refl h)

  pub after_out : tested (total +ℤ amount) ≡ false → OutOfRange ≡ total_after total amount
  unfolding total_after
  after_out h = rw (beyond_by 999_999_999 (total +ℤ amount) _ _ refl refl h)

-- where it is in range, it is the sum, and at most a thousand million cents either side of zero
by_range : (t : Bool) (z : ℤ) (c : Cents) → either_side most_total z ≡ t → cond t (InRange (record { 0 = z })) OutOfRange ≡ InRange c
    → (z ≡ c.0) × (nat_abs c.0 ≤ most_total)
by_range true z c e h =
    let s : z ≡ c.0 = cc in
    (s, rw (← s) (either_in most_total z e))
by_range false z c e h = absurd (never (sym h))

module _ (total amount : ℤ) (c : Cents) (is : total_after total amount ≡ InRange c) where
  pub after_sum : total +ℤ amount ≡ c.0
  unfolding total_after
  after_sum = (by_range _ (total +ℤ amount) c refl is).0

  pub after_in_range : nat_abs c.0 ≤ most_total
  unfolding total_after
  after_in_range = (by_range _ (total +ℤ amount) c refl is).1

-- ---- the lines of a list, from a total on

-- after each of them the total is in range
abbrev pub stays_in_range : ℤ → List ℤ → Bool
stays_in_range from zs = all (either_side most_total) (running from zs)

unfoldable pub total_from : ℤ → List ℤ → Total
total_from from zs = cond (stays_in_range from zs) (InRange (record { 0 = from +ℤ sum zs })) OutOfRange

pub from_zero : (zs : List ℤ) → total_from (pos 0) zs ≡ total_of zs
unfolding total_from total_of
from_zero zs = rw +ℤ_idl

pub from_end : (from : ℤ) → total_from from [] ≡ InRange (record { 0 = from })
unfolding total_from
from_end from = rw +ℤ_idr

cond_and : (a b : Bool) (x y : Total) → cond (a && b) x y ≡ cond a (cond b x y) y
cond_and true b x y = refl
cond_and false b x y = refl

-- the first of them, by its way out of `total_after`
from_cons : (from z : ℤ) (zs : List ℤ)
    → total_from from (z ∷ zs) ≡ cond (either_side most_total (from +ℤ z)) (total_from (from +ℤ z) zs) OutOfRange
unfolding total_from
from_cons from z zs = rw (cond_and, +ℤ_assoc)

pub from_in : (from z : ℤ) (zs : List ℤ) (c : Cents) → total_after from z ≡ InRange c → total_from from (z ∷ zs) ≡ total_from c.0 zs
from_in from z zs c e =
    from_cons from z zs
    ∙ rw (after_sum from z c e, in_either most_total c.0 (after_in_range from z c e))

by_out : (t : Bool) (x : Total) (c : Cents) → cond t (InRange c) OutOfRange ≡ OutOfRange → cond t x OutOfRange ≡ OutOfRange
by_out false x c h = refl
by_out true x c h = absurd (never h)

pub from_out : (from z : ℤ) (zs : List ℤ) → total_after from z ≡ OutOfRange → total_from from (z ∷ zs) ≡ OutOfRange
unfolding total_after
from_out from z zs e =
    from_cons from z zs ∙ by_out (either_side most_total (from +ℤ z)) (total_from (from +ℤ z) zs) (record { 0 = from +ℤ z }) e

-- ---- what a total in range says of its lines

-- by the way out of the first line
in_range_by : (from z : ℤ) (zs : List ℤ) (c : Cents) (t : Total) → total_after from z ≡ t → total_from from (z ∷ zs) ≡ InRange c
    → ((d : ℤ) → nat_abs d ≤ most_total → total_from d zs ≡ InRange c → nat_abs c.0 ≤ most_total) → nat_abs c.0 ≤ most_total
in_range_by from z zs c (InRange d) i e rest = rest d.0 (after_in_range from z d i) (sym (from_in from z zs d i) ∙ e)
in_range_by from z zs c OutOfRange i e rest = absurd (never (sym e ∙ from_out from z zs i))

from_in_range : (from : ℤ) (zs : List ℤ) (c : Cents) → nat_abs from ≤ most_total → total_from from zs ≡ InRange c
    → nat_abs c.0 ≤ most_total
from_in_range from [] c h e =
    let s : from ≡ c.0 = cc (from_end from) in
    rw (← s) h
from_in_range from (z ∷ zs) c h e =
    in_range_by from z zs c (total_after from z) refl e (λ d k f. from_in_range d zs c k f)

-- A total in range is at most a thousand million cents either side of zero.
pub total_in_range : (zs : List ℤ) (c : Cents) → total_of zs ≡ InRange c → nat_abs c.0 ≤ most_total
total_in_range zs c e = from_in_range (pos 0) zs c (omega arith) (from_zero zs ∙ e)

by_total : (t : Bool) (d c : Cents) → cond t (InRange d) OutOfRange ≡ InRange c → (t ≡ true) × (d.0 ≡ c.0)
by_total true d c e = (refl, cc)
by_total false d c e = absurd (never (sym e))

-- It is the sum of the lines, and none of them left the range.
module _ (zs : List ℤ) (c : Cents) (is : total_of zs ≡ InRange c) where
  pub total_is_sum : sum zs ≡ c.0
  unfolding total_of
  total_is_sum = (by_total (stays_in_range (pos 0) zs) (record { 0 = sum zs }) c is).1

  pub total_stays : stays_in_range (pos 0) zs ≡ true
  unfolding total_of
  total_stays = (by_total (stays_in_range (pos 0) zs) (record { 0 = sum zs }) c is).0

-- ---- where no total leaves the range, no line is longer than it is wide

part_near : (a z : ℤ) → nat_abs z ≤ nat_abs (a +ℤ z) + nat_abs a
part_near a (pos n) = omega (arith, abs_parts (a +ℤ pos n), abs_parts a, sum_parts a (pos n))
part_near a (negsuc n) = omega (arith, abs_parts (a +ℤ negsuc n), abs_parts a, sum_parts a (negsuc n))

lines_near : (from : ℤ) (zs : List ℤ) → nat_abs from ≤ most_total → stays_in_range from zs ≡ true → All (λ z. nat_abs z ≤ 2_000_000_000) zs
lines_near from [] h e = tt
lines_near from (z ∷ zs) h e =
    let k : nat_abs (from +ℤ z) ≤ most_total = either_in most_total (from +ℤ z) (and_left (either_side most_total (from +ℤ z)) (stays_in_range (from +ℤ z) zs) e) in
    (omega (arith, k, part_near from z), lines_near (from +ℤ z) zs k (and_right (either_side most_total (from +ℤ z)) (stays_in_range (from +ℤ z) zs) e))

pub amounts_near : (zs : List ℤ) (c : Cents) → total_of zs ≡ InRange c → All (λ z. nat_abs z ≤ 2_000_000_000) zs
amounts_near zs c e = lines_near (pos 0) zs (omega arith) (total_stays zs c e)
