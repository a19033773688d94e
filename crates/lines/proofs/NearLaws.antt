-- The amounts of a price, and what they come to, are near zero.
use Prim.Native.Nat.{◌≤◌}
use mathlib.Core.Path.{◌≡◌}
use mathlib.Core.List.{List}
use lib.IntN.{nat_abs}
use Rattle.rules.specs.Book.{Record}
use Rattle.rules.specs.Question.{Question}
use Rattle.rules.specs.Lines.{amounts, total, most_total}
use Rattle.rules.specs.Refusals.{done}
use Rattle.rules.specs.Price.{Priced, priced}
use Rattle.rules.proofs.ListLaws.{All}
use Rattle.rules.proofs.CallLaws.{priced_range}
use Rattle.amounts.proofs.TotalLaws.{total_in_range, total_is_sum, amounts_near}

module _ (book : List Record) (q : Question) {p : Priced} (is : priced book q ≡ done p) where
  pub priced_amounts : All (λ z. nat_abs z ≤ 2_000_000_000) (amounts p.lines)
  priced_amounts = let x = priced_range book q is in amounts_near (amounts p.lines) x.0 x.1

  pub priced_total : nat_abs (total p.lines) ≤ most_total
  unfolding total
  priced_total =
      let x = priced_range book q is in
      rw (total_is_sum (amounts p.lines) x.0 x.1) (total_in_range (amounts p.lines) x.0 x.1)
