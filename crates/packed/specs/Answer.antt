-- What a caller reads of the sums: the gross weight, the signs, and the answer or 11.
use Rattle.std.specs.Prelude as Std
use Rattle.std.specs.Prelude.{Ok, Err, ◌≡◌, Bool, ◌&&◌, cond, List, [], ◌∷◌, ℤ, pos, ◌+ℤ◌, ◌*ℤ◌, get_or}
use Rattle.std.specs.Int.Signed.{non_neg}
use Rattle.rules.specs.Lists.{all}
use Rattle.rules.specs.Book.{Pack}
use Rattle.rules.specs.BookLayout.{has, eight}
use Rattle.rules.specs.Reasons.{number_for}
use Rattle.rules.specs.Refusals.{Result, done, refused, ◌>>=◌, refuse_unless}
use Rattle.rules.specs.Packaging.{value_in, units_agree, three, tare, net, items, Packed, packed_of, shown}
use Rattle.rules.specs.declared.PackagingAnswer.{PackagingAnswer}
use Rattle.rules.specs.declared.Refusal.{Refusal}
use Rattle.packed.specs.declared.sums.Sums.{Sums}
use Rattle.packed.specs.Sums.{SumsAre}

pub record GrossIs (s : Sums) (r : ℤ) : Type 0 where
  pub is : r ≡ cond (all (λ i. has i s.present) (tare ∷ net ∷ items ∷ []))
      (get_or s.values tare (pos 0) +ℤ get_or s.values net (pos 0) *ℤ get_or s.values items (pos 0)) (pos 0)

abbrev pub none_below : List ℤ → Bool
none_below zs = all (λ i. non_neg (get_or zs i (pos 0))) eight

-- what the call gives once it has the records: 11, or the answer
unfoldable pub summed : List Pack → Result Packed
summed us = do
  _ ← refuse_unless 11 (all (units_agree us) three && all (λ i. non_neg (value_in us i)) eight)
  done (packed_of us)

-- what the caller reads
abbrev pub written : Std.Result PackagingAnswer Refusal → PackagingAnswer
written (Ok a) = a
written (Err r) = shown (refused (number_for r))

pub record Answers (s : Sums) (r : Std.Result PackagingAnswer Refusal) : Type 0 where
  pub is : (us : List Pack) → SumsAre us s → written r ≡ shown (summed us)
