-- What the used packaging records come to, and the answer.
use Rattle.std.specs.Prelude as Std
use Rattle.std.specs.Prelude.{Option as Maybe, None, Ok, Err, IfOk, ℕ, ◌+◌, ◌≤◌, ◌≡◌, false, List, [], ◌∷◌, ◌++◌, pos, nat_abs, get_or}
use Rattle.rules.specs.Lists.{all, cons_some}
use Rattle.rules.specs.Book.{Pack}
use Rattle.rules.specs.Refusals.{Result, ◌>>=◌, or_refuse}
use Rattle.rules.specs.Packaging.{units_agree, three, Packed, shown}
use Rattle.rules.specs.declared.Part.{Part}
use Rattle.rules.specs.declared.Refusal.{Refusal}
use Rattle.rules.specs.declared.Refusal.TheVariants.{UnfitPackaging}
use Rattle.rules.specs.declared.PackagingAnswer.{PackagingAnswer}
use Rattle.packed.specs.declared.sums.Sums.{Sums}
use Rattle.packed.specs.Sums.{SumsFit, Within, most_sum}
use Rattle.packed.specs.Answer.{summed, written}
use Rattle.packaging.specs.Spots.{pack_there, used_in}

-- ---- the used records

-- `r` is what these come to, or their units clash
pub data Come (us : List Pack) : Std.Result Sums Refusal → Type 0 where
  Agree : {s : Sums} → SumsFit us s → Come us (Ok s)
  Clash : all (units_agree us) three ≡ false → Come us (Err UnfitPackaging)

-- with the record at a spot, if there is one
pub record WithSpot (b : List ℕ) (s : Sums) (p : Maybe Part) (r : Std.Result Sums Refusal) : Type 0 where
  pub is : (us : List Pack) → SumsFit us s → Come (us ++ cons_some (pack_there b p) []) r
  pub near : IfOk r (λ t. (i : ℕ) → nat_abs (get_or t.values i (pos 0)) ≤ nat_abs (get_or s.values i (pos 0)) + 10_000_000)

pub record SumsFrom (us : List Pack) (r : Std.Result Sums Refusal) : Type 0 where
  pub is : Come us r
  pub within : IfOk r (Within most_sum)

-- ---- the answer

-- what the call gives once it has the spots: 8 first
unfoldable pub from_spots : List ℕ → List (Maybe Part) → List (Maybe Part) → Result Packed
from_spots b own any = do
  _ ← or_refuse 8 (pack_there b (get_or own 0 None))
  summed (used_in b own any)

pub record AnswersFrom (b : List ℕ) (own any : List (Maybe Part)) (r : Std.Result PackagingAnswer Refusal) : Type 0 where
  pub is : written r ≡ shown (from_spots b own any)
