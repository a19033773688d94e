-- From the spots to the answer.
use Prim.Native.Nat.{ℕ}
use mathlib.Core.Path.{◌≡◌, sym, ◌∙◌, ap}
use mathlib.Core.Bool.{true, false, false≢true}
use mathlib.Core.List.{List}
use mathlib.Core.Option.{Option, some}
use native.Mathlib.Omega.{arith}
use lib.ListN.{get_or}
use Rattle.std.specs.Prelude as Std
use Rattle.std.specs.Prelude.{Option as Maybe, Some, None, IfSome, Ok, Err}
use Rattle.rules.specs.declared.Part.{Part}
use Rattle.rules.specs.declared.Refusal.{Refusal}
use Rattle.rules.specs.declared.Refusal.TheVariants.{NoPackaging}
use Rattle.rules.specs.Book.{Pack}
use Rattle.rules.specs.Refusals.{◌>>=◌, or_refuse}
use Rattle.rules.specs.Packaging.{shown}
use Rattle.rules.specs.declared.PackagingAnswer.{PackagingAnswer}
use Rattle.packed.specs.declared.sums.Sums.{Sums}
use Rattle.packed.specs.Answer.{summed, written, Answers}
use Rattle.packed.proofs.AnswerLaws.{clash_refused}
use Rattle.packaging.specs.declared.spots.Found.{Found}
use Rattle.packaging.specs.Spots.{Held, OnePack, pack_there, FoundHeld, used_in}
use Rattle.packaging.specs.Sums.{Come, Agree, Clash, SumsFrom, from_spots, AnswersFrom}
use Rattle.packaging.proofs.SumLaws.{there_is}

module _ (b : List ℕ) (f : Found) where
  -- what the call gives, whatever stands at the first spot
  abbrev given_first : Option Pack → PackagingAnswer
  given_first o = shown (or_refuse 8 o >>= λ _. summed (used_in b f.own f.any))

  pub spots_8 : (p : Maybe Part) → get_or f.own 0 None ≡ p → Std.is_some p ≡ false → AnswersFrom b f.own f.any (Err NoPackaging)
  unfolding from_spots pack_there
  spots_8 None e n = record { is = sym (ap (λ (p : Maybe Part). given_first (pack_there b p)) e) }
  spots_8 (Some p) e n = absurd (false≢true (sym n))

  -- with the first spot taken
  first_taken : FoundHeld b f → Std.is_some (get_or f.own 0 None) ≡ true → (x : Pack) × (pack_there b (get_or f.own 0 None) ≡ some x)
  first_taken h t = go (get_or f.own 0 None) (h.own.each 0 (omega arith)) t
    where
      go : (p : Maybe Part) → IfSome p (Held b) → Std.is_some p ≡ true → (x : Pack) × (pack_there b p ≡ some x)
      go None h t = absurd (false≢true t)
      go (Some p) h t = (h.pack, there_is (OnePack p h.pack h.there))

  module _ (h : FoundHeld b f) (t : Std.is_some (get_or f.own 0 None) ≡ true) where
    goes_on : shown (summed (used_in b f.own f.any)) ≡ shown (from_spots b f.own f.any)
    unfolding from_spots
    goes_on = sym (ap given_first (first_taken h t).1)

    pub spots_add : {s : Sums} {r : Std.Result PackagingAnswer Refusal} → SumsFrom (used_in b f.own f.any) (Ok s) → Answers s r → AnswersFrom b f.own f.any r
    spots_add {s} {r} from a = record { is = go from.is ∙ goes_on }
      where
        go : Come (used_in b f.own f.any) (Ok s) → written r ≡ shown (summed (used_in b f.own f.any))
        go (Agree fit) = a.is (used_in b f.own f.any) fit.are

    pub spots_clash : {e : Refusal} → SumsFrom (used_in b f.own f.any) (Err e) → AnswersFrom b f.own f.any (Err e)
    spots_clash {e} from = record { is = go e from.is ∙ goes_on }
      where
        go : (e : Refusal) → Come (used_in b f.own f.any) (Err e) → written (Err e) ≡ shown (summed (used_in b f.own f.any))
        go e (Clash c) = clash_refused (used_in b f.own f.any) c
