-- How long a number is whose values are filled to their widths.
use Prim.Native.Nat.{ℕ, zero, suc, ◌+◌, ◌*◌, ◌-◌, ◌≤◌}
use mathlib.Core.Path.{◌≡◌, refl, sym, ◌∙◌, ap, ap₂, subst}
use mathlib.Core.Bool.{Bool, ◌&&◌, not}
use mathlib.Core.List.{List, [], ◌∷◌, ◌++◌, map}
use mathlib.Core.Option.{Option, some, none, some-injective}
use native.Mathlib.Omega.{arith}
use native.Mathlib.Nat.{mul-suc}
use lib.Dec.{eqb}
use borrow.Author.Tests.{ne_eqb}
use lib.ListN.{length, length-append, length-map}
use Rattle.rules.specs.Lists.{join_with, cons_some, gather, keep, cons_if, is_some}
use Rattle.rules.specs.Book.{Scheme}
use Rattle.rules.specs.Question.{Property, Question, question_of}
use Rattle.rules.specs.FinalNumber.{hidden_run, stated, shown_of, separator_of, behind, number_by}
use Rattle.rules.proofs.ListLaws.{All}
use Rattle.layout.specs.Counted.{values_at, counted_at}
use Rattle.layout.proofs.CountedLaws.{walk_step}
use Rattle.properties.specs.Properties.{property_stop, properties_at, PropertiesStand}
use Rattle.properties.proofs.ReadLaws.{property_fits}
use Rattle.question.proofs.AskLaws.{ask_parts}
use Rattle.values.proofs.ValueLaws.{shown_wide}

-- ---- what is counted

-- every property is shown, but a hidden one where the scheme's visibility is 0
abbrev pub is_shown : Scheme → Property → Bool
is_shown s p = not (eqb p.state 1 && eqb s.visibility 0)

abbrev pub widths_shown : Scheme → List Property → List ℕ
widths_shown s ps = map (λ p. p.width) (keep (is_shown s) ps)

abbrev pub total : List ℕ → ℕ
total [] = 0
total (n ∷ ns) = n + total ns

-- behind the base number: nothing, or the number separator, the widths, and value separators between them
abbrev pub behind_base : Scheme → List ℕ → ℕ
behind_base s [] = 0
behind_base s (w ∷ ws) = length (separator_of s.number_separator) + (total (w ∷ ws) + length s.value_separator * length ws)

-- ---- values joined

joined_long : (sep v : List ℕ) (vs : List (List ℕ)) → length (join_with sep (v ∷ vs)) ≡ total (map length (v ∷ vs)) + length sep * length vs
joined_long sep v [] = omega arith
joined_long sep v (w ∷ ws) =
    omega
    (arith, length-append v (sep ++ join_with sep (w ∷ ws)), length-append sep (join_with sep (w ∷ ws)), joined_long sep w ws, mul-suc (length sep) (length ws))

behind_long : (number : List ℕ) (s : Scheme) (vs : List (List ℕ)) → length (behind number s vs) ≡ length number + behind_base s (map length vs)
behind_long number s [] = omega arith
behind_long number s (v ∷ vs) =
    let sep = separator_of s.number_separator in
    let values = join_with s.value_separator (v ∷ vs) in
    let long : length values ≡ total (map length (v ∷ vs)) + length s.value_separator * length (map length vs) = rw length-map (joined_long s.value_separator v vs) in
    length-append number (sep ++ values) ∙ ap (λ (n : ℕ). length number + n) (length-append sep values ∙ ap (λ (n : ℕ). length sep + n) long)

-- ---- each as long as it is wide

abbrev pub Fits : Property → Type 0
Fits p = length p.value ≤ p.width

-- the test tells which are shown
is_shown_lem : (s : Scheme) (p : Property) → is_shown s p ≡ is_some (shown_of s p)
is_shown_lem s p = by p.state
  where
    run : (visibility : ℕ) → not (eqb visibility 0) ≡ is_some (hidden_run visibility p.width s.hidden)
    run zero = refl
    run (suc n) = rw (ne_eqb (suc n) 0 (λ i. omega arith))

    by : (state : ℕ) → not (eqb state 1 && eqb s.visibility 0) ≡ is_some (stated s state p)
    by zero = refl
    by (suc zero) = run s.visibility
    by (suc (suc state)) = rw (ne_eqb (suc (suc state)) 1 (λ i. omega arith))

module _ (s : Scheme) (filled : s.trim ≡ 0) where
  one_wide : (p : Property) → Fits p → (vs : List (List ℕ)) (ps : List Property) → map length vs ≡ map (λ p. p.width) ps
      → map length (cons_some (shown_of s p) vs) ≡ map (λ p. p.width) (cons_if (is_shown s p) p ps)
  one_wide p fits vs ps e = rw (is_shown_lem s p) (go (shown_of s p) (λ v h. (shown_wide s p fits v h).filled filled))
    where
      go : (o : Option (List ℕ)) → ((v : List ℕ) → o ≡ some v → length v ≡ p.width) → map length (cons_some o vs) ≡ map (λ p. p.width) (cons_if (is_some o) p ps)
      go none h = e
      go (some v) h = ap₂ (λ (n : ℕ) ns. n ∷ ns) (h v refl) e

  all_wide : (ps : List Property) → All Fits ps → map length (gather (shown_of s) ps) ≡ widths_shown s ps
  all_wide [] fits = refl
  all_wide (p ∷ ps) fits = one_wide p fits.0 (gather (shown_of s) ps) (keep (is_shown s) ps) (all_wide ps fits.1)

  pub filled_long : (number : List ℕ) (ps : List Property) → All Fits ps → length (number_by number ps s) ≡ length number + behind_base s (widths_shown s ps)
  unfolding number_by
  filled_long number ps fits = behind_long number s (gather (shown_of s) ps) ∙ ap (λ ws. length number + behind_base s ws) (all_wide ps fits)

-- ---- an accepted question's values are no longer than they are wide

values_fit : (q : List ℕ) (n at : ℕ) → PropertiesStand q at n → All Fits (properties_at q at n)
unfolding values_at
values_fit q zero at p = tt
values_fit q (suc n) at p =
    let step = walk_step p (omega arith) in
    let e : suc n - 1 ≡ n = omega arith in
    (property_fits step.here, values_fit q n (property_stop q at) (rw e at step.rest))

pub question_fits : (q : List ℕ) (x : Question) → question_of q ≡ some x → All Fits x.properties
unfolding counted_at
question_fits q x e =
    let parts = ask_parts q (ap is_some e) in
    subst (λ (y : Question). All Fits y.properties) (some-injective _ x (sym parts.is ∙ e)) (values_fit q _ _ parts.properties)
