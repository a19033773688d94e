-- The names that were met: each stands at its number, and one more comes behind them.
use Prim.Native.Nat.{ℕ, zero, suc, ◌+◌, ◌-◌, ◌≤◌, ◌<◌}
use mathlib.Core.Path.{◌≡◌, refl, sym, ◌∙◌, ap}
use mathlib.Core.Bool.{Bool, true, false, ◌||◌, cond, false≢true}
use mathlib.Core.List.{List, [], ◌∷◌, ◌++◌}
use native.Mathlib.Omega.{arith}
use native.Mathlib.Decide.{dec_lt}
use lib.ListN.{length, get_or, length-append}
use lib.Seq.{get_or_at}
use Rattle.rules.specs.Lists.{same}
use Rattle.rules.proofs.ListLaws.{same_eq, same_refl}
use Rattle.file_rules.specs.PriceLine.{is_empty}
use Rattle.file_rules.specs.PriceFile.{place_in}
use Rattle.file_rules.proofs.NumberingLaws.{seen, after, place_seen, place_new}
use Rattle.reading.specs.Rows.{number_of}
use Rattle.reading.proofs.RecordLaws.{place_low}

abbrev Names : Type 0
Names = List (List ℕ)

pub get_d_left : {A : Type 0} (xs ys : List A) (i : ℕ) (d : A) → i < length xs → get_or (xs ++ ys) i d ≡ get_or xs i d
get_d_left [] ys i d h = absurd (omega arith)
get_d_left (x ∷ xs) ys zero d h = refl
get_d_left (x ∷ xs) ys (suc i) d h = get_d_left xs ys i d (omega arith)

or_true : (a : Bool) → (a || true) ≡ true
or_true true = refl
or_true false = refl

seen_there : (met : Names) (i : ℕ) → i < length met → seen met (get_or met i []) ≡ true
seen_there [] i h = absurd (omega arith)
seen_there (y ∷ s) zero h = ap (λ (b : Bool). b || seen s y) (same_refl y)
seen_there (y ∷ s) (suc i) h = ap (λ (b : Bool). same (get_or s i []) y || b) (seen_there s i (omega arith)) ∙ or_true (same (get_or s i []) y)

pub seen_at : (met : Names) (i : ℕ) (x : List ℕ) → i < length met → get_or met i [] ≡ x → seen met x ≡ true
seen_at met i x h e = ap (seen met) (sym e) ∙ seen_there met i h

-- a name stands at its place
pub place_at : (met : Names) (x : List ℕ) → seen met x ≡ true → get_or met (place_in met x - 1) [] ≡ x
unfolding place_in
place_at [] x h = absurd (false≢true h)
place_at (y ∷ s) x h = by (same x y) refl (place_at s x)
  where
    by : (b : Bool) → same x y ≡ b → (seen s x ≡ true → get_or s (place_in s x - 1) [] ≡ x)
        → get_or (y ∷ s) (cond (same x y) 1 (suc (place_in s x)) - 1) [] ≡ x
    by true e k = ap (λ (b : Bool). get_or (y ∷ s) (cond b 1 (suc (place_in s x)) - 1) []) e ∙ sym (same_eq x y e)
    by false e k =
        let l : 1 ≤ place_in s x = place_low s x in
        let i : suc (place_in s x) - 1 ≡ suc (place_in s x - 1) = omega arith in
        ap (λ (b : Bool). get_or (y ∷ s) (cond b 1 (suc (place_in s x)) - 1) []) e
        ∙ (ap (λ (n : ℕ). get_or (y ∷ s) n []) i ∙ k (ap (λ (b : Bool). b || seen s x) (sym e) ∙ h))

-- each stands there first
abbrev pub Firsts : Names → Type 0
Firsts met = (i : ℕ) → i < length met → place_in met (get_or met i []) ≡ suc i

module _ (met : Names) (x : List ℕ) where
  pub one_longer : length (met ++ (x ∷ [])) ≡ length met + 1
  one_longer = length-append met (x ∷ [])

  pub firsts_more : Firsts met → seen met x ≡ false → Firsts (met ++ (x ∷ []))
  firsts_more f h i l = by (dec_lt i (length met))
    where
      by : Dec (i < length met) → place_in (met ++ (x ∷ [])) (get_or (met ++ (x ∷ [])) i []) ≡ suc i
      by (yes d) =
          ap (place_in (met ++ (x ∷ []))) (get_d_left met (x ∷ []) i [] d)
          ∙ (place_seen met (x ∷ []) (get_or met i []) (seen_there met i d) ∙ f i d)
      by (no d) =
          let e : length met ≡ i = omega (arith, one_longer) in
          ap (place_in (met ++ (x ∷ []))) (get_or_at met x [] [] i e) ∙ (place_new met [] x h ∙ ap suc e)

  -- ---- the number of a name

  pub number_blank : is_empty x ≡ true → (number_of met x ≡ 0) × (after met x ≡ met)
  number_blank e = (
    ap (λ (b : Bool). cond b 0 (place_in (met ++ (x ∷ [])) x)) e,
    ap (λ (b : Bool). cond (b || seen met x) met (met ++ (x ∷ []))) e,
  )

  pub number_seen : is_empty x ≡ false → seen met x ≡ true → (number_of met x ≡ place_in met x) × (after met x ≡ met)
  number_seen e h = (
    ap (λ (b : Bool). cond b 0 (place_in (met ++ (x ∷ [])) x)) e ∙ place_seen met (x ∷ []) x h,
    (λ i. cond (e i || h i) met (met ++ (x ∷ []))),
  )

  pub number_new : is_empty x ≡ false → seen met x ≡ false → (number_of met x ≡ suc (length met)) × (after met x ≡ met ++ (x ∷ []))
  number_new e h = (
    ap (λ (b : Bool). cond b 0 (place_in (met ++ (x ∷ [])) x)) e ∙ place_new met [] x h,
    (λ i. cond (e i || h i) met (met ++ (x ∷ []))),
  )

  -- one that has a number is not blank
  pub not_blank : 0 < number_of met x → is_empty x ≡ false
  not_blank h = by (is_empty x) refl
    where
      by : (b : Bool) → is_empty x ≡ b → is_empty x ≡ false
      by true e = absurd (omega (arith, (number_blank e).0))
      by false e = e
