-- Signs by their number.
use Rattle.std.proofs.Common.{◌≡◌, ℕ, suc, ◌<◌, ◌≤◌, refl, arith, subst}
use native.Mathlib.Decide.{dec_lt}
use Rattle.relation_truth.specs.declared.comparing.Sign.TheVariants.{Below, AtMost, Equal, Unequal, AtLeast, Above}
use Rattle.relation_truth.specs.Values.{SignIs}
use Rattle.relation_rules.specs.Truth.{holds}

-- one of two numbers
two_of : (P : ℕ → Type 0) (n : ℕ) → P n → P (suc n) → (k : ℕ) → n ≤ k → k < suc (suc n) → P k
two_of P n x y k l h = go (dec_lt k (suc n))
  where
    go : Dec (k < suc n) → P k
    go (yes g) = subst P (omega arith) x
    go (no g) = subst P (omega arith) y

module _ (k : ℕ) where
  pub is_below : 1 ≤ k → k ≤ 2 → SignIs k Below
  unfolding holds
  is_below l h = two_of (λ n. SignIs n Below) 1 (record { is = λ o. refl; least = omega arith; most = omega arith }) (record { is = λ o. refl; least = omega arith; most = omega arith }) k l (omega arith)

  pub is_most : 3 ≤ k → k ≤ 4 → SignIs k AtMost
  unfolding holds
  is_most l h = two_of (λ n. SignIs n AtMost) 3 (record { is = λ o. refl; least = omega arith; most = omega arith }) (record { is = λ o. refl; least = omega arith; most = omega arith }) k l (omega arith)

  pub is_equal : 5 ≤ k → k ≤ 6 → SignIs k Equal
  unfolding holds
  is_equal l h = two_of (λ n. SignIs n Equal) 5 (record { is = λ o. refl; least = omega arith; most = omega arith }) (record { is = λ o. refl; least = omega arith; most = omega arith }) k l (omega arith)

  pub is_unequal : 7 ≤ k → k ≤ 8 → SignIs k Unequal
  unfolding holds
  is_unequal l h = two_of (λ n. SignIs n Unequal) 7 (record { is = λ o. refl; least = omega arith; most = omega arith }) (record { is = λ o. refl; least = omega arith; most = omega arith }) k l (omega arith)

  pub is_least : 9 ≤ k → k ≤ 11 → SignIs k AtLeast
  unfolding holds
  is_least l h = go (dec_lt k 10)
    where
      go : Dec (k < 10) → SignIs k AtLeast
      go (yes g) = let z : 9 ≡ k = omega arith in subst (λ n. SignIs n AtLeast) z (record { is = λ o. refl; least = omega arith; most = omega arith })
      go (no g) = two_of (λ n. SignIs n AtLeast) 10 (record { is = λ o. refl; least = omega arith; most = omega arith }) (record { is = λ o. refl; least = omega arith; most = omega arith }) k (omega arith) (omega arith)

  pub is_above : 12 ≤ k → k ≤ 13 → SignIs k Above
  unfolding holds
  is_above l h = two_of (λ n. SignIs n Above) 12 (record { is = λ o. refl; least = omega arith; most = omega arith }) (record { is = λ o. refl; least = omega arith; most = omega arith }) k l (omega arith)
