-- Names as a question has them: how long they are, and that they are read again from the bytes they are written as.
use Prim.Native.Nat.{ℕ, suc, ◌*◌, ◌≤◌}
use mathlib.Core.Path.{◌≡◌, refl, ◌∙◌, ap}
use mathlib.Core.Bool.{Bool, true, false, cond}
use mathlib.Core.List.{List, [], ◌∷◌, ◌++◌, append_assoc}
use mathlib.Core.Option.{some}
use native.Mathlib.Omega.{arith}
use lib.Dec.{eqb}
use lib.ListN.{length, length-append}
use Rattle.rules.specs.Lists.{between, all}
use Rattle.rules.specs.Layout.{Layout, and_then, ◌>>=◌, give, give_if, ◌such◌, bytes, times}
use Rattle.rules.specs.Bytes.{number, name, name_byte, bytes_of}
use Rattle.rules.specs.Question.{Granted, plain_factor, most_factor, granted_in}
use Rattle.rules.proofs.TestLaws.{and_left, and_right, between_high}
use Rattle.question.proofs.RedateLaws.{bytes_front}
use Rattle.relation_rules.specs.Truth.{grantable}
use Rattle.relation_rules.specs.Derived.{as_granted, name_in, names_in}

abbrev granted : List ℕ → ℕ → Granted
granted n f = record { name = n; factor = f }

-- what stands behind a name, with a factor or without
abbrev behind : Bool → List ℕ → Layout Granted
behind b v = cond b (number 2 such between 0 most_factor) (give plain_factor) >>= λ f. give (granted v f)

-- a name that a question can grant
module _ (n : List ℕ) (good : grantable n ≡ true) where
  name_again : (u : List ℕ) → name 1 20 (length n ∷ (n ++ u)) ≡ some (n, u)
  name_again u =
      ap (λ (c : Bool). and_then (give_if c (length n) (n ++ u)) (λ k. bytes k such all name_byte)) (and_left (between 1 20 (length n)) (all name_byte n) good)
      ∙ ap (λ o. and_then o (λ w. give_if (all name_byte w) w)) (bytes_front n u)
      ∙ ap (λ (c : Bool). give_if c n u) (and_right (between 1 20 (length n)) (all name_byte n) good)

  -- in either version
  granted_again : (version : ℕ) (u : List ℕ) → granted_in version (name_in version n ++ u) ≡ some (granted n plain_factor, u)
  granted_again version u = go (eqb version 2)
    where
      go : (b : Bool) → and_then (name 1 20 (length n ∷ ((n ++ cond b (bytes_of 2 plain_factor) []) ++ u))) (behind b) ≡ some (granted n plain_factor, u)
      go true =
          ap (λ (s : List ℕ). and_then (name 1 20 (length n ∷ s)) (behind true)) (append_assoc n (bytes_of 2 plain_factor) u)
          ∙ ap (λ o. and_then o (behind true)) (name_again (bytes_of 2 plain_factor ++ u))
      go false =
          ap (λ (s : List ℕ). and_then (name 1 20 (length n ∷ s)) (behind false)) (append_assoc n [] u)
          ∙ ap (λ o. and_then o (behind false)) (name_again u)

  name_short : (version : ℕ) → length (name_in version n) ≤ 23
  name_short version = go (eqb version 2)
    where
      go : (b : Bool) → suc (length (n ++ cond b (bytes_of 2 plain_factor) [])) ≤ 23
      go true = omega (arith, length-append n (bytes_of 2 plain_factor), between_high 1 20 (length n) (and_left (between 1 20 (length n)) (all name_byte n) good))
      go false = omega (arith, length-append n [], between_high 1 20 (length n) (and_left (between 1 20 (length n)) (all name_byte n) good))

module _ (version : ℕ) where
  pub names_again : (names : List (List ℕ)) → all grantable names ≡ true → (u : List ℕ)
      → times (length names) (granted_in version) (names_in version names ++ u) ≡ some (as_granted names, u)
  names_again [] good u = refl
  names_again (n ∷ ns) good u =
      let here = and_left (grantable n) (all grantable ns) good in
      let rest = and_right (grantable n) (all grantable ns) good in
      ap (times (suc (length ns)) (granted_in version)) (append_assoc (name_in version n) (names_in version ns) u)
      ∙ ap (λ o. and_then o (λ a. times (length ns) (granted_in version) >>= λ as'. give (a ∷ as'))) (granted_again n here version (names_in version ns ++ u))
      ∙ ap (λ o. and_then o (λ as'. give (granted n plain_factor ∷ as'))) (names_again ns rest u)

  pub names_short : (names : List (List ℕ)) → all grantable names ≡ true → length (names_in version names) ≤ 23 * length names
  names_short [] good = omega arith
  names_short (n ∷ ns) good =
      let here = and_left (grantable n) (all grantable ns) good in
      let rest = and_right (grantable n) (all grantable ns) good in
      omega (arith, length-append (name_in version n) (names_in version ns), name_short n here version, names_short ns rest)
