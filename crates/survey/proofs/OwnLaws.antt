-- What a price record starts with decides whether it is one of the article: another length, or another ending, and it is not.
use Prim.Native.Nat.{ℕ, zero, suc, ◌+◌, ◌-◌, ◌≤◌, ◌<◌}
use mathlib.Core.Path.{◌≡◌, refl, sym, ◌∙◌, ap}
use mathlib.Core.Bool.{Bool, true, false}
use mathlib.Core.List.{List, [], ◌∷◌}
use native.Mathlib.Omega.{arith}
use lib.ListN.{length, get_or, take, drop, length-drop}
use lib.Seq.{take-take, length-take-le}
use Rattle.rules.specs.Lists.{same}
use Rattle.rules.specs.Bytes.{big}
use Rattle.rules.specs.Layout.{whole}
use Rattle.rules.specs.BookLayout.{kinded}
use Rattle.rules.proofs.ListLaws.{same_eq}
use Rattle.layout.specs.Reads.{part, name_stop}
use Rattle.layout.specs.Ensures.{Number, Says}
use Rattle.records.specs.Asks.{OfKind}
use Rattle.records.specs.Tests.{is_row}
use Rattle.records.proofs.FieldLaws.{first_in, starts_is}
use Rattle.records.proofs.PriceLaws.{no_row}
use Rattle.survey.specs.Own.{ending, EndingIs}

-- ---- the ending of an article

pub ending_none : (article : List ℕ) → length article < 1 → EndingIs article 512
ending_none [] h = record { is = refl }
ending_none (x ∷ xs) h = absurd (omega arith)

pub ending_one : (article : List ℕ) {n top : ℕ} → 1 ≤ length article → length article < 2 → Number (get_or article 0 0) top n → EndingIs article (256 + n)
ending_one [] l h p = absurd (omega arith)
ending_one (x ∷ []) l h p = record { is = omega (arith, p.is) }
ending_one (x ∷ (y ∷ xs)) l h p = absurd (omega arith)

pub ending_more : (article : List ℕ) {n top : ℕ} → 2 ≤ length article → Number (big (take 2 (drop (length article - 2) article))) top n → EndingIs article n
ending_more article h p =
    let e : length article ≡ suc (suc (length article - 2)) = omega arith in
    record { is = p.is ∙ ap (λ (k : ℕ). big (take 2 (drop k (2 ∷ (length article ∷ article))))) (sym e) }

-- ---- the start of a record

-- the last two bytes of a start are where it ends
two_of : (n : ℕ) (t : List ℕ) → take 2 (drop n (take (suc (suc n)) t)) ≡ take 2 (drop n t)
two_of zero t = take-take 2 2 t (omega arith)
two_of (suc n) [] = refl
two_of (suc n) (x ∷ t) = two_of n t

ending_there : (t article : List ℕ) → 1 < length t → get_or t 0 0 ≡ 2 → get_or t 1 0 ≡ length article → take (length article) (drop 2 t) ≡ article
    → big (take 2 (drop (length article) t)) ≡ ending article
ending_there [] article l k n e = absurd (omega arith)
ending_there (x ∷ []) article l k n e = absurd (omega arith)
ending_there (x ∷ (y ∷ t)) article l k n e =
    ap big (sym (two_of (length article) (x ∷ (y ∷ t)))) ∙ λ i. big (take 2 (drop (length article) (k i ∷ (n i ∷ e i))))

module _ (t article : List ℕ) (sort : ℕ) (p : OfKind 2 t) where
  fits : name_stop t 1 ≤ length t
  fits = first_in t 2 tt (record { ok = p.ok }) p.kind {x = name_stop t 1 + 1} (record { is = refl; below = omega arith })

  size : name_stop t 1 - 2 ≡ get_or t 1 0
  size = omega arith

  -- a price that starts with another number
  not_own : (take (get_or t 1 0) (drop 2 t) ≡ article → ⊥) → Says (is_row article sort (whole kinded t)) false
  not_own n = go (same (part t 2 (name_stop t 1)) article) refl
    where
      go : (b : Bool) → same (part t 2 (name_stop t 1)) article ≡ b → Says (is_row article sort (whole kinded t)) false
      go true e = absurd (n (ap (λ (k : ℕ). take k (drop 2 t)) (sym size) ∙ same_eq (part t 2 (name_stop t 1)) article e))
      go false e =
          no_row t article sort
          (starts_is t 2 tt (record { ok = p.ok }) p.kind {x = name_stop t 1 + 1} (record { is = refl; below = omega arith }) article (record { is = e })) refl

  module _ {n top : ℕ} (said : Number (get_or t 1 0) top n) where
    pub own_size : (n ≡ length article → ⊥) → Says (is_row article sort (whole kinded t)) false
    own_size d = not_own λ e. d (said.is ∙ sym (length-take-le (get_or t 1 0) (drop 2 t) (rw length-drop (omega (arith, fits)))) ∙ ap length e)

    module _ (e : n ≡ length article) where
      pub own_long : length article + 2 ≤ length t
      own_long = omega (arith, fits, said.is)

      pub own_ending : {x y m : ℕ} → EndingIs article x → Number (big (take 2 (drop (length article) t))) y m → (m ≡ x → ⊥) → Says (is_row article sort (whole kinded t)) false
      own_ending g h d =
          not_own λ f.
          d (h.is
          ∙ ending_there t article (omega (arith, fits)) p.kind (sym said.is ∙ e) (ap (λ (k : ℕ). take k (drop 2 t)) (sym (sym said.is ∙ e)) ∙ f)
          ∙ sym g.is)
