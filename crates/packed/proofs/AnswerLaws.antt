-- From the sums to the answer: gross weight, signs, and what the caller reads.
use Prim.Native.Nat.{ℕ, ◌*◌, ◌≤◌, ◌<◌}
use native.Mathlib.Nat.{mul-le-mul}
use mathlib.Core.Path.{◌≡◌, sym, ◌∙◌, ap}
use mathlib.Core.Bool.{Bool, true, false, ◌&&◌, cond, and-true, and_assoc}
use mathlib.Core.List.{List, [], ◌∷◌}
use native.Mathlib.Omega.{arith}
use lib.IntN.{ℤ, pos, nat_abs, ◌+ℤ◌, ◌*ℤ◌}
use lib.ListN.{get_or, replicate}
use lib.Signed.{non_neg}
use mir.Syntax.{w64}
use mir.Val.{SFits}
use mir.ValLaws.{to_z-of_z}
use Rattle.integers.proofs.Signed.{add64, mul64, abs_mul}
use Rattle.std.specs.Prelude.{Ok, Err}
use Rattle.rules.specs.Lists.{all, join, keep, bit_set}
use Rattle.rules.specs.Book.{Pack}
use Rattle.rules.specs.BookLayout.{has, eight}
use Rattle.rules.specs.Refusals.{◌>>=◌, done, refused, refuse_unless}
use Rattle.rules.specs.Packaging.{present_in, value_in, units_agree, gross_in, three, tare, net, items, packed_of, shown}
use Rattle.rules.specs.declared.PackagingAnswer.{PackagingAnswer}
use Rattle.rules.specs.declared.Refusal.TheVariants.{UnfitPackaging}
use Rattle.rules.proofs.Promises.{refused_packaging}
use Rattle.rules.proofs.PackagingLaws.{set_has}
use Rattle.layout.specs.Ensures.{Says}
use Rattle.packed.specs.declared.sums.Sums.{Sums}
use Rattle.packed.specs.Sums.{letters_in, SumsAre, most_sum, Within}
use Rattle.packed.specs.Answer.{GrossIs, none_below, summed, written, Answers}
use Rattle.packed.proofs.ValueLaws.{kept, kept_is}

pub refusal_is : (n : ℕ) → ◌≡◌ {A = PackagingAnswer} (record {
  gross = pos 0;
  values = replicate 8 (pos 0);
  number = n;
  present = 0;
  units = replicate 9 0;
}) (shown (refused n))
refusal_is n = sym (refused_packaging n)

module _ (s : Sums) where
  abbrev value : ℕ → ℤ
  value i = get_or s.values i (pos 0)

  -- ---- the gross weight

  -- by the tests of the three presence bits
  three_present : {a b c : Bool} → Says (has 4 s.present) a → Says (has 5 s.present) b → Says (has 6 s.present) c
      → all (λ i. has i s.present) (tare ∷ net ∷ items ∷ []) ≡ (a && b && c)
  three_present a b c = rw (a.is, b.is, c.is) (simp (and_assoc, and-true))

  module _ {a b c : Bool} (p : Says (has 4 s.present) a) (q : Says (has 5 s.present) b) (r : Says (has 6 s.present) c) where
    pub gross_none : (a && b && c) ≡ false → GrossIs s (pos 0)
    gross_none e = record { is = sym (ap (λ (t : Bool). cond t (value tare +ℤ value net *ℤ value items) (pos 0)) (three_present p q r ∙ e)) }

  module _ (w : Within most_sum s) where
    value_kept : (i : ℕ) → kept (get_or s.values i (pos 0)) ≡ get_or s.values i (pos 0)
    value_kept i = kept_is (value i) most_sum (w.each i) tt

    pub product_fits : (i j : ℕ) → SFits w64 (kept (get_or s.values i (pos 0)) *ℤ kept (get_or s.values j (pos 0)))
    product_fits i j = rw (value_kept i, value_kept j) (mul64 (value i) (value j) most_sum most_sum (w.each i) (w.each j) tt)

    product_is : (i j : ℕ) → kept (kept (get_or s.values i (pos 0)) *ℤ kept (get_or s.values j (pos 0))) ≡ value i *ℤ value j
    product_is i j = to_z-of_z w64 _ (product_fits i j) ∙ (λ t. value_kept i t *ℤ value_kept j t)

    product_near : (i j : ℕ) → nat_abs (value i *ℤ value j) ≤ most_sum * most_sum
    product_near i j = omega (arith, abs_mul (value i) (value j), mul-le-mul (w.each i) (w.each j))

    pub gross_fits : (k i j : ℕ) → SFits w64 (kept (get_or s.values k (pos 0)) +ℤ kept (kept (get_or s.values i (pos 0)) *ℤ kept (get_or s.values j (pos 0))))
    gross_fits k i j = rw (product_is i j, value_kept k) (add64 (value k) (value i *ℤ value j) most_sum (most_sum * most_sum) (w.each k) (product_near i j) tt)

    pub gross_given : {a b c : Bool} → Says (has 4 s.present) a → Says (has 5 s.present) b → Says (has 6 s.present) c → (a && b && c) ≡ true
        → GrossIs s (kept (kept (get_or s.values 4 (pos 0)) +ℤ kept (kept (get_or s.values 5 (pos 0)) *ℤ kept (get_or s.values 6 (pos 0)))))
    gross_given p q r e = record {
      is =
          to_z-of_z w64 _ (gross_fits 4 5 6)
          ∙ (λ t. value_kept 4 t +ℤ product_is 5 6 t)
          ∙ sym (ap (λ (t : Bool). cond t (value tare +ℤ value net *ℤ value items) (pos 0)) (three_present p q r ∙ e));
    }

-- ---- the answer

module _ {us : List Pack} {s : Sums} (are : SumsAre us s) where
  below_is : none_below s.values ≡ all (λ i. non_neg (value_in us i)) eight
  below_is = ap none_below are.values

  gross_is : {g : ℤ} → GrossIs s g → g ≡ gross_in us
  gross_is h =
      h.is
      ∙ (λ i.
      cond (all (λ k. has k (are.present i)) (tare ∷ net ∷ items ∷ []))
      (get_or (are.values i) tare (pos 0) +ℤ get_or (are.values i) net (pos 0) *ℤ get_or (are.values i) items (pos 0)) (pos 0))
      ∙ (λ i. cond (has_is tare (omega arith) i && (has_is net (omega arith) i && (has_is items (omega arith) i && true))) (value_in us tare +ℤ value_in us net *ℤ value_in us items) (pos 0))
    where
      has_is : (k : ℕ) → k < 8 → has k (bit_set (keep (present_in us) eight)) ≡ present_in us k
      has_is = set_has (present_in us)

  given : {g : ℤ} → GrossIs s g → (s.agree && none_below s.values) ≡ true
      → ◌≡◌ {A = PackagingAnswer} (record {
        gross = g;
        values = s.values;
        number = 0;
        present = s.present;
        units = join (letters_in s.units);
      }) (shown (summed us))
  unfolding summed shown packed_of
  given {g} h e =
      let t : (all (units_agree us) three && all (λ i. non_neg (value_in us i)) eight) ≡ true = sym (λ i. are.agree i && below_is i) ∙ e in
      (λ i. record {
        gross = gross_is h i;
        values = are.values i;
        number = 0;
        present = are.present i;
        units = join (are.units i);
      })
      ∙ sym (ap (λ (b : Bool). shown (refuse_unless 11 b >>= λ _. done (packed_of us))) t)

  refused_11 : (s.agree && none_below s.values) ≡ false → refused 11 ≡ summed us
  unfolding summed
  refused_11 e = sym (ap (λ (b : Bool). refuse_unless 11 b >>= λ _. done (packed_of us)) (sym (λ i. are.agree i && below_is i) ∙ e))

module _ (s : Sums) {b : Bool} (t : Says (none_below s.values) b) where
  pub answer_given : {g : ℤ} → GrossIs s g → (s.agree && b) ≡ true
      → Answers s (Ok (record {
        gross = g;
        values = s.values;
        number = 0;
        present = s.present;
        units = join (letters_in s.units);
      }))
  answer_given h e = record { is = λ us are. given are h (ap (λ (x : Bool). s.agree && x) t.is ∙ e) }

  pub answer_refused : (s.agree && b) ≡ false → Answers s (Err UnfitPackaging)
  answer_refused e = record { is = λ us are. ap shown (refused_11 are (ap (λ (x : Bool). s.agree && x) t.is ∙ e)) }

-- records whose units clash come to the same
pub clash_refused : (us : List Pack) → all (units_agree us) three ≡ false → written (Err UnfitPackaging) ≡ shown (summed us)
unfolding summed
clash_refused us e = sym (ap (λ (b : Bool). shown (refuse_unless 11 (b && all (λ i. non_neg (value_in us i)) eight) >>= λ _. done (packed_of us))) e)
