-- One record more.
use Prim.Native.Nat.{ℕ, ◌<◌}
use mathlib.Core.Path.{◌≡◌, refl, sym, ◌∙◌, ap}
use mathlib.Core.Bool.{Bool, true, false, ◌&&◌}
use mathlib.Core.List.{List, [], ◌∷◌, ◌++◌, map, append-nil, append_assoc}
use Rattle.std.specs.Prelude.{Ok, Err}
use lib.Bits.{bit_or}
use lib.IntN.{ℤ, pos, ◌+ℤ◌}
use lib.ListN.{get_or}
use Rattle.rules.specs.Lists.{all}
use Rattle.rules.specs.Book.{Pack}
use Rattle.rules.specs.BookLayout.{eight, no_unit}
use Rattle.rules.specs.Packaging.{unit_in, units_agree, three}
use Rattle.rules.specs.declared.Refusal.TheVariants.{UnfitPackaging}
use Rattle.rules.proofs.TestLaws.{and_true, and_false}
use Rattle.rules.proofs.PackagingLaws.{unit_after, goes_with, present_more, value_more, unit_more, agree_more}
use Rattle.layout.specs.Ensures.{Says}
use Rattle.records.specs.declared.packagings.Packing.{Packing}
use Rattle.records.specs.Ensures.{units_in, pack_in, PackIs}
use Rattle.packed.specs.declared.sums.Units.{Units}
use Rattle.packed.specs.declared.sums.Sums.{Sums}
use Rattle.packed.specs.Sums.{letters_in, UnitsOf, UnitsAfter, units_go, units_fit, most_before, AddableValues, ValuesAfter, Added, AddedTo, AddedFitting, Fits, Clashes, SumsAre, SumsFit, Within}

module _ (s : Sums) (p : Packing) {new : Units} {goes : Bool} (of : UnitsOf p.units new) (go : Says (units_go s.units new) goes) where
  fit_is : units_fit s p ≡ goes
  fit_is = sym (ap (λ (ls : List (List ℕ)). all (λ i. goes_with (get_or (letters_in s.units) i no_unit) (get_or ls i no_unit)) three) of.is) ∙ go.is

  module _ (l : p.present < 256) {values : List ℤ} {units : Units} (v : ValuesAfter s.values p.values values) (after : UnitsAfter s.units new units) where
    units_are : letters_in units ≡ map (λ i. unit_after (get_or (letters_in s.units) i no_unit) (get_or (units_in p.units) i no_unit)) three
    units_are = after.is ∙ ap (λ (ls : List (List ℕ)). map (λ i. unit_after (get_or (letters_in s.units) i no_unit) (get_or ls i no_unit)) three) of.is

    pub added : {agree : Bool} → agree ≡ (s.agree && goes) → Added s p (record { present = bit_or s.present p.present; values = values; units = units; agree = agree })
    added h = record {
      small = l;
      present = refl;
      values = v;
      units = units_are;
      agree = h ∙ ap (λ (b : Bool). s.agree && b) (sym fit_is);
    }

    pub fitting_added : goes ≡ true → AddedFitting s p (Ok (record { present = bit_or s.present p.present; values = values; units = units; agree = s.agree }))
    fitting_added e =
        Fits (record {
          small = l;
          present = refl;
          values = v;
          units = units_are;
          goes = fit_is ∙ e;
          agree = refl;
        })

  pub not_added : goes ≡ false → AddedFitting s p (Err UnfitPackaging)
  not_added e = Clashes (fit_is ∙ e)

-- two tests of each are one
both_all : {A : Type 0} (p q : A → Bool) (xs : List A) → (all p xs && all q xs) ≡ all (λ x. p x && q x) xs
both_all p q [] = refl
both_all p q (x ∷ xs) = swap (p x) (all p xs) (q x) (all q xs) ∙ ap (λ (b : Bool). (p x && q x) && b) (both_all p q xs)
  where
    swap : (a b c d : Bool) → ((a && b) && (c && d)) ≡ ((a && c) && (b && d))
    swap true true c d = refl
    swap true false true d = refl
    swap true false false d = refl
    swap false b c d = refl

-- whether their units agree, with one record more
agree_step : (us : List Pack) (x : Pack) → all (units_agree (us ++ (x ∷ []))) three ≡ (all (units_agree us) three && all (λ i. goes_with (unit_in us i) (get_or x.units i no_unit)) three)
agree_step us x =
    (λ k. agree_more us x 0 k && (agree_more us x 1 k && (agree_more us x 2 k && true)))
    ∙ sym (both_all (units_agree us) (λ i. goes_with (unit_in us i) (get_or x.units i no_unit)) three)

-- once they clash, no record more brings them together
pub clash_stays : (us more : List Pack) → all (units_agree us) three ≡ false → all (units_agree (us ++ more)) three ≡ false
clash_stays us [] e = ap (λ (ps : List Pack). all (units_agree ps) three) (append-nil us) ∙ e
clash_stays us (x ∷ more) e =
    ap (λ (ps : List Pack). all (units_agree ps) three) (sym (append_assoc us (x ∷ []) more))
    ∙ clash_stays (us ++ (x ∷ [])) more (agree_step us x ∙ ap (λ (b : Bool). b && all (λ i. goes_with (unit_in us i) (get_or x.units i no_unit)) three) e)

module _ (t : List ℕ) {us : List Pack} {s : Sums} (p : Packing) (h : SumsAre us s) where
  fit_step : all (units_agree (us ++ (pack_in t p ∷ []))) three ≡ (all (units_agree us) three && units_fit s p)
  unfolding pack_in
  fit_step =
      agree_step us (pack_in t p)
      ∙ (λ k. all (units_agree us) three && all (λ i. goes_with (get_or (sym h.units k) i no_unit) (get_or (units_in p.units) i no_unit)) three)

  pub clash_more : units_fit s p ≡ false → all (units_agree (us ++ (pack_in t p ∷ []))) three ≡ false
  clash_more e = fit_step ∙ ap (λ (b : Bool). all (units_agree us) three && b) e ∙ and_false (all (units_agree us) three)

  pub sums_more : {r : Sums} → Added s p r → SumsAre (us ++ (pack_in t p ∷ [])) r
  unfolding pack_in
  sums_more {r} a =
      let x : Pack = pack_in t p in
      record {
        present = a.present ∙ ap (λ (n : ℕ). bit_or n p.present) h.present ∙ sym (present_more us x a.small);
        values =
            a.values.is
            ∙ ap (λ (zs : List ℤ). map (λ i. get_or zs i (pos 0) +ℤ get_or p.values i (pos 0)) eight) h.values
            ∙ sym (λ k. value_more us x 0 k ∷ value_more us x 1 k ∷ value_more us x 2 k ∷ value_more us x 3 k ∷ value_more us x 4 k ∷ value_more us x 5 k ∷ value_more us x 6 k ∷ value_more us x 7 k ∷ []);
        units =
            a.units
            ∙ ap (λ (ls : List (List ℕ)). map (λ i. unit_after (get_or ls i no_unit) (get_or (units_in p.units) i no_unit)) three) h.units
            ∙ sym (λ k. unit_more us x 0 k ∷ unit_more us x 1 k ∷ unit_more us x 2 k ∷ []);
        agree = a.agree ∙ ap (λ (b : Bool). b && units_fit s p) h.agree ∙ sym fit_step;
      }

-- a record that is added because it fits is added
fitting_is : {s r : Sums} {p : Packing} → AddedTo s p r → Added s p r
fitting_is {s} a = record {
  small = a.small;
  present = a.present;
  values = a.values;
  units = a.units;
  agree = a.agree ∙ sym (ap (λ (b : Bool). s.agree && b) a.goes ∙ and_true s.agree);
}

pub fitting_more : (t : List ℕ) {us : List Pack} {s r : Sums} (p : Packing) → SumsFit us s → AddedTo s p r → SumsFit (us ++ (pack_in t p ∷ [])) r
fitting_more t p h a = record {
  are = sums_more t p h.are (fitting_is a);
  agree = fit_step t p h.are ∙ (λ k. h.agree k && a.goes k);
}

pub room_left : {t : List ℕ} {s : Sums} {p : Packing} → Within most_before s → PackIs t p → AddableValues s.values p.values
room_left w h = record { held_in = w.each; new_in = h.values_in }
