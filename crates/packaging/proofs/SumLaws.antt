-- What the used records come to: what stands at a spot, and place after place.
use Prim.Native.Nat.{ℕ, suc, ◌+◌, ◌-◌, ◌*◌, ◌≤◌, ◌<◌}
use mathlib.Core.Path.{◌≡◌, refl, sym, ◌∙◌, ap, subst}
use mathlib.Core.List.{List, [], ◌++◌, append_assoc, append-nil}
use mathlib.Core.Option.{Option, some, none}
use Rattle.std.specs.Prelude as Std
use Rattle.std.specs.Prelude.{Option as Maybe, Some, None, IfSome, Ok, Err}
use Rattle.std.specs.Option.{option_or}
use Rattle.std.specs.Iterator.{Yields}
use Rattle.std.specs.Iterator.Adapters.{zip_first, zip_second}
use Rattle.std.specs.Slice.Iter.{iter_rest}
use Rattle.std.proofs.Common.{Iter}
use Rattle.std.specs.declared.iter.Zip.{Zip}
use Rattle.std.proofs.iter.Yields.{fronts}
use Rattle.std.proofs.lemmas.Iterator.{zips}
use Rattle.std.proofs.lemmas.Slice.Zip.{zip_turn, zip_end}
use native.Mathlib.Omega.{arith}
use native.Mathlib.Decide.{dec_lt}
use lib.IntN.{pos, nat_abs}
use denote.Ref.{Bor}
use lib.Seq.{get_or-take}
use lib.ListN.{length, length-take, take, get_or, replicate, get_or-replicate, get_or-eq_default}
use Rattle.rules.specs.Lists.{all, is_some, cons_some}
use Rattle.rules.specs.Layout.{whole}
use Rattle.rules.specs.BookLayout.{kinded}
use Rattle.rules.specs.declared.Part.{Part}
use Rattle.rules.specs.declared.Refusal.{Refusal}
use Rattle.rules.specs.declared.Refusal.TheVariants.{UnfitPackaging}
use Rattle.rules.specs.Book.{PackagingRecord, Pack}
use Rattle.rules.specs.Packaging.{or_else, units_agree, three}
use Rattle.records.specs.declared.packagings.Packing.{Packing}
use Rattle.records.specs.Asks.{OfKind}
use Rattle.records.specs.Ensures.{bytes_in, pack_in, PackIs}
use Rattle.records.proofs.FieldLaws.{kind_byte}
use Rattle.packed.specs.declared.sums.Sums.{Sums}
use Rattle.packed.specs.Sums.{most_before, AddedFitting, Fits, Clashes, SumsFit, Within, nothing}
use Rattle.packed.proofs.SumLaws.{clash_more, clash_stays, fitting_more}
use Rattle.packaging.specs.Spots.{pack_held, Held, SpotIs, NoPack, OnePack, pack_there, AllHeld, used_from, used_in}
use Rattle.packaging.specs.Sums.{Come, Agree, Clash, WithSpot, SumsFrom}

-- ---- what stands at a spot

pub there_is : {b : List ℕ} {p : Maybe Part} {o : Option Pack} → SpotIs b p o → pack_there b p ≡ o
unfolding pack_there
there_is NoPack = refl
there_is (OnePack p x t) = ap pack_held t.is

held_there : {b : List ℕ} {p : Part} (h : Held b p) → pack_there b (Some p) ≡ some h.pack
held_there {p = p} h = there_is (OnePack p h.pack h.there)

pub held_is : {b : List ℕ} (p : Maybe Part) {o : Option Pack} → SpotIs b p o → IfSome p (Held b)
held_is None h = tt
held_is (Some p) (OnePack _ x t) = record { pack = x; there = t }

there : (b : List ℕ) (p : Part) {t : List ℕ} → t ≡ bytes_in b p → {x : Packing} → PackIs t x → pack_there b (Some p) ≡ some (pack_in t x)
unfolding pack_there
there b p e h = ap pack_held (ap (whole kinded) (sym e) ∙ h.is)

module _ {b : List ℕ} {p : Part} {t : List ℕ} (e : t ≡ bytes_in b p) where
  pub held_kind : Held b p → OfKind 4 t
  held_kind h = rw e (record { kind = kind_byte (bytes_in b p) (PackagingRecord h.pack) h.there.is; ok = ap is_some h.there.is })

  module _ {x : Packing} (h : PackIs t x) {s : Sums} where
    pub spot_added : {r : Std.Result Sums Refusal} → AddedFitting s x r → WithSpot b s (Some p) r
    spot_added (Fits {r = r} a) = record {
      is = λ us are. subst (λ (o : Option Pack). Come (us ++ cons_some o []) (Ok r)) (sym (there b p e h)) (Agree (fitting_more t x are a));
      near = a.values.near;
    }
    spot_added (Clashes c) = record {
      is = λ us are. subst (λ (o : Option Pack). Come (us ++ cons_some o []) (Err UnfitPackaging)) (sym (there b p e h)) (Clash (clash_more t x are.are c));
      near = tt;
    }

pub spot_empty : (b : List ℕ) (s : Sums) → WithSpot b s None (Ok s)
unfolding pack_there
spot_empty b s = record {
  is = λ us are. Agree (subst (λ (ps : List Pack). SumsFit ps s) (sym (append-nil us)) are);
  near = λ i. omega arith;
}

-- ---- the own one, or that of any article

first_held : (b : List ℕ) (own any : Maybe Part) → IfSome own (Held b) → IfSome any (Held b) → IfSome (option_or own any) (Held b)
first_held b None any h k = k
first_held b (Some p) any h k = h

first_there : (b : List ℕ) (own any : Maybe Part) → IfSome own (Held b) → pack_there b (option_or own any) ≡ or_else (pack_there b own) (pack_there b any)
unfolding pack_there
first_there b None any h = refl
first_there b (Some p) any h = held_there h ∙ sym (ap (λ (o : Option Pack). or_else o (pack_there b any)) (held_there h))

-- ---- place after place

-- the loop goes over both arrays at once: where it stands, and how often it turned
module _ (own any : List (Maybe Part)) (xs : List (Bor (Maybe Part) × Bor (Maybe Part))) {front : Iter (Maybe Part)} {z s : Zip (Iter (Maybe Part)) (Iter (Maybe Part))}
    (t u : Zip (Iter (Maybe Part)) (Iter (Maybe Part))) (r : Maybe (Bor (Maybe Part) × Bor (Maybe Part))) (e : s ≡ z) (f : zip_first z ≡ front) (g : iter_rest front ≡ take 33 own) (h : iter_rest (zip_second z) ≡ any)
    (y : Yields (zips fronts fronts) s xs t) (step : zips fronts fronts t r u) where
  first_is : iter_rest (zip_first s) ≡ take 33 own
  first_is = ap (λ (z : Zip (Iter (Maybe Part)) (Iter (Maybe Part))). iter_rest (zip_first z)) e ∙ ap (λ (i : Iter (Maybe Part)). iter_rest i) f ∙ g

  second_is : iter_rest (zip_second s) ≡ any
  second_is = ap (λ (z : Zip (Iter (Maybe Part)) (Iter (Maybe Part))). iter_rest (zip_second z)) e ∙ h

  pub turn : (p : Bor (Maybe Part) × Bor (Maybe Part)) → r ≡ Some p → {spot : Maybe Part} → spot ≡ option_or p.0.now p.1.now
      → (length xs < 33) × (spot ≡ option_or (get_or own (length xs) None) (get_or any (length xs) None))
  turn p is i =
      let w = zip_turn (take 33 own) any xs s t u r first_is second_is y p is step in
      let l : length xs < 33 = omega (arith, w.0, length-take 33 own) in
      (l, i ∙ (λ k. option_or ((w.2 None ∙ get_or-take 33 own (length xs) None l) k) (w.3 None k)))

  pub turns : r ≡ None → length own ≡ 34 → length any ≡ 34 → 33 ≤ length xs
  turns is l m = omega (arith, zip_end (take 33 own) any xs s t u r first_is second_is y is step, length-take 33 own)

-- `before` are the records of the places below i, and with those from i on they are all
pub record Adding (b : List ℕ) (own any : List (Maybe Part)) (s : Sums) (i : ℕ) : Type 0 where
  pub most : i ≤ 33
  pub before : List Pack
  pub sums : SumsFit before s
  pub rest : before ++ used_from b own any i (33 - i) ≡ used_in b own any
  pub near : (k : ℕ) → nat_abs (get_or s.values k (pos 0)) ≤ i * 10_000_000

module _ (b : List ℕ) (own any : List (Maybe Part)) where
  pub add_start : Adding b own any nothing 0
  add_start = record {
    most = omega arith;
    before = [];
    sums = record { are = record { present = refl; values = refl; units = refl; agree = refl }; agree = refl };
    rest = refl;
    near = zero_near;
  }
    where
      zero_near : (k : ℕ) → nat_abs (get_or (replicate 8 (pos 0)) k (pos 0)) ≤ 0 * 10_000_000
      zero_near k = go (dec_lt k 8)
        where
          go : Dec (k < 8) → nat_abs (get_or (replicate 8 (pos 0)) k (pos 0)) ≤ 0 * 10_000_000
          go (yes l) = rw (get_or-replicate 8 k (pos 0) (pos 0) l) (omega arith)
          go (no n) = rw (get_or-eq_default (replicate 8 (pos 0)) (pos 0) {n = k} (omega arith)) (omega arith)

  module _ {s : Sums} {i : ℕ} (inv : Adding b own any s i) where
    module _ (l : i < 33) where
      pub add_room : Within most_before s
      add_room = record { each = λ k. omega (arith, inv.near k) }

      module _ (m : AllHeld b own) (n : AllHeld b any) where
        abbrev spot : Maybe Part
        spot = option_or (get_or own i None) (get_or any i None)

        pub add_held : IfSome spot (Held b)
        add_held = first_held b (get_or own i None) (get_or any i None) (m.each i l) (n.each i l)

        step : used_from b own any i (33 - i) ≡ cons_some (pack_there b spot) (used_from b own any (i + 1) (33 - (i + 1)))
        unfolding used_from
        step =
            let e : 33 - i ≡ suc (33 - (i + 1)) = omega arith in
            let g : suc i ≡ i + 1 = omega arith in
            let here = first_there b (get_or own i None) (get_or any i None) (m.each i l) in
            ap (used_from b own any i) e ∙ (λ k. cons_some (sym here k) (used_from b own any (g k) (33 - (i + 1))))

        one : (o : Option Pack) (ps : List Pack) → cons_some o [] ++ ps ≡ cons_some o ps
        one none ps = refl
        one (some x) ps = refl

        onward : (inv.before ++ cons_some (pack_there b spot) []) ++ used_from b own any (i + 1) (33 - (i + 1)) ≡ used_in b own any
        onward =
            append_assoc inv.before (cons_some (pack_there b spot) []) (used_from b own any (i + 1) (33 - (i + 1)))
            ∙ ap (λ (ps : List Pack). inv.before ++ ps) (one (pack_there b spot) (used_from b own any (i + 1) (33 - (i + 1))) ∙ sym step)
            ∙ inv.rest

        pub add_turn : {s' : Sums} → WithSpot b s spot (Ok s') → Adding b own any s' (i + 1)
        add_turn {s'} w = record {
          most = omega arith;
          before = inv.before ++ cons_some (pack_there b spot) [];
          sums = agreed (w.is inv.before inv.sums);
          rest = onward;
          near = λ k. omega (arith, inv.near k, w.near k);
        }
          where
            agreed : {us : List Pack} {r : Sums} → Come us (Ok r) → SumsFit us r
            agreed (Agree a) = a

        pub add_clash : {e : Refusal} → WithSpot b s spot (Err e) → SumsFrom (used_in b own any) (Err e)
        add_clash {e} w = record { is = go e (w.is inv.before inv.sums); within = tt }
          where
            go : (e : Refusal) → Come (inv.before ++ cons_some (pack_there b spot) []) (Err e) → Come (used_in b own any) (Err e)
            go e (Clash c) =
                Clash (ap (λ (ps : List Pack). all (units_agree ps) three) (sym onward)
                ∙ clash_stays (inv.before ++ cons_some (pack_there b spot) []) (used_from b own any (i + 1) (33 - (i + 1))) c)

    pub add_end : 33 ≤ i → SumsFrom (used_in b own any) (Ok s)
    unfolding used_from
    add_end h =
        let e : i ≡ 33 = omega (arith, inv.most) in
        record {
          is = Agree (subst (λ (ps : List Pack). SumsFit ps s) (sym (append-nil inv.before) ∙ ap (λ (ps : List Pack). inv.before ++ ps) (sym (ap (λ (k : ℕ). used_from b own any k (33 - k)) e)) ∙ inv.rest) inv.sums);
          within = record { each = λ k. omega (arith, inv.near k) };
        }
