-- Slot after slot the rows in hand: those that are gone through and what the slots left choose make up what the definition chooses.
use Prim.Native.Nat.{ℕ, zero, suc, ◌+◌, ◌-◌, ◌/◌, ◌%◌, ◌≤◌, ◌<◌}
use mathlib.Core.Path.{◌≡◌, refl, sym, ◌∙◌, ap, subst}
use mathlib.Core.Bool.{Bool, true, false, cond}
use mathlib.Core.List.{List, [], ◌∷◌, ◌++◌, append_assoc, append-nil}
use mathlib.Core.Option.{Option, some, none}
use native.Mathlib.Omega.{arith}
use native.Mathlib.Decide.{dec_lt}
use lib.ListN.{length, get_or, set, length-set, length-append, get_or-append}
use lib.Seq.{get_or-set_same, get_or-set_other, get_or-append_seam}
use Rattle.rules.specs.Lists.{gather, cons_some}
use Rattle.rules.specs.Book.{Row}
use Rattle.rules.specs.Question.{Question}
use Rattle.rules.specs.Lines.{Chosen}
use Rattle.grants.specs.Places.{up_from}
use Rattle.choice.specs.Hands.{is_empty, TakenIs, RowThere, Holds}
use Rattle.choice.specs.Slots.{placed_row, slot_chosen, slots_chosen}
use Rattle.choice.specs.Walk.{SlotsHold, unseen}
use Rattle.choice.specs.declared.hands.Hand.{Hand}
use Rattle.choice.specs.declared.hands.Seen.{Seen}
use Rattle.choice.proofs.SlotLaws.{slots_choose, slot_behind}
use Rattle.choice.proofs.ChosenLaws.{slot_empty, slot_full}
use Rattle.picks.specs.Held.{Counted, StepIs, NextPlace, Stands, HeldAre, HeldSoFar, Holding, HeldIn}

-- ---- what the slots left choose

module _ (rs : List Row) (q : Question) where
  abbrev slot_at : ℕ → Option Chosen
  slot_at k = slot_chosen rs q (k / 33) (k % 33)

  abbrev left : ℕ → List Chosen
  left i = gather slot_at (up_from i (99 - i))

  -- the slot i, and those behind it
  left_step : (i : ℕ) → i < 99 → (o : Option Chosen) → slot_at i ≡ o → left i ≡ cons_some o (left (i + 1))
  left_step i l o e =
      let n : 99 - i ≡ suc (99 - (i + 1)) = omega arith in
      let m : suc i ≡ i + 1 = omega arith in
      ap (λ (k : ℕ). gather slot_at (up_from i k)) n
      ∙ ap (λ (o : Option Chosen). cons_some o (gather slot_at (up_from (suc i) (99 - (i + 1))))) e
      ∙ ap (λ (j : ℕ). cons_some o (gather slot_at (up_from j (99 - (i + 1))))) m

  -- slots that choose nothing are passed over
  left_skip : (s i : ℕ) → i + s ≤ 99 → ((j : ℕ) → i ≤ j → j < i + s → slot_at j ≡ none) → left i ≡ left (i + s)
  left_skip zero i l h = let e : i ≡ i + zero = omega arith in ap left e
  left_skip (suc s) i l h =
      let e : i + 1 + s ≡ i + suc s = omega arith in
      left_step i (omega arith) none (h i (omega arith) (omega arith))
      ∙ left_skip s (i + 1) (omega arith) (λ j a b. h j (omega arith) (omega arith))
      ∙ ap left e

-- ---- one slot

module _ {b : List ℕ} {rs : List Row} {q : Question} {slots : List Seen} (holds : SlotsHold b rs q slots) {ats places numbers : List ℕ} {n i place : ℕ}
    (so : HeldSoFar b rs q ats places numbers n i) (l : i < 99) (few : n ≤ i) (long : length ats ≡ 99) (wide : length places ≡ 99) (full : length numbers ≡ 99)
    (p : place ≡ i % 33)
    {hand : Hand} (t : TakenIs (get_or slots i unseen) hand) where
  -- those before n stay
  kept : (k : ℕ) → k < n → {cs : List Chosen} → Stands b cs k (get_or ats k 0) (get_or places k 0) (get_or numbers k 0)
      → Stands b cs k (get_or (set ats n hand.at) k 0) (get_or (set places n place) k 0) (get_or (set numbers n hand.rounding) k 0)
  kept k m {cs} s =
      rw (
        get_or-set_other ats n k hand.at 0 (λ e. omega arith),
        get_or-set_other places n k place 0 (λ e. omega arith),
        get_or-set_other numbers n k hand.rounding 0 (λ e. omega arith),
      ) s

  -- no row: the slots go on
  passed : is_empty hand ≡ true → HeldSoFar b rs q (set ats n hand.at) (set places n place) (set numbers n hand.rounding) n (i + 1)
  passed e = record {
    these = so.these;
    are = record { count = so.are.count; each = λ k m. kept k m (so.are.each k m) };
    goes = ap (λ (cs : List Chosen). so.these ++ cs) (sym (left_step rs q i l none (slot_empty holds l t e))) ∙ so.goes;
  }

  -- a row: it is the next
  taken_in : is_empty hand ≡ false → HeldSoFar b rs q (set ats n hand.at) (set places n place) (set numbers n hand.rounding) (n + 1) (i + 1)
  taken_in e =
      let x = slot_full holds l t e in
      let new : Chosen = placed_row q (i % 33) x.0 in
      record {
        these = so.these ++ (new ∷ []);
        are = record { count = length-append so.these (new ∷ []) ∙ ap (λ (k : ℕ). k + 1) so.are.count; each = λ k m. go x.0 x.1 k (dec_lt k n) m };
        goes = append_assoc so.these (new ∷ []) (left rs q (i + 1))
            ∙ ap (λ (cs : List Chosen). so.these ++ cs) (sym (left_step rs q i l (some new) x.2.is))
            ∙ so.goes;
      }
    where
      go : (r : Row) → Holds b hand r → (k : ℕ) → Dec (k < n) → k < n + 1
          → Stands b (so.these ++ (placed_row q (i % 33) r ∷ [])) k (get_or (set ats n hand.at) k 0) (get_or (set places n place) k 0)
          (get_or (set numbers n hand.rounding) k 0)
      go r holds k (yes m) _ =
          let old = so.are.each k m in
          kept k m (record {
            one = old.one;
            is = get_or-append so.these (placed_row q (i % 33) r ∷ []) old.one k (omega (arith, so.are.count)) ∙ old.is;
            there = old.there;
            place_is = old.place_is;
            place_in = old.place_in;
            number_is = old.number_is;
          })
      go r holds k (no m) u =
          let new : Chosen = placed_row q (i % 33) r in
          let e : length so.these ≡ k = omega (arith, so.are.count) in
          let f : n ≡ k = omega arith in
          let own_place : get_or (set places n place) k 0 ≡ i % 33 = ap (λ (j : ℕ). get_or (set places n place) j 0) (sym f) ∙ get_or-set_same places n place 0 (omega arith) ∙ p in
          record {
            one = new;
            is = ap (λ (j : ℕ). get_or (so.these ++ (new ∷ [])) j new) (sym e) ∙ get_or-append_seam so.these new [] new;
            there = subst (λ (a : ℕ). RowThere b a r) (sym (ap (λ (j : ℕ). get_or (set ats n hand.at) j 0) (sym f) ∙ get_or-set_same ats n hand.at 0 (omega arith))) holds.there;
            place_is = own_place;
            place_in = omega (arith, own_place);
            number_is =
                ap (λ (j : ℕ). get_or (set numbers n hand.rounding) j 0) (sym f) ∙ get_or-set_same numbers n hand.rounding 0 (omega arith) ∙ holds.rounding;
          }

  one_slot : {c : ℕ} → Counted hand c → HeldSoFar b rs q (set ats n hand.at) (set places n place) (set numbers n hand.rounding) (n + c) (i + 1)
  one_slot {c} d = go (is_empty hand) refl
    where
      go : (y : Bool) → is_empty hand ≡ y → HeldSoFar b rs q (set ats n hand.at) (set places n place) (set numbers n hand.rounding) (n + c) (i + 1)
      go true e =
          let z : n ≡ n + c = omega (arith, d.is ∙ ap (λ (y : Bool). cond y 0 1) e) in
          subst (λ (k : ℕ). HeldSoFar b rs q (set ats n hand.at) (set places n place) (set numbers n hand.rounding) k (i + 1)) z (passed e)
      go false e =
          let z : n + 1 ≡ n + c = omega (arith, d.is ∙ ap (λ (y : Bool). cond y 0 1) e) in
          subst (λ (k : ℕ). HeldSoFar b rs q (set ats n hand.at) (set places n place) (set numbers n hand.rounding) k (i + 1)) z (taken_in e)

-- ---- the loop

pub hold_start : (slots : List Seen) (names : ℕ) (ats places numbers : List ℕ) → length ats ≡ 99 → length places ≡ 99 → length numbers ≡ 99
    → Holding slots names ats places numbers 0 0 0
unfolding slots_chosen
hold_start slots names ats places numbers l w f = record {
  few = omega arith;
  most = omega arith;
  place_is = omega arith;
  within = omega arith;
  long = l;
  wide = w;
  full = f;
  each = λ q holds c. record {
    these = [];
    are = record { count = refl; each = λ k m. absurd (omega arith) };
    goes = refl;
  };
}

module _ {slots : List Seen} {names : ℕ} {ats places numbers : List ℕ} {n i place : ℕ} (inv : Holding slots names ats places numbers n i place) where
  pub hold_end : 99 ≤ i → HeldIn slots names ats places numbers n
  hold_end h = record {
    few = omega (arith, inv.few, inv.most);
    each = λ {b} {rs} q holds c g.
        let so = inv.each q holds c in
        let e : i ≡ 99 = omega (arith, inv.most) in
        subst (λ (cs : List Chosen). HeldAre b cs ats places numbers n)
        (sym (append-nil so.these) ∙ ap (λ (j : ℕ). so.these ++ left rs q j) (sym e) ∙ so.goes ∙ slots_choose q g rs) so.are;
  }

  pub hold_turn : names ≤ 32 → i < 99 → {hand : Hand} → TakenIs (get_or slots i unseen) hand → {c : ℕ} → Counted hand c → {s : ℕ} → StepIs place names s
      → {p : ℕ} → NextPlace place names p → Holding slots names (set ats n hand.at) (set places n place) (set numbers n hand.rounding) (n + c) (i + s) p
  hold_turn top l {hand} t {c} d {s} step {p} next = go (dec_lt place names)
    where
      ats' : List ℕ
      ats' = set ats n hand.at

      places' : List ℕ
      places' = set places n place

      numbers' : List ℕ
      numbers' = set numbers n hand.rounding

      turned : {b : List ℕ} {rs : List Row} (q : Question) → SlotsHold b rs q slots → length q.granted ≡ names → HeldSoFar b rs q ats' places' numbers' (n + c) (i + 1)
      turned q holds g = one_slot holds (inv.each q holds g) l inv.few inv.long inv.wide inv.full inv.place_is t d

      -- behind the last granted name the level's slots are empty
      over : {b : List ℕ} {rs : List Row} (q : Question) → length q.granted ≡ names → names ≡ place → s + names ≡ 33 → HeldSoFar b rs q ats' places' numbers' (n + c) (i + 1)
          → HeldSoFar b rs q ats' places' numbers' (n + c) (i + s)
      over {b} {rs} q g h f so =
          let e : i + 1 + (32 - names) ≡ i + s = omega arith in
          let skip : left rs q (i + 1) ≡ left rs q (i + 1 + (32 - names)) =
          left_skip rs q (32 - names) (i + 1) (omega (arith, inv.place_is)) (λ j a y. slot_behind q rs (j / 33) (j % 33) (omega (arith, inv.place_is, g)) (omega arith)) in
          record {
            these = so.these;
            are = so.are;
            goes = ap (λ (cs : List Chosen). so.these ++ cs) (ap (left rs q) (sym e) ∙ sym skip) ∙ so.goes;
          }

      go : Dec (place < names) → Holding slots names ats' places' numbers' (n + c) (i + s) p
      go (yes h) =
          let e : i + 1 ≡ i + s = omega (arith, step.near h) in
          record {
            few = omega (arith, inv.few, d.most, step.near h);
            most = omega (arith, step.near h);
            place_is = omega (arith, inv.place_is, step.near h, next.near h);
            within = omega (arith, next.near h);
            long = length-set ats n hand.at ∙ inv.long;
            wide = length-set places n place ∙ inv.wide;
            full = length-set numbers n hand.rounding ∙ inv.full;
            each = λ {b} {rs} q holds g. subst (HeldSoFar b rs q ats' places' numbers' (n + c)) e (turned q holds g);
          }
      go (no h) =
          let k : names ≤ place = omega arith in
          let m : names ≡ place = omega (arith, inv.within) in
          record {
            few = omega (arith, inv.few, d.most, step.far k);
            most = omega (arith, inv.place_is, step.far k);
            place_is = omega (arith, inv.place_is, step.far k, next.far k);
            within = omega (arith, next.far k);
            long = length-set ats n hand.at ∙ inv.long;
            wide = length-set places n place ∙ inv.wide;
            full = length-set numbers n hand.rounding ∙ inv.full;
            each = λ {b} {rs} q holds g. over q g m (step.far k) (turned q holds g);
          }
