-- The slots of a list of properties: the slot of a name, and the loop that fills them.
use Prim.Native.Nat.{ℕ, zero, suc, ◌+◌, ◌-◌, ◌*◌, ◌%◌, ◌≤◌, ◌<◌, min}
use mathlib.Core.Path.{◌≡◌, refl, sym, ◌∙◌, ap, subst}
use mathlib.Core.Bool.{Bool, true, false}
use mathlib.Core.List.{List, [], ◌∷◌, map}
use mathlib.Core.Option.{some-injective}
use native.Mathlib.Omega.{arith}
use native.Mathlib.Decide.{dec_lt, ℕ_discrete}
use lib.ListN.{length, get_or, set, replicate, length-set, length-replicate, get_or-replicate}
use lib.Seq.{get_or-set_same, get_or-set_other}
use Rattle.rules.specs.Lists.{same, is_some}
use Rattle.rules.specs.Bytes.{raise}
use Rattle.rules.proofs.ListLaws.{same_eq}
use Rattle.layout.specs.Reads.{part}
use Rattle.layout.specs.Ensures.{Number}
use Rattle.layout.proofs.CountedLaws.{pass_here, pass_again}
use Rattle.relation_rules.specs.Truth.{properties_of, value_in}
use Rattle.property_list.specs.Listed.{value_stop, HeldStands, held_from, KindIs}
use Rattle.property_list.specs.Slots.{slot_in, slot_of, HeldPass, LooksFrom, SlotsOf}
use Rattle.property_list.proofs.ListLaws.{listed}
use Rattle.property_list.proofs.PositionLaws.{stop_is, stop_further, some_left, look_again}

-- ---- the slot of a name

raised_0 : raise 0 ≡ 0
raised_0 = refl

get_raised : (l : List ℕ) (i : ℕ) → get_or (map raise l) i 0 ≡ raise (get_or l i 0)
get_raised [] i = sym raised_0
get_raised (b ∷ l) zero = refl
get_raised (b ∷ l) (suc i) = get_raised l i

raised_length : (l : List ℕ) → length (map raise l) ≡ length l
raised_length [] = refl
raised_length (b ∷ l) = ap suc (raised_length l)

below_slots : (n : ℕ) → Number (n % 128) 128 (n % 128)
below_slots n = record { is = refl; below = omega arith }

module _ (name : List ℕ) where
  slot_is : slot_of name ≡ (length name + 11 * raise (get_or name 0 0) + 41 * raise (get_or name (length name - 1) 0)) % 128
  unfolding slot_of
  slot_is = rw (raised_length name, get_raised name 0, get_raised name (length name - 1))

  pub slot_low : slot_of name < 128
  slot_low = rw slot_is (omega arith)

  pub slot_none : length name < 1 → Number (slot_of name) 128 0
  unfolding slot_of
  slot_none h = go name h
    where
      go : (l : List ℕ) → length l < 1 → Number (slot_of l) 128 0
      go [] h = record { is = refl; below = omega arith }
      go (b ∷ l) h = absurd (omega arith)

  pub slot_some : {x y first last : ℕ} → Number (raise (get_or name 0 0)) 256 x → Number x 256 first → Number (raise (get_or name (length name - 1) 0)) 256 y → Number y 256 last
      → Number (slot_of name) 128 ((length name + 11 * first + 41 * last) % 128)
  slot_some p a q b = rw (slot_is, a.is, b.is, p.is, q.is) (below_slots _)

-- names alike in capitals share a slot
other_slot : (a b : List ℕ) → (slot_of b ≡ slot_of a → ⊥) → same (map raise a) (map raise b) ≡ false
unfolding slot_of
other_slot a b n = go (same (map raise a) (map raise b)) refl
  where
    go : (t : Bool) → same (map raise a) (map raise b) ≡ t → same (map raise a) (map raise b) ≡ false
    go false e = e
    go true e = absurd (n (ap slot_in (sym (same_eq (map raise a) (map raise b) e))))

-- ---- the loop

-- what a slot has for a name, when the properties before `at` are entered: one of them to look from, or none yet
pub record Filled (s name : List ℕ) (at e : ℕ) : Type 0 where
  pub entered : e < at → LooksFrom s name e
  pub empty : at ≤ e → (e ≡ length s) × LooksFrom s name at

pub record Filling (s slots : List ℕ) (at : ℕ) : Type 0 where
  pub long : length slots ≡ 128
  pub left : ℕ
  pub passing : HeldPass s at left
  pub each : (name : List ℕ) → Filled s name at (get_or slots (slot_of name) 0)

least_lower : (a b : ℕ) → a < b → min a b ≡ a
least_lower a b h = omega arith

least_upper : (a b : ℕ) → b ≤ a → min a b ≡ b
least_upper a b h = omega arith

module _ (s : List ℕ) (k : is_some (properties_of s) ≡ true) where
  looks_all : (name : List ℕ) → LooksFrom s name 1
  looks_all name = record {
    left = get_or s 0 0;
    passing = (listed s k).passing;
    rest = λ ps e. ap (λ l. value_in l name) (some-injective ps (held_from s 1 (get_or s 0 0)) (sym e ∙ (listed s k).are));
  }

  empty_slot : (name : List ℕ) → Filled s name 1 (length s)
  empty_slot name = record { entered = λ l. absurd (omega (arith, (listed s k).there)); empty = λ l. (refl, looks_all name) }

  pub fill_start : Filling s (replicate 128 (length s)) 1
  fill_start = record {
    long = length-replicate 128 (length s);
    left = get_or s 0 0;
    passing = (listed s k).passing;
    each = λ name. subst (Filled s name 1) (sym (get_or-replicate 128 (slot_of name) (length s) 0 (slot_low name))) (empty_slot name);
  }

module _ {s slots : List ℕ} {at : ℕ} (inv : Filling s slots at) where
  pub fill_here : at < length s → HeldStands s at
  fill_here h = pass_here inv.passing (some_left inv.passing h)

  pub fill_end : is_some (properties_of s) ≡ true → length s ≤ at → SlotsOf s slots
  fill_end k h = record { accepted = k; looks = λ name. go name (inv.each name) (dec_lt (get_or slots (slot_of name) 0) at) }
    where
      go : (name : List ℕ) → Filled s name at (get_or slots (slot_of name) 0) → Dec (get_or slots (slot_of name) 0 < at) → LooksFrom s name (get_or slots (slot_of name) 0)
      go name f (yes l) = f.entered l
      go name f (no l) =
          let x = f.empty (omega arith) in
          let e : at ≡ get_or slots (slot_of name) 0 = omega (arith, x.0, inv.passing.left.fits) in
          subst (LooksFrom s name) e x.1

  module _ (h : at < length s) {r slot q : ℕ} (p : KindIs s at r) (is : Number (slot_of (part s (at + 1) r)) 128 slot) (f : q ≡ value_stop (get_or s r 0) s (r + 1)) where
    further : (at < q) × (q ≤ length s)
    further = stop_further (fill_here h) p f

    new : List ℕ
    new = set slots slot (min (get_or slots slot 0) at)

    -- the property's own slot has it, or one before it
    own_slot : (name : List ℕ) → Filled s name at (get_or slots slot 0) → Dec (get_or slots slot 0 < at) → Filled s name q (min (get_or slots slot 0) at)
    own_slot name w (yes l) =
        let e = least_lower (get_or slots slot 0) at l in
        rw e (record { entered = λ i. w.entered l; empty = λ i. absurd (omega (arith, further.0)) })
    own_slot name w (no l) =
        let e = least_upper (get_or slots slot 0) at (omega arith) in
        rw e (record { entered = λ i. (w.empty (omega arith)).1; empty = λ i. absurd (omega (arith, further.0)) })

    -- any other stays as it is: its names are not the property's
    other : (name : List ℕ) → (slot_of name ≡ slot → ⊥) → Filled s name at (get_or slots (slot_of name) 0) → Dec (get_or slots (slot_of name) 0 < at)
        → Filled s name q (get_or slots (slot_of name) 0)
    other name n w (yes l) = record { entered = λ i. w.entered l; empty = λ i. absurd (omega (arith, further.0)) }
    other name n w (no l) =
        let x = w.empty (omega arith) in
        record {
          entered = λ i. absurd (omega (arith, x.0, further.1));
          empty = λ i. (x.0, look_again x.1 h p (record { is = other_slot (part s (at + 1) r) name (λ e. n (e ∙ sym is.is)) }) refl f);
        }

    each_on : (name : List ℕ) → Dec (slot_of name ≡ slot) → Filled s name q (get_or new (slot_of name) 0)
    unfolding new
    each_on name (yes e) =
        let w = inv.each name in
        rw e (subst (Filled s name q) (sym (get_or-set_same slots slot (min (get_or slots slot 0) at) 0 (omega (arith, inv.long, is.below)))) (own_slot name (rw e at w) (dec_lt (get_or slots slot 0) at)))
    each_on name (no n) =
        subst (Filled s name q) (sym (get_or-set_other slots slot (slot_of name) (min (get_or slots slot 0) at) 0 n)) (other name n (inv.each name) (dec_lt (get_or slots (slot_of name) 0) at))

    pub fill_again : {x : ℕ} → x ≡ min (get_or slots slot 0) at → Filling s (set slots slot x) q
    unfolding new
    fill_again e = rw e (record {
      long = length-set slots slot (min (get_or slots slot 0) at) ∙ inv.long;
      left = inv.left - 1;
      passing = pass_again inv.passing (some_left inv.passing h) (stop_is p f);
      each = λ name. each_on name (ℕ_discrete (slot_of name) slot);
    })

-- ---- a name is looked for from its slot on

pub look_slot : {s slots name : List ℕ} {slot : ℕ} → SlotsOf s slots → Number (slot_of name) 128 slot → LooksFrom s name (get_or slots slot 0)
look_slot {s} {slots} {name} k is = rw is.is (k.looks name)
