-- Rows one by one: the first base row, and one currency.
use Prim.Native.Nat.{ℕ, ◌+◌, ◌≤◌, ◌<◌}
use mathlib.Core.Path.{◌≡◌, refl, sym, ap, ◌∙◌, subst}
use mathlib.Core.Bool.{Bool, true, false, ◌&&◌, not, cond, true≢false, and-true, and_assoc}
use mathlib.Core.List.{List, [], ◌∷◌, map}
use mathlib.Core.Option.{Option, some, none}
use native.Mathlib.Omega.{arith}
use native.Mathlib.Numerals.{add-one}
use native.Mathlib.Nat.{le_refl}
use lib.ListN.{length, take, drop, get_or, length-map, get_or-map, drop_of_length-le}
use lib.Seq.{drop-cons, get_or-take, length-take-le}
use borrow.Author.Tests.{lt-ltb, le-ltb}
use Rattle.rules.specs.Lists.{first, any, pick, is_some}
use Rattle.rules.specs.declared.Cents.{Cents}
use Rattle.rules.proofs.TestLaws.{not_so}
use Rattle.rules.proofs.ListLaws.{first_any}
use Rattle.layout.specs.Ensures.{Says}
use Rattle.lines.specs.declared.Pick.{Pick}
use Rattle.lines.specs.Views.{View, view_in, views_in, no_pick, is_base, base_level, base_first, fits, one_currency, amounts_in, no_cents}
use Rattle.lines.specs.Ensures.{FirstBase, Listable}

-- ---- the next of the first n

-- seen by a function of each
module _ {A B : Type 0} (f : A → B) (xs : List A) (n : ℕ) (k : n ≤ length xs) where
  seen_count : length (map f (take n xs)) ≡ n
  seen_count = length-map (take n xs) f ∙ length-take-le n xs k

  next_seen : (i : ℕ) (d : A) → i < n → drop i (map f (take n xs)) ≡ f (get_or xs i d) ∷ drop (i + 1) (map f (take n xs))
  next_seen i d h =
      let l : i < length (map f (take n xs)) = rw seen_count h in
      drop-cons (map f (take n xs)) i (f d) l
      ∙ rw (get_or-map f (take n xs) i d, get_or-take n xs i d h, add-one)

pub views_count : (picks : List Pick) (n : ℕ) → n ≤ length picks → length (views_in picks n) ≡ n
views_count picks n k = seen_count view_in picks n k

pub amounts_count : (cs : List Cents) (n : ℕ) → n ≤ length cs → length (amounts_in cs n) ≡ n
amounts_count cs n k = seen_count (λ c. c.0) cs n k

pub next_amount : (cs : List Cents) (n i : ℕ) → i < n → n ≤ length cs → drop i (amounts_in cs n) ≡ (get_or cs i no_cents).0 ∷ drop (i + 1) (amounts_in cs n)
next_amount cs n i h k = next_seen (λ c. c.0) cs n k i no_cents h

pub views_end : (picks : List Pick) (n i : ℕ) → n ≤ length picks → n ≤ i → drop i (views_in picks n) ≡ []
views_end picks n i k h =
    let l : length (views_in picks n) ≤ i = rw (views_count picks n k) h in
    drop_of_length-le (views_in picks n) l

module _ (picks : List Pick) (n i : ℕ) (h : i < n) (k : n ≤ length picks) where
  pub next_view : drop i (views_in picks n) ≡ view_in (get_or picks i no_pick) ∷ drop (i + 1) (views_in picks n)
  next_view = next_seen view_in picks n k i no_pick h

-- ---- the first base row

-- without a row there is none
pub no_row_base : {picks : List Pick} → length picks ≡ 0 → FirstBase picks (length picks) (length picks)
no_row_base {picks} z =
    record {
      is = ap (first is_base) (views_end picks (length picks) 0 (le_refl (length picks)) (omega arith)) ∙ rw (le-ltb (length picks) (length picks) (le_refl (length picks)));
      within = le_refl (length picks);
    }

-- base rows come first: there is one if the first row is one
module _ {picks : List Pick} {n : ℕ} (ok : Listable picks n) (k : n ≤ length picks) (h : 0 < n) {b : Bool} (said : Says (base_level (get_or picks 0 no_pick).level) b) where
  -- the first row, and those behind it
  rows_are : views_in picks n ≡ view_in (get_or picks 0 no_pick) ∷ drop 1 (views_in picks n)
  rows_are = next_view picks n 0 h k

  no_first : b ≡ false → first is_base (views_in picks n) ≡ none
  unfolding base_first
  no_first f =
      let rest : List View = drop 1 (views_in picks n) in
      let e : base_level (get_or picks 0 no_pick).level ≡ false = said.is ∙ f in
      let lone : not (any is_base rest) ≡ true =
      subst (λ (y : Bool). cond y (base_first rest) (not (any is_base rest)) ≡ true) e (sym (ap base_first rows_are) ∙ ok.base_first_lem) in
      ap (first is_base) rows_are
      ∙ ap (λ (y : Bool). pick y (view_in (get_or picks 0 no_pick)) (first is_base rest)) e
      ∙ none_some (first is_base rest) (first_any is_base rest ∙ not_so (any is_base rest) lone)
    where
      none_some : {A : Type 0} (o : Option A) → is_some o ≡ false → o ≡ none
      none_some none e = refl
      none_some (some a) e = absurd (true≢false e)

  pub no_base_row : b ≡ false → FirstBase picks n n
  no_base_row f = record { is = no_first f ∙ rw (le-ltb n n (le_refl n)); within = le_refl n }

  pub first_row_base : b ≡ true → FirstBase picks n 0
  first_row_base t = record {
    is = ap (first is_base) rows_are ∙ rw (said.is, t, lt-ltb 0 n h);
    within = omega arith;
  }

-- ---- one currency

-- the rows before row i are in it if the flag says so
pub record Comparing (c : List ℕ) (picks : List Pick) (n : ℕ) (ok : Bool) (i : ℕ) : Type 0 where
  pub place : i ≤ n
  pub long : n ≤ length picks
  pub rest : (ok && one_currency c (drop i (views_in picks n))) ≡ one_currency c (views_in picks n)

module _ (c : List ℕ) (picks : List Pick) (n : ℕ) where
  pub compare_start : n ≤ length picks → Comparing c picks n true 0
  compare_start k = record { place = omega arith; long = k; rest = refl }

  module _ (ok : Bool) (i : ℕ) (inv : Comparing c picks n ok i) where
    pub compare_again : {r : Bool} → i < n → Says (fits c (view_in (get_or picks i no_pick))) r → Comparing c picks n (ok && r) (i + 1)
    compare_again h s =
        record {
          place = omega arith;
          long = inv.long;
          rest = rw (← s.is, and_assoc) (sym (ap (λ vs. ok && one_currency c vs) (next_view picks n i h inv.long)) ∙ inv.rest);
        }

    pub compare_end : n ≤ i → Says (one_currency c (views_in picks n)) ok
    compare_end h = record { is = sym inv.rest ∙ rw (views_end picks n i inv.long h) (and-true ok) }
