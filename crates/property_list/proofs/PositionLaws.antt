-- Positions in an accepted list of properties: the kind byte behind a name, the end of a value, and the first property of a name.
use Prim.Native.Nat.{ℕ, zero, suc, ◌+◌, ◌-◌, ◌≤◌, ◌<◌}
use mathlib.Core.Path.{◌≡◌, refl, sym, ◌∙◌, ap}
use mathlib.Core.Bool.{Bool, true, false, false≢true}
use mathlib.Core.List.{List, [], ◌∷◌, map}
use mathlib.Core.Option.{some, none, none-ne-some}
use native.Mathlib.Omega.{arith}
use native.Mathlib.Nat.{not-suc-le-zero}
use native.Mathlib.Decide.{dec_lt}
use lib.Dec.{eqb}
use lib.ListN.{length, get_or}
use borrow.Author.Tests.{ne_eqb}
use Rattle.rules.specs.Lists.{any, same, first, pick, if_some}
use Rattle.rules.specs.Layout.{◌>>=◌, give}
use Rattle.rules.specs.Bytes.{one_of, raise}
use Rattle.layout.specs.Reads.{Reads, part, name_stop, name_at}
use Rattle.layout.specs.Ensures.{Says, Number}
use Rattle.layout.specs.Counted.{values_at}
use Rattle.layout.proofs.LayoutLaws.{then_broken, one_of_at, one_of_cut}
use Rattle.layout.proofs.ReadingLaws.{then_good, then_behind}
use Rattle.layout.proofs.NameEndLaws.{name_any}
use Rattle.layout.proofs.CountedLaws.{walk_step, pass_here, pass_again, pass_end}
use Rattle.relation_rules.specs.Truth.{Held, value_of, properties_of, value_in}
use Rattle.property_list.specs.Listed.{value_at, value_stop, value_here, ValueStands, held_at, held_stop, HeldStands, held_from, KindIs, PositionIs}
use Rattle.property_list.specs.Slots.{HeldPass, LooksFrom}

-- ---- the kind byte behind a name

one_of_three : (b : ℕ) → any (eqb b) (0 ∷ 1 ∷ 2 ∷ []) ≡ true → b ≤ 2
one_of_three b e = go (dec_lt 2 b)
  where
    go : Dec (2 < b) → b ≤ 2
    go (no h) = omega arith
    go (yes h) = absurd (false≢true (sym (rw (ne_eqb b 0 (λ i. omega arith), ne_eqb b 1 (λ i. omega arith), ne_eqb b 2 (λ i. omega arith))) ∙ e))

module _ {s : List ℕ} {at : ℕ} (p : HeldStands s at) where
  behind_name : Reads (one_of (0 ∷ 1 ∷ 2 ∷ []) >>= λ kind. value_of kind >>= λ v. give (record { name = name_at s at; value = v })) s (name_stop s at) true (held_at s at) (held_stop s at)
  behind_name = then_behind _ _ (name_any 0 255 s at).1.reads p.reads

  kind_there : name_stop s at < length s
  kind_there = go (dec_lt (name_stop s at) (length s))
    where
      go : Dec (name_stop s at < length s) → name_stop s at < length s
      go (yes h) = h
      go (no h) = absurd (none-ne-some _ (sym (then_broken _ _ (one_of_cut s (name_stop s at) (0 ∷ 1 ∷ 2 ∷ []) (omega arith)) refl) ∙ behind_name.is))

  kind_stands : ValueStands s (name_stop s at)
  unfolding held_stop
  kind_stands = record {
    there = kind_there;
    kind = one_of_three (get_or s (name_stop s at) 0) (then_good _ _ (one_of_at s (name_stop s at) (0 ∷ 1 ∷ 2 ∷ []) kind_there) behind_name);
    fits = p.fits;
  }

  pub kind_is : {n : ℕ} → Number (get_or s at 0) 256 n → KindIs s at (at + 1 + n)
  kind_is q = rw q.is (record { is = refl; behind = omega arith; stands = kind_stands })

-- ---- the first property of a name

here_is : (s : List ℕ) (r : ℕ) → 0 < r → value_here s r ≡ value_at (get_or s r 0) s (r + 1)
here_is s zero h = absurd (not-suc-le-zero h)
here_is s (suc r) h = refl

-- the value of the property at `at` stops where the property does
pub stop_is : {s : List ℕ} {at r q : ℕ} → KindIs s at r → q ≡ value_stop (get_or s r 0) s (r + 1) → q ≡ held_stop s at
unfolding held_stop
stop_is {s} p f = f ∙ ap (λ (k : ℕ). value_stop (get_or s k 0) s (k + 1)) p.is

-- and behind it the list goes on, or ends
pub stop_further : {s : List ℕ} {at r q : ℕ} → HeldStands s at → KindIs s at r → q ≡ value_stop (get_or s r 0) s (r + 1) → (at < q) × (q ≤ length s)
stop_further {s} {at} h p f = rw (stop_is p f) ((h.low, h.fits))

pub stop_less : {s : List ℕ} {at r q : ℕ} → HeldStands s at → KindIs s at r → q ≡ value_stop (get_or s r 0) s (r + 1) → length s - q < length s - at
stop_less {s} {at} {r} {q} h p f = let x : (at < q) × (q ≤ length s) = stop_further h p f in omega (arith, x.0, x.1)

-- before the end of the list a property is left
pub some_left : {s : List ℕ} {at n : ℕ} → HeldPass s at n → at < length s → 0 < n
some_left {n = n} p h = go (dec_lt 0 n)
  where
    go : Dec (0 < n) → 0 < n
    go (yes l) = l
    go (no l) = absurd (omega (arith, pass_end p (omega arith)))

module _ {s name : List ℕ} {at : ℕ} (inv : LooksFrom s name at) where
  pub look_here : at < length s → HeldStands s at
  look_here h = pass_here inv.passing (some_left inv.passing h)

  module _ (h : at < length s) {r : ℕ} {t : Bool} (p : KindIs s at r) (q : Says (same (map raise (part s (at + 1) r)) (map raise name)) t) where
    -- the first of them decides, or the others do
    stepped : (ps : List Held) → properties_of s ≡ some ps
        → value_in ps name ≡ if_some (pick t (held_at s at) (first (λ x. same (map raise x.name) (map raise name)) (held_from s (held_stop s at) (inv.left - 1)))) none (λ x. x.value)
    unfolding value_in held_at
    stepped ps e = inv.rest ps e ∙ rw ((walk_step inv.passing.left (some_left inv.passing h)).values, ← p.is, q.is)

    pub look_found : t ≡ true → PositionIs s name r
    unfolding held_at
    look_found e = record {
      is = λ ps f. stepped ps f ∙ rw (e, here_is s r (omega (arith, p.behind)), p.is);
      stands = λ g. p.stands;
    }

    pub look_again : {q : ℕ} → t ≡ false → q ≡ value_stop (get_or s r 0) s (r + 1) → LooksFrom s name q
    unfolding value_in
    look_again {q} e f = record {
      left = inv.left - 1;
      passing = pass_again inv.passing (some_left inv.passing h) (stop_is p f);
      rest = λ ps i. stepped ps i ∙ rw (e, stop_is p f);
    }

  pub look_end : length s ≤ at → PositionIs s name 0
  unfolding value_in values_at
  look_end h = record { is = λ ps e. inv.rest ps e ∙ go inv.left inv.passing; stands = λ g. absurd (not-suc-le-zero g) }
    where
      go : (n : ℕ) → HeldPass s at n → value_in (held_from s at n) name ≡ none
      go zero p = refl
      go (suc n) p = let x = pass_here p (omega arith) in absurd (omega (arith, x.low, x.fits))
