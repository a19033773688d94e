-- All properties, one behind the other.
use Prim.Native.Nat.{ℕ, ◌+◌, ◌*◌, ◌-◌, ◌≤◌, ◌<◌}
use mathlib.Core.Path.{◌≡◌, refl, sym, ◌∙◌, ap, subst}
use mathlib.Core.Bool.{Bool, true, false, ◌&&◌, not, and-true, and-false}
use mathlib.Core.List.{List, [], ◌∷◌, ◌++◌}
use mathlib.Core.Option.{Option, some, none}
use native.Mathlib.Omega.{arith}
use native.Mathlib.Decide.{ℕ_discrete}
use lib.Dec.{eqb}
use lib.ListN.{length, length-append}
use borrow.Author.Tests.{eq-eqb, ne_eqb}
use Rattle.rules.specs.Lists.{cons_some, gather, is_some}
use Rattle.rules.specs.Book.{Scheme}
use Rattle.rules.specs.Question.{Property, property}
use Rattle.rules.specs.FinalNumber.{shown_of, separator_of}
use Rattle.layout.specs.Counted.{Stands, values_at}
use Rattle.layout.specs.Ensures.{PutsTo}
use Rattle.layout.proofs.StoreLaws.{to_nothing, to_then}
use Rattle.layout.proofs.CountedLaws.{walk_step, walk_here}
use Rattle.records.specs.Ensures.{scheme_in, SchemeIs}
use Rattle.records.specs.declared.schemes.SchemeParts.{SchemeParts}
use Rattle.properties.specs.declared.PropertyParts.{PropertyParts}
use Rattle.properties.specs.Properties.{property_at, property_stop, properties_at, property_in, PropertiesStand, PropertyIs}
use Rattle.values.specs.Values.{before, most, led, brought, led_all, brought_all}
use Rattle.values.proofs.ValueLaws.{led_short}

-- ---- one property, and the others

led_step : (s : Scheme) (first : Bool) (o : Option (List ℕ)) (vs : List (List ℕ)) → led_all s first (cons_some o vs) ≡ led s first o ++ led_all s (first && not (is_some o)) vs
unfolding led_all
led_step s first none vs = ap (λ b. led_all s b vs) (sym (and-true first))
led_step s true (some v) vs = refl
led_step s false (some v) vs = refl

-- the next value is the first as long as the place is where the base number ends
module _ (s : Scheme) (base at : ℕ) (low : base ≤ at) where
  still_first : (o : Option (List ℕ)) (r : ℕ) → r ≡ at + length (led s (eqb at base) o) → eqb r base ≡ (eqb at base && not (is_some o))
  still_first none r e =
      let f : r ≡ at = omega arith in
      rw f (sym (and-true (eqb at base)))
  still_first (some v) r e = ne_eqb r base (λ f. go (ℕ_discrete at base) f) ∙ sym (and-false (eqb at base))
    where
      some_bytes : (xs : List ℕ) → 1 ≤ length (separator_of xs)
      some_bytes [] = omega arith
      some_bytes (x ∷ xs) = omega arith

      go : Dec (at ≡ base) → r ≡ base → ⊥
      go (yes i) f =
          let g : r ≡ at + length (before s true ++ v) = e ∙ ap (λ b. at + length (before s b ++ v)) (eq-eqb at base i) in
          omega (arith, some_bytes s.number_separator, length-append (before s true) v)
      go (no n) f = n (omega arith)

-- ---- the loop

-- whoever writes the properties that are left from `at` on has written all of them behind the base number
pub record Putting (old : List ℕ) (base : ℕ) (q : List ℕ) (s : Scheme) (from count : ℕ) (out : List ℕ) (at p left : ℕ) : Type 0 where
  pub low : base ≤ at
  pub room : at + most * left ≤ length out
  pub long : length out ≡ length old
  pub standing : PropertiesStand q p left
  pub rest : {new : List ℕ} {r : ℕ} → PutsTo out at (led_all s (eqb at base) (gather (shown_of s) (properties_at q p left))) new r
      → PutsTo old base (brought_all s (properties_at q from count)) new r

module _ (old : List ℕ) (base : ℕ) (q : List ℕ) (t : List ℕ) (scheme : SchemeParts) (from count : ℕ) where
  abbrev s : Scheme
  s = scheme_in t scheme

  pub put_start : PropertiesStand q from count → base + most * count ≤ length old → Putting old base q (scheme_in t scheme) from count old base from count
  put_start p h = record {
    low = omega arith;
    room = h;
    long = refl;
    standing = p;
    rest = λ w. rw (eq-eqb base base refl) at w;
  }

  module _ {out : List ℕ} {at p left : ℕ} (inv : Putting old base q (scheme_in t scheme) from count out at p left) where
    pub put_here : 0 < left → Stands property property_at property_stop q p
    put_here h = walk_here inv.standing h

    pub put_room : 0 < left → at + most ≤ length out
    put_room h = omega (arith, inv.room)

    pub put_again : {x : PropertyParts} {new : List ℕ} {r : ℕ} → 0 < left → SchemeIs t scheme → PropertyIs q p x → PutsTo out at (brought (scheme_in t scheme) (eqb at base) (property_in q x)) new r
        → {left' : ℕ} → left' ≡ left - 1 → Putting old base q (scheme_in t scheme) from count new r (x.value.at + x.value.size) left'
    put_again {x} {new} {r} h is read w i =
        let step = walk_step inv.standing h in
        let o = shown_of s (property_in q x) in
        let vs = gather (shown_of s) (properties_at q (property_stop q p) (left - 1)) in
        let all : led_all s (eqb at base) (gather (shown_of s) (properties_at q p left)) ≡ led s (eqb at base) o ++ led_all s (eqb r base) vs =
        ap (λ (ps : List Property). led_all s (eqb at base) (gather (shown_of s) ps)) step.values
        ∙ (ap (λ (y : Property). led_all s (eqb at base) (cons_some (shown_of s y) vs)) read.is
        ∙ (led_step s (eqb at base) o vs ∙ ap (λ b. led s (eqb at base) o ++ led_all s b vs) (sym (still_first s base at inv.low o r w.ends)))) in
        rw (i, read.next) (record {
          low = omega (arith, inv.low, w.ends);
          room = omega (arith, inv.room, w.ends, w.puts.long, led_short s is.bounds q x read.fits (eqb at base));
          long = w.puts.long ∙ inv.long;
          standing = step.rest;
          rest = λ {new = new'} {r = r'} x. inv.rest (subst (λ (bs : List ℕ). PutsTo out at bs new' r') (sym all) (to_then w x));
        })

    pub put_end : left ≤ 0 → PutsTo old base (brought_all (scheme_in t scheme) (properties_at q from count)) out at
    unfolding led_all values_at
    put_end h =
        let e : left ≡ 0 = omega arith in
        inv.rest (rw e (to_nothing (omega (arith, inv.room))))
