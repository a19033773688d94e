-- One property: the separator in front of it, and what it shows.
use Prim.Native.Nat.{ℕ, zero, suc, ◌+◌, ◌-◌, ◌≤◌}
use mathlib.Core.Path.{◌≡◌, refl, sym, ◌∙◌, subst}
use mathlib.Core.Bool.{Bool, true, false, ◌&&◌, false≢true}
use mathlib.Core.List.{List, [], ◌∷◌, ◌++◌}
use mathlib.Core.Option.{Option, some, none, none-ne-some, some-injective}
use native.Mathlib.Omega.{arith}
use lib.Dec.{eqb}
use borrow.Author.Tests.{eqb-true}
use Rattle.rules.proofs.TestLaws.{and_left, and_right}
use lib.ListN.{length, drop, replicate, length-append, length-drop, length-replicate}
use lib.Seq.{length-take-le}
use Rattle.rules.specs.Book.{Scheme}
use Rattle.rules.specs.BookLayout.{given, hidden_byte, unselected_byte}
use Rattle.rules.specs.Question.{Property, state_number}
use Rattle.rules.specs.FinalNumber.{padded, hidden_run, stated, shown_of, separator_of}
use Rattle.rules.specs.declared.Part.{Part}
use Rattle.rules.specs.declared.State.TheVariants.{Valued, Hidden, Unselected}
use Rattle.layout.specs.Ensures.{Says, Number, PutsTo}
use Rattle.layout.proofs.StoreLaws.{to_nothing, to_then}
use Rattle.records.specs.Ensures.{bytes_in, scheme_in, SchemeBounds, SchemeIs}
use Rattle.records.specs.declared.schemes.SchemeParts.{SchemeParts}
use Rattle.properties.specs.declared.PropertyParts.{PropertyParts}
use Rattle.properties.specs.Properties.{property_in, PropertyFits}
use Rattle.values.specs.Values.{before, most, led, brought, by_state, value_bytes}

-- ---- a part

pub part_long : (s : List ℕ) (p : Part) → p.at + p.size ≤ length s → length (bytes_in s p) ≡ p.size
part_long s p h = length-take-le p.size (drop p.at s) (rw length-drop (omega arith))

-- ---- the separator

module _ (t : List ℕ) (s : SchemeParts) (is : SchemeIs t s) (old : List ℕ) (at : ℕ) where
  pub number_room : at + 8 ≤ length old → at + s.numbersep.size ≤ length old
  unfolding scheme_in
  number_room h = omega (arith, is.bounds.number_short, part_long t s.numbersep is.numbersep_in)

  pub value_room : at + 8 ≤ length old → at + s.valuesep.size ≤ length old
  unfolding scheme_in
  value_room h = omega (arith, is.bounds.value_short, part_long t s.valuesep is.valuesep_in)

  module _ {new : List ℕ} {r : ℕ} (first : Bool) where
    pub separator_blank : first ≡ true → s.numbersep.size ≡ 0 → PutsTo old at (replicate 1 32) new r → PutsTo old at (before (scheme_in t s) first) new r
    unfolding scheme_in
    separator_blank e z p = rw (e, z) p

    pub separator_number : first ≡ true → (s.numbersep.size ≡ 0 → ⊥) → PutsTo old at (bytes_in t s.numbersep) new r → PutsTo old at (before (scheme_in t s) first) new r
    unfolding scheme_in
    separator_number e n p = rw (e, given_as (bytes_in t s.numbersep) (λ z. n (sym (part_long t s.numbersep is.numbersep_in) ∙ z))) p
      where
        given_as : (xs : List ℕ) → (length xs ≡ 0 → ⊥) → separator_of xs ≡ xs
        given_as [] z = absurd (z refl)
        given_as (x ∷ xs) z = refl

    pub separator_value : first ≡ false → PutsTo old at (bytes_in t s.valuesep) new r → PutsTo old at (before (scheme_in t s) first) new r
    unfolding scheme_in
    separator_value e p = rw e p

-- none is longer than 8
module _ (s : Scheme) (b : SchemeBounds s) where
  before_short : (first : Bool) → length (before s first) ≤ 8
  before_short true = filled s.number_separator b.number_short
    where
      filled : (xs : List ℕ) → length xs ≤ 8 → length (separator_of xs) ≤ 8
      filled [] h = omega arith
      filled (x ∷ xs) h = h
  before_short false = b.value_short

-- ---- what a property shows

module _ (trim width : ℕ) {a b v : List ℕ} {at m : ℕ} where
  pub padded_filled : {c : List ℕ} {r : ℕ} → trim ≡ 0 → PutsTo a at v b m → PutsTo b m (replicate (width - length v) 32) c r → PutsTo a at (padded trim width v) c r
  padded_filled e p q = rw e (to_then p q)

  pub padded_trimmed : (trim ≡ 0 → ⊥) → PutsTo a at v b m → PutsTo a at (padded trim width v) b m
  padded_trimmed n p = subst (λ (x : List ℕ). PutsTo a at x b m) (sym (as_it_is trim n)) p
    where
      as_it_is : (t : ℕ) → (t ≡ 0 → ⊥) → padded t width v ≡ v
      as_it_is zero n = absurd (n refl)
      as_it_is (suc t) n = refl

module _ (q : List ℕ) (p : PropertyParts) (fits : PropertyFits q p) where
  pub shown_room : (old : List ℕ) (at : ℕ) → at + 30 ≤ length old → at + p.width ≤ length old
  shown_room old at h = omega (arith, fits.wide)

  -- there is no more of a value than it is wide
  pub value_long : {value : List ℕ} → value ≡ bytes_in q p.value → length value ≤ p.width
  value_long e = rw e (omega (arith, part_long q p.value fits.inside, fits.short))

module _ (q : List ℕ) (p : PropertyParts) (s : SchemeParts) {old new : List ℕ} {at r : ℕ} where
  pub valued : p.state ≡ Valued → {value : List ℕ} → value ≡ bytes_in q p.value → PutsTo old at (padded s.trim p.width value) new r
      → PutsTo old at (value_bytes s (property_in q p)) new r
  unfolding value_bytes
  valued e f h = rw e (rw f at h)

  module _ {c : ℕ} where
    pub hidden : p.state ≡ Hidden → Number (given 45 s.hidden) 256 c → PutsTo old at (replicate p.width c) new r → PutsTo old at (value_bytes s (property_in q p)) new r
    unfolding value_bytes
    hidden e g h = rw (e, ← g.is) h

    pub unselected : p.state ≡ Unselected → Number (given 88 s.unselected) 256 c → PutsTo old at (replicate p.width c) new r → PutsTo old at (value_bytes s (property_in q p)) new r
    unfolding value_bytes
    unselected e g h = rw (e, ← g.is) h

-- ---- how long it is

value_fits : (q : List ℕ) (p : PropertyParts) → PropertyFits q p → length (property_in q p).value ≤ p.width
value_fits q p fits = omega (arith, part_long q p.value fits.inside, fits.short)

-- what is shown is no longer than the property is wide, and as long where values are filled
pub record Wide (s : Scheme) (p : Property) (v : List ℕ) : Type 0 where
  pub within : length v ≤ p.width
  pub filled : s.trim ≡ 0 → length v ≡ p.width

module _ (s : Scheme) (p : Property) (fits : length p.value ≤ p.width) where
  run_wide : (c : ℕ) → Wide s p (replicate p.width c)
  run_wide c = record { within = omega (arith, length-replicate p.width c); filled = λ e. length-replicate p.width c }

  value_wide : Wide s p (padded s.trim p.width p.value)
  value_wide = record { within = by s.trim; filled = λ e. rw e full }
    where
      full : length (p.value ++ replicate (p.width - length p.value) 32) ≡ p.width
      full = omega (arith, length-append p.value (replicate (p.width - length p.value) 32), length-replicate {A = ℕ} (p.width - length p.value) 32)

      by : (trim : ℕ) → length (padded trim p.width p.value) ≤ p.width
      by zero = omega (arith, full)
      by (suc trim) = fits

  pub shown_wide : (v : List ℕ) → shown_of s p ≡ some v → Wide s p v
  shown_wide v e = by p.state e
    where
      is : {w : List ℕ} → some w ≡ some v → Wide s p w → Wide s p v
      is {w} e h = subst (Wide s p) (some-injective w v e) h

      run : (visibility : ℕ) → hidden_run visibility p.width s.hidden ≡ some v → Wide s p v
      run zero e = absurd (none-ne-some v e)
      run (suc n) e = is e (run_wide (hidden_byte s.hidden))

      by : (state : ℕ) → stated s state p ≡ some v → Wide s p v
      by zero e = is e value_wide
      by (suc zero) e = run s.visibility e
      by (suc (suc state)) e = is e (run_wide (unselected_byte s.unselected))

-- ---- a property and its separator

module _ (t : List ℕ) (s : SchemeParts) where
  -- a hidden property that the scheme does not show
  shows_not : (p : Property) → (eqb p.state 1 && eqb s.visibility 0) ≡ true → shown_of (scheme_in t s) p ≡ none
  unfolding scheme_in
  shows_not p e = rw (eqb-true p.state 1 (and_left (eqb p.state 1) (eqb s.visibility 0) e), eqb-true s.visibility 0 (and_right (eqb p.state 1) (eqb s.visibility 0) e))

  -- any other shows something
  shows : (p : Property) → (eqb p.state 1 && eqb s.visibility 0) ≡ false → shown_of (scheme_in t s) p ≡ some (value_bytes s p)
  unfolding scheme_in value_bytes
  shows p e = by p.state e
    where
      run : (v : ℕ) → eqb v 0 ≡ false → hidden_run v p.width s.hidden ≡ some (by_state s 1 p)
      run zero e = absurd (false≢true (sym e))
      run (suc v) e = refl

      by : (state : ℕ) → (eqb state 1 && eqb s.visibility 0) ≡ false → stated (scheme_in t s) state p ≡ some (by_state s state p)
      by zero e = refl
      by (suc zero) e = run s.visibility e
      by (suc (suc state)) e = refl

module _ (t : List ℕ) (s : SchemeParts) (q : List ℕ) (p : PropertyParts) (at : ℕ) (first : Bool) (a : List ℕ) where
  module _ {out : Bool} (said : Says (eqb (state_number p.state) 1 && eqb s.visibility 0) out) where
    pub next_none : at + most ≤ length a → out ≡ true → PutsTo a at (brought (scheme_in t s) first (property_in q p)) a at
    next_none h e = subst (λ (o : Option (List ℕ)). PutsTo a at (led (scheme_in t s) first o) a at) (sym (shows_not t s (property_in q p) (said.is ∙ e))) (to_nothing (omega arith))

    pub next_some : {b c : List ℕ} {m r : ℕ} → out ≡ false → PutsTo a at (before (scheme_in t s) first) b m → PutsTo b m (value_bytes s (property_in q p)) c r
        → PutsTo a at (brought (scheme_in t s) first (property_in q p)) c r
    next_some {c = c} {r = r} e sep v = subst (λ (o : Option (List ℕ)). PutsTo a at (led (scheme_in t s) first o) c r) (sym (shows t s (property_in q p) (said.is ∙ e))) (to_then sep v)

  -- behind its separator there is room for it
  pub next_room : {b : List ℕ} {m : ℕ} → PutsTo a at (before (scheme_in t s) first) b m → SchemeIs t s → at + most ≤ length a → m + 30 ≤ length b
  next_room sep is h = omega (arith, sep.ends, sep.puts.long, before_short (scheme_in t s) is.bounds first)

-- so many bytes at most
pub led_short : (s : Scheme) → SchemeBounds s → (q : List ℕ) (p : PropertyParts) → PropertyFits q p → (first : Bool) → length (brought s first (property_in q p)) ≤ most
led_short s b q p fits first = go (shown_of s (property_in q p)) (λ v e. (shown_wide s (property_in q p) (value_fits q p fits) v e).within)
  where
    go : (o : Option (List ℕ)) → ((v : List ℕ) → o ≡ some v → length v ≤ p.width) → length (led s first o) ≤ most
    go none h = omega arith
    go (some v) h = omega (arith, h v refl, fits.wide, before_short s b first, length-append (before s first) v)
