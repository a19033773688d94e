-- The thirteen fields, one after the other; and where one is missing, there is no row.
use Prim.Native.Nat.{ℕ, zero, suc, ◌+◌, ◌-◌, ◌≤◌, ◌<◌}
use mathlib.Core.Path.{◌≡◌, refl, sym, ◌∙◌, ap, subst}
use mathlib.Core.Logic.{◌⊎◌, inl, inr}
use mathlib.Core.Bool.{Bool, true, false}
use mathlib.Core.List.{List}
use mathlib.Core.Option.{Option, some, none}
use native.Mathlib.Omega.{arith}
use native.Mathlib.Decide.{dec_lt}
use native.Mathlib.Numerals.{add-one}
use lib.ListN.{length, drop, set, length-set, replicate}
use lib.Seq.{get_or-set_same, get_or-set_other}
use Rattle.rules.specs.Layout.{Layout, and_then, ◌>>=◌, give_if, ◌such◌, must, back, whole, wholly}
use Rattle.rules.specs.BookLayout.{value_of, in_bounds}
use Rattle.file_rules.specs.Fields.{field, next_field}
use Rattle.file_rules.specs.PriceLine.{◌meaning◌, price_line}
use Rattle.fields.specs.declared.field.Field.{Field}
use Rattle.fields.specs.Given.{GivesNone}
use Rattle.fields.specs.Field.{text_of, TextIs, FieldIs, NextIs}
use Rattle.price_line.specs.Line.{zero_field, nth, FieldsAre, FieldsTo}

-- ---- a layout that reads fields gives nothing where one of them is missing

-- of the next n fields one is missing
abbrev Broken : ℕ → List ℕ → Type 0
Broken zero s = ⊥
Broken (suc n) s = (next_field s ≡ none) ⊎ ((x : List ℕ × List ℕ) × (next_field s ≡ some x) × Broken n x.1)

-- the layout reads n fields, or more
record Needs (n : ℕ) {A : Type 0} (m : Layout A) : Type 0 where
  pub broken : (s : List ℕ) → Broken n s → m s ≡ none

-- nothing behind a field that is missing
no_field : {A B C : Type 0} (m : Layout A) (f : A → Layout B) (K : B → Layout C) {s : List ℕ} → m s ≡ none → ((m >>= f) >>= K) s ≡ none
no_field m f K e = ap (λ (o : Option (_ × List ℕ)). and_then (and_then o f) K) e

-- and behind one that is there, what its text means decides
field_then : {A B C : Type 0} (m : Layout A) (f : A → Layout B) (K : B → Layout C) {s : List ℕ} {x : A × List ℕ} → m s ≡ some x
    → ((m >>= f) >>= K) s ≡ and_then (f x.0 x.1) K
field_then m f K e = ap (λ (o : Option (_ × List ℕ)). and_then (and_then o f) K) e

needs_none : {A : Type 0} (m : Layout A) → Needs 0 m
needs_none m = record { broken = λ s b. absurd b }

such_broken : {n : ℕ} {B : Type 0} (m : Layout (List ℕ)) (p : List ℕ → Bool) (K : List ℕ → Layout B) → ((t : List ℕ) → Needs n (K t))
    → (s : List ℕ) (x : List ℕ × List ℕ) → m s ≡ some x → Broken n x.1 → ((m such p) >>= K) s ≡ none
such_broken m p K k s x e b = field_then m (λ a. give_if (p a) a) K e ∙ go (p x.0)
  where
    go : (t : Bool) → and_then (give_if t x.0 x.1) K ≡ none
    go false = refl
    go true = (k x.0).broken x.1 b

module _ {n : ℕ} {B : Type 0} where
  needs_meaning : {A : Type 0} (f : List ℕ → Option A) (K : A → Layout B) → ((a : A) → Needs n (K a)) → Needs (suc n) ((next_field meaning f) >>= K)
  needs_meaning f K k = record { broken = by }
    where
      by : (s : List ℕ) → Broken (suc n) s → ((next_field meaning f) >>= K) s ≡ none
      by s (inl e) = no_field next_field (λ a. back (f a)) K e
      by s (inr x) = field_then next_field (λ a. back (f a)) K x.1 ∙ go (f x.0.0)
        where
          go : (o : Option _) → and_then (back o x.0.1) K ≡ none
          go none = refl
          go (some a) = (k a).broken x.0.1 x.2

  needs_such : (p : List ℕ → Bool) (K : List ℕ → Layout B) → ((t : List ℕ) → Needs n (K t)) → Needs (suc n) ((next_field such p) >>= K)
  needs_such p K k = record { broken = by }
    where
      by : (s : List ℕ) → Broken (suc n) s → ((next_field such p) >>= K) s ≡ none
      by s (inl e) = no_field next_field (λ a. give_if (p a) a) K e
      by s (inr x) = such_broken next_field p K k s x.0 x.1 x.2

  needs_must : (b : Bool) (K : Unit {0} → Layout B) → Needs n (K tt) → Needs n (must b >>= K)
  needs_must true K k = record { broken = λ s x. k.broken s x }
  needs_must false K k = record { broken = λ s x. refl }

line_missing : (s : List ℕ) → field s ≡ none → whole price_line s ≡ none
line_missing s e = ap wholly (no_field field _ _ e)

line_broken : (s : List ℕ) (x : List ℕ × List ℕ) → field s ≡ some x → Broken 12 x.1 → whole price_line s ≡ none
line_broken s x e b =
    ap wholly (such_broken field _ _ (λ article. needs_such _ _ (λ condition. needs_meaning _ _ (λ sort. needs_meaning _ _ (λ level. needs_meaning _ _ (λ rule.
    needs_such _ _ (λ name. needs_meaning _ _ (λ hundredths. needs_meaning _ _ (λ fixed. needs_must (in_bounds (value_of (fixed - 48) hundredths)) _ (needs_such _ _ (λ currency.
    needs_meaning _ _ (λ from. needs_meaning _ _ (λ to. needs_meaning _ _ (λ up_to. needs_such _ _ (λ last. needs_none _)))))))))))))) s x e b)

pub fields_none : (line : List ℕ) → GivesNone (field (drop 0 line)) → GivesNone (whole price_line line)
fields_none line p = record { is = line_missing line p.is }

module _ {line : List ℕ} where
  pub fields_start : {f : Field} → FieldIs line 0 f → FieldsTo line (replicate 13 f) 1
  fields_start p = record { long = refl; low = omega arith; few = omega arith; fits = p.text.next_fits; first = p; each = λ j h. absurd (omega arith) }

  module _ {fs : List Field} {k : ℕ} (p : FieldsTo line fs k) where
    pub fields_on : {f : Field} → k < 13 → NextIs line (nth fs (k - 1)).next f → FieldsTo line (set fs k f) (k + 1)
    fields_on {f = f} h q = record {
      long = length-set fs k f ∙ p.long;
      low = omega arith;
      few = omega arith;
      fits = subst (λ (g : Field). g.next ≤ length line) (sym (ap (nth (set fs k f)) (omega arith) ∙ same)) q.text.next_fits;
      first = subst (FieldIs line 0) (sym (other 0 (omega (arith, p.low)))) p.first;
      each = λ j l. by j l;
    }
      where
        same : nth (set fs k f) k ≡ f
        same = get_or-set_same fs k f zero_field (omega (arith, p.long))

        other : (j : ℕ) → (j ≡ k → ⊥) → nth (set fs k f) j ≡ nth fs j
        other j n = get_or-set_other fs k j f zero_field n

        by : (j : ℕ) → j + 1 < k + 1 → NextIs line (nth (set fs k f) j).next (nth (set fs k f) (j + 1))
        by j l = go (dec_lt (j + 1) k)
          where
            go : Dec (j + 1 < k) → NextIs line (nth (set fs k f) j).next (nth (set fs k f) (j + 1))
            go (yes n) =
                subst (λ (g : Field). NextIs line g.next (nth (set fs k f) (j + 1))) (sym (other j (omega arith)))
                (subst (NextIs line (nth fs j).next) (sym (other (j + 1) (omega arith))) (p.each j n))
            go (no n) =
                let e : j + 1 ≡ k = omega arith in
                let w : k - 1 ≡ j = omega arith in
                subst (λ (g : Field). NextIs line g.next (nth (set fs k f) (j + 1))) (sym (other j (omega arith)))
                (subst (NextIs line (nth fs j).next) (sym (ap (nth (set fs k f)) e ∙ same)) (subst (λ (i : ℕ). NextIs line (nth fs i).next f) w q))

    pub fields_end : 13 ≤ k → FieldsAre line fs
    fields_end h = record { first = p.first; each = λ j l. p.each j (omega (arith, p.few)) }

    pub fields_stop : k < 13 → GivesNone (next_field (drop (nth fs (k - 1)).next line)) → GivesNone (whole price_line line)
    fields_stop h q =
        record { is = line_broken line (text_of line (nth fs 0), drop (nth fs 0).next line) p.first.reads.is (chain (k - 1) 0 12 (omega arith) (omega arith)) }
      where
        chain : (d j n : ℕ) → j + d ≡ k - 1 → d < n → Broken n (drop (nth fs j).next line)
        chain zero j zero e l = absurd (omega arith)
        chain (suc d) j zero e l = absurd (omega arith)
        chain zero j (suc n) e l =
            let f : k - 1 ≡ j = omega arith in inl (subst (λ (i : ℕ). next_field (drop (nth fs i).next line) ≡ none) f q.is)
        chain (suc d) j (suc n) e l =
            inr (
              (text_of line (nth fs (j + 1)), drop (nth fs (j + 1)).next line),
              (p.each j (omega (arith, p.low))).reads.is,
              chain d (j + 1) n (omega arith) (omega arith),
            )

  pub field_text : {fs : List Field} → FieldsAre line fs → (k : ℕ) → k < 13 → TextIs line (nth fs k)
  field_text p zero h = p.first.text
  field_text {fs} p (suc k) h = subst (λ (j : ℕ). TextIs line (nth fs j)) (add-one k) (p.each k (omega arith)).text
