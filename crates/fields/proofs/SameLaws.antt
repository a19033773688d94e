-- Two texts, compared byte by byte: what is left of both decides.
use Prim.Native.Nat.{ℕ, suc, ◌+◌, ◌-◌, ◌≤◌, ◌<◌}
use mathlib.Core.Path.{◌≡◌, refl, sym, ◌∙◌, ap, ap₂, subst}
use mathlib.Core.Bool.{Bool, true, false, ◌&&◌, cond, and_assoc, and-true}
use mathlib.Core.List.{List, [], ◌∷◌}
use mathlib.Core.Option.{Option, some, none, none-ne-some, some-injective}
use native.Mathlib.Omega.{arith}
use native.Mathlib.Decide.{dec_lt}
use lib.Dec.{eqb, ltb}
use lib.ListN.{length, take, drop, get_or, drop_of_length-le}
use lib.Seq.{drop-drop}
use borrow.Author.Tests.{eqb-true, lt-ltb, le-ltb, ltb-true}
use Rattle.rules.specs.Lists.{same}
use Rattle.rules.specs.Layout.{front}
use Rattle.file_rules.specs.Fields.{inside, starts_with, quote}
use Rattle.file_rules.proofs.FieldLaws.{inside_other, inside_two, inside_last}
use Rattle.layout.proofs.PartLaws.{part_length}
use Rattle.layout.specs.Reads.{part}
use Rattle.layout.specs.Ensures.{Says}
use Rattle.fields.specs.declared.field.Field.{Field}
use Rattle.fields.specs.Field.{inside_text, text_of, TextIs}
use Rattle.fields.specs.Content.{Step, StepIn}
use Rattle.fields.proofs.PartLaws.{next_byte}

pub step_twice : {f : Field} {b r : ℕ} → f.count < f.to - f.from → Step b r → StepIn f b r
step_twice {f} {b} h p =
    record { is = p.is ∙ sym (ap (λ (x : Bool). cond x (cond (eqb b 34) 2 1) 1) (lt-ltb f.count (f.to - f.from) h)); few = p.few }

pub step_once : {f : Field} {b : ℕ} → f.to - f.from ≤ f.count → StepIn f b 1
step_once {f} {b} h =
    record { is = sym (ap (λ (x : Bool). cond x (cond (eqb b 34) 2 1) 1) (le-ltb f.count (f.to - f.from) h)); few = omega arith }

-- ---- what is left of a text at i

abbrev given : List ℕ → List ℕ → Option (List ℕ × List ℕ)
given t u = some (t, u)

pub record Inner (line : List ℕ) (i : ℕ) (rest : List ℕ) : Type 0 where
  pub tail : List ℕ
  pub is : inside (drop i line) ≡ given rest tail

pub record Bare (line : List ℕ) (to i : ℕ) (rest : List ℕ) : Type 0 where
  pub is : rest ≡ part line i to
  pub low : i ≤ to
  pub fits : to ≤ length line

abbrev pub Left : Bool → List ℕ → ℕ → ℕ → List ℕ → Type 0
Left true line to i rest = Inner line i rest
Left false line to i rest = Bare line to i rest

-- its first byte stands at i, and the others are left behind it
pub record First (twice : Bool) (line : List ℕ) (to i : ℕ) (rest : List ℕ) : Type 0 where
  pub others : List ℕ
  pub is : rest ≡ get_or line i 0 ∷ others
  pub within : i < length line
  pub left : Left twice line to (i + cond twice (cond (eqb (get_or line i 0) 34) 2 1) 1) others

front_is : (b : ℕ) (o : Option (List ℕ × List ℕ)) (rest tail : List ℕ) → front b o ≡ given rest tail
    → (x : List ℕ) × (rest ≡ b ∷ x) × (o ≡ given x tail)
front_is b none rest tail e = absurd (none-ne-some (rest, tail) e)
front_is b (some p) rest tail e = (
  p.0,
  sym (ap (λ (q : List ℕ × List ℕ). q.0) (some-injective (b ∷ p.0, p.1) (rest, tail) e)),
  ap (λ (u : List ℕ). given p.0 u) (ap (λ (q : List ℕ × List ℕ). q.1) (some-injective (b ∷ p.0, p.1) (rest, tail) e)),
)

first_bare : (line : List ℕ) (to i : ℕ) (rest : List ℕ) → Bare line to i rest → 0 < length rest → First false line to i rest
first_bare line to i rest p h =
    let n : length rest ≡ to - i = ap length p.is ∙ part_length line i to p.fits in
    let e : to - i ≡ suc (to - (i + 1)) = omega arith in
    let l : i < length line = omega (arith, p.fits) in
    record {
      others = part line (i + 1) to;
      is = p.is ∙ (ap (λ (k : ℕ). take k (drop i line)) e ∙ ap (take (suc (to - (i + 1)))) (next_byte line i l));
      within = l;
      left = record { is = refl; low = omega arith; fits = p.fits };
    }

first_inner : (line : List ℕ) (to i : ℕ) (rest : List ℕ) → Inner line i rest → 0 < length rest → First true line to i rest
unfolding inside
first_inner line to i rest p h = by (dec_lt i (length line))
  where
    b : ℕ
    b = get_or line i 0

    by : Dec (i < length line) → First true line to i rest
    by (no k) = absurd (none-ne-some (rest, p.tail) (sym (ap inside (drop_of_length-le line {i = i} (omega arith))) ∙ p.is))
    by (yes l) = byte (eqb b 34) refl
      where
        here : inside (b ∷ drop (i + 1) line) ≡ given rest p.tail
        here = sym (ap inside (next_byte line i l)) ∙ p.is

        byte : (x : Bool) → eqb b 34 ≡ x → First true line to i rest
        byte false e =
            let y = front_is b (inside (drop (i + 1) line)) rest p.tail (sym (inside_other b (drop (i + 1) line) e) ∙ here) in
            record {
              others = y.0;
              is = y.1;
              within = l;
              left = subst (λ (x : Bool). Inner line (i + cond x 2 1) y.0) (sym e)
                  (record { tail = p.tail; is = y.2 });
            }
        byte true e = next (drop (i + 1) line) refl
          where
            ends : (s : List ℕ) → drop (i + 1) line ≡ s → starts_with quote s ≡ false → ⊥
            ends s d f =
                let x : given [] s ≡ given rest p.tail = sym (inside_last b s e f) ∙ (sym (ap (λ (u : List ℕ). inside (b ∷ u)) d) ∙ here) in
                let y : [] ≡ rest = ap (λ (q : List ℕ × List ℕ). q.0) (some-injective ([], s) (rest, p.tail) x) in
                omega (arith, ap length y)

            next : (s : List ℕ) → drop (i + 1) line ≡ s → First true line to i rest
            next [] d = absurd (ends [] d refl)
            next (c ∷ s) d = second (eqb c 34) refl
              where
                second : (x : Bool) → eqb c 34 ≡ x → First true line to i rest
                second false f = absurd (ends (c ∷ s) d f)
                second true f =
                    let k : i + 2 ≡ i + 1 + 1 = omega arith in
                    let r : drop (i + 2) line ≡ s = ap (λ (j : ℕ). drop j line) k ∙ (sym (drop-drop 1 (i + 1) line) ∙ ap (drop 1) d) in
                    let y =
                    front_is quote (inside s) rest p.tail (sym (inside_two b c s e f) ∙ (sym (ap (λ (u : List ℕ). inside (b ∷ u)) d) ∙ here)) in
                    record {
                      others = y.0;
                      is = y.1 ∙ ap (λ (j : ℕ). j ∷ y.0) (sym (eqb-true b 34 e));
                      within = l;
                      left = subst (λ (x : Bool). Inner line (i + cond x 2 1) y.0) (sym e) (record { tail = p.tail; is = ap inside r ∙ y.2 });
                    }

first : (twice : Bool) (line : List ℕ) (to i : ℕ) (rest : List ℕ) → Left twice line to i rest → 0 < length rest → First twice line to i rest
first true line to i rest p h = first_inner line to i rest p h
first false line to i rest p h = first_bare line to i rest p h

start : (line : List ℕ) (f : Field) → TextIs line f → (x : Bool) → ltb f.count (f.to - f.from) ≡ x
    → Left x line f.to f.from (text_of line f)
unfolding text_of
start line f t true e = let c = t.closes (ltb-true f.count (f.to - f.from) e) in record { tail = c.0; is = c.1 }
start line f t false e =
    record { is = ap (λ (b : Bool). cond b (inside_text (drop f.from line)) (part line f.from f.to)) e; low = t.low; fits = t.fits }

-- ---- both texts

pub record Comparing (line : List ℕ) (f : Field) (other : List ℕ) (g : Field) (i j n : ℕ) (ok : Bool) : Type 0 where
  pub xs : List ℕ
  pub ys : List ℕ
  pub one : Left (ltb f.count (f.to - f.from)) line f.to i xs
  pub two : Left (ltb g.count (g.to - g.from)) other g.to j ys
  pub left_one : length xs ≡ f.count - n
  pub left_two : length ys ≡ f.count - n
  pub few : n ≤ f.count
  pub near_one : i ≤ length line + 1
  pub near_two : j ≤ length other + 1
  pub is : same (text_of line f) (text_of other g) ≡ (ok && same xs ys)

module _ {line : List ℕ} {f : Field} {other : List ℕ} {g : Field} where
  pub same_start : TextIs line f → TextIs other g → f.count ≡ g.count → Comparing line f other g f.from g.from 0 true
  same_start t u e = record {
    xs = text_of line f;
    ys = text_of other g;
    one = start line f t (ltb f.count (f.to - f.from)) refl;
    two = start other g u (ltb g.count (g.to - g.from)) refl;
    left_one = omega (arith, t.count);
    left_two = omega (arith, u.count);
    few = omega arith;
    near_one = omega (arith, t.low, t.fits);
    near_two = omega (arith, u.low, u.fits);
    is = refl;
  }

  module _ {i j n : ℕ} {ok : Bool} (p : Comparing line f other g i j n ok) where
    module _ (h : n < f.count) where
      a : First (ltb f.count (f.to - f.from)) line f.to i p.xs
      a = first (ltb f.count (f.to - f.from)) line f.to i p.xs p.one (omega (arith, p.left_one))

      b : First (ltb g.count (g.to - g.from)) other g.to j p.ys
      b = first (ltb g.count (g.to - g.from)) other g.to j p.ys p.two (omega (arith, p.left_two))

      pub same_one : i < length line
      same_one = a.within

      pub same_two : j < length other
      same_two = b.within

      pub same_on : {r s : ℕ} → StepIn f (get_or line i 0) r → StepIn g (get_or other j 0) s
          → Comparing line f other g (i + r) (j + s) (n + 1) (ok && eqb (get_or line i 0) (get_or other j 0))
      same_on {r} {s} v w = record {
        xs = a.others;
        ys = b.others;
        one = subst (λ (k : ℕ). Left (ltb f.count (f.to - f.from)) line f.to (i + k) a.others) (sym v.is) a.left;
        two = subst (λ (k : ℕ). Left (ltb g.count (g.to - g.from)) other g.to (j + k) b.others) (sym w.is) b.left;
        left_one = omega (arith, p.left_one, ap length a.is);
        left_two = omega (arith, p.left_two, ap length b.is);
        few = omega arith;
        near_one = omega (arith, a.within, v.few);
        near_two = omega (arith, b.within, w.few);
        is =
            p.is
            ∙ (ap₂ (λ (x y : List ℕ). ok && same x y) a.is b.is
            ∙ sym (and_assoc ok (eqb (get_or line i 0) (get_or other j 0)) (same a.others b.others)));
      }

    pub same_end : f.count ≤ n → Says (same (text_of line f) (text_of other g)) ok
    same_end h =
        record {
          is = p.is
              ∙ (ap (λ (x : Bool). ok && x) (none_left p.xs p.ys (omega (arith, p.left_one)) (omega (arith, p.left_two))) ∙ and-true ok);
        }
      where
        none_left : (xs ys : List ℕ) → length xs ≡ 0 → length ys ≡ 0 → same xs ys ≡ true
        none_left [] [] d e = refl
        none_left [] (y ∷ ys) d e = absurd (omega arith)
        none_left (x ∷ xs) ys d e = absurd (omega arith)

  pub same_not : TextIs line f → TextIs other g → (f.count ≡ g.count → ⊥) → Says (same (text_of line f) (text_of other g)) false
  same_not t u n = record { is = by (text_of line f) (text_of other g) (λ e. n (sym t.count ∙ (e ∙ u.count))) }
    where
      by : (xs ys : List ℕ) → (length xs ≡ length ys → ⊥) → same xs ys ≡ false
      by [] [] n = absurd (n refl)
      by [] (y ∷ ys) n = refl
      by (x ∷ xs) [] n = refl
      by (x ∷ xs) (y ∷ ys) n = ap (λ (c : Bool). eqb x y && c) (by xs ys (λ e. n (ap suc e))) ∙ no (eqb x y)
        where
          no : (c : Bool) → (c && false) ≡ false
          no true = refl
          no false = refl
