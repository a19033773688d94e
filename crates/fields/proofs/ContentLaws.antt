-- The text of a field, copied byte by byte: what was copied, in front of what is read from here, is the text.
use Prim.Native.Nat.{ℕ, ◌+◌, ◌-◌, ◌≤◌, ◌<◌}
use mathlib.Core.Path.{◌≡◌, refl, sym, ◌∙◌, ap, subst}
use mathlib.Core.Bool.{Bool, true, false, cond}
use mathlib.Core.List.{List, [], ◌∷◌, ◌++◌, append-nil}
use mathlib.Core.Option.{Option, some, none, none-ne-some, some-injective}
use native.Mathlib.Omega.{arith}
use native.Mathlib.Decide.{dec_lt}
use lib.Dec.{eqb}
use lib.ListN.{length, drop, get_or, set, drop_of_length-le, length-append}
use lib.Seq.{drop-drop}
use borrow.Author.Tests.{eq-eqb, ne_eqb, eqb-true, lt-ltb, le-ltb}
use Rattle.rules.specs.Lists.{if_some}
use Rattle.file_rules.specs.Fields.{inside, starts_with, quote}
use Rattle.file_rules.proofs.FieldLaws.{inside_other, inside_two, inside_last}
use Rattle.layout.specs.Reads.{part}
use Rattle.layout.specs.Ensures.{Puts, PutsTo}
use Rattle.layout.proofs.StoreLaws.{puts_of, puts_then}
use Rattle.fields.specs.declared.field.Field.{Field}
use Rattle.fields.specs.Field.{inside_text, text_of, TextIs}
use Rattle.fields.specs.Content.{InnerText, Step, PutsInner}
use Rattle.fields.proofs.PartLaws.{next_byte}
use Rattle.fields.proofs.QuoteLaws.{ahead, ahead_some, ahead_none, ahead_more}

pub step_two : {b : ℕ} → b ≡ 34 → Step b 2
step_two {b} e = record { is = sym (ap (λ (x : Bool). cond x 2 1) (eq-eqb b 34 e)); few = omega arith }

pub step_one : {b : ℕ} → (b ≡ 34 → ⊥) → Step b 1
step_one {b} n = record { is = sym (ap (λ (x : Bool). cond x 2 1) (ne_eqb b 34 n)); few = omega arith }

abbrev given : List ℕ → List ℕ → Option (List ℕ × List ℕ)
given t u = some (t, u)

-- n bytes of the text were copied, and the next is read at i
pub record Copying (line : List ℕ) (from count : ℕ) (old : List ℕ) (at : ℕ) (out : List ℕ) (i n : ℕ) : Type 0 where
  pub text : List ℕ
  pub rest : List ℕ
  pub done : List ℕ
  pub whole : inside (drop from line) ≡ some (text, rest)
  pub is : some (text, rest) ≡ ahead done (inside (drop i line))
  pub long : length text ≡ count
  pub few : length done ≡ n
  pub room : at + count ≤ length old
  pub near : i ≤ length line + 1
  pub puts : Puts old at done out

module _ {line : List ℕ} {from count : ℕ} {old : List ℕ} {at : ℕ} where
  pub copy_start : at + count ≤ length old → InnerText line from count → Copying line from count old at old from 0
  copy_start h p =
      record {
        text = p.text;
        rest = p.rest;
        done = [];
        whole = p.is;
        is = sym p.is;
        long = p.long;
        few = refl;
        room = h;
        near = omega
            (arith, p.low);
        puts = puts_of (omega arith) refl;
      }

  module _ {out : List ℕ} {i n : ℕ} (p : Copying line from count old at out i n) where
    pub copy_inside : n < count → i < length line
    unfolding inside
    copy_inside h = by (dec_lt i (length line))
      where
        by : Dec (i < length line) → i < length line
        by (yes l) = l
        by (no k) =
            absurd (none-ne-some (p.text, p.rest) (sym (p.is
            ∙ (ap (λ (u : List ℕ). ahead p.done (inside u)) (drop_of_length-le line {i = i} (omega arith)) ∙ ahead_none p.done))))

    -- one byte more, which is read up to j
    more : n < count → (j : ℕ) → j ≤ length line + 1 → some (p.text, p.rest) ≡ ahead (p.done ++ (get_or line i 0 ∷ [])) (inside (drop j line))
        → Copying line from count old at (set out (at + n) (get_or line i 0)) j (n + 1)
    more h j g e = record {
      text = p.text;
      rest = p.rest;
      done = p.done ++ (get_or line i 0 ∷ []);
      whole = p.whole;
      is = e;
      long = p.long;
      few = length-append p.done (get_or line i 0 ∷ []) ∙ omega (arith, p.few);
      room = p.room;
      near = g;
      puts = puts_then p.puts (ap (λ (k : ℕ). at + k) p.few) (puts_of (omega (arith, p.puts.long, p.room)) refl);
    }

    byte_here : i < length line → some (p.text, p.rest) ≡ ahead p.done (inside (get_or line i 0 ∷ drop (i + 1) line))
    byte_here l = p.is ∙ ap (λ (u : List ℕ). ahead p.done (inside u)) (next_byte line i l)

    -- a quote that is not the last of the text is followed by another
    pair : n < count → i < length line → eqb (get_or line i 0) 34 ≡ true
        → some (p.text, p.rest) ≡ ahead (p.done ++ (get_or line i 0 ∷ [])) (inside (drop (i + 2) line))
    pair h l e = by (drop (i + 1) line) refl
      where
        b : ℕ
        b = get_or line i 0

        ends : (s : List ℕ) → drop (i + 1) line ≡ s → starts_with quote s ≡ false → ⊥
        ends s d f =
            let x : given p.text p.rest ≡ given (p.done ++ []) s =
            byte_here l
            ∙ (ap (λ (u : List ℕ). ahead p.done (inside (b ∷ u))) d ∙ (ap (ahead p.done) (inside_last b s e f) ∙ ahead_some p.done [] s)) in
            let y : p.text ≡ p.done =
            ap (λ (q : List ℕ × List ℕ). q.0) (some-injective (p.text, p.rest) (p.done ++ [], s) x) ∙ append-nil p.done in
            omega (arith, ap length y, p.long, p.few)

        by : (s : List ℕ) → drop (i + 1) line ≡ s → some (p.text, p.rest) ≡ ahead (p.done ++ (b ∷ [])) (inside (drop (i + 2) line))
        by [] d = absurd (ends [] d refl)
        by (c ∷ s) d = go (eqb c 34) refl
          where
            go : (x : Bool) → eqb c 34 ≡ x → some (p.text, p.rest) ≡ ahead (p.done ++ (b ∷ [])) (inside (drop (i + 2) line))
            go false f = absurd (ends (c ∷ s) d f)
            go true f =
                let k : i + 2 ≡ i + 1 + 1 = omega arith in
                let r : drop (i + 2) line ≡ s = ap (λ (j : ℕ). drop j line) k ∙ (sym (drop-drop 1 (i + 1) line) ∙ ap (drop 1) d) in
                byte_here l ∙ (ap (λ (u : List ℕ). ahead p.done (inside (b ∷ u))) d ∙ (ap (ahead p.done) (inside_two b c s e f)
                ∙ (ahead_more p.done quote (inside s)
                ∙ (ap (λ (k : ℕ). ahead (p.done ++ (k ∷ [])) (inside s)) (sym (eqb-true b 34 e))
                ∙ sym (ap (λ (u : List ℕ). ahead (p.done ++ (b ∷ [])) (inside u)) r)))))

    pub copy_on : {r : ℕ} → n < count → Step (get_or line i 0) r → Copying line from count old at (set out (at + n) (get_or line i 0)) (i + r) (n + 1)
    copy_on {r} h q = by (eqb (get_or line i 0) 34) refl
      where
        by : (x : Bool) → eqb (get_or line i 0) 34 ≡ x → Copying line from count old at (set out (at + n) (get_or line i 0)) (i + r) (n + 1)
        by true e =
            subst (λ (k : ℕ). Copying line from count old at (set out (at + n) (get_or line i 0)) (i + k) (n + 1)) (sym (q.is
            ∙ ap (λ (x : Bool). cond x 2 1) e)) (more h (i + 2) (omega (arith, copy_inside h)) (pair h (copy_inside h) e))
        by false e =
            subst (λ (k : ℕ). Copying line from count old at (set out (at + n) (get_or line i 0)) (i + k) (n + 1)) (sym (q.is
            ∙ ap (λ (x : Bool). cond x 2 1) e))
            (more h (i + 1) (omega (arith, copy_inside h)) (byte_here (copy_inside h)
            ∙ (ap (ahead p.done) (inside_other (get_or line i 0) (drop (i + 1) line) e)
            ∙ ahead_more p.done (get_or line i 0) (inside (drop (i + 1) line)))))

    pub copy_end : count ≤ n → PutsInner old at line from out (at + count)
    copy_end h =
        record {
          puts = record {
            puts = subst (λ (s : List ℕ). Puts old at s out) (sym (same ∙ all_done)) p.puts;
            ends = ap (λ (k : ℕ). at + k)
                (sym (ap length same ∙ p.long));
          };
        }
      where
        same : inside_text (drop from line) ≡ p.text
        same = ap (λ (o : Option (List ℕ × List ℕ)). if_some o [] (λ x. x.0)) p.whole

        begins : (d : List ℕ) (o : Option (List ℕ × List ℕ)) (t u : List ℕ) → some (t, u) ≡ ahead d o → length t ≤ length d → t ≡ d
        begins d none t u e l = absurd (none-ne-some (t, u) (sym (e ∙ ahead_none d)))
        begins d (some x) t u e l =
            both x.0 (ap (λ (q : List ℕ × List ℕ). q.0) (some-injective (t, u) (d ++ x.0, x.1) (e ∙ ahead_some d x.0 x.1)))
          where
            both : (w : List ℕ) → t ≡ d ++ w → t ≡ d
            both [] f = f ∙ append-nil d
            both (b ∷ w) f = absurd (omega (arith, ap length f, length-append d (b ∷ w)))

        all_done : p.text ≡ p.done
        all_done = begins p.done (inside (drop i line)) p.text p.rest p.is (omega (arith, p.long, p.few))

-- ---- the text of a field

module _ {line : List ℕ} {f : Field} (t : TextIs line f) where
  pub inner_is : f.count < f.to - f.from → InnerText line f.from f.count
  inner_is h = record { text = text_of line f; rest = (t.closes h).0; is = (t.closes h).1; long = t.count; low = omega (arith, t.low, t.fits) }

  pub text_inner : {old new : List ℕ} {at r : ℕ} → f.count < f.to - f.from → PutsInner old at line f.from new r
      → PutsTo old at (text_of line f) new r
  unfolding text_of
  text_inner {old} {new} {at} {r} h p =
      subst (λ (s : List ℕ). PutsTo old at s new r)
      (sym (ap (λ (b : Bool). cond b (inside_text (drop f.from line)) (part line f.from f.to)) (lt-ltb f.count (f.to - f.from) h)))
      p.puts

  bare_text : f.to - f.from ≤ f.count → text_of line f ≡ part line f.from f.to
  unfolding text_of
  bare_text h = ap (λ (b : Bool). cond b (inside_text (drop f.from line)) (part line f.from f.to)) (le-ltb f.count (f.to - f.from) h)

  pub text_room : (n k : ℕ) → f.to - f.from ≤ f.count → n + f.count ≤ k → n + length (part line f.from f.to) ≤ k
  text_room n k h g = omega (arith, ap length (bare_text h), t.count)

  pub text_bare : {old new : List ℕ} {at r : ℕ} → f.to - f.from ≤ f.count → PutsTo old at (part line f.from f.to) new r
      → PutsTo old at (text_of line f) new r
  text_bare {old} {new} {at} {r} h p = subst (λ (s : List ℕ). PutsTo old at s new r) (sym (bare_text h)) p
