-- A quoted field, read byte by byte: what was read so far, in front of what is read from here.
use Prim.Native.Nat.{ℕ, suc, ◌+◌, ◌-◌, ◌≤◌, ◌<◌}
use mathlib.Core.Path.{◌≡◌, refl, sym, ◌∙◌, ap, subst}
use mathlib.Core.Logic.{inl}
use mathlib.Core.Bool.{Bool, true, false, ◌&&◌}
use mathlib.Core.List.{List, [], ◌∷◌, ◌++◌, append-nil}
use mathlib.Core.Option.{Option, some, none}
use native.Mathlib.Omega.{arith}
use lib.ListN.{length, drop, get_or, drop_of_length-le, length-append}
use lib.Seq.{drop-cons}
use borrow.Author.Tests.{eq-eqb, ne_eqb}
use Rattle.rules.specs.Lists.{all}
use Rattle.rules.specs.Layout.{front}
use Rattle.rules.specs.Bytes.{name_byte}
use Rattle.file_rules.specs.Fields.{inside, starts_with, quote}
use Rattle.rules.proofs.ListLaws.{all_append}
use Rattle.file_rules.proofs.FieldLaws.{inside_other, inside_two, inside_last}
use Rattle.layout.specs.Reads.{part}
use Rattle.fields.specs.Given.{GivesNone}
use Rattle.fields.specs.Field.{Closing, Stands}
use Rattle.fields.proofs.PartLaws.{next_byte, part_none, part_more, part_two, stands_more, stands_pair}

abbrev Read : Type 0
Read = Option (List ℕ × List ℕ)

-- bytes in front of what is read
abbrev pub ahead : List ℕ → Read → Read
ahead [] o = o
ahead (b ∷ v) o = front b (ahead v o)

pub ahead_some : (v w t : List ℕ) → ahead v (some (w, t)) ≡ some (v ++ w, t)
ahead_some [] w t = refl
ahead_some (b ∷ v) w t = ap (front b) (ahead_some v w t)

pub ahead_none : (v : List ℕ) → ahead v none ≡ none
ahead_none [] = refl
ahead_none (b ∷ v) = ap (front b) (ahead_none v)

pub ahead_more : (v : List ℕ) (b : ℕ) (o : Read) → ahead v (front b o) ≡ ahead (v ++ (b ∷ [])) o
ahead_more [] b o = refl
ahead_more (c ∷ v) b o = ap (front c) (ahead_more v b o)

-- so far no quote closed the field, and n bytes of its text were read
pub record Inside (s : List ℕ) (at n i : ℕ) : Type 0 where
  pub text : List ℕ
  pub is : inside (drop at s) ≡ ahead text (inside (drop i s))
  pub low : at ≤ i
  pub fits : i ≤ length s
  pub small : n ≤ i
  pub count : length text ≡ n
  pub names : all name_byte text ≡ all name_byte (part s at i)
  pub stands : Stands text (part s at i)

module _ {s : List ℕ} {at : ℕ} where
  pub inside_start : at ≤ length s → Inside s at 0 at
  inside_start h = record {
    text = [];
    is = refl;
    low = omega arith;
    fits = h;
    small = omega arith;
    count = refl;
    names = sym (ap (all name_byte) (part_none s at));
    stands = inl (sym (part_none s at));
  }

  module _ {n i : ℕ} (p : Inside s at n i) where
    pub inside_on : i < length s → (get_or s i 0 ≡ 34 → ⊥) → Inside s at (n + 1) (i + 1)
    inside_on l k =
        let b : ℕ = get_or s i 0 in
        let e : part s at (i + 1) ≡ part s at i ++ (b ∷ []) = part_more s at i p.low l in
        record {
          text = p.text ++ (b ∷ []);
          is =
              p.is
              ∙ (ap (λ u. ahead p.text (inside u)) (next_byte s i l)
              ∙ (ap (ahead p.text) (inside_other b (drop (i + 1) s) (ne_eqb b 34 k)) ∙ ahead_more p.text b (inside (drop (i + 1) s))));
          low = omega (arith, p.low);
          fits = omega arith;
          small = omega (arith, p.small);
          count = omega (arith, p.count, length-append p.text (b ∷ []));
          names =
              all_append name_byte p.text (b ∷ [])
              ∙ (ap (λ (t : Bool). t && (name_byte b && true)) p.names
              ∙ (sym (all_append name_byte (part s at i) (b ∷ [])) ∙ sym (ap (all name_byte) e)));
          stands = subst (Stands (p.text ++ (b ∷ []))) (sym e) (stands_more b p.stands);
        }

    second : 2 ≤ length s - i → drop (i + 1) s ≡ get_or s (i + 1) 0 ∷ drop (i + 2) s
    second l = let e : suc (i + 1) ≡ i + 2 = omega arith in drop-cons s (i + 1) 0 (omega arith) ∙ ap (λ (k : ℕ). get_or s (i + 1) 0 ∷ drop k s) e

    pub inside_pair : i < length s → get_or s i 0 ≡ 34 → 2 ≤ length s - i → get_or s (i + 1) 0 ≡ 34 → Inside s at (n + 1) (i + 2)
    inside_pair l e g f =
        let two : part s at (i + 2) ≡ part s at i ++ (quote ∷ quote ∷ [])
        =
        part_two s at i p.low (omega arith)
        ∙ (ap (λ (b : ℕ). part s at i ++ (b ∷ get_or s (i + 1) 0 ∷ [])) e ∙ ap (λ (c : ℕ). part s at i ++ (quote ∷ c ∷ [])) f) in
        record {
          text = p.text ++ (quote ∷ []);
          is = p.is ∙ (ap (λ u. ahead p.text (inside u)) (next_byte s i l ∙ ap (λ u. get_or s i 0 ∷ u) (second g))
              ∙ (ap (ahead p.text) (inside_two (get_or s i 0) (get_or s (i + 1) 0) (drop (i + 2) s) (eq-eqb (get_or s i 0) 34 e)
              (eq-eqb (get_or s (i + 1) 0) 34 f)) ∙ ahead_more p.text quote (inside (drop (i + 2) s))));
          low = omega (arith, p.low);
          fits = omega arith;
          small = omega (arith, p.small);
          count = omega (arith, p.count, length-append p.text (quote ∷ []));
          names =
              all_append name_byte p.text (quote ∷ [])
              ∙ (ap (λ (t : Bool). t && true) p.names
              ∙ (sym (all_append name_byte (part s at i) (quote ∷ quote ∷ [])) ∙ sym (ap (all name_byte) two)));
          stands = subst (Stands (p.text ++ (quote ∷ []))) (sym two) (stands_pair p.stands);
        }

    closes : i < length s → get_or s i 0 ≡ 34 → starts_with quote (drop (i + 1) s) ≡ false → Closing s at (record { to = i; count = n })
    closes l e f = record {
      text = p.text;
      is =
          p.is
          ∙ (ap (λ u. ahead p.text (inside u)) (next_byte s i l)
          ∙ (ap (ahead p.text) (inside_last (get_or s i 0) (drop (i + 1) s) (eq-eqb (get_or s i 0) 34 e) f)
          ∙ (ahead_some p.text [] (drop (i + 1) s) ∙ ap (λ (t : List ℕ). some (t, drop (i + 1) s)) (append-nil p.text))));
      low = p.low;
      within = l;
      count = p.count;
      names = p.names;
      stands = p.stands;
    }

    pub closes_last : i < length s → get_or s i 0 ≡ 34 → length s - i < 2 → Closing s at (record { to = i; count = n })
    closes_last l e g = closes l e (ap (starts_with quote) (drop_of_length-le s {i = i + 1} (omega arith)))

    pub closes_here : i < length s → get_or s i 0 ≡ 34 → 2 ≤ length s - i → (get_or s (i + 1) 0 ≡ 34 → ⊥)
        → Closing s at (record { to = i; count = n })
    closes_here l e g k = closes l e (ap (starts_with quote) (second g) ∙ ne_eqb (get_or s (i + 1) 0) 34 k)

    pub never_closes : length s ≤ i → GivesNone (inside (drop at s))
    unfolding inside
    never_closes g = record { is = p.is ∙ (ap (λ u. ahead p.text (inside u)) (drop_of_length-le s g) ∙ ahead_none p.text) }
