-- A cut at a byte, spaces, and a field of either kind.
use Prim.Native.Nat.{ℕ, suc, ◌+◌, ◌-◌, ◌≤◌, ◌<◌}
use mathlib.Core.Path.{◌≡◌, refl, sym, ◌∙◌, ap, ap₂, subst}
use mathlib.Core.Logic.{inl, inr}
use mathlib.Core.Bool.{Bool, true, false, not, ◌||◌, cond}
use mathlib.Core.List.{List, [], ◌∷◌}
use mathlib.Core.Option.{Option, some}
use native.Mathlib.Omega.{arith}
use lib.Dec.{eqb}
use lib.ListN.{length, take, drop, get_or, drop_of_length-le, length-drop}
use Rattle.std.specs.Option.{MatchOption}
use Rattle.std.specs.declared.option.Option.{Option as Found}
use Rattle.std.specs.List.{prefix_len}
use Rattle.std.specs.Prelude.{◌==◌, Some, None}
use Rattle.std.proofs.lemmas.List.Sums.{prefix_len-le-length}
use lib.Seq.{drop-drop}
use borrow.Author.Tests.{eq-eqb, ne_eqb, eqb-true, eqb-false, lt-ltb, le-ltb}
use Rattle.rules.specs.Lists.{all, if_some}
use Rattle.rules.specs.Bytes.{name_byte}
use Rattle.file_rules.specs.Fields.{semicolon, quote, starts_with, onto, cut, inside, past_spaces, spaced, field_by, field, next_field}
use Rattle.file_rules.proofs.FieldLaws.{cut_on, cut_at, past_on, past_at}
use Rattle.layout.proofs.PartLaws.{part_length}
use Rattle.layout.specs.Reads.{part}
use Rattle.layout.proofs.LayoutLaws.{part_is, then_broken, then_rest, one_of_at, one_of_cut}
use Rattle.fields.specs.declared.field.Field.{Field}
use Rattle.fields.specs.declared.field.Closed.{Closed}
use Rattle.fields.specs.Given.{GivesNone}
use Rattle.fields.specs.Field.{Stands, Closing, CutAt, PastSpaces, Bare, Opened, inside_text, text_of, FieldIs, NextIs}
use Rattle.fields.proofs.PartLaws.{next_byte, rest_is}

-- ---- up to a byte, and behind spaces

abbrev other : ℕ → ℕ → Bool
other c b = not (b == c)

abbrev split : ℕ → List ℕ → List ℕ × List ℕ
split n s = (take n s, drop n s)

cut_first : (c : ℕ) (s : List ℕ) → cut c s ≡ split (prefix_len (other c) s) s
unfolding cut
cut_first c [] = refl
cut_first c (b ∷ s) = by (eqb c b) refl (cut_first c s)
  where
    by : (t : Bool) → eqb c b ≡ t → cut c s ≡ split (prefix_len (other c) s) s → cut c (b ∷ s) ≡ split (prefix_len (other c) (b ∷ s)) (b ∷ s)
    by true e i =
        cut_at c b s e ∙ sym (ap (λ (t : Bool). split (cond (not t) (1 + prefix_len (other c) s) 0) (b ∷ s)) (eq-eqb b c (sym (eqb-true c b e))))
    by false e i =
        let k : suc (prefix_len (other c) s) ≡ 1 + prefix_len (other c) s = omega arith in
        cut_on c b s e ∙ (ap (onto b) i ∙ (ap (λ (n : ℕ). split n (b ∷ s)) k
        ∙ sym (ap (λ (t : Bool). split (cond (not t) (1 + prefix_len (other c) s) 0) (b ∷ s)) (ne_eqb b c (λ f. eqb-false c b e (sym f))))))

spaces_first : (s : List ℕ) → past_spaces s ≡ drop (prefix_len (λ b. b == 32) s) s
unfolding past_spaces
spaces_first [] = refl
spaces_first (b ∷ s) = by (eqb b 32) refl (spaces_first s)
  where
    by : (t : Bool) → eqb b 32 ≡ t → past_spaces s ≡ drop (prefix_len (λ b. b == 32) s) s
        → past_spaces (b ∷ s) ≡ drop (prefix_len (λ b. b == 32) (b ∷ s)) (b ∷ s)
    by true e i =
        let k : suc (prefix_len (λ b. b == 32) s) ≡ 1 + prefix_len (λ b. b == 32) s = omega arith in
        past_on b s e ∙ (i ∙ (ap (λ (n : ℕ). drop n (b ∷ s)) k ∙ sym (ap (λ (t : Bool). drop (cond t (1 + prefix_len (λ b. b == 32) s) 0) (b ∷ s)) e)))
    by false e i = past_at b s e ∙ sym (ap (λ (t : Bool). drop (cond t (1 + prefix_len (λ b. b == 32) s) 0) (b ∷ s)) e)

module _ (s : List ℕ) (at : ℕ) (h : at ≤ length s) where
  prefix_rest : (p : ℕ → Bool) {n : ℕ} → n ≡ prefix_len p (take (length s - at) (drop at s))
      → (n ≡ prefix_len p (drop at s)) × (at + n ≤ length s)
  prefix_rest p {n = n} e =
      let f : n ≡ prefix_len p (drop at s) = e ∙ ap (prefix_len p) (rest_is at s) in
      (f, omega (arith, prefix_len-le-length p (drop at s), length-drop at s))

  pub cut_is : (c : ℕ) {n : ℕ} → n ≡ prefix_len (other c) (take (length s - at) (drop at s)) → CutAt c s at (at + n)
  cut_is c {n = n} e =
      let x = prefix_rest (other c) e in
      record {
        is =
            cut_first c (drop at s)
            ∙ (ap (λ (k : ℕ). split k (drop at s)) (sym x.0) ∙ ap₂ (λ (x y : List ℕ). (x, y)) (sym (part_is s at n)) (drop-drop n at s));
        low = omega arith;
        fits = x.1;
      }

  pub spaces_are : {n : ℕ} → n ≡ prefix_len (λ b. b == 32) (take (length s - at) (drop at s)) → PastSpaces s at (at + n)
  spaces_are {n = n} e =
      let x = prefix_rest (λ b. b == 32) e in
      record { is = spaces_first (drop at s) ∙ (ap (λ (k : ℕ). drop k (drop at s)) (sym x.0) ∙ drop-drop n at s); fits = x.1 }

-- ---- which kind a field is of

module _ {s : List ℕ} {at : ℕ} where
  pub bare_empty : at ≤ length s → length s ≤ at → Bare s at
  bare_empty h g = record { fits = h; bare = ap (starts_with quote) (drop_of_length-le s {i = at} g) }

  pub bare_other : at < length s → (get_or s at 0 ≡ 34 → ⊥) → Bare s at
  bare_other h n = record { fits = omega arith; bare = ap (starts_with quote) (next_byte s at h) ∙ ne_eqb (get_or s at 0) 34 n }

  pub opened_here : at < length s → get_or s at 0 ≡ 34 → Opened s at
  opened_here h e = record { fits = h; quoted = e }

-- ---- a field behind a semicolon

module _ (s : List ℕ) (at : ℕ) where
  pub next_end : length s ≤ at → GivesNone (next_field (drop at s))
  unfolding next_field
  next_end g = record { is = then_broken _ _ (one_of_cut s at (semicolon ∷ []) g) refl }

  pub next_other : at < length s → (get_or s at 0 ≡ 59 → ⊥) → GivesNone (next_field (drop at s))
  unfolding next_field
  next_other h n =
      record { is = then_broken _ _ (one_of_at s at (semicolon ∷ []) h) (ap (λ b. b || false) (ne_eqb (get_or s at 0) 59 n)) }

  behind : at < length s → get_or s at 0 ≡ 59 → next_field (drop at s) ≡ field (drop (at + 1) s)
  unfolding next_field
  behind h e = then_rest _ _ (one_of_at s at (semicolon ∷ []) h) (ap (λ b. b || false) (eq-eqb (get_or s at 0) 59 e))

  pub next_by : at < length s → get_or s at 0 ≡ 59 → (r : Found Field)
      → MatchOption r (GivesNone (field (drop (at + 1) s))) (FieldIs s (at + 1)) → MatchOption r (GivesNone (next_field (drop at s))) (NextIs s at)
  next_by h e None p = record { is = behind h e ∙ p.is }
  next_by h e (Some f) p = record { reads = record { is = behind h e ∙ p.reads.is }; text = p.text }

-- ---- a field without quotes around it

module _ {s : List ℕ} {at to : ℕ} (k : Bare s at) (p : CutAt semicolon s at to) where
  abbrev bare : Field
  bare = record { from = at; to = to; count = to - at; next = to }

  bare_text : text_of s bare ≡ part s at to
  unfolding text_of
  bare_text = ap (λ b. cond b (inside_text (drop at s)) (part s at to)) (le-ltb (to - at) (to - at) (omega arith))

  pub bare_is : FieldIs s at bare
  unfolding field
  bare_is = record {
    reads = record { is = ap (λ b. field_by b (drop at s)) k.bare ∙ (ap some p.is ∙ sym (ap (λ (t : List ℕ). some (t, drop to s)) bare_text)) };
    text = record {
      low = p.low;
      fits = p.fits;
      next_fits = p.fits;
      count = ap length bare_text ∙ part_length s at to p.fits;
      names = ap (all name_byte) bare_text;
      stands = inl bare_text;
      closes = λ l. absurd (omega arith);
    };
  }

-- ---- a field in quotes

opened_field : (s : List ℕ) (at : ℕ) → Opened s at → field (drop at s) ≡ spaced (inside (drop (at + 1) s))
unfolding field
opened_field s at o =
    ap (λ u. field_by (starts_with quote u) u) (next_byte s at o.fits)
    ∙ ap (λ b. field_by b (get_or s at 0 ∷ drop (at + 1) s)) (eq-eqb (get_or s at 0) 34 o.quoted)

pub quoted_open : {s : List ℕ} {at : ℕ} → Opened s at → GivesNone (inside (drop (at + 1) s)) → GivesNone (field (drop at s))
quoted_open {s} {at} o p = record { is = opened_field s at o ∙ ap spaced p.is }

module _ {s : List ℕ} {at : ℕ} (o : Opened s at) {c : Closed} (p : Closing s (at + 1) c) where
  pub behind_closed : c.to + 1 ≤ length s
  behind_closed = omega (arith, p.within)

  module _ {next : ℕ} (q : PastSpaces s (c.to + 1) next) where
    abbrev quoted : Field
    quoted = record { from = at + 1; to = c.to; count = c.count; next = next }

    long : length (part s (at + 1) c.to) ≡ c.to - (at + 1)
    long = part_length s (at + 1) c.to (omega (arith, p.within))

    quoted_text : text_of s quoted ≡ p.text
    unfolding text_of
    quoted_text = by p.stands
      where
        by : Stands p.text (part s (at + 1) c.to) → text_of s quoted ≡ p.text
        by (inl f) =
            ap (λ b. cond b (inside_text (drop (at + 1) s)) (part s (at + 1) c.to))
            (le-ltb c.count (c.to - (at + 1)) (omega (arith, ap length f, p.count, long))) ∙ sym f
        by (inr d) =
            ap (λ b. cond b (inside_text (drop (at + 1) s)) (part s (at + 1) c.to))
            (lt-ltb c.count (c.to - (at + 1)) (omega (arith, d.shorter, p.count, long)))
            ∙ ap (λ (r : Option (List ℕ × List ℕ)). if_some r [] (λ x. x.0)) p.is

    pub quoted_is : FieldIs s at quoted
    quoted_is = record {
      reads =
          record {
            is = opened_field s at o
                ∙ (ap spaced p.is ∙ (ap (λ (u : List ℕ). some (p.text, u)) q.is ∙ sym (ap (λ (t : List ℕ). some (t, drop next s)) quoted_text)));
          };
      text = record {
        low = p.low;
        fits = omega (arith, p.within);
        next_fits = q.fits;
        count = ap length quoted_text ∙ p.count;
        names = ap (all name_byte) quoted_text ∙ p.names;
        stands = subst (λ (t : List ℕ). Stands t (part s (at + 1) c.to)) (sym quoted_text) p.stands;
        closes = λ l. (drop (c.to + 1) s, p.is ∙ sym (ap (λ (t : List ℕ). some (t, drop (c.to + 1) s)) quoted_text));
      };
    }
