-- The price file: a line's fields are read back as they were written, and quotes stand only where a field would be read as another one without them.
use Prim.Native.Nat.{ℕ, suc, ◌+◌, ◌≤◌, ◌<◌}
use mathlib.Core.Path.{◌≡◌, refl, sym, ◌∙◌, ap, subst}
use mathlib.Core.Bool.{Bool, true, false, ◌||◌, false≢true}
use mathlib.Core.List.{List, [], ◌∷◌, ◌++◌, append_assoc}
use mathlib.Core.Option.{Option, some, none, some-injective}
use native.Mathlib.Omega.{arith}
use lib.Dec.{eqb}
use lib.ListN.{length, length-append}
use borrow.Author.Tests.{eqb-true}
use Rattle.rules.specs.Lists.{any}
use Rattle.rules.specs.Layout.{front}
use Rattle.file_rules.specs.Fields.{quote, semicolon, space, starts_with, onto, cut, inside, past_spaces, spaced, field_by, field, twice_if, doubled, in_quotes, needs_quotes, field_text, first_field_text, is_remark}

-- ---- up to a byte

-- the rest of a line starts with this byte, or is empty
abbrev pub Ends : ℕ → List ℕ → Type 0
Ends c [] = Unit {0}
Ends c (b ∷ s) = eqb c b ≡ true

pub or_left : (a b : Bool) → (a || b) ≡ false → a ≡ false
or_left true b e = e
or_left false b e = refl

pub or_right : (a b : Bool) → (a || b) ≡ false → b ≡ false
or_right true b e = absurd (false≢true (sym e))
or_right false b e = e

module _ (c : ℕ) where
  pub cut_at : (b : ℕ) (s : List ℕ) → eqb c b ≡ true → cut c (b ∷ s) ≡ ([], b ∷ s)
  unfolding cut
  cut_at b s e = rw (cut, e)

  pub cut_on : (b : ℕ) (s : List ℕ) → eqb c b ≡ false → cut c (b ∷ s) ≡ onto b (cut c s)
  unfolding cut
  cut_on b s e = rw (cut, e)

  pub cut_read : (s rest : List ℕ) → any (eqb c) s ≡ false → Ends c rest → cut c (s ++ rest) ≡ (s, rest)
  unfolding cut
  cut_read [] [] e h = refl
  cut_read [] (b ∷ t) e h = cut_at b t h
  cut_read (b ∷ s) rest e h =
      cut_on b (s ++ rest) (or_left (eqb c b) (any (eqb c) s) e) ∙ ap (onto b) (cut_read s rest (or_right (eqb c b) (any (eqb c) s) e) h)

  -- what is in front has none
  cut_none : (s : List ℕ) → any (eqb c) (cut c s).0 ≡ false
  unfolding cut
  cut_none [] = refl
  cut_none (b ∷ s) = go (eqb c b) refl (cut_none s)
    where
      go : (t : Bool) → eqb c b ≡ t → any (eqb c) (cut c s).0 ≡ false → any (eqb c) (cut c (b ∷ s)).0 ≡ false
      go true e h = ap (λ (p : List ℕ × List ℕ). any (eqb c) p.0) (cut_at b s e)
      go false e h = ap (λ (p : List ℕ × List ℕ). any (eqb c) p.0) (cut_on b s e) ∙ (ap (λ t. t || any (eqb c) (cut c s).0) e ∙ h)

-- ---- in quotes

abbrev Read : Type 0
Read = Option (List ℕ × List ℕ)

-- the two clauses of `inside` by what the first byte is, and the next
abbrev one_byte : Bool → Read
one_byte q = elim q as (λ _. Read) [ true ↦ some ([], []) | false ↦ none ]

abbrev two_bytes : ℕ → ℕ → List ℕ → Bool → Bool → Read
two_bytes b c s q r =
    elim q as (λ _. Read) [
      | true ↦ elim r as (λ _. Read) [ true ↦ front quote (inside s) | false ↦ some ([], c ∷ s) ]
      | false ↦ front b
          (inside (c ∷ s))
    ]

pub inside_other : (b : ℕ) (s : List ℕ) → eqb b quote ≡ false → inside (b ∷ s) ≡ front b (inside s)
unfolding inside
inside_other b [] e = ap one_byte e
inside_other b (c ∷ s) e = ap (λ q. two_bytes b c s q (eqb c quote)) e

pub inside_two : (b : ℕ) (c : ℕ) (s : List ℕ) → eqb b quote ≡ true → eqb c quote ≡ true → inside (b ∷ (c ∷ s)) ≡ front quote (inside s)
unfolding inside
inside_two b c s e f = λ i. two_bytes b c s (e i) (f i)

pub inside_last : (b : ℕ) (s : List ℕ) → eqb b quote ≡ true → starts_with quote s ≡ false → inside (b ∷ s) ≡ some ([], s)
unfolding inside
inside_last b [] e f = ap one_byte e
inside_last b (c ∷ s) e f = λ i. two_bytes b c s (e i) (f i)

-- quotes doubled are read as one each
inside_doubled : (s t : List ℕ) → starts_with quote t ≡ false → inside (doubled s ++ (quote ∷ t)) ≡ some (s, t)
unfolding doubled
inside_doubled [] t h = inside_last quote t refl h
inside_doubled (b ∷ s) t h = go (eqb b quote) refl (inside_doubled s t h)
  where
    go : (q : Bool) → eqb b quote ≡ q → inside (doubled s ++ (quote ∷ t)) ≡ some (s, t)
        → inside (twice_if (eqb b quote) b (doubled s) ++ (quote ∷ t)) ≡ some (b ∷ s, t)
    go true e i =
        ap (λ q. inside (twice_if q b (doubled s) ++ (quote ∷ t))) e
        ∙ (inside_two b b (doubled s ++ (quote ∷ t)) e e ∙ (ap (front quote) i ∙ ap (λ (k : ℕ). some (k ∷ s, t)) (sym (eqb-true b quote e))))
    go false e i = ap (λ q. inside (twice_if q b (doubled s) ++ (quote ∷ t))) e ∙ (inside_other b (doubled s ++ (quote ∷ t)) e ∙ ap (front b) i)

-- ---- a field is read back

module _ (b : ℕ) (s : List ℕ) where
  pub past_on : eqb b space ≡ true → past_spaces (b ∷ s) ≡ past_spaces s
  unfolding past_spaces
  past_on e = rw (past_spaces, e)

  pub past_at : eqb b space ≡ false → past_spaces (b ∷ s) ≡ b ∷ s
  unfolding past_spaces
  past_at e = rw (past_spaces, e)

past_none : (rest : List ℕ) → Ends semicolon rest → past_spaces rest ≡ rest
unfolding past_spaces
past_none [] h = refl
past_none (b ∷ s) h = past_at b s (ap (λ (k : ℕ). eqb k space) (sym (eqb-true semicolon b h)))

no_quote : (rest : List ℕ) → Ends semicolon rest → starts_with quote rest ≡ false
no_quote [] h = refl
no_quote (b ∷ s) h = ap (λ (k : ℕ). eqb k quote) (sym (eqb-true semicolon b h))

-- in quotes, any text is
pub quoted_read : (s rest : List ℕ) → Ends semicolon rest → field (in_quotes true s ++ rest) ≡ some (s, rest)
unfolding field
quoted_read s rest h =
    ap (λ u. spaced (inside u)) (append_assoc (doubled s) (quote ∷ []) rest)
    ∙ (ap spaced (inside_doubled s rest (no_quote rest h)) ∙ ap (λ u. some (s, u)) (past_none rest h))

-- without them, one that needs none
pub plain_read : (s rest : List ℕ) → needs_quotes s ≡ false → Ends semicolon rest → field (s ++ rest) ≡ some (s, rest)
unfolding field
plain_read s rest e h =
    ap (λ q. field_by q (s ++ rest)) (starts s e) ∙ ap some (cut_read semicolon s rest (or_right (starts_with quote s) (any (eqb semicolon) s) e) h)
  where
    starts : (s : List ℕ) → needs_quotes s ≡ false → starts_with quote (s ++ rest) ≡ false
    starts [] e = no_quote rest h
    starts (b ∷ s) e = or_left (eqb b quote) (any (eqb semicolon) (b ∷ s)) e

written_read : (q : Bool) (s rest : List ℕ) → (q ≡ false → needs_quotes s ≡ false) → Ends semicolon rest
    → field (in_quotes q s ++ rest) ≡ some (s, rest)
written_read true s rest e h = quoted_read s rest h
written_read false s rest e h = plain_read s rest (e refl) h

pub field_read : (s rest : List ℕ) → Ends semicolon rest → field (field_text s ++ rest) ≡ some (s, rest)
unfolding field_text
field_read s rest h = written_read (needs_quotes s) s rest (λ e. e) h

-- a line that starts with the first field, written, is no remark
pub first_no_remark : (s rest : List ℕ) → is_remark rest ≡ false → is_remark (first_field_text s ++ rest) ≡ false
unfolding first_field_text
first_no_remark s rest h = go (is_remark s || needs_quotes s) refl
  where
    starts : (s : List ℕ) → is_remark s ≡ false → is_remark (s ++ rest) ≡ false
    starts [] e = h
    starts (b ∷ s) e = e

    go : (q : Bool) → (is_remark s || needs_quotes s) ≡ q → is_remark (in_quotes q s ++ rest) ≡ false
    go true e = refl
    go false e = starts s (or_left (is_remark s) (needs_quotes s) e)

pub first_read : (s rest : List ℕ) → Ends semicolon rest → field (first_field_text s ++ rest) ≡ some (s, rest)
unfolding first_field_text
first_read s rest h = written_read (is_remark s || needs_quotes s) s rest (or_right (is_remark s) (needs_quotes s)) h

-- ---- quotes are needed

abbrev Short : ℕ → Option (List ℕ × List ℕ) → Type 0
Short n none = Unit {0}
Short n (some p) = length p.0 + length p.1 < n

front_short : (b n m : ℕ) (o : Option (List ℕ × List ℕ)) → n < m → Short n o → Short m (front b o)
front_short b n m none l h = tt
front_short b n m (some p) l h = omega arith

-- what is read in quotes is shorter than its text: the closing quote is not in it
inside_short : (u : List ℕ) → Short (length u) (inside u)
unfolding inside
inside_short [] = tt
inside_short (b ∷ []) = go (eqb b quote) refl
  where
    go : (q : Bool) → eqb b quote ≡ q → Short 1 (inside (b ∷ []))
    go true e = subst (Short 1) (sym (inside_last b [] e refl)) (omega arith)
    go false e = subst (Short 1) (sym (inside_other b [] e)) tt
inside_short (b ∷ (c ∷ s)) = go (eqb b quote) (eqb c quote) refl refl (inside_short s) (inside_short (c ∷ s))
  where
    go : (q r : Bool) → eqb b quote ≡ q → eqb c quote ≡ r → Short (length s) (inside s) → Short (suc (length s)) (inside (c ∷ s))
        → Short (suc (suc (length s))) (inside (b ∷ (c ∷ s)))
    go true true e f h k =
        subst (Short (suc (suc (length s)))) (sym (inside_two b c s e f))
        (front_short quote (length s) (suc (suc (length s))) (inside s) (omega arith) h)
    go true false e f h k = subst (Short (suc (suc (length s)))) (sym (inside_last b (c ∷ s) e f)) (omega arith)
    go false true e f h k =
        subst (Short (suc (suc (length s)))) (sym (inside_other b (c ∷ s) e))
        (front_short b (suc (length s)) (suc (suc (length s))) (inside (c ∷ s)) (omega arith) k)
    go false false e f h k =
        subst (Short (suc (suc (length s)))) (sym (inside_other b (c ∷ s) e))
        (front_short b (suc (length s)) (suc (suc (length s))) (inside (c ∷ s)) (omega arith) k)

past_short : (s : List ℕ) → length (past_spaces s) ≤ length s
unfolding past_spaces
past_short [] = omega arith
past_short (b ∷ s) = go (eqb b space) (past_short s)
  where
    go : (q : Bool) → length (past_spaces s) ≤ length s
        → length {A = ℕ} (elim q as (λ _. List ℕ) [ true ↦ past_spaces s | false ↦ b ∷ s ]) ≤ suc (length s)
    go true h = omega arith
    go false h = omega arith

spaced_short : (n : ℕ) (o : Option (List ℕ × List ℕ)) → Short n o → Short n (spaced o)
spaced_short n none h = tt
spaced_short n (some p) h = omega (arith, past_short p.1)

-- Where a field needs quotes, its bare text is not read as that field.
pub quotes_needed : (s rest : List ℕ) → needs_quotes s ≡ true → field (s ++ rest) ≡ some (s, rest) → ⊥
unfolding field
quotes_needed [] rest e f = false≢true e
quotes_needed (b ∷ s) rest e f = go (eqb b quote) refl
  where
    go : (q : Bool) → eqb b quote ≡ q → ⊥
    go true i =
        let g : spaced (inside (s ++ rest)) ≡ some (b ∷ s, rest) = ap (λ q. field_by q (b ∷ (s ++ rest))) (sym i) ∙ f in
        let h : suc (length s) + length rest < length (s ++ rest) =
        subst (Short (length (s ++ rest))) g (spaced_short (length (s ++ rest)) (inside (s ++ rest)) (inside_short (s ++ rest))) in
        omega (arith, length-append s rest)
    go false i =
        let g : some (cut semicolon (b ∷ (s ++ rest))) ≡ some (b ∷ s, rest) = ap (λ q. field_by q (b ∷ (s ++ rest))) (sym i) ∙ f in
        let c : cut semicolon (b ∷ (s ++ rest)) ≡ (b ∷ s, rest) = some-injective (cut semicolon (b ∷ (s ++ rest))) (b ∷ s, rest) g in
        false≢true (sym (cut_none semicolon (b ∷ (s ++ rest)))
        ∙ (ap (λ (p : List ℕ × List ℕ). any (eqb semicolon) p.0) c ∙ (ap (λ q. q || any (eqb semicolon) (b ∷ s)) (sym i) ∙ e)))
