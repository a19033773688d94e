-- The beginning of a token that may come can be ended to such a token; and no token reaches over a blank.
use Prim.Native.Nat.{ℕ, ◌-◌, ◌≤◌}
use mathlib.Core.Path.{◌≡◌, refl, sym, ◌∙◌, ap, subst}
use mathlib.Core.Bool.{Bool, true, false, ◌&&◌, ◌||◌, not, cond, false≢true}
use mathlib.Core.List.{List, [], ◌∷◌, ◌++◌, map}
use mathlib.Core.Option.{Option, some, none, none-ne-some, some-injective}
use native.Mathlib.Omega.{arith}
use lib.Dec.{eqb, leb}
use lib.ListN.{length}
use lib.IntN.{ℤ, neg_ℤ, pos}
use borrow.Author.Tests.{leb-true, le-leb, eqb-true}
use Rattle.rules.specs.Lists.{same, all, any, between, is_some}
use Rattle.rules.specs.Letters.{text, letter}
use Rattle.relation_rules.specs.Grammar.{capital, Token, Variable, Fixed, Name, Quoted, Whole, Sort, Word, Figure, String, Dollar, Compare, Mark, sort_of, is_letter, is_digit, word_byte, is_quote, minus, sign_byte, giving, or_else, nothing_in, after, word_token, reserved, reserved_words, decimal, figures, some_figures, figure_token, in_quotes, quoted_token, is_empty, token_in, token_of, reaches, goes_on, Operand, Property, Given, OrChain, Chain, Assignment}
use Rattle.relation_rules.specs.Reader.{State, Part, Around, Start, AtVariable, AtBecomes, AtValue, AtCondition, AtSpecified, AtOperand, AtSign, AtIn, AtOpen, AtListed, AtComma, AtSingle, next, or_of, closing, may_be, lookup, take, begins, word_begins, quote_begins, figure_begins, viable}
use Rattle.rules.proofs.TestLaws.{and_left, and_right, both}
use Rattle.rules.proofs.ListLaws.{All, all_append, same_eq, same_refl}
use Rattle.relation_rules.proofs.TokenLaws.{giving_true, giving_is, or_left, or_right, map_append, append_nil, plain, quoted_is, raise_words}

-- ---- no token reaches over a blank

closed : (l : List ℕ) → is_some (in_quotes l) ≡ true → all plain l ≡ false
unfolding in_quotes
closed [] e = absurd (false≢true e)
closed (c ∷ l) e = go (closed l) (is_quote c) refl e
  where
    behind_it : (o : Option (List ℕ)) → is_some (after c o) ≡ true → is_some o ≡ true
    behind_it none f = f
    behind_it (some v) f = refl

    go : (is_some (in_quotes l) ≡ true → all plain l ≡ false) → (q : Bool) → is_quote c ≡ q → is_some (or_else q (nothing_in l) (after c (in_quotes l))) ≡ true → (not q && all plain l) ≡ false
    go ih true f g = refl
    go ih false f g = ih (behind_it (in_quotes l) g)

pub ends_at_blank : (n b : ℕ) (l : List ℕ) (t : Token) → token_of n (b ∷ l) ≡ some t → goes_on (b ∷ l) 32 ≡ false
unfolding token_of goes_on
ends_at_blank n b l t e = by_sort (sort_of b) e
  where
    by_sort : (s : Sort) → token_in s n b l ≡ some t → reaches s l 32 ≡ false
    by_sort Word f = refl
    by_sort Figure f = refl
    by_sort String f = closed l (quoted_is (in_quotes l) t f)
    by_sort Dollar f = refl
    by_sort Compare f = refl
    by_sort Mark f = refl

-- ---- raised bytes

small_letter_lem : (c : ℕ) → between (letter "a") (letter "z") c ≡ true → is_letter c ≡ true
small_letter_lem c f =
    or_left (between (letter "A") (letter "Z") c || between (letter "a") (letter "z") c) (eqb c (letter "_"))
    (or_right (between (letter "A") (letter "Z") c) (between (letter "a") (letter "z") c) f)

raised_letter : (c : ℕ) → between (letter "a") (letter "z") c ≡ true → between (letter "A") (letter "Z") (c - 32) ≡ true
raised_letter c f =
    let low : 97 ≤ c = leb-true 97 c (and_left (leb 97 c) (leb c 122) f) in
    let high : c ≤ 122 = leb-true c 122 (and_right (leb 97 c) (leb c 122) f) in
    both (leb 65 (c - 32)) (leb (c - 32) 90) (le-leb 65 (c - 32) (omega arith)) (le-leb (c - 32) 90 (omega arith))

capital_letter : (c : ℕ) → between (letter "A") (letter "Z") c ≡ true → is_letter c ≡ true
capital_letter c f =
    or_left (between (letter "A") (letter "Z") c || between (letter "a") (letter "z") c) (eqb c (letter "_"))
    (or_left (between (letter "A") (letter "Z") c) (between (letter "a") (letter "z") c) f)

letter_sort : (b : ℕ) → is_letter b ≡ true → sort_of b ≡ Word
letter_sort b e = ap (λ x. cond x Word (cond (is_digit b || minus b) Figure (cond (is_quote b) String (cond (eqb b (letter "$")) Dollar (cond (sign_byte b) Compare Mark))))) e

-- a raised byte is of the same sort
sort_raised : (b : ℕ) → sort_of (capital b) ≡ sort_of b
sort_raised b = go (between (letter "a") (letter "z") b) refl
  where
    go : (x : Bool) → between (letter "a") (letter "z") b ≡ x → sort_of (cond x (b - 32) b) ≡ sort_of b
    go true f = letter_sort (b - 32) (capital_letter (b - 32) (raised_letter b f)) ∙ sym (letter_sort b (small_letter_lem b f))
    go false f = refl

not_small : (b : ℕ) → between (letter "A") (letter "Z") b ≡ true → between (letter "a") (letter "z") b ≡ false
not_small b e = go (between (letter "a") (letter "z") b) refl
  where
    go : (x : Bool) → between (letter "a") (letter "z") b ≡ x → between (letter "a") (letter "z") b ≡ false
    go true f =
        absurd (let low : 97 ≤ b = leb-true 97 b (and_left (leb 97 b) (leb b 122) f) in
        let high : b ≤ 90 = leb-true b 90 (and_right (leb 65 b) (leb b 90) e) in omega arith)
    go false f = f

raise_raised : (b : ℕ) → capital (capital b) ≡ capital b
raise_raised b = go (between (letter "a") (letter "z") b) refl
  where
    go : (x : Bool) → between (letter "a") (letter "z") b ≡ x → capital (cond x (b - 32) b) ≡ cond x (b - 32) b
    go true f = ap (λ y. cond y (b - 32 - 32) (b - 32)) (not_small (b - 32) (raised_letter b f))
    go false f = ap (λ y. cond y (b - 32) b) f

map_raised : (l : List ℕ) → map capital (map capital l) ≡ map capital l
map_raised [] = refl
map_raised (b ∷ l) = λ i. raise_raised b i ∷ map_raised l i

-- a byte that is no letter is raised from itself alone
raise_other : (p : ℕ → Bool) → ((b : ℕ) → between (letter "A") (letter "Z") b ≡ true → p b ≡ false) → (b : ℕ) → p (capital b) ≡ true → p b ≡ true
raise_other p h b e = go (between (letter "a") (letter "z") b) refl e
  where
    go : (x : Bool) → between (letter "a") (letter "z") b ≡ x → p (cond x (b - 32) b) ≡ true → p b ≡ true
    go true f g = absurd (false≢true (sym (h (b - 32) (raised_letter b f)) ∙ g))
    go false f g = g

-- a few bytes, none of them a capital
few_capitals : (ks : List ℕ) → all (λ k. leb k 64) ks ≡ true → (b : ℕ) → between (letter "A") (letter "Z") b ≡ true → any (eqb b) ks ≡ false
few_capitals [] h b e = refl
few_capitals (k ∷ ks) h b e = go (few_capitals ks (and_right (leb k 64) (all (λ k. leb k 64) ks) h) b e) (eqb b k) refl
  where
    go : any (eqb b) ks ≡ false → (x : Bool) → eqb b k ≡ x → (x || any (eqb b) ks) ≡ false
    go ih true f =
        absurd (let is : b ≡ k = eqb-true b k f in let low : 65 ≤ b = leb-true 65 b (and_left (leb 65 b) (leb b 90) e) in
        let most : k ≤ 64 = leb-true k 64 (and_left (leb k 64) (all (λ k. leb k 64) ks) h) in omega arith)
    go ih false f = ih

raise_signs : (l : List ℕ) → all sign_byte (map capital l) ≡ true → all sign_byte l ≡ true
raise_signs [] e = refl
raise_signs (c ∷ l) e =
    both (sign_byte c) (all sign_byte l)
    (raise_other sign_byte (few_capitals (text "<=>") refl) c (and_left (sign_byte (capital c)) (all sign_byte (map capital l)) e))
    (raise_signs l (and_right (sign_byte (capital c)) (all sign_byte (map capital l)) e))

empty_raised : (l : List ℕ) → is_empty (map capital l) ≡ true → is_empty l ≡ true
empty_raised [] e = refl
empty_raised (c ∷ l) e = e

abbrev is_fixed : Token → Bool
is_fixed (Variable p) = false
is_fixed (Fixed k) = true
is_fixed (Name n) = false
is_fixed (Quoted v) = false
is_fixed (Whole z) = false

-- a word, a sign or a mark is the same token in small letters
fixed_raised : (p b : ℕ) (l : List ℕ) → token_of p (map capital (b ∷ l)) ≡ some (Fixed (map capital (b ∷ l))) → token_of p (b ∷ l) ≡ some (Fixed (map capital (b ∷ l)))
unfolding token_of
fixed_raised p b l e = by_sort (sort_of b) (subst (λ s. token_in s p (capital b) (map capital l) ≡ some (Fixed (map capital (b ∷ l)))) (sort_raised b) e)
  where
    no_figure : (m : Bool) → figure_token m (capital b) (map capital l) ≡ some (Fixed (map capital (b ∷ l))) → ⊥
    no_figure true f = false≢true (ap is_fixed (giving_is (some_figures (map capital l)) (Whole (neg_ℤ (pos (decimal 0 (map capital l))))) (Fixed (map capital (b ∷ l))) f))
    no_figure false f =
        false≢true (ap is_fixed (giving_is (some_figures (map capital (b ∷ l))) (Whole (pos (decimal 0 (map capital (b ∷ l))))) (Fixed (map capital (b ∷ l))) f))

    no_quote : (o : Option (List ℕ)) → quoted_token o ≡ some (Fixed (map capital (b ∷ l))) → ⊥
    no_quote none f = none-ne-some _ f
    no_quote (some v) f = false≢true (ap is_fixed (some-injective (Quoted v) (Fixed (map capital (b ∷ l))) f))

    by_sort : (s : Sort) → token_in s p (capital b) (map capital l) ≡ some (Fixed (map capital (b ∷ l))) → token_in s p b l ≡ some (Fixed (map capital (b ∷ l)))
    by_sort Word f =
        let w = word_token (map capital (map capital (b ∷ l))) in
        ap (λ x. giving x (word_token (map capital (b ∷ l)))) (raise_words l (giving_true (all word_byte (map capital l)) w (Fixed (map capital (b ∷ l))) f))
        ∙ ap some (ap word_token (sym (map_raised (b ∷ l))) ∙ giving_is (all word_byte (map capital l)) w (Fixed (map capital (b ∷ l))) f)
    by_sort Figure f = absurd (no_figure (minus (capital b)) f)
    by_sort String f = absurd (no_quote (in_quotes (map capital l)) f)
    by_sort Dollar f =
        absurd (false≢true (ap is_fixed (giving_is (same (map capital (map capital (b ∷ l))) (text "$VARCOND")) (Variable p) (Fixed (map capital (b ∷ l))) f)))
    by_sort Compare f =
        ap (λ x. giving x (Fixed (map capital (b ∷ l))))
        (raise_signs l (giving_true (all sign_byte (map capital l)) (Fixed (map capital (map capital (b ∷ l)))) (Fixed (map capital (b ∷ l))) f))
    by_sort Mark f =
        let g = giving_true (any (eqb (capital b)) (text "(),") && is_empty (map capital l)) (Fixed (map capital (map capital (b ∷ l)))) (Fixed (map capital (b ∷ l))) f in
        ap (λ x. giving x (Fixed (map capital (b ∷ l))))
        (both (any (eqb b) (text "(),")) (is_empty l)
        (raise_other (λ c. any (eqb c) (text "(),")) (few_capitals (text "(),") refl) b (and_left (any (eqb (capital b)) (text "(),")) (is_empty (map capital l)) g))
        (empty_raised l (and_right (any (eqb (capital b)) (text "(),")) (is_empty (map capital l)) g)))

-- ---- every text that may come is a token, in capitals

abbrev Proper : List ℕ → Type 0
Proper k = ((p : ℕ) → token_of p k ≡ some (Fixed k)) × (map capital k ≡ k)

closing_proper : (d : Option (Chain Assignment)) (p : ℕ) (v : List ℕ) (ps : List Part) (o : OrChain) → All (λ m. Proper m.0) (closing d p v ps o)
unfolding token_of
closing_proper d p v [] o = (((λ n. refl), refl), tt)
closing_proper d p v (q ∷ qs) o = (((λ n. refl), refl), tt)

sign_proper : (w : Around) (p : Part) (x : Operand) → All (λ m. Proper m.0) (next (AtOperand w p x)).fixed
unfolding token_of next reserved
sign_proper w p (Property n) = (((λ n. refl), refl), (((λ n. refl), refl), (((λ n. refl), refl), (((λ n. refl), refl), (((λ n. refl), refl), (((λ n. refl), refl), (((λ n. refl), refl), (((λ n. refl), refl), (((λ n. refl), refl), (((λ n. refl), refl), (((λ n. refl), refl), (((λ n. refl), refl), (((λ n. refl), refl), (((λ n. refl), refl), tt))))))))))))))
sign_proper w p (Given c) = (((λ n. refl), refl), (((λ n. refl), refl), (((λ n. refl), refl), (((λ n. refl), refl), (((λ n. refl), refl), (((λ n. refl), refl), (((λ n. refl), refl), (((λ n. refl), refl), (((λ n. refl), refl), (((λ n. refl), refl), (((λ n. refl), refl), (((λ n. refl), refl), (((λ n. refl), refl), tt)))))))))))))

proper : (q : State) → All (λ m. Proper m.0) (next q).fixed
unfolding token_of next reserved
proper (Start d) = tt
proper (AtVariable d p) = (((λ n. refl), refl), tt)
proper (AtBecomes d p) = tt
proper (AtValue d p v) = (((λ n. refl), refl), (((λ n. refl), refl), tt))
proper (AtCondition w p) = (((λ n. refl), refl), (((λ n. refl), refl), (((λ n. refl), refl), tt)))
proper (AtSpecified w p) = tt
proper (AtOperand w p x) = sign_proper w p x
proper (AtSign w p x s) = tt
proper (AtIn w p n) = (((λ n. refl), refl), tt)
proper (AtOpen w p n) = tt
proper (AtListed w p n cs) = (((λ n. refl), refl), (((λ n. refl), refl), tt))
proper (AtComma w p n cs) = tt
proper (AtSingle w os a) = (((λ n. refl), refl), (((λ n. refl), refl), closing_proper w.done w.place w.value w.outer (or_of os a)))

-- ---- a beginning, and the rest

begins_rest : (u k : List ℕ) → begins u k ≡ true → (y : List ℕ) × (u ++ y ≡ k)
begins_rest [] k e = (k, refl)
begins_rest (a ∷ u) [] e = absurd (false≢true e)
begins_rest (a ∷ u) (c ∷ k) e =
    let r = begins_rest u k (and_right (eqb a c) (begins u k) e) in
    (r.0, λ i. eqb-true a c (and_left (eqb a c) (begins u k) e) i ∷ r.1 i)

tail_of : List ℕ → List ℕ
tail_of [] = []
tail_of (b ∷ l) = l

suffix_raised : (u y : List ℕ) → map capital (u ++ y) ≡ u ++ y → map capital y ≡ y
unfolding tail_of
suffix_raised [] y e = e
suffix_raised (a ∷ u) y e = suffix_raised u y (ap tail_of e)

-- the rest of a text in capitals, behind a beginning in any letters
raised_rest : (x k : List ℕ) → begins (map capital x) k ≡ true → map capital k ≡ k → (y : List ℕ) × (map capital (x ++ y) ≡ k)
raised_rest x k e f =
    let r = begins_rest (map capital x) k e in
    let same_rest : map capital r.0 ≡ r.0 = suffix_raised (map capital x) r.0 (ap (map capital) r.1 ∙ f ∙ sym r.1) in
    (r.0, map_append capital x r.0 ∙ ap (λ z. map capital x ++ z) same_rest ∙ r.1)

record Found (u : List ℕ) (ms : List (List ℕ × State)) : Type 0 where
  key : List ℕ
  state : State
  begun : begins u key ≡ true
  is_proper : Proper key
  there : lookup ms key ≡ some state

find : (u : List ℕ) (ms : List (List ℕ × State)) → All (λ m. Proper m.0) ms → any (λ m. begins u m.0) ms ≡ true → Found u ms
find u [] h e = absurd (false≢true e)
find u (m ∷ ms) h e = go (find u ms h.1) (begins u m.0) refl e
  where
    later : (x : Bool) (r : Found u ms) → same r.key m.0 ≡ x → Found u (m ∷ ms)
    later true r f = record { key = r.key; state = m.1; begun = r.begun; is_proper = r.is_proper; there = rw (f, lookup) }
    later false r f = record { key = r.key; state = r.state; begun = r.begun; is_proper = r.is_proper; there = rw (f, lookup) r.there }

    go : (any (λ m. begins u m.0) ms ≡ true → Found u ms) → (x : Bool) → begins u m.0 ≡ x → (x || any (λ m. begins u m.0) ms) ≡ true → Found u (m ∷ ms)
    go ih true f g = record { key = m.0; state = m.1; begun = f; is_proper = h.0; there = rw (same_refl m.0, lookup) }
    go ih false f g = let r = ih g in later (same r.key m.0) r refl

-- ---- the rest of a token

pub record Ended (q : State) (from b : ℕ) (x : List ℕ) : Type 0 where
  pub rest : List ℕ
  pub token : Token
  pub state : State
  pub is : token_of from (b ∷ (x ++ rest)) ≡ some token
  pub taken : take q token ≡ some state

given : {A : Type 0} (o : Option (A → State)) (a : A) → is_some o ≡ true → (q : State) × (may_be o a ≡ some q)
given none a e = absurd (false≢true e)
given (some f) a e = (f a, refl)

member_text : (P : List ℕ → Type 0) (w : List ℕ) (ks : List (List ℕ)) → All P ks → any (same w) ks ≡ true → P w
member_text P w [] h e = absurd (false≢true e)
member_text P w (k ∷ ks) h e = go (member_text P w ks h.1) (same w k) refl e
  where
    go : (any (same w) ks ≡ true → P w) → (x : Bool) → same w k ≡ x → (x || any (same w) ks) ≡ true → P w
    go ih true f g = subst P (sym (same_eq w k f)) h.0
    go ih false f g = ih g

-- no reserved word is another with an underscore behind it
reserved_more : (w : List ℕ) → reserved w ≡ true → reserved (w ++ (letter "_" ∷ [])) ≡ false
unfolding reserved
reserved_more w e = member_text (λ k. reserved (k ++ (letter "_" ∷ [])) ≡ false) w reserved_words (refl, (refl, (refl, (refl, (refl, (refl, (refl, (refl, (refl, (refl, (refl, (refl, (refl, (refl, (refl, tt))))))))))))))) e

closes : (x : List ℕ) → all plain x ≡ true → in_quotes (x ++ (letter "'" ∷ [])) ≡ some x
unfolding in_quotes
closes [] e = refl
closes (c ∷ x) e = go (closes x) (is_quote c) refl e
  where
    go : (all plain x ≡ true → in_quotes (x ++ (letter "'" ∷ [])) ≡ some x) → (q : Bool) → is_quote c ≡ q → (not q && all plain x) ≡ true
        → or_else q (nothing_in (x ++ (letter "'" ∷ []))) (after c (in_quotes (x ++ (letter "'" ∷ [])))) ≡ some (c ∷ x)
    go ih true f g = absurd (false≢true g)
    go ih false f g = ap (after c) (ih g)

out : {A : Type 0} (o : Option A) → is_some o ≡ true → (a : A) × (o ≡ some a)
out none e = absurd (false≢true e)
out (some a) e = (a, refl)

or_case : {C : Type 0} (a b : Bool) → (a || b) ≡ true → (a ≡ true → C) → (b ≡ true → C) → C
or_case true b e f g = f refl
or_case false b e f g = g e

digit_low : (b : ℕ) → is_digit b ≡ true → 48 ≤ b
digit_low b e = leb-true 48 b (and_left (leb 48 b) (leb b 57) e)

digit_high : (b : ℕ) → is_digit b ≡ true → b ≤ 57
digit_high b e = leb-true b 57 (and_right (leb 48 b) (leb b 57) e)

not_true : (x : Bool) → (x ≡ true → ⊥) → x ≡ false
not_true true h = absurd (h refl)
not_true false h = refl

digit_letter : (b : ℕ) → is_digit b ≡ true → is_letter b ≡ false
digit_letter b e =
    not_true (is_letter b) λ f.
    or_case (between (letter "A") (letter "Z") b || between (letter "a") (letter "z") b) (eqb b (letter "_")) f
    (λ g. or_case (between (letter "A") (letter "Z") b) (between (letter "a") (letter "z") b) g
    (λ h. let low : 65 ≤ b = leb-true 65 b (and_left (leb 65 b) (leb b 90) h) in let high : b ≤ 57 = digit_high b e in omega arith)
    (λ h. let low : 97 ≤ b = leb-true 97 b (and_left (leb 97 b) (leb b 122) h) in let high : b ≤ 57 = digit_high b e in omega arith))
    (λ g. let is : b ≡ 95 = eqb-true b 95 g in let high : b ≤ 57 = digit_high b e in omega arith)

digit_minus : (b : ℕ) → is_digit b ≡ true → minus b ≡ false
digit_minus b e = not_true (minus b) λ f. let is : b ≡ 45 = eqb-true b 45 f in let low : 48 ≤ b = digit_low b e in omega arith

digit_sort : (b : ℕ) → is_digit b ≡ true → sort_of b ≡ Figure
digit_sort b e =
    ap (λ x. cond x Word (cond (is_digit b || minus b) Figure (cond (is_quote b) String (cond (eqb b (letter "$")) Dollar (cond (sign_byte b) Compare Mark))))) (digit_letter b e)
    ∙ ap (λ x. cond x Figure (cond (is_quote b) String (cond (eqb b (letter "$")) Dollar (cond (sign_byte b) Compare Mark)))) (or_left (is_digit b) (minus b) e)

module _ (q : State) (from b : ℕ) (x : List ℕ) where
  end_fixed : any (λ m. begins (map capital (b ∷ x)) m.0) (next q).fixed ≡ true → Ended q from b x
  unfolding take
  end_fixed e =
      let r = find (map capital (b ∷ x)) (next q).fixed (proper q) e in
      let y = raised_rest (b ∷ x) r.key r.begun r.is_proper.1 in
      record {
        rest = y.0;
        token = Fixed r.key;
        state = r.state;
        is =
            subst (λ k. token_of from (b ∷ (x ++ y.0)) ≡ some (Fixed k)) y.1
            (fixed_raised from b (x ++ y.0) (subst (λ k. token_of from k ≡ some (Fixed k)) (sym y.1) (r.is_proper.0 from)));
        taken = r.there;
      }

  end_variable : is_some (next q).variable ≡ true → begins (map capital (b ∷ x)) (text "$VARCOND") ≡ true → Ended q from b x
  unfolding take token_of
  end_variable e f =
      let y = raised_rest (b ∷ x) (text "$VARCOND") f refl in
      let g = given (next q).variable from e in
      let first : capital b ≡ letter "$" = ap (head_of 0) y.1 in
      record {
        rest = y.0;
        token = Variable from;
        state = g.0;
        is =
            ap (λ s. token_in s from b (x ++ y.0)) (sym (sort_raised b) ∙ ap sort_of first)
            ∙ ap (λ z. giving z (Variable from)) (ap (λ k. same k (text "$VARCOND")) y.1);
        taken = g.1;
      }
    where
      head_of : ℕ → List ℕ → ℕ
      head_of n [] = n
      head_of n (c ∷ l) = c

  name_token : (y : List ℕ) → is_some (next q).name ≡ true → is_letter b ≡ true → all word_byte (x ++ y) ≡ true → reserved (map capital (b ∷ (x ++ y))) ≡ false → Ended q from b x
  unfolding take token_of
  name_token y e f g h =
      let n = map capital (b ∷ (x ++ y)) in
      let r = given (next q).name n e in
      record {
        rest = y;
        token = Name n;
        state = r.0;
        is =
            ap (λ s. token_in s from b (x ++ y)) (letter_sort b f) ∙ ap (λ z. giving z (word_token n)) g
            ∙ ap (λ z. some (cond z (Fixed n) (Name n))) h;
        taken = r.1;
      }

  end_name : is_some (next q).name ≡ true → is_letter b ≡ true → all word_byte x ≡ true → Ended q from b x
  end_name e f g = go (reserved (map capital (b ∷ x))) refl
    where
      more : map capital (b ∷ (x ++ (letter "_" ∷ []))) ≡ map capital (b ∷ x) ++ (letter "_" ∷ [])
      more = map_append capital (b ∷ x) (letter "_" ∷ [])

      go : (r : Bool) → reserved (map capital (b ∷ x)) ≡ r → Ended q from b x
      go true h =
          name_token (letter "_" ∷ []) e f (all_append word_byte x (letter "_" ∷ []) ∙ both (all word_byte x) true g refl)
          (ap reserved more ∙ reserved_more (map capital (b ∷ x)) h)
      go false h =
          name_token [] e f (ap (all word_byte) (append_nil x) ∙ g) (ap (λ z. reserved (map capital (b ∷ z))) (append_nil x) ∙ h)

  quoted_token_lem : (y v : List ℕ) → is_some (next q).quoted ≡ true → is_quote b ≡ true → in_quotes (x ++ y) ≡ some v → Ended q from b x
  unfolding take token_of
  quoted_token_lem y v e f g =
      let r = given (next q).quoted v e in
      record {
        rest = y;
        token = Quoted v;
        state = r.0;
        is = ap (λ s. token_in s from b (x ++ y)) (ap sort_of (eqb-true b (letter "'") f)) ∙ ap quoted_token g;
        taken = r.1;
      }

  end_quoted : is_some (next q).quoted ≡ true → is_quote b ≡ true → (all plain x || is_some (in_quotes x)) ≡ true → Ended q from b x
  end_quoted e f g =
      or_case (all plain x) (is_some (in_quotes x)) g (λ h. quoted_token_lem (letter "'" ∷ []) x e f (closes x h))
      (λ h. let r = out (in_quotes x) h in quoted_token_lem [] r.0 e f (ap in_quotes (append_nil x) ∙ r.1))

  figure_token_lem : (y : List ℕ) (m : Bool) → is_some (next q).whole ≡ true → sort_of b ≡ Figure → minus b ≡ m → is_some (figure_token m b (x ++ y)) ≡ true → Ended q from b x
  unfolding take token_of
  figure_token_lem y m e f g h = by m g h
    where
      ended_by : (z : ℤ) → figure_token (minus b) b (x ++ y) ≡ some (Whole z) → Ended q from b x
      ended_by z k =
          let r = given (next q).whole z e in
          record { rest = y; token = Whole z; state = r.0; is = ap (λ s. token_in s from b (x ++ y)) f ∙ k; taken = r.1 }

      somewhere : {A : Type 0} (c : Bool) (a : A) → is_some (giving c a) ≡ true → giving c a ≡ some a
      somewhere true a k = refl
      somewhere false a k = absurd (false≢true k)

      by : (m : Bool) → minus b ≡ m → is_some (figure_token m b (x ++ y)) ≡ true → Ended q from b x
      by true g h =
          ended_by (neg_ℤ (pos (decimal 0 (x ++ y))))
          (ap (λ c. figure_token c b (x ++ y)) g ∙ somewhere (some_figures (x ++ y)) (Whole (neg_ℤ (pos (decimal 0 (x ++ y))))) h)
      by false g h =
          ended_by (pos (decimal 0 (b ∷ (x ++ y))))
          (ap (λ c. figure_token c b (x ++ y)) g ∙ somewhere (some_figures (b ∷ (x ++ y))) (Whole (pos (decimal 0 (b ∷ (x ++ y))))) h)

giving_some : {A : Type 0} (c : Bool) (a : A) → c ≡ true → is_some (giving c a) ≡ true
giving_some true a e = refl
giving_some false a e = absurd (false≢true e)

some_figures_lem : (c : ℕ) (l : List ℕ) → figures (c ∷ l) ≡ true → some_figures (c ∷ l) ≡ true
some_figures_lem c l e = both (figures (c ∷ l)) (leb 1 (length (c ∷ l))) e (le-leb 1 (length (c ∷ l)) (omega arith))

end_minus : (q : State) (from b : ℕ) (x : List ℕ) → is_some (next q).whole ≡ true → minus b ≡ true → figures x ≡ true → Ended q from b x
end_minus q from b [] e f g = figure_token_lem q from b [] (letter "0" ∷ []) true e (ap sort_of (eqb-true b (letter "-") f)) f refl
end_minus q from b (c ∷ x) e f g =
    figure_token_lem q from b (c ∷ x) [] true e (ap sort_of (eqb-true b (letter "-") f)) f
    (ap (λ z. is_some (figure_token true b z)) (append_nil (c ∷ x)) ∙ giving_some (some_figures (c ∷ x)) (Whole (neg_ℤ (pos (decimal 0 (c ∷ x))))) (some_figures_lem c x g))

end_digits : (q : State) (from b : ℕ) (x : List ℕ) → is_some (next q).whole ≡ true → figures (b ∷ x) ≡ true → Ended q from b x
end_digits q from b x e g =
    let d : is_digit b ≡ true = and_left (is_digit b) (all is_digit x) (and_left (all is_digit (b ∷ x)) (leb (length (b ∷ x)) 18) g) in
    figure_token_lem q from b x [] false e (digit_sort b d) (digit_minus b d)
    (ap (λ z. is_some (figure_token false b z)) (append_nil x) ∙ giving_some (some_figures (b ∷ x)) (Whole (pos (decimal 0 (b ∷ x)))) (some_figures_lem b x g))

-- the beginning of a token that may come is ended by some bytes to such a token
pub viable_ended : (q : State) (from b : ℕ) (x : List ℕ) → viable q (b ∷ x) ≡ true → Ended q from b x
unfolding viable
viable_ended q from b x e =
    let k = next q in
    let l = b ∷ x in
    let v = is_some k.variable && begins (map capital l) (text "$VARCOND") in
    let f = any (λ m. begins (map capital l) m.0) k.fixed in
    let n = is_some k.name && word_begins l in
    let s = is_some k.quoted && quote_begins l in
    let w = is_some k.whole && figure_begins l in
    or_case (v || f || n || s) w e
    (λ e₁. or_case (v || f || n) s e₁
    (λ e₂. or_case (v || f) n e₂
    (λ e₃. or_case v f e₃
    (λ h. end_variable q from b x (and_left (is_some k.variable) (begins (map capital l) (text "$VARCOND")) h) (and_right (is_some k.variable) (begins (map capital l) (text "$VARCOND")) h))
    (λ h. end_fixed q from b x h))
    (λ h.
    let u = and_right (is_some k.name) (word_begins l) h in
    end_name q from b x (and_left (is_some k.name) (word_begins l) h) (and_left (is_letter b) (all word_byte x) u) (and_right (is_letter b) (all word_byte x) u)))
    (λ h.
    let u = and_right (is_some k.quoted) (quote_begins l) h in
    end_quoted q from b x (and_left (is_some k.quoted) (quote_begins l) h) (and_left (is_quote b) (all plain x || is_some (in_quotes x)) u)
    (and_right (is_quote b) (all plain x || is_some (in_quotes x)) u)))
    (λ h.
    let g = and_left (is_some k.whole) (figure_begins l) h in
    or_case (minus b && figures x) (figures l) (and_right (is_some k.whole) (figure_begins l) h)
    (λ u. end_minus q from b x g (and_left (minus b) (figures x) u) (and_right (minus b) (figures x) u)) (λ u. end_digits q from b x g u))
