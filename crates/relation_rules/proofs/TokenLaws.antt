-- The bytes of a token: none is a blank, each reaches to the next, and each beginning may go on to the token.
use Prim.Native.Nat.{ℕ, zero, suc, ◌-◌, ◌≤◌}
use mathlib.Core.Path.{◌≡◌, refl, sym, ◌∙◌, ap, subst}
use mathlib.Core.Bool.{Bool, true, false, ◌&&◌, ◌||◌, not, cond, false≢true}
use mathlib.Core.List.{List, [], ◌∷◌, ◌++◌, map}
use mathlib.Core.Option.{Option, some, none, none-ne-some, some-injective}
use native.Mathlib.Omega.{arith}
use lib.Dec.{eqb, leb}
use lib.ListN.{length}
use lib.IntN.{neg_ℤ, pos}
use borrow.Author.Tests.{leb-true, le-leb, eqb-true, eq-eqb}
use Rattle.rules.specs.Lists.{same, all, any, between, is_some, if_some}
use Rattle.rules.specs.Letters.{text, letter}
use Rattle.relation_rules.specs.Grammar.{capital, Token, Variable, Fixed, Name, Quoted, Whole, Sort, Word, Figure, String, Dollar, Compare, Mark, sort_of, is_blank, is_letter, is_digit, word_byte, is_quote, minus, sign_byte, giving, or_else, nothing_in, after, word_token, reserved, decimal, figures, some_figures, figure_token, in_quotes, quoted_token, is_empty, token_in, token_of, reaches, goes_on}
use Rattle.relation_rules.specs.Reader.{State, Next, next, may_be, lookup, taken_by, take, begins, word_begins, quote_begins, figure_begins, fits, viable, too_deep}
use Rattle.rules.proofs.TestLaws.{and_left, and_right, both}
use Rattle.rules.proofs.ListLaws.{All, all_append, same_eq}
use Rattle.relation_rules.proofs.ReaderLaws.{admits, is_open}

-- ---- small things

module _ {A : Type 0} where
  pub giving_true : (x : Bool) (a : A) (t : A) → giving x a ≡ some t → x ≡ true
  giving_true true a t e = refl
  giving_true false a t e = absurd (none-ne-some _ e)

  pub giving_is : (x : Bool) (a : A) (t : A) → giving x a ≡ some t → a ≡ t
  giving_is true a t e = some-injective a t e
  giving_is false a t e = absurd (none-ne-some _ e)

  pub is_some_lem : (o : Option A) (a : A) → o ≡ some a → is_some o ≡ true
  is_some_lem o a e = ap is_some e

pub or_left : (a b : Bool) → a ≡ true → (a || b) ≡ true
or_left true b e = refl
or_left false b e = absurd (false≢true e)

pub or_right : (a b : Bool) → b ≡ true → (a || b) ≡ true
or_right true b e = refl
or_right false b e = e

-- a byte of a few is one of them
pub member : (P : ℕ → Type 0) (b : ℕ) (ks : List ℕ) → All P ks → any (eqb b) ks ≡ true → P b
member P b [] h e = absurd (false≢true e)
member P b (k ∷ ks) h e = go (member P b ks h.1) (eqb b k) refl e
  where
    go : (any (eqb b) ks ≡ true → P b) → (x : Bool) → eqb b k ≡ x → (x || any (eqb b) ks) ≡ true → P b
    go ih true f g = subst P (sym (eqb-true b k f)) h.0
    go ih false f g = ih g

pub map_append : (f : ℕ → ℕ) (x y : List ℕ) → map f (x ++ y) ≡ map f x ++ map f y
map_append f [] y = refl
map_append f (a ∷ x) y = ap (λ z. f a ∷ z) (map_append f x y)

pub append_nil : (x : List ℕ) → x ++ [] ≡ x
append_nil [] = refl
append_nil (a ∷ x) = ap (λ z. a ∷ z) (append_nil x)

all_front : (p : ℕ → Bool) (x y : List ℕ) → all p (x ++ y) ≡ true → all p x ≡ true
all_front p x y e = and_left (all p x) (all p y) (sym (all_append p x y) ∙ e)

all_at : (p : ℕ → Bool) (x : List ℕ) (c : ℕ) (y : List ℕ) → all p (x ++ (c ∷ y)) ≡ true → p c ≡ true
all_at p x c y e = and_left (p c) (all p y) (and_right (all p x) (all p (c ∷ y)) (sym (all_append p x (c ∷ y)) ∙ e))

length_front : (x y : List ℕ) (n : ℕ) → length (x ++ y) ≤ n → length x ≤ n
length_front [] y n l = omega arith
length_front (a ∷ x) y zero l = absurd (omega arith)
length_front (a ∷ x) y (suc n) l = let k : length (x ++ y) ≤ n = omega arith in let m = length_front x y n k in omega arith

-- ---- the sort of a byte, and what the byte is

pub data View (b : ℕ) : Sort → Type 0 where
  word : is_letter b ≡ true → View b Word
  figure : (is_digit b || minus b) ≡ true → View b Figure
  string : is_quote b ≡ true → View b String
  dollar : eqb b (letter "$") ≡ true → View b Dollar
  compare : sign_byte b ≡ true → View b Compare
  mark : View b Mark

pub view : (b : ℕ) → View b (sort_of b)
view b = go (is_letter b) (is_digit b || minus b) (is_quote b) (eqb b (letter "$")) (sign_byte b) refl refl refl refl refl
  where
    go : (x y z u v : Bool) → is_letter b ≡ x → (is_digit b || minus b) ≡ y → is_quote b ≡ z → eqb b (letter "$") ≡ u → sign_byte b ≡ v
        → View b (cond x Word (cond y Figure (cond z String (cond u Dollar (cond v Compare Mark)))))
    go true y z u v e f g h k = word e
    go false true z u v e f g h k = figure f
    go false false true u v e f g h k = string g
    go false false false true v e f g h k = dollar h
    go false false false false true e f g h k = compare k
    go false false false false false e f g h k = mark

-- ---- blanks

pub blank_token : (n b : ℕ) (l : List ℕ) → is_blank b ≡ true → token_of n (b ∷ l) ≡ none
unfolding token_of
blank_token n b l e = member (λ x. token_in (sort_of x) n x l ≡ none) b (32 ∷ 9 ∷ 10 ∷ 13 ∷ []) (refl, (refl, (refl, (refl, tt)))) e

pub not_blank : (n b : ℕ) (l : List ℕ) (t : Token) → token_of n (b ∷ l) ≡ some t → is_blank b ≡ false
not_blank n b l t e = go (is_blank b) refl
  where
    go : (x : Bool) → is_blank b ≡ x → is_blank b ≡ false
    go true f = absurd (none-ne-some _ (sym (blank_token n b l f) ∙ e))
    go false f = f

-- ---- depth

pub not_deep : (limit n b : ℕ) (l : List ℕ) (t : Token) (q : State) → token_of n (b ∷ l) ≡ some t → admits limit q t ≡ true → too_deep limit q b ≡ false
unfolding token_of
not_deep limit n b l t q e a = go (eqb b (letter "(")) refl
  where
    deep : Bool
    deep = if_some (next q).opens false (leb limit)

    open_token : (l : List ℕ) → token_in (sort_of (letter "(")) n (letter "(") l ≡ some t → Fixed (text "(") ≡ t
    open_token [] f = some-injective (Fixed (text "(")) t f
    open_token (c ∷ m) f = absurd (none-ne-some _ f)

    admitted : (x : Bool) → not x ≡ true → x ≡ false
    admitted true f = sym f
    admitted false f = refl

    go : (x : Bool) → eqb b (letter "(") ≡ x → (x && deep) ≡ false
    go true f =
        admitted deep
        (ap (admits limit q) (open_token l (subst (λ y. token_in (sort_of y) n y l ≡ some t) (eqb-true b (letter "(") f) e)) ∙ a)
    go false f = refl

raise_open : (b : ℕ) → eqb (capital b) (letter "(") ≡ true → eqb b (letter "(") ≡ true
raise_open b e = go (between (letter "a") (letter "z") b) refl e
  where
    go : (x : Bool) → between (letter "a") (letter "z") b ≡ x → eqb (cond x (b - 32) b) (letter "(") ≡ true → eqb b (letter "(") ≡ true
    go true f g =
        absurd (let low : 97 ≤ b = leb-true 97 b (and_left (leb 97 b) (leb b 122) f) in let is : b - 32 ≡ 40 = eqb-true (b - 32) 40 g in omega arith)
    go false f g = g

-- an opening parenthesis is the byte that it begins with
pub open_first : (n b : ℕ) (l : List ℕ) (t : Token) → token_of n (b ∷ l) ≡ some t → is_open t ≡ true → eqb b (letter "(") ≡ true
unfolding token_of
open_first n b l t e o = by_sort (sort_of b) e
  where
    fixed_first : Fixed (map capital (b ∷ l)) ≡ t → eqb b (letter "(") ≡ true
    fixed_first f = raise_open b (and_left (eqb (capital b) (letter "(")) (same (map capital l) []) (ap is_open f ∙ o))

    never : (u : Token) → is_open u ≡ false → u ≡ t → eqb b (letter "(") ≡ true
    never u f g = absurd (false≢true (sym f ∙ ap is_open g ∙ o))

    word_first : (r : Bool) → cond r (Fixed (map capital (b ∷ l))) (Name (map capital (b ∷ l))) ≡ t → eqb b (letter "(") ≡ true
    word_first true f = fixed_first f
    word_first false f = never (Name (map capital (b ∷ l))) refl f

    figure_first : (m : Bool) → figure_token m b l ≡ some t → eqb b (letter "(") ≡ true
    figure_first true f = never (Whole (neg_ℤ (pos (decimal 0 l)))) refl (giving_is (some_figures l) (Whole (neg_ℤ (pos (decimal 0 l)))) t f)
    figure_first false f = never (Whole (pos (decimal 0 (b ∷ l)))) refl (giving_is (some_figures (b ∷ l)) (Whole (pos (decimal 0 (b ∷ l)))) t f)

    quoted_first : (v : Option (List ℕ)) → quoted_token v ≡ some t → eqb b (letter "(") ≡ true
    quoted_first none f = absurd (none-ne-some _ f)
    quoted_first (some v) f = never (Quoted v) refl (some-injective (Quoted v) t f)

    by_sort : (s : Sort) → token_in s n b l ≡ some t → eqb b (letter "(") ≡ true
    by_sort Word f = word_first (reserved (map capital (b ∷ l))) (giving_is (all word_byte l) (word_token (map capital (b ∷ l))) t f)
    by_sort Figure f = figure_first (minus b) f
    by_sort String f = quoted_first (in_quotes l) f
    by_sort Dollar f = never (Variable n) refl (giving_is (same (map capital (b ∷ l)) (text "$VARCOND")) (Variable n) t f)
    by_sort Compare f = fixed_first (giving_is (all sign_byte l) (Fixed (map capital (b ∷ l))) t f)
    by_sort Mark f = fixed_first (giving_is (any (eqb b) (text "(),") && is_empty l) (Fixed (map capital (b ∷ l))) t f)

-- a token that began no deeper than the limit is admitted
pub admitted_of : (limit n b : ℕ) (l : List ℕ) (t : Token) (q : State) → token_of n (b ∷ l) ≡ some t → too_deep limit q b ≡ false → admits limit q t ≡ true
admitted_of limit n b l t q e d = go (is_open t) refl
  where
    go : (x : Bool) → is_open t ≡ x → not (x && if_some (next q).opens false (leb limit)) ≡ true
    go true f = ap not (ap (λ y. y && if_some (next q).opens false (leb limit)) (sym (open_first n b l t e f)) ∙ d)
    go false f = refl

-- ---- each byte reaches to the next

pub quoted_is : (o : Option (List ℕ)) (t : Token) → quoted_token o ≡ some t → is_some o ≡ true
quoted_is none t e = absurd (none-ne-some _ e)
quoted_is (some v) t e = refl

abbrev pub plain : ℕ → Bool
plain d = not (is_quote d)

pub quote_open : (x : List ℕ) (c : ℕ) (y : List ℕ) → is_some (in_quotes (x ++ (c ∷ y))) ≡ true → all plain x ≡ true
unfolding in_quotes
quote_open [] c y e = refl
quote_open (d ∷ x) c y e = go (quote_open x c y) (is_quote d) refl e
  where
    ends : (x : List ℕ) → is_some (nothing_in (x ++ (c ∷ y))) ≡ true → ⊥
    ends [] f = false≢true f
    ends (a ∷ x) f = false≢true f

    behind_it : (o : Option (List ℕ)) → is_some (after d o) ≡ true → is_some o ≡ true
    behind_it none f = f
    behind_it (some v) f = refl

    go : (is_some (in_quotes (x ++ (c ∷ y))) ≡ true → all plain x ≡ true) → (q : Bool) → is_quote d ≡ q
        → is_some (or_else q (nothing_in (x ++ (c ∷ y))) (after d (in_quotes (x ++ (c ∷ y))))) ≡ true → (not q && all plain x) ≡ true
    go ih true f g = absurd (ends x g)
    go ih false f g = ih (behind_it (in_quotes (x ++ (c ∷ y))) g)

-- raising makes no word byte of another byte
raise_word : (c : ℕ) → word_byte (capital c) ≡ true → word_byte c ≡ true
raise_word c e = go (between (letter "a") (letter "z") c) refl e
  where
    go : (x : Bool) → between (letter "a") (letter "z") c ≡ x → word_byte (cond x (c - 32) c) ≡ true → word_byte c ≡ true
    go true f g =
        or_left (is_letter c) (is_digit c)
        (or_left (between (letter "A") (letter "Z") c || between (letter "a") (letter "z") c) (eqb c (letter "_"))
        (or_right (between (letter "A") (letter "Z") c) (between (letter "a") (letter "z") c) f))
    go false f g = g

pub raise_words : (l : List ℕ) → all word_byte (map capital l) ≡ true → all word_byte l ≡ true
raise_words [] e = refl
raise_words (c ∷ l) e =
    both (word_byte c) (all word_byte l) (raise_word c (and_left (word_byte (capital c)) (all word_byte (map capital l)) e))
    (raise_words l (and_right (word_byte (capital c)) (all word_byte (map capital l)) e))

-- the letters behind the dollar
dollar_words : (b : ℕ) (l : List ℕ) → same (map capital (b ∷ l)) (text "$VARCOND") ≡ true → all word_byte l ≡ true
dollar_words b l e =
    raise_words l
    (ap (all word_byte) (same_eq (map capital l) (text "VARCOND") (and_right (eqb (capital b) (letter "$")) (same (map capital l) (text "VARCOND")) e)))

figure_digits : (m : Bool) (b : ℕ) (l : List ℕ) (t : Token) → figure_token m b l ≡ some t → all is_digit l ≡ true
figure_digits true b l t e =
    and_left (all is_digit l) (leb (length l) 18)
    (and_left (figures l) (leb 1 (length l)) (giving_true (some_figures l) (Whole (neg_ℤ (pos (decimal 0 l)))) t e))
figure_digits false b l t e =
    and_right (is_digit b) (all is_digit l)
    (and_left (all is_digit (b ∷ l)) (leb (length (b ∷ l)) 18)
    (and_left (figures (b ∷ l)) (leb 1 (length (b ∷ l))) (giving_true (some_figures (b ∷ l)) (Whole (pos (decimal 0 (b ∷ l)))) t e)))

not_empty : (x : List ℕ) (c : ℕ) (y : List ℕ) → is_empty (x ++ (c ∷ y)) ≡ true → ⊥
not_empty [] c y e = false≢true e
not_empty (a ∷ x) c y e = false≢true e

pub goes_on_lem : (n b : ℕ) (x : List ℕ) (c : ℕ) (y : List ℕ) (t : Token) → token_of n (b ∷ (x ++ (c ∷ y))) ≡ some t → goes_on (b ∷ x) c ≡ true
unfolding token_of goes_on
goes_on_lem n b x c y t e = by_sort (sort_of b) (view b) e
  where
    rest : List ℕ
    rest = x ++ (c ∷ y)

    by_sort : (s : Sort) → View b s → token_in s n b (x ++ (c ∷ y)) ≡ some t → reaches s x c ≡ true
    by_sort Word v f = all_at word_byte x c y (giving_true (all word_byte (x ++ (c ∷ y))) (word_token (map capital (b ∷ (x ++ (c ∷ y))))) t f)
    by_sort Figure v f = all_at is_digit x c y (figure_digits (minus b) b (x ++ (c ∷ y)) t f)
    by_sort String v f = quote_open x c y (quoted_is (in_quotes (x ++ (c ∷ y))) t f)
    by_sort Dollar v f =
        all_at word_byte x c y
        (dollar_words b (x ++ (c ∷ y)) (giving_true (same (map capital (b ∷ (x ++ (c ∷ y)))) (text "$VARCOND")) (Variable n) t f))
    by_sort Compare v f = all_at sign_byte x c y (giving_true (all sign_byte (x ++ (c ∷ y))) (Fixed (map capital (b ∷ (x ++ (c ∷ y))))) t f)
    by_sort Mark v f =
        absurd (not_empty x c y
        (and_right (any (eqb b) (text "(),")) (is_empty (x ++ (c ∷ y)))
        (giving_true (any (eqb b) (text "(),") && is_empty (x ++ (c ∷ y))) (Fixed (map capital (b ∷ (x ++ (c ∷ y))))) t f)))

-- ---- each beginning may go on to the token

begins_append : (x y : List ℕ) → begins x (x ++ y) ≡ true
begins_append [] y = refl
begins_append (a ∷ x) y = both (eqb a a) (begins x (x ++ y)) (eq-eqb a a refl) (begins_append x y)

begins_raised : (x y : List ℕ) → begins (map capital x) (map capital (x ++ y)) ≡ true
begins_raised x y = ap (begins (map capital x)) (map_append capital x y) ∙ begins_append (map capital x) (map capital y)

begins_found : (x k : List ℕ) (ms : List (List ℕ × State)) (q : State) → begins x k ≡ true → lookup ms k ≡ some q → any (λ m. begins x m.0) ms ≡ true
begins_found x k [] q h e = absurd (none-ne-some _ e)
begins_found x k (m ∷ ms) q h e = go (begins_found x k ms q h) (same k m.0) refl e
  where
    go : (lookup ms k ≡ some q → any (λ m. begins x m.0) ms ≡ true) → (b : Bool) → same k m.0 ≡ b
        → elim b as (λ x. Option State) [ true ↦ some m.1 | false ↦ lookup ms k ] ≡ some q → (begins x m.0 || any (λ m. begins x m.0) ms) ≡ true
    go ih true f g = or_left (begins x m.0) (any (λ m. begins x m.0) ms) (ap (begins x) (sym (same_eq k m.0 f)) ∙ h)
    go ih false f g = or_right (begins x m.0) (any (λ m. begins x m.0) ms) (ih g)

may_be_lem : {A B : Type 0} (o : Option (A → B)) (a : A) (b : B) → may_be o a ≡ some b → is_some o ≡ true
may_be_lem none a b e = absurd (none-ne-some _ e)
may_be_lem (some f) a b e = refl

module _ (n : Next) (l : List ℕ) where
  abbrev by_variable : Bool
  by_variable = is_some n.variable && begins (map capital l) (text "$VARCOND")

  abbrev by_fixed : Bool
  by_fixed = any (λ m. begins (map capital l) m.0) n.fixed

  abbrev by_name : Bool
  by_name = is_some n.name && word_begins l

  abbrev by_quoted : Bool
  by_quoted = is_some n.quoted && quote_begins l

  abbrev by_whole : Bool
  by_whole = is_some n.whole && figure_begins l

  fits_variable : by_variable ≡ true → fits n l ≡ true
  fits_variable e =
      or_left (by_variable || by_fixed || by_name || by_quoted) by_whole
      (or_left (by_variable || by_fixed || by_name) by_quoted (or_left (by_variable || by_fixed) by_name (or_left by_variable by_fixed e)))

  fits_fixed : by_fixed ≡ true → fits n l ≡ true
  fits_fixed e =
      or_left (by_variable || by_fixed || by_name || by_quoted) by_whole
      (or_left (by_variable || by_fixed || by_name) by_quoted (or_left (by_variable || by_fixed) by_name (or_right by_variable by_fixed e)))

  fits_name : by_name ≡ true → fits n l ≡ true
  fits_name e =
      or_left (by_variable || by_fixed || by_name || by_quoted) by_whole (or_left (by_variable || by_fixed || by_name) by_quoted (or_right (by_variable || by_fixed) by_name e))

  fits_quoted : by_quoted ≡ true → fits n l ≡ true
  fits_quoted e = or_left (by_variable || by_fixed || by_name || by_quoted) by_whole (or_right (by_variable || by_fixed || by_name) by_quoted e)

  fits_whole : by_whole ≡ true → fits n l ≡ true
  fits_whole e = or_right (by_variable || by_fixed || by_name || by_quoted) by_whole e

figures_front : (x y : List ℕ) → figures (x ++ y) ≡ true → figures x ≡ true
figures_front x y e =
    both (all is_digit x) (leb (length x) 18) (all_front is_digit x y (and_left (all is_digit (x ++ y)) (leb (length (x ++ y)) 18) e))
    (le-leb (length x) 18 (length_front x y 18 (leb-true (length (x ++ y)) 18 (and_right (all is_digit (x ++ y)) (leb (length (x ++ y)) 18) e))))

figure_begins_lem : (m : Bool) (b : ℕ) (x y : List ℕ) (t : Token) → minus b ≡ m → figure_token m b (x ++ y) ≡ some t → figure_begins (b ∷ x) ≡ true
figure_begins_lem true b x y t e f =
    or_left (minus b && figures x) (figures (b ∷ x))
    (both (minus b) (figures x) e
    (figures_front x y (and_left (figures (x ++ y)) (leb 1 (length (x ++ y))) (giving_true (some_figures (x ++ y)) (Whole (neg_ℤ (pos (decimal 0 (x ++ y))))) t f))))
figure_begins_lem false b x y t e f =
    or_right (minus b && figures x) (figures (b ∷ x))
    (figures_front (b ∷ x) y
    (and_left (figures (b ∷ (x ++ y))) (leb 1 (length (b ∷ (x ++ y)))) (giving_true (some_figures (b ∷ (x ++ y))) (Whole (pos (decimal 0 (b ∷ (x ++ y))))) t f)))

figure_whole : (m : Bool) (b : ℕ) (l : List ℕ) (t : Token) → figure_token m b l ≡ some t → (k : Next) (q : State) → taken_by k t ≡ some q → is_some k.whole ≡ true
figure_whole true b l t e k q f =
    let z = neg_ℤ (pos (decimal 0 l)) in
    may_be_lem k.whole z q (ap (taken_by k) (giving_is (some_figures l) (Whole z) t e) ∙ f)
figure_whole false b l t e k q f =
    let z = pos (decimal 0 (b ∷ l)) in
    may_be_lem k.whole z q (ap (taken_by k) (giving_is (some_figures (b ∷ l)) (Whole z) t e) ∙ f)

quote_begins_lem : (x y : List ℕ) → is_some (in_quotes (x ++ y)) ≡ true → (all plain x || is_some (in_quotes x)) ≡ true
quote_begins_lem x [] e = or_right (all plain x) (is_some (in_quotes x)) (ap (λ z. is_some (in_quotes z)) (sym (append_nil x)) ∙ e)
quote_begins_lem x (c ∷ y) e = or_left (all plain x) (is_some (in_quotes x)) (quote_open x c y e)

quoted_taken : (o : Option (List ℕ)) (t : Token) → quoted_token o ≡ some t → (k : Next) (q : State) → taken_by k t ≡ some q → is_some k.quoted ≡ true
quoted_taken none t e k q f = absurd (none-ne-some _ e)
quoted_taken (some v) t e k q f = may_be_lem k.quoted v q (ap (taken_by k) (some-injective (Quoted v) t e) ∙ f)

pub viable_part : (q q' : State) (n b : ℕ) (x y : List ℕ) (t : Token) → token_of n (b ∷ (x ++ y)) ≡ some t → take q t ≡ some q' → viable q (b ∷ x) ≡ true
unfolding token_of take viable
viable_part q q' n b x y t e f = by_sort (sort_of b) (view b) e
  where
    fixed_fits : (k : Token) → Fixed (map capital (b ∷ (x ++ y))) ≡ k → k ≡ t → fits (next q) (b ∷ x) ≡ true
    fixed_fits k g h =
        fits_fixed (next q) (b ∷ x)
        (begins_found (map capital (b ∷ x)) (map capital (b ∷ (x ++ y))) (next q).fixed q' (begins_raised (b ∷ x) y) (ap (taken_by (next q)) (g ∙ h) ∙ f))

    word_fits : (r : Bool) → is_letter b ≡ true → all word_byte (x ++ y) ≡ true → cond r (Fixed (map capital (b ∷ (x ++ y)))) (Name (map capital (b ∷ (x ++ y)))) ≡ t
        → fits (next q) (b ∷ x) ≡ true
    word_fits true g h k = fixed_fits t k refl
    word_fits false g h k =
        fits_name (next q) (b ∷ x)
        (both (is_some (next q).name) (word_begins (b ∷ x)) (may_be_lem (next q).name (map capital (b ∷ (x ++ y))) q' (ap (taken_by (next q)) k ∙ f))
        (both (is_letter b) (all word_byte x) g (all_front word_byte x y h)))

    by_sort : (s : Sort) → View b s → token_in s n b (x ++ y) ≡ some t → fits (next q) (b ∷ x) ≡ true
    by_sort Word (word g) h =
        let w = word_token (map capital (b ∷ (x ++ y))) in
        word_fits (reserved (map capital (b ∷ (x ++ y)))) g (giving_true (all word_byte (x ++ y)) w t h) (giving_is (all word_byte (x ++ y)) w t h)
    by_sort Figure v h =
        fits_whole (next q) (b ∷ x)
        (both (is_some (next q).whole) (figure_begins (b ∷ x)) (figure_whole (minus b) b (x ++ y) t h (next q) q' f) (figure_begins_lem (minus b) b x y t refl h))
    by_sort String (string g) h =
        fits_quoted (next q) (b ∷ x)
        (both (is_some (next q).quoted) (quote_begins (b ∷ x)) (quoted_taken (in_quotes (x ++ y)) t h (next q) q' f)
        (both (is_quote b) (all plain x || is_some (in_quotes x)) g (quote_begins_lem x y (quoted_is (in_quotes (x ++ y)) t h))))
    by_sort Dollar v h =
        let s = giving_true (same (map capital (b ∷ (x ++ y))) (text "$VARCOND")) (Variable n) t h in
        fits_variable (next q) (b ∷ x)
        (both (is_some (next q).variable) (begins (map capital (b ∷ x)) (text "$VARCOND"))
        (may_be_lem (next q).variable n q' (ap (taken_by (next q)) (giving_is (same (map capital (b ∷ (x ++ y))) (text "$VARCOND")) (Variable n) t h) ∙ f))
        (ap (begins (map capital (b ∷ x))) (sym (same_eq (map capital (b ∷ (x ++ y))) (text "$VARCOND") s)) ∙ begins_raised (b ∷ x) y))
    by_sort Compare v h = fixed_fits t (giving_is (all sign_byte (x ++ y)) (Fixed (map capital (b ∷ (x ++ y)))) t h) refl
    by_sort Mark v h = fixed_fits t (giving_is (any (eqb b) (text "(),") && is_empty (x ++ y)) (Fixed (map capital (b ∷ (x ++ y)))) t h) refl
