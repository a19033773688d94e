-- How the reader goes through one token, by what is wanted there.
use Prim.Native.Nat.{ℕ, suc, ◌≤◌, ◌<◌}
use mathlib.Core.Path.{◌≡◌, refl, sym, ◌∙◌, ap}
use mathlib.Core.Bool.{Bool, true, false, not, ◌&&◌, ◌||◌, cond, false≢true}
use mathlib.Core.List.{List, [], ◌∷◌, ◌++◌, map}
use mathlib.Core.Option.{Option, some, none}
use mathlib.Core.Logic.{◌⊎◌, inl, inr}
use native.Mathlib.Omega.{arith}
use lib.Dec.{eqb}
use lib.ListN.{length, drop, get_or, drop_of_length-le}
use lib.Seq.{drop-cons}
use Rattle.rules.specs.Lists.{all, any, same, is_some}
use Rattle.rules.specs.Letters.{text}
use Rattle.relation_rules.specs.Grammar.{Token, Variable, Fixed, Name, Whole, capital, is_blank, is_letter, is_digit, is_quote, minus, word_byte, sign_byte, Sort, Word, Figure, String, Dollar, Compare, Mark, sort_of, giving, reserved, some_figures, figure_token, in_quotes, quoted_token, is_empty, token_in, token_of, goes_on, apart}
use Rattle.rules.specs.PlacedRefusals.{RefusedAt}
use Rattle.relation_rules.specs.Reader.{State, Next, next, may_be, lookup, taken_by, take, begins, word_begins, quote_begins, figure_begins, fits, viable, Between, Inside, too_deep, begin, then_take, behind, step, run}
use Rattle.rules.proofs.TestLaws.{not_so}
use Rattle.relation_rules.proofs.TokenLaws.{View, view, word, figure, string}
use Rattle.relation_rules.proofs.MoveLaws.{stops_at, stops_inside, stops_behind, stops_cut_inside}
use Rattle.layout.specs.Reads.{part}
use Rattle.relation_words.specs.Wanted.{Wanted, fits_wanted, variable_word, wanted_next, wanted_by, Begun, StopsHere}
use Rattle.relation_words.proofs.PartLaws.{part_none, part_more}

-- ---- what fits is what is wanted

any_map : (p : List ℕ → Bool) (ms : List (List ℕ × State)) → any (λ m. p m.0) ms ≡ any p (map (λ m. m.0) ms)
any_map p [] = refl
any_map p (m ∷ ms) = ap (λ z. p m.0 || z) (any_map p ms)

fits_next : (n : Next) (l : List ℕ) → fits n l ≡ fits_wanted (wanted_next n) l
fits_next n l = ap (λ z. z || (is_some n.name && word_begins l) || (is_some n.quoted && quote_begins l) || (is_some n.whole && figure_begins l)) (go (is_some n.variable))
  where
    go : (x : Bool) → ((x && begins (map capital l) (text "$VARCOND")) || any (λ m. begins (map capital l) m.0) n.fixed)
        ≡ any (begins (map capital l)) (variable_word x ++ map (λ m. m.0) n.fixed)
    go true = ap (λ z. begins (map capital l) (text "$VARCOND") || z) (any_map (begins (map capital l)) n.fixed)
    go false = any_map (begins (map capital l)) n.fixed

viable_is : (w : Wanted) (q : State) (l : List ℕ) → wanted_by q ≡ w → viable q l ≡ fits_wanted w l
unfolding viable wanted_by
viable_is w q l e = fits_next (next q) l ∙ ap (λ z. fits_wanted z l) e

-- ---- bytes of a token

token_begun : (limit n : ℕ) (q : State) (b : ℕ) (s : List ℕ) → is_blank b ≡ false → too_deep limit q b ≡ false → viable q (b ∷ []) ≡ true
    → run limit n (Between q) (b ∷ s) ≡ run limit (suc n) (Inside q n (b ∷ [])) s
unfolding run step begin
token_begun limit n q b s e f g = rw (e, f, g)

byte_read : (limit n : ℕ) (q : State) (from : ℕ) (l : List ℕ) (c : ℕ) (s : List ℕ) → goes_on l c ≡ true → viable q (l ++ (c ∷ [])) ≡ true
    → run limit n (Inside q from l) (c ∷ s) ≡ run limit (suc n) (Inside q from (l ++ (c ∷ []))) s
unfolding run step
byte_read limit n q from l c s e f = rw (e, f)

part_first : (s : List ℕ) (at : ℕ) → at < length s → part s at (suc at) ≡ get_or s at 0 ∷ []
part_first s at l = part_more s at at (omega arith) l ∙ ap (λ z. z ++ (get_or s at 0 ∷ [])) (part_none s at)

module _ {w : Wanted} {s : List ℕ} {at : ℕ} where
  pub begun_first : at < length s → is_blank (get_or s at 0) ≡ false → fits_wanted w (get_or s at 0 ∷ []) ≡ true → Begun w s at (suc at)
  begun_first l e f =
      record {
        on = omega arith;
        most = l;
        moves =
            λ limit q k d.
            ap (run limit (suc at) (Between q)) (drop-cons s at 0 l)
            ∙ token_begun limit (suc at) q (get_or s at 0) (drop (suc at) s) e d (viable_is w q (get_or s at 0 ∷ []) k ∙ f)
            ∙ ap (λ z. run limit (suc (suc at)) (Inside q (suc at) z) (drop (suc at) s)) (sym (part_first s at l));
      }

  pub stop_first : at < length s → is_blank (get_or s at 0) ≡ false → fits_wanted w (get_or s at 0 ∷ []) ≡ false → StopsHere w s at (suc at)
  stop_first l e f =
      record {
        stops =
            λ limit q k d.
            ap (run limit (suc at) (Between q)) (drop-cons s at 0 l)
            ∙ stops_at limit (suc at) q (get_or s at 0) (drop (suc at) s) e d (viable_is w q (get_or s at 0 ∷ []) k ∙ f);
      }

  module _ {i : ℕ} (g : Begun w s at i) where
    pub begun_on : i < length s → goes_on (part s at i) (get_or s i 0) ≡ true → fits_wanted w (part s at (suc i)) ≡ true → Begun w s at (suc i)
    begun_on l e f =
        let on : at < i = g.on in
        let m : part s at (suc i) ≡ part s at i ++ (get_or s i 0 ∷ []) = part_more s at i (omega arith) l in
        record {
          on = omega arith;
          most = l;
          moves =
              λ limit q k d.
              g.moves limit q k d
              ∙ ap (run limit (suc i) (Inside q (suc at) (part s at i))) (drop-cons s i 0 l)
              ∙ byte_read limit (suc i) q (suc at) (part s at i) (get_or s i 0) (drop (suc i) s) e
              (ap (viable q) (sym m) ∙ viable_is w q (part s at (suc i)) k ∙ f)
              ∙ ap (λ z. run limit (suc (suc i)) (Inside q (suc at) z) (drop (suc i) s)) (sym m);
        }

    pub stop_inside : i < length s → goes_on (part s at i) (get_or s i 0) ≡ true → fits_wanted w (part s at (suc i)) ≡ false → StopsHere w s at (suc i)
    stop_inside l e f =
        let on : at < i = g.on in
        let m : part s at (suc i) ≡ part s at i ++ (get_or s i 0 ∷ []) = part_more s at i (omega arith) l in
        record {
          stops =
              λ limit q k d.
              g.moves limit q k d
              ∙ ap (run limit (suc i) (Inside q (suc at) (part s at i))) (drop-cons s i 0 l)
              ∙ stops_inside limit (suc i) q (suc at) (part s at i) (get_or s i 0) (drop (suc i) s) e
              (ap (viable q) (sym m) ∙ viable_is w q (part s at (suc i)) k ∙ f);
        }

    -- a token that may not come stops behind it
    pub stop_behind : apart (part s at i) (drop i s) ≡ true → ((q : State) → wanted_by q ≡ w → behind q (suc at) (part s at i) ≡ none) → StopsHere w s at (suc i)
    stop_behind a f = record { stops = λ limit q k d. g.moves limit q k d ∙ go limit q (drop i s) a (f q k) }
      where
        go : (limit : ℕ) (q : State) (t : List ℕ) → apart (part s at i) t ≡ true → behind q (suc at) (part s at i) ≡ none
            → run limit (suc i) (Inside q (suc at) (part s at i)) t ≡ RefusedAt 14 (suc i)
        go limit q [] e h = stops_cut_inside limit (suc i) q (suc at) (part s at i) h
        go limit q (c ∷ t) e h = stops_behind limit (suc i) q (suc at) (part s at i) c t (not_so (goes_on (part s at i) c) e) h

-- ---- where a token ends

module _ (l s : List ℕ) (i : ℕ) where
  pub apart_at : i < length s → goes_on l (get_or s i 0) ≡ false → apart l (drop i s) ≡ true
  apart_at h e = ap (apart l) (drop-cons s i 0 h) ∙ ap not e

  pub apart_end : length s ≤ i → apart l (drop i s) ≡ true
  apart_end h = ap (apart l) (drop_of_length-le s h)

-- ---- a word that is none of the list may not come

lookup_none : (ms : List (List ℕ × State)) (k : List ℕ) → any (same k) (map (λ m. m.0) ms) ≡ false → lookup ms k ≡ none
lookup_none [] k e = refl
lookup_none (m ∷ ms) k e = go (lookup_none ms k) (same k m.0) e
  where
    go : (any (same k) (map (λ m. m.0) ms) ≡ false → lookup ms k ≡ none) → (x : Bool) → (x || any (same k) (map (λ m. m.0) ms)) ≡ false
        → ◌≡◌ {A = Option State} (elim x as (λ z. Option State) [ true ↦ some m.1 | false ↦ lookup ms k ]) none
    go ih true f = absurd (false≢true (sym f))
    go ih false f = ih f

may_not : {A : Type 0} (o : Option (A → State)) (a : A) → is_some o ≡ false → may_be o a ≡ none
may_not none a e = refl
may_not (some f) a e = absurd (false≢true (sym e))

or_right_false : (x y : Bool) → (x || y) ≡ false → y ≡ false
or_right_false true y e = absurd (false≢true (sym e))
or_right_false false y e = e

module _ (n : Next) (k : List ℕ) (e : any (same k) (wanted_next n).words ≡ false) where
  unlisted : any (same k) (map (λ m. m.0) n.fixed) ≡ false
  unlisted = go (is_some n.variable) e
    where
      go : (x : Bool) → any (same k) (variable_word x ++ map (λ m. m.0) n.fixed) ≡ false → any (same k) (map (λ m. m.0) n.fixed) ≡ false
      go true f = or_right_false (same k (text "$VARCOND")) (any (same k) (map (λ m. m.0) n.fixed)) f
      go false f = f

  -- the variable, if it is wanted, is a word of the list
  no_variable : (p : ℕ) → giving (same k (text "$VARCOND")) (Variable p) ≡ none ⊎ is_some n.variable ≡ false
  no_variable p = go (is_some n.variable) refl e
    where
      go : (x : Bool) → is_some n.variable ≡ x → any (same k) (variable_word x ++ map (λ m. m.0) n.fixed) ≡ false
          → giving (same k (text "$VARCOND")) (Variable p) ≡ none ⊎ is_some n.variable ≡ false
      go true g f = inl (ap (λ z. giving z (Variable p)) (left (same k (text "$VARCOND")) (any (same k) (map (λ m. m.0) n.fixed)) f))
        where
          left : (x y : Bool) → (x || y) ≡ false → x ≡ false
          left true y h = h
          left false y h = refl
      go false g f = inr g

module _ (w : Wanted) (q : State) (n b : ℕ) (l : List ℕ) (e : wanted_by q ≡ w) where
  abbrev raised_word : List ℕ
  raised_word = map capital (b ∷ l)

  pub behind_none : any (same raised_word) w.words ≡ false → (is_letter b ≡ true → reserved raised_word ≡ false → w.name ≡ false)
      → (is_quote b ≡ true → w.quoted ≡ false) → ((is_digit b || minus b) ≡ true → w.whole ≡ false) → behind q n (b ∷ l) ≡ none
  unfolding behind token_of take wanted_by
  behind_none f no_name no_quote no_figure = by_sort (sort_of b) (view b)
    where
      listed : any (same (map capital (b ∷ l))) (wanted_next (next q)).words ≡ false
      listed = ap (λ z. any (same (map capital (b ∷ l))) z.words) e ∙ f

      fixed : lookup (next q).fixed (map capital (b ∷ l)) ≡ none
      fixed = lookup_none (next q).fixed (map capital (b ∷ l)) (unlisted (next q) (map capital (b ∷ l)) listed)

      given : (x : Bool) (t : Token) → taken_by (next q) t ≡ none → then_take q (giving x t) ≡ none
      given true t h = h
      given false t h = refl

      worded : (x : Bool) → is_letter b ≡ true → reserved (map capital (b ∷ l)) ≡ x → taken_by (next q) (cond x (Fixed (map capital (b ∷ l))) (Name (map capital (b ∷ l)))) ≡ none
      worded true g h = fixed
      worded false g h = may_not (next q).name (map capital (b ∷ l)) (ap (λ z. z.name) e ∙ no_name g h)

      figured : (m : Bool) → (is_digit b || minus b) ≡ true → then_take q (figure_token m b l) ≡ none
      figured true g = given (some_figures l) (Whole _) (may_not (next q).whole _ (ap (λ z. z.whole) e ∙ no_figure g))
      figured false g = given (some_figures (b ∷ l)) (Whole _) (may_not (next q).whole _ (ap (λ z. z.whole) e ∙ no_figure g))

      quoted : (o : Option (List ℕ)) → is_quote b ≡ true → then_take q (quoted_token o) ≡ none
      quoted none g = refl
      quoted (some v) g = may_not (next q).quoted v (ap (λ z. z.quoted) e ∙ no_quote g)

      by_sort : (s : Sort) → View b s → then_take q (token_in s n b l) ≡ none
      by_sort Word (word g) = given (all word_byte l) _ (worded (reserved (map capital (b ∷ l))) g refl)
      by_sort Figure (figure g) = figured (minus b) g
      by_sort String (string g) = quoted (in_quotes l) g
      by_sort Dollar v = variable (no_variable (next q) (map capital (b ∷ l)) listed n)
        where
          variable : giving (same (map capital (b ∷ l)) (text "$VARCOND")) (Variable n) ≡ none ⊎ is_some (next q).variable ≡ false
              → then_take q (giving (same (map capital (b ∷ l)) (text "$VARCOND")) (Variable n)) ≡ none
          variable (inl h) = ap (then_take q) h
          variable (inr h) = given (same (map capital (b ∷ l)) (text "$VARCOND")) (Variable n) (may_not (next q).variable n h)
      by_sort Compare v = given (all sign_byte l) (Fixed (map capital (b ∷ l))) fixed
      by_sort Mark v = given (any (eqb b) (text "(),") && is_empty l) (Fixed (map capital (b ∷ l))) fixed
