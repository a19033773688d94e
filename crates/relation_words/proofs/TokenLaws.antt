-- Strings and numbers heard, and any token by its first byte, at a byte or behind blanks.
use Prim.Native.Nat.{ℕ, suc, ◌+◌, ◌-◌, ◌≤◌, ◌<◌, min}
use mathlib.Core.Path.{◌≡◌, refl, sym, ◌∙◌, ap, subst}
use mathlib.Core.Bool.{Bool, true, false, not, ◌&&◌, ◌||◌, cond, false≢true}
use mathlib.Core.List.{List, [], ◌∷◌, ◌++◌}
use mathlib.Core.Option.{some, none}
use native.Mathlib.Omega.{arith}
use native.Mathlib.Numerals.{add-one}
use lib.Dec.{eqb, leb}
use lib.IntN.{pos, neg_ℤ}
use lib.ListN.{length, take, drop, get_or, drop_of_length-le}
use borrow.Author.Tests.{le-leb, lt-leb, eqb-true}
use Rattle.std.specs.Prelude.{Result, Ok, Err}
use Rattle.rules.specs.Lists.{all, is_some, if_some}
use Rattle.std.proofs.lemmas.List.{length-take, get_or-take}
use Rattle.rules.specs.Letters.{letter}
use Rattle.relation_rules.specs.Grammar.{Token, Quoted, Whole, is_letter, is_digit, is_quote, minus, word_byte, String, giving, decimal, figures, some_figures, figure_token, or_else, nothing_in, after, in_quotes, quoted_token, token_in, token_of, goes_on, apart, past}
use Rattle.relation_rules.specs.Reader.{State, figure_begins, then_take, behind, Between, run}
use Rattle.relation_rules.specs.Parts.{TokenAt}
use Rattle.rules.proofs.TestLaws.{and_left, and_right, both, not_so, and_false}
use Rattle.rules.proofs.ListLaws.{all_append}
use Rattle.relation_rules.proofs.MoveLaws.{gap_read, stops_cut}
use Rattle.layout.specs.Reads.{part}
use Rattle.layout.specs.Ensures.{Says, Number}
use Rattle.relation_words.specs.declared.tokens.Kind.TheVariants.{Quoted as AString, Figure}
use Rattle.relation_words.specs.declared.tokens.Token.{Token as Found}
use Rattle.relation_words.specs.declared.tokens.Stop.{Stop}
use Rattle.relation_words.specs.Words.{Gap}
use Rattle.relation_words.specs.Wanted.{Wanted, fits_wanted, plain_words, StopsHere, TokenHere, Stops}
use Rattle.relation_words.specs.Heard.{whole_of, first_digit, ByteAt, Heard, HeardOn, TokenHeardOn, QuoteRun, FigureAt, StringHeard, NumberHeard}
use Rattle.relation_words.proofs.PartLaws.{part_none, part_more, part_cons, part_length, part_rest, past_part}
use Rattle.relation_words.proofs.CapitalLaws.{other_capital}
use Rattle.relation_words.proofs.ReadLaws.{stop_inside, stop_behind, apart_end}
use Rattle.relation_words.proofs.StretchLaws.{StretchTo, all_to, apart_to}
use Rattle.relation_words.proofs.RunLaws.{figure_sort, quote_sort, goes_sort}
use Rattle.relation_words.proofs.DigitLaws.{figure_letter, digit_not_minus, figure_goes, begun_figures}
use Rattle.relation_words.proofs.HeardLaws.{heard_wrong, heard_quoted, heard_whole, plain_none}

-- ---- a string

open_none : (l : List ℕ) → all (λ c. not (is_quote c)) l ≡ true → in_quotes l ≡ none
unfolding in_quotes
open_none [] e = refl
open_none (c ∷ l) e =
    ap (λ z. or_else z (nothing_in l) (after c (in_quotes l))) (not_so (is_quote c) (and_left (not (is_quote c)) (all (λ c. not (is_quote c)) l) e))
    ∙ ap (after c) (open_none l (and_right (not (is_quote c)) (all (λ c. not (is_quote c)) l) e))

closed_some : (l : List ℕ) (q : ℕ) → is_quote q ≡ true → all (λ c. not (is_quote c)) l ≡ true → in_quotes (l ++ (q ∷ [])) ≡ some l
unfolding in_quotes
closed_some [] q f e = ap (λ z. or_else z (some []) (after q none)) f
closed_some (c ∷ l) q f e =
    ap (λ z. or_else z (nothing_in (l ++ (q ∷ []))) (after c (in_quotes (l ++ (q ∷ []))))) (not_so (is_quote c) (and_left (not (is_quote c)) (all (λ c. not (is_quote c)) l) e))
    ∙ ap (after c) (closed_some l q f (and_right (not (is_quote c)) (all (λ c. not (is_quote c)) l) e))

module _ {s : List ℕ} {at r : ℕ} (e : Says (is_quote (get_or s at 0)) true) (g : QuoteRun s at r) where
  quote_ahead : at ≤ r
  quote_ahead = let on : at < r = g.on in omega arith

  pub string_cut : length s ≤ r → StringHeard s at (Err (record { at = r }))
  unfolding behind token_of
  string_cut h =
      record {
        heard =
            λ w n.
            heard_wrong quote_ahead g.most
            (λ _. stop_behind (g.begun w n e.is) (apart_end (part s at r) s r h)
            (λ q i.
            ap (λ z. then_take q (token_of (suc at) z)) (part_cons s at r g.on g.most)
            ∙ ap (λ z. then_take q (token_in z (suc at) (get_or s at 0) (part s (suc at) r))) (quote_sort (get_or s at 0) e.is)
            ∙ ap (λ z. then_take q (quoted_token z)) (open_none (part s (suc at) r) g.plain)));
      }

  pub string_whole : r < length s → StringHeard s at (Ok (record { kind = AString; from = at; to = r + 1 }))
  unfolding token_of
  string_whole l =
      subst (λ z. StringHeard s at (Ok (record { kind = AString; from = at; to = z }))) (sym (add-one r))
      (record {
        heard =
            λ w n.
            let on : at < r = g.on in
            heard_quoted (omega arith) l n
            (record {
              on = omega arith;
              most = l;
              is =
                  let k : r ≡ suc r - 1 = omega arith in
                  split ∙ ap (λ z. quoted_token z) (closed_some (part s (suc at) r) (get_or s r 0) (g.stop l) g.plain) ∙ ap (λ z. some (Quoted (part s (suc at) z))) k;
              alone = closed (drop (suc r) s);
            });
      })
    where
      more : part s at (suc r) ≡ get_or s at 0 ∷ (part s (suc at) r ++ (get_or s r 0 ∷ []))
      more = let on : at < r = g.on in let k : at < suc r = omega arith in part_cons s at (suc r) k l ∙ ap (λ z. get_or s at 0 ∷ z) (part_more s (suc at) r on l)

      split : token_of (suc at) (part s at (suc r)) ≡ quoted_token (in_quotes (part s (suc at) r ++ (get_or s r 0 ∷ [])))
      split =
          ap (token_of (suc at)) more ∙ ap (λ z. token_in z (suc at) (get_or s at 0) (part s (suc at) r ++ (get_or s r 0 ∷ []))) (quote_sort (get_or s at 0) e.is)

      full : (c : ℕ) → goes_on (part s at (suc r)) c ≡ false
      full c =
          ap (λ z. goes_on z c) more
          ∙ goes_sort (get_or s at 0) c String (quote_sort (get_or s at 0) e.is) (part s (suc at) r ++ (get_or s r 0 ∷ []))
          ∙ all_append (λ d. not (is_quote d)) (part s (suc at) r) (get_or s r 0 ∷ [])
          ∙ ap (λ z. all (λ d. not (is_quote d)) (part s (suc at) r) && (not z && true)) (g.stop l)
          ∙ and_false (all (λ d. not (is_quote d)) (part s (suc at) r))

      closed : (t : List ℕ) → apart (part s at (suc r)) t ≡ true
      closed [] = refl
      closed (c ∷ t) = ap not (full c)

-- ---- a number

figure_quote : (b : ℕ) → (is_digit b || minus b) ≡ true → is_quote b ≡ false
figure_quote b e = go (is_quote b) refl
  where
    go : (x : Bool) → is_quote b ≡ x → x ≡ false
    go true f = absurd (false≢true (sym (ap (λ z. is_digit z || minus z) (eqb-true b 39 f)) ∙ e))
    go false f = refl

-- where a figure stands, only a number may fit
figure_only : (w : Wanted) (b : ℕ) (l : List ℕ) → (is_digit b || minus b) ≡ true → plain_words w.words ≡ true → figure_begins (b ∷ l) ≡ false → fits_wanted w (b ∷ l) ≡ false
figure_only w b l e p f =
    (λ i. plain_none w.words b l p (other_capital b (figure_letter b e)) (ap (λ z. z || (is_digit b || minus b)) (figure_quote b e) ∙ e) i
    || (w.name && (figure_letter b e i && all word_byte l))
    || (w.quoted && (figure_quote b e i && (all (λ c. not (is_quote c)) l || is_some (in_quotes l))))
    || (w.whole && f i))
    ∙ (λ i. and_false w.name i || and_false w.quoted i || and_false w.whole i)

too_many : (b : ℕ) (l : List ℕ) → (minus b ≡ true → 18 < length l) → (minus b ≡ false → 17 < length l) → figure_begins (b ∷ l) ≡ false
too_many b l f g = go (minus b) f g
  where
    long : 18 < length l → leb (length l) 18 ≡ false
    long h = lt-leb (length l) 18 h

    longer : 17 < length l → leb (length (b ∷ l)) 18 ≡ false
    longer h = lt-leb (length (b ∷ l)) 18 (omega arith)

    go : (x : Bool) → (x ≡ true → 18 < length l) → (x ≡ false → 17 < length l) → ((x && figures l) || figures (b ∷ l)) ≡ false
    go true h k =
        let m : 18 < length l = h refl in
        let n : 17 < length l = omega arith in
        (λ i. (all is_digit l && long m i) || ((is_digit b && all is_digit l) && longer n i))
        ∙ (λ i. and_false (all is_digit l) i || and_false (is_digit b && all is_digit l) i)
    go false h k = ap (λ z. (is_digit b && all is_digit l) && z) (longer (k refl)) ∙ and_false (is_digit b && all is_digit l)

first_of : (b at : ℕ) (x : Bool) → minus b ≡ x → first_digit b at ≡ cond x (suc at) at
first_of b at x e = ap (λ z. cond z (suc at) at) e

-- `first` is where the first digit stands, and the digits end at `to`
module _ {s : List ℕ} {at to first : ℕ} (f : FigureAt s at) (l : at < length s) (k : StretchTo is_digit s (suc at) to) (e : first ≡ first_digit (get_or s at 0) at) where
  pub digits_part : first ≤ to × all is_digit (part s first to) ≡ true
  digits_part = go (minus (get_or s at 0)) refl
    where
      go : (x : Bool) → minus (get_or s at 0) ≡ x → first ≤ to × all is_digit (part s first to) ≡ true
      go true m =
          let n : first ≡ suc at = e ∙ first_of (get_or s at 0) at true m in
          let on : suc at ≤ to = k.on in
          (omega arith, ap (λ z. all is_digit (part s z to)) n ∙ all_to k to on (omega arith))
      go false m =
          let n : first ≡ at = e ∙ first_of (get_or s at 0) at false m in
          let on : suc at ≤ to = k.on in (
            omega arith,
            ap (λ z. all is_digit (part s z to)) n
                ∙ ap (all is_digit) (part_cons s at to on k.most)
                ∙ both (is_digit (get_or s at 0)) (all is_digit (part s (suc at) to)) (digit_not_minus (get_or s at 0) m f.is) (all_to k to on (omega arith)),
          )

  digits_long : length (part s first to) ≡ to - first
  digits_long = part_length s first to digits_part.0 k.most

  first_least : at ≤ first
  first_least = go (minus (get_or s at 0)) refl
    where
      go : (x : Bool) → minus (get_or s at 0) ≡ x → at ≤ first
      go true m = let n : first ≡ suc at = e ∙ first_of (get_or s at 0) at true m in omega arith
      go false m = let n : first ≡ at = e ∙ first_of (get_or s at 0) at false m in omega arith

  pub number_many : 18 < length (part s first to) → NumberHeard s at (Err (record { at = first + 18 }))
  number_many h =
      let more : first + 18 < to = omega (arith, digits_long) in
      let within : to ≤ length s = k.most in
      let there : first + 18 < length s = omega arith in
      let ahead : at < first + 18 = omega (arith, first_least) in
      let most : first + 18 ≤ first_digit (get_or s at 0) at + 18 = subst (λ z. first + 18 ≤ z + 18) e (omega arith) in
      let beyond : suc at ≤ suc (first + 18) = omega arith in
      let long : length (part s (suc at) (suc (first + 18))) ≡ suc (first + 18) - suc at = part_length s (suc at) (suc (first + 18)) beyond there in
      record {
        heard =
            λ w n.
            heard_wrong (omega arith) (omega arith)
            (λ p. stop_inside (begun_figures f k w n (first + 18) ahead (omega arith) most) there
            (figure_goes f k (first + 18) (get_or s (first + 18) 0) ahead (omega arith) ∙ k.passes (first + 18) ahead more)
            (ap (fits_wanted w) (part_cons s at (suc (first + 18)) beyond there)
            ∙ figure_only w (get_or s at 0) (part s (suc at) (suc (first + 18))) f.is p
            (too_many (get_or s at 0) (part s (suc at) (suc (first + 18)))
            (λ m. let z : first ≡ suc at = e ∙ first_of (get_or s at 0) at true m in omega arith)
            (λ m. let z : first ≡ at = e ∙ first_of (get_or s at 0) at false m in omega arith))));
      }

  -- up to eighteen, and no other behind them
  module _ {most : ℕ} (m : most ≡ min (length s) (first + 19)) (few : length (part s first to) ≤ 18)
      (n : to < length (take most s) → Says (is_digit (get_or (take most s) to 0)) false) where
    digits_next : to < length s → is_digit (get_or s to 0) ≡ false
    digits_next h =
        let on : first ≤ to = digits_part.0 in
        let below : to < most = omega (arith, digits_long) in
        let long : length (take most s) ≡ min most (length s) = length-take most s in
        ap is_digit (sym (get_or-take most s to 0 below)) ∙ (n (omega arith)).is

    digits_alone : apart (part s at to) (drop to s) ≡ true
    digits_alone = apart_to (part s at to) s to (λ h. figure_goes f k to (get_or s to 0) k.on k.most ∙ digits_next h)

    pub number_bare : length (part s first to) ≡ 0 → NumberHeard s at (Err (record { at = to }))
    unfolding behind token_of
    number_bare h =
        record {
          heard =
              λ w n.
              heard_wrong (omega arith) k.most
              (λ p. stop_behind (begun_figures f k w n to on (omega arith) early) digits_alone
              (λ q i.
              ap (λ z. then_take q (token_of (suc at) z)) (part_cons s at to on k.most)
              ∙ ap (λ z. then_take q (token_in z (suc at) (get_or s at 0) (part s (suc at) to))) (figure_sort (get_or s at 0) (figure_letter (get_or s at 0) f.is) f.is)
              ∙ go q (minus (get_or s at 0)) refl));
        }
      where
        on : at < to
        on = k.on

        same_place : first ≡ to
        same_place = let m : first ≤ to = digits_part.0 in omega (arith, digits_long)

        early : to ≤ first_digit (get_or s at 0) at + 18
        early = subst (λ z. to ≤ z + 18) e (omega (arith, same_place))

        go : (q : State) (x : Bool) → minus (get_or s at 0) ≡ x → then_take q (figure_token (minus (get_or s at 0)) (get_or s at 0) (part s (suc at) to)) ≡ none
        go q true m =
            let n : to ≡ suc at = sym same_place ∙ e ∙ first_of (get_or s at 0) at true m in
            ap (λ z. then_take q (figure_token z (get_or s at 0) (part s (suc at) to))) m
            ∙ ap (λ z. then_take q (figure_token true (get_or s at 0) z)) (ap (part s (suc at)) n ∙ part_none s (suc at))
        go q false m = let n : to ≡ at = sym same_place ∙ e ∙ first_of (get_or s at 0) at false m in absurd (omega arith)

    pub number_whole : {size : ℕ} → (length (part s first to) ≡ 0 → ⊥) → Number (decimal 0 (part s first to)) 1000000000000000000 size
        → NumberHeard s at (Ok (record { kind = Figure (eqb (get_or s at 0) 45) size; from = at; to = to }))
    unfolding token_of
    number_whole {size} filled d =
        record {
          heard =
              λ w o.
              heard_whole on k.most d.below o
              (record {
                on = on;
                most = k.most;
                is =
                    ap (token_of (suc at)) (part_cons s at to on k.most)
                    ∙ ap (λ z. token_in z (suc at) (get_or s at 0) (part s (suc at) to)) (figure_sort (get_or s at 0) (figure_letter (get_or s at 0) f.is) f.is)
                    ∙ made (minus (get_or s at 0)) refl;
                alone = digits_alone;
              });
        }
      where
        on : at < to
        on = k.on

        figures_are : (ds : List ℕ) → all is_digit ds ≡ true → length ds ≤ 18 → (length ds ≡ 0 → ⊥) → some_figures ds ≡ true
        figures_are ds a b c =
            both (figures ds) (leb 1 (length ds)) (both (all is_digit ds) (leb (length ds) 18) a (le-leb (length ds) 18 b)) (le-leb 1 (length ds) (omega arith))

        made : (x : Bool) → minus (get_or s at 0) ≡ x → figure_token x (get_or s at 0) (part s (suc at) to) ≡ some (Whole (whole_of x size))
        made true m =
            let z : first ≡ suc at = e ∙ first_of (get_or s at 0) at true m in
            subst (λ i. figure_token true (get_or s at 0) (part s i to) ≡ some (Whole (whole_of true size))) z
            (ap (λ v. giving v (Whole (neg_ℤ (pos (decimal 0 (part s first to)))))) (figures_are (part s first to) digits_part.1 few filled)
            ∙ ap (λ v. some (Whole (neg_ℤ (pos v)))) (sym d.is))
        made false m =
            let z : first ≡ at = e ∙ first_of (get_or s at 0) at false m in
            let c : part s first to ≡ get_or s at 0 ∷ part s (suc at) to = ap (λ i. part s i to) z ∙ part_cons s at to on k.most in
            subst (λ v. giving (some_figures v) (Whole (pos (decimal 0 v))) ≡ some (Whole (whole_of false size))) c
            (ap (λ v. giving v (Whole (pos (decimal 0 (part s first to))))) (figures_are (part s first to) digits_part.1 few filled)
            ∙ ap (λ v. some (Whole (pos v))) (sym d.is))

-- ---- by the first byte

module _ (b : ℕ) where
  pub letter_asked : (n : Bool) {x : Bool} → Says (is_letter b) x → (n && x) ≡ true → Says (is_letter b) true
  letter_asked n {x} h e = record { is = h.is ∙ and_right n x e }

  pub quote_asked : (n : Bool) → (n && eqb b 39) ≡ true → Says (is_quote b) true
  quote_asked n e = record { is = and_right n (eqb b 39) e }

pub figure_asked : (n : Bool) {s : List ℕ} {at : ℕ} {x : Bool} → Says (is_digit (get_or s at 0) || minus (get_or s at 0)) x → (n && x) ≡ true → FigureAt s at
figure_asked n {x = x} h e = record { is = h.is ∙ and_right n x e }

-- ---- behind blanks

pub behind_blanks : {s : List ℕ} {at i : ℕ} → Gap s at i → i < length s → ByteAt s i
behind_blanks g l = record { there = l; no_blank = g.next l }

module _ {s : List ℕ} {at i : ℕ} (g : Gap s at i) where
  pub gap_moves : (limit : ℕ) (q : State) → run limit (suc at) (Between q) (drop at s) ≡ run limit (suc i) (Between q) (drop i s)
  gap_moves limit q =
      ap (run limit (suc at) (Between q)) (part_rest s at i g.on)
      ∙ gap_read limit (part s at i) (drop i s) (suc at) q g.blanks
      ∙ ap (λ n. run limit n (Between q) (drop i s)) (past_part s at i g.on g.most)

  pub gap_token : {t : Token} {to : ℕ} → TokenHere s i t to → TokenAt (suc at) (drop at s) t (suc to) (drop to s)
  gap_token {t} {to} k =
      let l : i < to = k.on in
      let e : past (part s at i) (suc at) ≡ suc i = past_part s at i g.on g.most in
      let ahead : i ≤ to = omega arith in
      record {
        gap = part s at i;
        bytes = part s i to;
        whole = part_rest s at i g.on ∙ ap (λ z. part s at i ++ z) (part_rest s i to ahead);
        blanks = g.blanks;
        is = ap (λ n. token_of n (part s i to)) e ∙ k.is;
        alone = k.alone;
        place = ap (past (part s i to)) e ∙ past_part s i to ahead k.most;
      }

  -- only where a parenthesis may open can one be too deep
  pub gap_stops : {w : Wanted} {p : ℕ} → StopsHere w s i p → Stops w s at p
  gap_stops h =
      record {
        stops =
            λ limit q e c o.
            gap_moves limit q
            ∙ h.stops limit q e (ap (λ z. eqb (get_or s i 0) (letter "(") && if_some z false (leb limit)) o ∙ and_false (eqb (get_or s i 0) (letter "(")));
      }

  pub gap_cut : {w : Wanted} → length s ≤ i → Stops w s at (suc i)
  gap_cut l =
      record {
        stops =
            λ limit q e c o.
            gap_moves limit q ∙ ap (run limit (suc i) (Between q)) (drop_of_length-le s l) ∙ stops_cut limit (suc i) q c;
      }

module _ (w : Wanted) {s : List ℕ} {at i : ℕ} (g : Gap s at i) where
  pub on_token : (r : Result Found Stop) → Heard w s i r → HeardOn w s at r
  on_token (Err e) h = record { on = let a : at ≤ i = g.on in let b : i ≤ e.at = h.on in omega arith; most = h.most; wrong = λ p. gap_stops g (h.wrong p) }
  on_token (Ok t) h = subst (λ z. TokenHeardOn w s at (record { kind = t.kind; from = z; to = t.to })) (sym h.starts) made
    where
      made : TokenHeardOn w s at (record { kind = t.kind; from = i; to = t.to })
      made =
          record {
            begins = g.on;
            further = h.further;
            most = h.most;
            asked = h.asked;
            least = h.least;
            last = h.last;
            word = λ k e u d. gap_token g (h.word k e u d);
            name = λ e. gap_token g (h.name e);
            closed = h.closed;
            quoted = λ e. gap_token g (h.quoted e);
            small = h.small;
            whole = λ below size e. gap_token g (h.whole below size e);
          }

  pub on_cut : length s ≤ i → HeardOn w s at (Err (record { at = i }))
  on_cut l = record { on = g.on; most = g.most; wrong = λ p. gap_cut g l }
