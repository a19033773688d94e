-- What is heard at a position, kind by kind.
use Prim.Native.Nat.{ℕ, zero, suc, ◌+◌, ◌-◌, ◌≤◌, ◌<◌}
use mathlib.Core.Path.{◌≡◌, refl, sym, ◌∙◌, ap, subst}
use mathlib.Core.Bool.{Bool, true, false, not, ◌&&◌, ◌||◌, cond, false≢true}
use mathlib.Core.List.{List, [], ◌∷◌, map}
use mathlib.Core.Option.{some}
use native.Mathlib.Omega.{arith}
use lib.Dec.{eqb}
use lib.ListN.{length, get_or}
use borrow.Author.Tests.{eqb-true}
use denote.Bor.{Bor}
use Rattle.std.specs.Prelude.{Ok, Err}
use Rattle.rules.specs.Lists.{all, any, same}
use Rattle.relation_rules.specs.Grammar.{Token, Fixed, Name, Quoted, Whole, capital, is_letter, is_digit, is_quote, minus, reserved_words, reserved, giving, word_token, token_in, token_of}
use Rattle.relation_rules.specs.Reader.{begins, behind}
use Rattle.rules.proofs.TestLaws.{and_left, and_right}
use Rattle.rules.proofs.ListLaws.{same_eq}
use Rattle.layout.specs.Reads.{part}
use Rattle.layout.specs.Ensures.{Says}
use Rattle.relation_words.specs.declared.tokens.Kind.TheVariants.{Word, Name as AName, Quoted as AString, Figure}
use Rattle.relation_words.specs.Words.{word_of}
use Rattle.relation_words.specs.Wanted.{Wanted, plain_word, plain_words, StopsHere, TokenHere}
use Rattle.relation_words.specs.Heard.{whole_of, some_word, ByteAt, Heard, WordRun, TokenRun, NoWordAt, WordStops, WordHeard, NameHeard}
use Rattle.relation_words.proofs.PartLaws.{part_cons}
use Rattle.relation_words.proofs.CapitalLaws.{token_capital, other_capital}
use Rattle.relation_words.proofs.ReadLaws.{stop_first, stop_behind, behind_none}
use Rattle.relation_words.proofs.WordLaws.{Listed}
use Rattle.relation_words.proofs.RunLaws.{letter_sort, only_words}
use Rattle.relation_words.proofs.DigitLaws.{figure_letter}

or_left_false : (x y : Bool) → (x || y) ≡ false → x ≡ false
or_left_false true y e = e
or_left_false false y e = refl

or_right_false : (x y : Bool) → (x || y) ≡ false → y ≡ false
or_right_false true y e = absurd (false≢true (sym e))
or_right_false false y e = e

-- a word of a list is in it
pub same_any : (ws : List (List ℕ)) (l : List ℕ) (i : ℕ) → same l (word_of ws (suc i)) ≡ true → i < length ws → any (same l) ws ≡ true
same_any [] l i h g = absurd (omega arith)
same_any (v ∷ ws) l zero h g = ap (λ z. z || any (same l) ws) h
same_any (v ∷ ws) l (suc i) h g = later (same l v) (any (same l) ws) (same_any ws l i h (omega arith))
  where
    later : (a b : Bool) → b ≡ true → (a || b) ≡ true
    later true b q = refl
    later false b q = q

some_word_lem : (ws : List (List ℕ)) (k : ℕ) → 1 ≤ k → k ≤ length ws → some_word ws ≡ true
some_word_lem [] k l h = absurd (omega arith)
some_word_lem (w ∷ ws) k l h = refl

-- ---- what begins as a string or a number is no word of a list

pub plain_none : (ws : List (List ℕ)) (b : ℕ) (l : List ℕ) → plain_words ws ≡ true → capital b ≡ b → (is_quote b || (is_digit b || minus b)) ≡ true
    → any (begins (map capital (b ∷ l))) ws ≡ false
plain_none [] b l p c e = refl
plain_none (w ∷ ws) b l p c e =
    (λ i. first w (and_left (plain_word w) (all plain_word ws) p) i || plain_none ws b l (and_right (plain_word w) (all plain_word ws) p) c e i)
  where
    first : (w : List ℕ) → plain_word w ≡ true → begins (map capital (b ∷ l)) w ≡ false
    first [] q = refl
    first (d ∷ w) q = go (eqb (capital b) d) refl
      where
        go : (x : Bool) → eqb (capital b) d ≡ x → (x && begins (map capital l) w) ≡ false
        go true f =
            let d_is : d ≡ b = sym (eqb-true (capital b) d f) ∙ c in
            absurd (false≢true (sym (ap not (ap (λ z. is_quote z || (is_digit z || minus z)) d_is ∙ e)) ∙ q))
        go false f = refl

quote_letter : (b : ℕ) → is_quote b ≡ true → is_letter b ≡ false
quote_letter b e = ap is_letter (eqb-true b 39 e)

odd_letter : (b : ℕ) → (is_quote b || (is_digit b || minus b)) ≡ true → is_letter b ≡ false
odd_letter b e = go (is_quote b) refl e
  where
    go : (x : Bool) → is_quote b ≡ x → (x || (is_digit b || minus b)) ≡ true → is_letter b ≡ false
    go true f g = quote_letter b f
    go false f g = figure_letter b g

-- ---- kinds

module _ {w : Wanted} {s : List ℕ} {at to : ℕ} where
  pub heard_wrong : at ≤ to → to ≤ length s → (plain_words w.words ≡ true → StopsHere w s at (suc to)) → Heard w s at (Err (record { at = to }))
  heard_wrong a b f = record { on = a; most = b; wrong = f }

  pub heard_word : {k : ℕ} → at < to → to ≤ length s → 1 ≤ k → k ≤ length w.words
      → ((u : Token) → token_of (suc at) (word_of w.words k) ≡ some u → TokenHere s at u to) → Heard w s at (Ok (record { kind = Word k; from = at; to = to }))
  heard_word {k} a b l m f =
      record {
        starts = refl;
        further = a;
        most = b;
        asked = some_word_lem w.words k l m;
        least = λ j e. let i : k ≡ j = cc in subst (λ n. 1 ≤ n) i l;
        last = λ j e. let i : k ≡ j = cc in subst (λ n. n ≤ length w.words) i m;
        word = λ j e u d. let i : j ≡ k = cc in f u (ap (λ n. token_of (suc at) (word_of w.words n)) (sym i) ∙ d);
        name = λ e. absurd (cc);
        closed = λ e. absurd (cc);
        quoted = λ e. absurd (cc);
        small = λ below size e. absurd (cc);
        whole = λ below size e. absurd (cc);
      }

  pub heard_name : at < to → to ≤ length s → w.name ≡ true → TokenHere s at (Name (map capital (part s at to))) to
      → Heard w s at (Ok (record { kind = AName; from = at; to = to }))
  heard_name a b g f =
      record {
        starts = refl;
        further = a;
        most = b;
        asked = g;
        least = λ j e. absurd (cc);
        last = λ j e. absurd (cc);
        word = λ j e. absurd (cc);
        name = λ _. f;
        closed = λ e. absurd (cc);
        quoted = λ e. absurd (cc);
        small = λ below size e. absurd (cc);
        whole = λ below size e. absurd (cc);
      }

  pub heard_quoted : at + 2 ≤ to → to ≤ length s → w.quoted ≡ true → TokenHere s at (Quoted (part s (suc at) (to - 1))) to
      → Heard w s at (Ok (record { kind = AString; from = at; to = to }))
  heard_quoted a b g f =
      record {
        starts = refl;
        further = let l : at + 2 ≤ to = a in omega arith;
        most = b;
        asked = g;
        least = λ j e. absurd (cc);
        last = λ j e. absurd (cc);
        word = λ j e. absurd (cc);
        name = λ e. absurd (cc);
        closed = λ _. a;
        quoted = λ _. f;
        small = λ below size e. absurd (cc);
        whole = λ below size e. absurd (cc);
      }

  pub heard_whole : {below : Bool} {size : ℕ} → at < to → to ≤ length s → size < 1000000000000000000 → w.whole ≡ true → TokenHere s at (Whole (whole_of below size)) to
      → Heard w s at (Ok (record { kind = Figure below size; from = at; to = to }))
  heard_whole {below} {size} a b l g f =
      record {
        starts = refl;
        further = a;
        most = b;
        asked = g;
        least = λ j e. absurd (cc);
        last = λ j e. absurd (cc);
        word = λ j e. absurd (cc);
        name = λ e. absurd (cc);
        closed = λ e. absurd (cc);
        quoted = λ e. absurd (cc);
        small = λ x n e. let i : size ≡ n = cc in subst (λ z. z < 1000000000000000000) i l;
        whole = λ x n e. let i : below ≡ x = cc in let j : size ≡ n = cc in subst (λ z. TokenHere s at (Whole (whole_of z n)) to) i (subst (λ z. TokenHere s at (Whole (whole_of below z)) to) j f);
      }

-- ---- a word of a list

unquoted : (b : ℕ) (x : Bool) → (x || eqb b 39) ≡ false → is_quote b ≡ false
unquoted b x e = or_right_false x (eqb b 39) e

unfigured : (b : ℕ) (x : Bool) → Says (is_digit b || minus b) x → (x || eqb b 39) ≡ false → (is_digit b || minus b) ≡ false
unfigured b x f e = f.is ∙ or_left_false x (eqb b 39) e

-- where nothing but a word may come
module _ {words : List (List ℕ)} {s : List ℕ} {at : ℕ} {x : Bool} (b : ByteAt s at) (f : Says (is_digit (get_or s at 0) || minus (get_or s at 0)) x) where
  -- a string or a number begins
  pub word_odd : (x || eqb (get_or s at 0) 39) ≡ true → WordHeard words s at (Err (record { at = at }))
  word_odd e =
      record {
        heard =
            λ w k nn nq nf.
            heard_wrong (omega arith) (let l = b.there in omega arith)
            (λ p. stop_first b.there b.no_blank
            (only_words w (get_or s at 0) [] nn nq nf
            ∙ plain_none w.words (get_or s at 0) [] p (other_capital (get_or s at 0) (odd_letter (get_or s at 0) odd_is)) odd_is));
      }
    where
      swap : (y z : Bool) → (y || z) ≡ true → (z || y) ≡ true
      swap true true h = refl
      swap true false h = refl
      swap false true h = refl
      swap false false h = h

      odd_is : (is_quote (get_or s at 0) || (is_digit (get_or s at 0) || minus (get_or s at 0))) ≡ true
      odd_is = ap (λ z. is_quote (get_or s at 0) || z) f.is ∙ swap x (eqb (get_or s at 0) 39) e

  module _ (e : (x || eqb (get_or s at 0) 39) ≡ false) where
    -- a token that is none of the list
    pub word_none : {r : ℕ} → WordStops words s at r → WordHeard words s at (Err (record { at = r }))
    word_none o =
        record {
          heard = λ w k nn nq nf. heard_wrong o.on o.most (λ _. o.wrong w k (record { no_name = nn; no_quote = unquoted (get_or s at 0) x e; no_figure = unfigured (get_or s at 0) x f e; no_blank = b.no_blank }));
        }

    -- one that is
    pub word_found : {to k : ℕ} → TokenRun s at to → Listed words (map capital (part s at to)) k → WordHeard words s at (Ok (record { kind = Word k; from = at; to = to }))
    word_found {to} {k} r h =
        record {
          heard =
              λ w j nn nq nf.
              heard_word r.on r.most h.least (subst (λ v. k ≤ length v) (sym j) h.last)
              (λ t i.
              record {
                on = r.on;
                most = r.most;
                is =
                    ap (token_of (suc at)) split
                    ∙ token_capital (suc at) (get_or s at 0) (part s (suc at) to) t (unquoted (get_or s at 0) x e) (unfigured (get_or s at 0) x f e)
                    (ap (λ v. token_of (suc at) (map capital v)) (sym split)
                    ∙ ap (token_of (suc at)) (same_eq (map capital (part s at to)) (word_of words k) h.is)
                    ∙ ap (λ v. token_of (suc at) (word_of v k)) (sym j)
                    ∙ i);
                alone = r.alone (unquoted (get_or s at 0) x e);
              });
        }
      where
        split : part s at to ≡ get_or s at 0 ∷ part s (suc at) to
        split = part_cons s at to r.on r.most

pub no_word : {s : List ℕ} {at to : ℕ} (ws : List (Bor (List ℕ))) → TokenRun s at to → any (same (map capital (part s at to))) (map (λ w. w.now) ws) ≡ false
    → NoWordAt (map (λ w. w.now) ws) s at to
no_word ws r e = record { run = r; none = e }

-- ---- a name, or a word of the list

letter_quote : (b : ℕ) → is_letter b ≡ true → is_quote b ≡ false
letter_quote b e = go (is_quote b) refl
  where
    go : (x : Bool) → is_quote b ≡ x → x ≡ false
    go true f = absurd (false≢true (sym (quote_letter b f) ∙ e))
    go false f = refl

letter_figure : (b : ℕ) → is_letter b ≡ true → (is_digit b || minus b) ≡ false
letter_figure b e = go (is_digit b || minus b) refl
  where
    go : (x : Bool) → (is_digit b || minus b) ≡ x → x ≡ false
    go true f = absurd (false≢true (sym (figure_letter b f) ∙ e))
    go false f = refl

word_cut : {s : List ℕ} {at to : ℕ} → WordRun s at to → part s at to ≡ get_or s at 0 ∷ part s (suc at) to
word_cut {s} {at} {to} r = part_cons s at to r.on r.most

word_reserved : (l : List ℕ) {k : Bool} → Says (any (same l) reserved_words) k → k ≡ true → reserved l ≡ true
unfolding reserved
word_reserved l m z = m.is ∙ z

module _ {words : List (List ℕ)} {s : List ℕ} {at to : ℕ} {k : Bool} (e : Says (is_letter (get_or s at 0)) true) (r : WordRun s at to)
    (m : Says (any (same (map capital (part s at to))) reserved_words) k) where
  pub name_free : k ≡ false → NameHeard words s at (Ok (record { kind = AName; from = at; to = to }))
  unfolding token_of reserved
  name_free z =
      record {
        heard =
            λ w j n.
            heard_name r.on r.most n
            (record {
              on = r.on;
              most = r.most;
              is =
                  ap (token_of (suc at)) (word_cut r)
                  ∙ ap (λ v. token_in v (suc at) (get_or s at 0) (part s (suc at) to)) (letter_sort (get_or s at 0) e.is)
                  ∙ ap (λ v. giving v (word_token (map capital (get_or s at 0 ∷ part s (suc at) to)))) r.letters
                  ∙ ap (λ v. some (cond v (Fixed (map capital (get_or s at 0 ∷ part s (suc at) to))) (Name (map capital (get_or s at 0 ∷ part s (suc at) to)))))
                  (ap (λ v. any (same (map capital v)) reserved_words) (sym (word_cut r)) ∙ m.is ∙ z)
                  ∙ ap (λ v. some (Name (map capital v))) (sym (word_cut r));
              alone = r.alone e.is;
            });
      }

  module _ (z : k ≡ true) where
    pub name_other : any (same (map capital (part s at to))) words ≡ false → NameHeard words s at (Err (record { at = to }))
    name_other o =
        record {
          heard =
              λ w i n.
              heard_wrong (let on : at < to = r.on in omega arith) r.most
              (λ p. stop_behind (r.begun w n e.is) (r.alone e.is)
              (λ q d.
              ap (behind q (suc at)) (word_cut r)
              ∙ behind_none w q (suc at) (get_or s at 0) (part s (suc at) to) d
              ((λ v. any (same (map capital (sym (word_cut r) v))) (i v)) ∙ o)
              (λ _ a. absurd (false≢true (sym a ∙ ap (λ v. reserved (map capital v)) (sym (word_cut r)) ∙ word_reserved (map capital (part s at to)) m z)))
              (λ a. absurd (false≢true (sym (letter_quote (get_or s at 0) e.is) ∙ a)))
              (λ a. absurd (false≢true (sym (letter_figure (get_or s at 0) e.is) ∙ a)))));
        }

    pub name_word : {j : ℕ} → Listed words (map capital (part s at to)) j → NameHeard words s at (Ok (record { kind = Word j; from = at; to = to }))
    name_word {j} h =
        record {
          heard =
              λ w i n.
              heard_word r.on r.most h.least (subst (λ v. j ≤ length v) (sym i) h.last)
              (λ t d.
              record {
                on = r.on;
                most = r.most;
                is =
                    ap (token_of (suc at)) (word_cut r)
                    ∙ token_capital (suc at) (get_or s at 0) (part s (suc at) to) t (letter_quote (get_or s at 0) e.is) (letter_figure (get_or s at 0) e.is)
                    (ap (λ v. token_of (suc at) (map capital v)) (sym (word_cut r))
                    ∙ ap (token_of (suc at)) (same_eq (map capital (part s at to)) (word_of words j) h.is)
                    ∙ ap (λ v. token_of (suc at) (word_of v j)) (sym i)
                    ∙ d);
                alone = r.alone e.is;
              });
        }
