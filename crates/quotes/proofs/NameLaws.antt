-- Names in quotes and without: when they need them, how long they are, and what is written.
use Prim.Native.Nat.{ℕ, suc, ◌+◌, ◌≤◌, ◌<◌}
use mathlib.Core.Path.{◌≡◌, refl, sym, ◌∙◌, ap, subst}
use Rattle.std.specs.List.{count_by}
use Rattle.std.proofs.lemmas.List.Sums.{count_by-le-length, sum_by-cons}
use mathlib.Core.Bool.{Bool, true, false, cond}
use mathlib.Core.List.{List, [], ◌∷◌, ◌++◌, append-nil, append_assoc}
use native.Mathlib.Omega.{arith}
use native.Mathlib.Numerals.{add-one}
use lib.Dec.{eqb}
use lib.ListN.{length, drop, get_or, length-append, drop_of_length-le}
use lib.Seq.{drop-cons}
use borrow.Author.Tests.{eq-eqb, ne_eqb}
use Rattle.file_rules.specs.Fields.{quote, twice_if, doubled, in_quotes, field_text, first_field_text}
use Rattle.layout.specs.Ensures.{Says, Number, PutsTo}
use Rattle.layout.proofs.StoreLaws.{to_nothing, to_then}
use Rattle.decimals.specs.Texts.{ended, RoomFor}
use Rattle.decimals.proofs.ColumnLaws.{ended_length, end_behind}
use Rattle.quotes.specs.Names.{quotes_in, doubled_byte, quoted, text_in}

next : (s : List ℕ) (i : ℕ) → i < length s → drop i s ≡ get_or s i 0 ∷ drop (i + 1) s
next s i h = drop-cons s i 0 h ∙ ap (λ (k : ℕ). get_or s i 0 ∷ drop k s) (sym (add-one i))

-- ---- how long

pub times_two : (b : ℕ) → b ≡ 34 → Number (length (doubled_byte b)) 3 2
unfolding doubled_byte
times_two b e = record { is = sym (ap (λ (t : Bool). length (twice_if t b [])) (eq-eqb b 34 e)); below = omega arith }

pub times_one : (b : ℕ) → (b ≡ 34 → ⊥) → Number (length (doubled_byte b)) 3 1
unfolding doubled_byte
times_one b n = record { is = sym (ap (λ (t : Bool). length (twice_if t b [])) (ne_eqb b 34 n)); below = omega arith }

-- the first byte, once or twice, and the others
doubled_on : (b : ℕ) (s : List ℕ) → doubled (b ∷ s) ≡ doubled_byte b ++ doubled s
unfolding doubled doubled_byte
doubled_on b s = by (eqb b quote)
  where
    by : (t : Bool) → twice_if t b (doubled s) ≡ twice_if t b [] ++ doubled s
    by true = refl
    by false = refl

doubled_next : (s : List ℕ) (i : ℕ) → i < length s
    → doubled (drop i s) ≡ doubled_byte (get_or s i 0) ++ doubled (drop (i + 1) s)
doubled_next s i h = ap doubled (next s i h) ∙ doubled_on (get_or s i 0) (drop (i + 1) s)

doubled_last : (s : List ℕ) (i : ℕ) → length s ≤ i → doubled (drop i s) ≡ []
unfolding doubled
doubled_last s i h = ap doubled (drop_of_length-le s {i = i} h)

-- as many bytes as stand there, and one more for each quote
doubled_length : (s : List ℕ) → length (doubled s) ≡ length s + count_by (λ b. eqb b quote) s
unfolding doubled
doubled_length [] = refl
doubled_length (b ∷ s) = by (eqb b quote) (doubled_length s) ∙ sym (ap (λ (n : ℕ). suc (length s) + n) (sum_by-cons (λ b. cond (eqb b quote) 1 0) b s))
  where
    by : (t : Bool) → length (doubled s) ≡ length s + count_by (λ b. eqb b quote) s
        → length (twice_if t b (doubled s)) ≡ suc (length s) + (cond t 1 0 + count_by (λ b. eqb b quote) s)
    by true i = omega arith
    by false i = omega arith

pub doubled_number : {n : ℕ} (s : List ℕ) → n ≡ count_by (λ b. eqb b quote) s → length s < 256 → Number (length (doubled s)) 512 (length s + n)
doubled_number s e h = record { is = omega (arith, e, doubled_length s); below = omega (arith, e, count_by-le-length (λ b. eqb b quote) s) }

-- ---- the name

by_quotes : (first : Bool) (s : List ℕ) → text_in first s ≡ in_quotes (quotes_in first s) s
unfolding text_in first_field_text field_text
by_quotes true s = refl
by_quotes false s = refl

quoted_length : (s : List ℕ) → length (ended (quoted s)) ≡ length (doubled s) + 3
unfolding quoted
quoted_length s = omega (arith, ended_length (quoted s), length-append (doubled s) (34 ∷ []))

module _ (first : Bool) (s : List ℕ) {t : Bool} (p : Says (quotes_in first s) t) where
  in_quotes_lem : t ≡ true → text_in first s ≡ quoted s
  unfolding quoted
  in_quotes_lem e = by_quotes first s ∙ ap (λ (b : Bool). in_quotes b s) (p.is ∙ e)

  bare : t ≡ false → text_in first s ≡ s
  bare e = by_quotes first s ∙ ap (λ (b : Bool). in_quotes b s) (p.is ∙ e)

  pub quoted_size : {n : ℕ} → t ≡ true → Number (length (doubled s)) 512 n → Number (length (ended (text_in first s))) 515 (n + 3)
  quoted_size e q = record {
    is = omega (arith, q.is, quoted_length s, ap (λ (u : List ℕ). length (ended u)) (in_quotes_lem e));
    below = omega (arith, q.below);
  }

  pub bare_size : t ≡ false → length s < 256 → Number (length (ended (text_in first s))) 515 (length s + 1)
  bare_size e h = record { is = omega (arith, ended_length s, ap (λ (u : List ℕ). length (ended u)) (bare e)); below = omega arith }

  module _ {out : List ℕ} {at : ℕ} (r : RoomFor out at (ended (text_in first s))) where
    pub quoted_room : t ≡ true → RoomFor out at (ended (quoted s))
    quoted_room e = subst (λ (u : List ℕ). RoomFor out at (ended u)) (in_quotes_lem e) r

    module _ (e : t ≡ false) where
      pub bare_room : at + length s ≤ length out
      bare_room = omega (arith, r.room, ended_length s, ap (λ (u : List ℕ). length (ended u)) (bare e))

      pub bare_end : {new : List ℕ} {m : ℕ} → PutsTo out at s new m → m < length new
      bare_end q = omega (arith, bare_room, q.ends, q.puts.long, r.room, ended_length s, ap (λ (u : List ℕ). length (ended u)) (bare e))

  module _ {a c : List ℕ} {at m : ℕ} where
    pub quoted_put : t ≡ true → PutsTo a at (ended (quoted s)) c m → PutsTo a at (ended (text_in first s)) c m
    quoted_put e q = subst (λ (u : List ℕ). PutsTo a at (ended u) c m) (sym (in_quotes_lem e)) q

    pub bare_put : {b : List ℕ} {j : ℕ} → t ≡ false → PutsTo a at s b j → PutsTo b j (59 ∷ []) c m → PutsTo a at (ended (text_in first s)) c m
    bare_put e q u = subst (λ (u : List ℕ). PutsTo a at (ended u) c m) (sym (bare e)) (end_behind s q u)

-- ---- a byte, once or twice

module _ {out : List ℕ} {at : ℕ} (b : ℕ) (r : RoomFor out at (doubled_byte b)) where
  some_byte : 1 ≤ length (doubled_byte b)
  unfolding doubled_byte
  some_byte = by (eqb b quote)
    where
      by : (t : Bool) → 1 ≤ length (twice_if t b [])
      by true = omega arith
      by false = omega arith

  pub once_room : at < length out
  once_room = omega (arith, r.room, some_byte)

  module _ {new : List ℕ} {m : ℕ} (p : PutsTo out at (b ∷ []) new m) where
    pub twice_room : b ≡ 34 → m < length new
    twice_room e = omega (arith, r.room, p.ends, p.puts.long, (times_two b e).is)

pub twice_put : {a b c : List ℕ} {at m n x : ℕ} → x ≡ 34 → PutsTo a at (x ∷ []) b m → PutsTo b m (x ∷ []) c n
    → PutsTo a at (doubled_byte x) c n
unfolding doubled_byte
twice_put {a} {c = c} {at} {n = n} {x} e p q = subst (λ (t : Bool). PutsTo a at (twice_if t x []) c n) (sym (eq-eqb x 34 e)) (to_then p q)

pub once_put : {a b : List ℕ} {at m x : ℕ} → (x ≡ 34 → ⊥) → PutsTo a at (x ∷ []) b m → PutsTo a at (doubled_byte x) b m
unfolding doubled_byte
once_put {a} {b} {at} {m} {x} n p = subst (λ (t : Bool). PutsTo a at (twice_if t x []) b m) (sym (ne_eqb x 34 n)) p

-- ---- byte by byte

-- what stands for the first i bytes is written, up to `to`
pub record Twofold (old : List ℕ) (at : ℕ) (s out : List ℕ) (to i : ℕ) : Type 0 where
  pub done : List ℕ
  pub whole : doubled s ≡ done ++ doubled (drop i s)
  pub puts : PutsTo old at done out to
  pub room : at + length (doubled s) ≤ length old

module _ {old : List ℕ} {at : ℕ} {s : List ℕ} where
  pub fold_start : RoomFor old at (doubled s) → Twofold old at s old at 0
  fold_start r = record { done = []; whole = refl; puts = to_nothing (omega (arith, r.room)); room = r.room }

  module _ {out : List ℕ} {to i : ℕ} (p : Twofold old at s out to i) where
    module _ (h : i < length s) where
      abbrev here : List ℕ
      here = doubled_byte (get_or s i 0)

      one_more : doubled s ≡ (p.done ++ here) ++ doubled (drop (i + 1) s)
      one_more =
          p.whole ∙ (ap (λ (u : List ℕ). p.done ++ u) (doubled_next s i h) ∙ sym (append_assoc p.done here (doubled (drop (i + 1) s))))

      pub fold_room : RoomFor out to (doubled_byte (get_or s i 0))
      fold_room = record {
        room = omega (
          arith,
          p.room,
          p.puts.ends,
          p.puts.puts.long,
          ap length one_more,
          length-append (p.done ++ here) (doubled (drop (i + 1) s)),
          length-append p.done here,
        );
      }

      pub fold_on : {new : List ℕ} {r : ℕ} → PutsTo out to (doubled_byte (get_or s i 0)) new r → Twofold old at s new r (i + 1)
      fold_on q = record { done = p.done ++ here; whole = one_more; puts = to_then p.puts q; room = p.room }

    pub fold_end : length s ≤ i → PutsTo old at (doubled s) out to
    fold_end h =
        subst (λ (u : List ℕ). PutsTo old at u out to)
        (sym (p.whole ∙ (ap (λ (u : List ℕ). p.done ++ u) (doubled_last s i h) ∙ append-nil p.done)))
        p.puts

-- ---- between quotes

module _ {a : List ℕ} {at : ℕ} (s : List ℕ) (r : RoomFor a at (ended (quoted s))) where
  pub open_room : at < length a
  open_room = omega (arith, r.room, quoted_length s)

  module _ {b : List ℕ} {i : ℕ} (p : PutsTo a at (34 ∷ []) b i) where
    pub inner_room : RoomFor b i (doubled s)
    inner_room = record { room = omega (arith, r.room, quoted_length s, p.ends, p.puts.long) }

    module _ {c : List ℕ} {j : ℕ} (q : PutsTo b i (doubled s) c j) where
      pub close_room : j < length c
      close_room = omega (arith, r.room, quoted_length s, p.ends, p.puts.long, q.ends, q.puts.long)

      module _ {d : List ℕ} {k : ℕ} (t : PutsTo c j (34 ∷ []) d k) where
        pub last_room : k < length d
        last_room = omega (arith, r.room, quoted_length s, p.ends, p.puts.long, q.ends, q.puts.long, t.ends, t.puts.long)

        pub between_put : {e : List ℕ} {m : ℕ} → PutsTo d k (59 ∷ []) e m → PutsTo a at (ended (quoted s)) e m
        unfolding quoted
        between_put u = end_behind (quoted s) (to_then p (to_then q t)) u
