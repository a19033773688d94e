-- What a caller of the price call can rely on, whatever the bytes: said of any answer and any output that its contract allows.
use Prim.Native.Nat.{ℕ, zero, suc, ◌≤◌}
use mathlib.Core.Path.{◌≡◌, refl, sym, ◌∙◌, ap, subst}
use mathlib.Core.Bool.{not}
use mathlib.Core.List.{List, [], ◌∷◌, map}
use mathlib.Core.Option.{some, some-injective}
use native.Mathlib.Nat.{mod-eq_of_lt}
use native.Mathlib.Omega.{arith}
use lib.Count.{ones}
use lib.Dec.{eqb}
use lib.IntN.{ℤ, pos, neg_ℤ, nat_abs, ◌*ℤ◌}
use lib.ListN.{length, drop, get_or}
use Rattle.rules.specs.Lists.{any}
use Rattle.rules.specs.Book.{Record, Article, base, surcharge, discount, article_of}
use Rattle.rules.specs.BookLayout.{records}
use Rattle.rules.specs.Question.{Granted, Question, plain_factor, most_factor, grants, question_of, no_currency}
use Rattle.rules.specs.Lines.{Line, sum, amounts, total, slots_at, lines_of, most_lines_size, lines_bytes}
use Rattle.rules.specs.Refusals.{Result, done, refused, number_of, over, lent_after}
use Rattle.rules.specs.Price.{Answer, answer_of, written, price, shown, set_of, lent_after_price}
use Rattle.rules.specs.declared.PriceAnswer.{PriceAnswer}
use Rattle.rules.proofs.ListLaws.{All}
use Rattle.rules.proofs.NoPriceLaws as NoPrice
use Rattle.rules.proofs.CallLaws.{PriceRefusal, price_answered, price_never, answered_lines}
use Rattle.rules.proofs.Promises as Rules
use Rattle.rules.proofs.UnusedLaws.{unused_count_lem}
use Rattle.rules.proofs.RowLaws.{no_name, Under, RowFor}
use Rattle.rules.proofs.GivesLaws.{question_sound}
use Rattle.rules.proofs.BookK.{EUR, book_k, P1, P2, elm_asked, price_1, price_2, price_elm}
use Rattle.lines.proofs.NearLaws.{priced_amounts}
use Rattle.quote.proofs.FitLaws.{Bytes, text_below}
use Rattle.price.specs.Call.{PriceIs}
use Rattle.price.specs.Read.{WrittenLine, lines_in, amounts_in, LineOf}
use Rattle.price.proofs.ReadLaws.{written_line, lines_back, amounts_back}

-- zeros beside a number
abbrev zeros : ℕ → PriceAnswer
zeros n = record {
  unit = pos 0;
  total = pos 0;
  lines = 0;
  unused = 0;
  unused_count = 0;
  number = n;
  currency = no_currency;
}

-- ---- what an answer rests on

near : (b s : List ℕ) (room : ℕ) (a : Answer) → price b s room ≡ done a → All (λ z. nat_abs z ≤ 2_000_000_000) (amounts a.lines)
unfolding answer_of
near b s room a e =
    let x = price_answered b s room a e in
    subst (λ (k : Answer). All (λ z. nat_abs z ≤ 2_000_000_000) (amounts k.lines)) x.is (priced_amounts x.book x.question x.is_priced)

unit_sum : (b s : List ℕ) (room : ℕ) (a : Answer) → price b s room ≡ done a → sum (amounts a.lines) ≡ a.unit
unfolding answer_of total
unit_sum b s room a e =
    let x = price_answered b s room a e in
    ap (λ (k : Answer). sum (amounts k.lines)) (sym x.is) ∙ ap (λ (k : Answer). k.unit) x.is

unused_ones : (b s : List ℕ) (room : ℕ) (a : Answer) → price b s room ≡ done a → length a.unused ≡ ones (set_of a.unused)
unfolding answer_of
unused_ones b s room a e =
    let x = price_answered b s room a e in
    subst (λ (k : Answer). length k.unused ≡ ones (set_of k.unused)) x.is (sym (unused_count_lem x.question x.at.lines))

ones_zero : 0 ≡ ones 0
unfolding ones
ones_zero = refl

answered_total : (b s : List ℕ) (room : ℕ) (a : Answer) → price b s room ≡ done a → {q : Question} → question_of s ≡ some q → a.total ≡ pos q.quantity *ℤ a.unit
unfolding answer_of
answered_total b s room a e {q} g =
    let x = price_answered b s room a e in
    let same_question : x.question ≡ q = some-injective x.question q (sym x.is_question ∙ g) in
    ap (λ (k : Answer). k.total) (sym x.is) ∙ (λ i. pos (same_question i).quantity *ℤ (x.is i).unit)

-- a line's factor is at most 10,000
under_most : (q : Question) → All (λ g. g.factor ≤ most_factor) q.granted → (place : ℕ) (c : List ℕ) (f : ℕ) → Under q place c f → f ≤ most_factor
under_most q m zero c f u = omega (arith, u.1)
under_most q m (suc i) c f u = omega (arith, u.2, go q.granted m i)
  where
    go : (gs : List Granted) → All (λ g. g.factor ≤ most_factor) gs → (i : ℕ) → (get_or gs i no_name).factor ≤ most_factor
    go [] m i = omega arith
    go (g ∷ gs) m zero = m.0
    go (g ∷ gs) m (suc i) = go gs m.1 i

-- of a book of bytes, what is read of a line is what its row and its granted name have
lines_shown : (b : List ℕ) {book : List Record} (q : Question) → Bytes b → records b ≡ some book → All (λ g. g.factor ≤ most_factor) q.granted
    → (ls : List Line) → All (λ l. RowFor book q l.place l.factor l.row) ls → All (LineOf book q) (map written_line ls)
lines_shown b q w e m [] h = tt
lines_shown b {book} q w e m (l ∷ ls) h = (
  record {
    row = l.row;
    stands = subst (λ (f : ℕ). RowFor book q l.place f l.row) (sym (mod-eq_of_lt (omega (arith, under_most q m l.place l.row.condition l.factor h.0.condition)))) h.0;
    text = mod-eq_of_lt (text_below b w e h.0.in_book);
    level = refl;
  },
  lines_shown b q w e m ls h.1,
)

module _ (b s lent : List ℕ) {r : PriceAnswer} {after : List ℕ} (is : PriceIs b s lent r after) where
  -- The amounts read back from the written lines sum to the unit total.
  pub amounts_sum : sum (amounts_in r.lines after) ≡ r.unit
  unfolding shown lent_after
  amounts_sum = go (price b s (length lent)) refl
    where
      go : (x : Result Answer) → price b s (length lent) ≡ x → sum (amounts_in r.lines after) ≡ r.unit
      go (done a) e =
          let k : r.lines ≡ length a.lines = ap (λ (y : PriceAnswer). y.lines) (is.answer ∙ ap shown e) in
          let o : after ≡ over (written a) lent = is.output ∙ ap (λ (x : Result Answer). lent_after_price x lent) e in
          (λ i. sum (amounts_in (k i) (o i)))
          ∙ ap sum (amounts_back a.lines (drop (length (written a)) lent) (near b s (length lent) a e))
          ∙ unit_sum b s (length lent) a e
          ∙ sym (ap (λ (y : PriceAnswer). y.unit) (is.answer ∙ ap shown e))
      go (refused n) e =
          let z : r ≡ zeros n = is.answer ∙ ap shown e in
          ap (λ (y : PriceAnswer). sum (amounts_in y.lines after)) z ∙ sym (ap (λ (y : PriceAnswer). y.unit) z)

  -- The count of granted names that brought no line is the number of ones in their set: no other count gets through.
  pub unused_counted : r.unused_count ≡ ones r.unused
  unfolding shown
  unused_counted = go (price b s (length lent)) refl
    where
      go : (x : Result Answer) → price b s (length lent) ≡ x → r.unused_count ≡ ones r.unused
      go (done a) e = ap (λ (y : PriceAnswer). y.unused_count) (is.answer ∙ ap shown e) ∙ unused_ones b s (length lent) a e ∙ sym (ap (λ (y : PriceAnswer). ones y.unused) (is.answer ∙ ap shown e))
      go (refused n) e = ap (λ (y : PriceAnswer). y.unused_count) (is.answer ∙ ap shown e) ∙ ones_zero ∙ sym (ap (λ (y : PriceAnswer). ones y.unused) (is.answer ∙ ap shown e))

  said : r.number ≡ number_of (price b s (length lent))
  unfolding shown
  said = ap (λ (y : PriceAnswer). y.number) is.answer

  -- A number other than 0 is one of 1 to 7; beside it stand zeros, and every byte of the output is as it was.
  pub refused_whole : (r.number ≡ 0 → ⊥) → PriceRefusal r.number × (r ≡ zeros r.number) × (after ≡ lent)
  unfolding shown lent_after
  refused_whole h =
      let rest = go (price b s (length lent)) refl in
      (subst PriceRefusal (sym said) (Rules.price_numbers b s (length lent) (λ z. h (said ∙ z))), rest.0, rest.1)
    where
      go : (x : Result Answer) → price b s (length lent) ≡ x → (r ≡ zeros r.number) × (after ≡ lent)
      go (done a) e = absurd (h (ap (λ (y : PriceAnswer). y.number) (is.answer ∙ ap shown e)))
      go (refused n) e =
          let z : r ≡ zeros n = is.answer ∙ ap shown e in
          (z ∙ ap zeros (sym (ap (λ (y : PriceAnswer). y.number) z)), is.output ∙ ap (λ (x : Result Answer). lent_after_price x lent) e)

  -- Room for 1,584 bytes is enough for every price: with so much, 7 is never said.
  pub room_enough : most_lines_size ≤ length lent → r.number ≡ 7 → ⊥
  room_enough h e = Rules.price_room_enough b s (length lent) h (sym said ∙ e)

  module _ {book : List Record} {q : Question} (is_book : records b ≡ some book) (is_question : question_of s ≡ some q) where
    -- Every line read back from the output is of a row that the book has, of the asked article and sort, that holds on the asked day (both its dates
    -- are days, and the day is neither before the one nor behind the other), and whose condition is the granted name at the line's place, raised, or
    -- at place 0 none. The line shows that row's text number and level, and the factor of the granted name, or at place 0 1,000. (The book is bytes: no element is above 255.)
    pub lines_of_rows : Bytes b → All (LineOf book q) (lines_in r.lines after)
    unfolding shown lent_after
    lines_of_rows w = go (price b s (length lent)) refl
      where
        go : (x : Result Answer) → price b s (length lent) ≡ x → All (LineOf book q) (lines_in r.lines after)
        go (done a) e =
            let k : r.lines ≡ length a.lines = ap (λ (y : PriceAnswer). y.lines) (is.answer ∙ ap shown e) in
            let o : after ≡ over (written a) lent = is.output ∙ ap (λ (x : Result Answer). lent_after_price x lent) e in
            let read : lines_in r.lines after ≡ map written_line a.lines =
            (λ i. lines_in (k i) (o i)) ∙ lines_back a.lines (drop (length (written a)) lent) (near b s (length lent) a e) in
            subst (All (LineOf book q)) (sym read) (lines_shown b q w is_book (question_sound s q is_question).factors a.lines (Rules.line_of_a_row b s (length lent) a book q e is_book is_question))
        go (refused n) e = subst (λ (y : PriceAnswer). All (LineOf book q) (lines_in y.lines after)) (sym (is.answer ∙ ap shown e)) tt

    -- With the number 0 the lines written are those of the definition, as many as is said, and behind them the output is as it was;
    -- the total is the quantity times the unit total. So neither an invented line count gets through, nor lines that are not written.
    pub lines_written : r.number ≡ 0 → (after ≡ over (lines_bytes (lines_of book q)) lent) × (r.lines ≡ length (lines_of book q)) × (r.total ≡ pos q.quantity *ℤ r.unit)
    unfolding shown lent_after answer_of
    lines_written h = go (price b s (length lent)) refl
      where
        go : (x : Result Answer) → price b s (length lent) ≡ x → (after ≡ over (lines_bytes (lines_of book q)) lent) × (r.lines ≡ length (lines_of book q)) × (r.total ≡ pos q.quantity *ℤ r.unit)
        go (done a) e =
            let z : r ≡ shown (done a) = is.answer ∙ ap shown e in
            let x : a.lines ≡ lines_of book q = answered_lines b s (length lent) a e is_book is_question in (
              is.output ∙ ap (λ (x : Result Answer). lent_after_price x lent) e ∙ ap (λ (ls : List Line). over (lines_bytes ls) lent) x,
              ap (λ (y : PriceAnswer). y.lines) z ∙ ap (λ (ls : List Line). length ls) x,
              ap (λ (y : PriceAnswer). y.total) z ∙ answered_total b s (length lent) a e is_question ∙ ap (λ (u : ℤ). pos q.quantity *ℤ u) (sym (ap (λ (y : PriceAnswer). y.unit) z)),
            )
        go (refused n) e = absurd (price_never b s (length lent) (e ∙ ap refused (sym (ap (λ (y : PriceAnswer). y.number) (is.answer ∙ ap shown e)) ∙ h)))

    -- "No price" is said exactly when, of the base rows without a condition and of those under each granted name, none survives the steps of choice.
    pub no_price : {a : Article} → article_of book q.article ≡ some a
        → eqb r.number 4 ≡ not (any (λ s. NoPrice.any_left (NoPrice.left_at book q s)) (slots_at (grants q.granted) base))
    unfolding shown
    no_price {a} has = ap (λ (y : PriceAnswer). eqb y.number 4) is.answer ∙ Rules.no_price b s (length lent) book q a is_book is_question has

  -- Two results that the contract allows are equal, and so are the bytes they leave.
  pub only_price : {r' : PriceAnswer} {after' : List ℕ} → PriceIs b s lent r' after' → (r ≡ r') × (after ≡ after')
  only_price is' = (is.answer ∙ sym is'.answer, is.output ∙ sym is'.output)

-- ---- book K: what must not get through

-- an answer on K: three lines, no refusal, euro
abbrev answer_k : ℤ → ℤ → ℕ → ℕ → PriceAnswer
answer_k unit total unused count = record {
  unit = unit;
  total = total;
  lines = 3;
  unused = unused;
  unused_count = count;
  number = 0;
  currency = EUR;
}

-- its lines: a base row of this text, the oak at place 1, the discount
abbrev lines_k : ℕ → ℤ → ℤ → ℤ → List WrittenLine
lines_k text amount oak off =
    record { text = text; level = base; place = 0; amount = amount; factor = plain_factor }
    ∷ record { text = 3; level = surcharge; place = 1; amount = oak; factor = plain_factor }
    ∷ record { text = 4; level = discount; place = 0; amount = off; factor = plain_factor }
    ∷ []

module _ (lent : List ℕ) (room : 48 ≤ length lent) {r : PriceAnswer} {after : List ℕ} where
  carried : (s : List ℕ) (a : Answer) → price book_k s (length lent) ≡ done a → PriceIs book_k s lent r after → (r ≡ shown (done a)) × (after ≡ over (written a) lent)
  unfolding lent_after
  carried s a e is = (is.answer ∙ ap shown e, is.output ∙ ap (λ (x : Result Answer). lent_after_price x lent) e)

  -- Whatever the contract allows on P1 is 10875, in lines of 10000, 1250 and -375, and what lies behind them is as it was: so neither a call
  -- that always refuses gets through, nor one that writes no lines, nor one that prices the base level and lists zeros for the rest;
  pub P1-is-10875 : PriceIs book_k P1 lent r after
      → (r ≡ answer_k (pos 10875) (pos 10875) 0 0) × (lines_in 3 after ≡ lines_k 1 (pos 10000) (pos 1250) (neg_ℤ (pos 375))) × (drop 48 after ≡ drop 48 lent)
  unfolding shown lines_bytes
  P1-is-10875 is = let x = carried P1 _ (price_1 (length lent) room) is in (x.0, ap (lines_in 3) x.1, ap (drop 48) x.1)

  -- on P2, a day later, it is 11420, in lines of 10500, 1313 and -393: so no call with one fixed price gets through either.
  pub P2-is-11420 : PriceIs book_k P2 lent r after
      → (r ≡ answer_k (pos 11420) (pos 11420) 0 0) × (lines_in 3 after ≡ lines_k 2 (pos 10500) (pos 1313) (neg_ℤ (pos 393))) × (drop 48 after ≡ drop 48 lent)
  unfolding shown lines_bytes
  P2-is-11420 is = let x = carried P2 _ (price_2 (length lent) room) is in (x.0, ap (lines_in 3) x.1, ap (drop 48) x.1)

  -- Two pieces as in P1, with `oak`, `OAK` and `elm` granted: the same three lines, and of the names only the third, `elm`, brought none (the
  -- second repeats the first). So an invented line count or unused count does not get through.
  pub only_elm_unused : PriceIs book_k elm_asked lent r after
      → (r ≡ answer_k (pos 10875) (pos 21750) 4 1) × (lines_in 3 after ≡ lines_k 1 (pos 10000) (pos 1250) (neg_ℤ (pos 375))) × (drop 48 after ≡ drop 48 lent)
  unfolding shown lines_bytes
  only_elm_unused is = let x = carried elm_asked _ (price_elm (length lent) room) is in (x.0, ap (lines_in 3) x.1, ap (drop 48) x.1)
