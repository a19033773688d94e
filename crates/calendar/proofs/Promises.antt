-- What a caller of the calendar calls can rely on, whatever the bytes: said of any answer and any output that their contracts allow.
use Prim.Native.Nat.{ℕ, ◌*◌, ◌/◌, ◌≤◌}
use mathlib.Core.Path.{◌≡◌, refl, sym, ◌∙◌, ap, subst}
use mathlib.Core.Bool.{true}
use mathlib.Core.List.{List, [], ◌∷◌, ◌++◌, map}
use mathlib.Core.Logic.{inl, inr}
use mathlib.Core.Option.{some, some-injective}
use native.Mathlib.Omega.{arith}
use lib.Dec.{leb}
use lib.IntN.{nat_abs}
use lib.ListN.{length, drop, length-append}
use borrow.Author.Tests.{le-leb}
use Rattle.rules.specs.Bytes.{signed_bytes_of}
use Rattle.rules.specs.Days.{is_day}
use Rattle.rules.specs.Book.{Record, Article, article_of}
use Rattle.rules.specs.BookLayout.{records}
use Rattle.rules.specs.Question.{Question, question_of, date_at, redated}
use Rattle.rules.specs.Lines.{most_total}
use Rattle.rules.specs.Refusals.{Result, done, refused, number_of, over, lent_after}
use Rattle.rules.specs.Price.{price, shown}
use Rattle.rules.specs.declared.PriceAnswer.{PriceAnswer}
use Rattle.rules.specs.Calendar.{Outcome, Stretch, stretches, outcome, period_to, stretch_bytes, stretches_bytes, within, listing, finished, calendar_in, calendar, shown_bytes, lent_after_calendar, calendar_list, shown_records, lent_after_list}
use Rattle.rules.specs.declared.CalendarAnswer.{CalendarAnswer}
use Rattle.stretches.specs.declared.Stretch as Declared
use Rattle.stretches.specs.Stretches.{as_stretch, record_of}
use Rattle.rules.proofs.ListLaws.{All}
use Rattle.rules.proofs.DayLaws.{day_most}
use Rattle.rules.proofs.RefusalLaws.{NeverZero, or_never, unless_never, then_never, done_never}
use Rattle.rules.proofs.CalendarLaws.{Holds, InOrder, RightBy, right_by, right as period-right, period_end, period_days, stretch_count}
use Rattle.rules.proofs.CallLaws.{CalendarRefusal, calendar_answered}
use Rattle.rules.proofs.PeriodLaws.{NoPeriod}
use Rattle.rules.proofs.BookK.{book_k, calendar_asked, calendar_end, stretches_k, calendar_k, list_k}
use Rattle.price.specs.Call.{PriceIs}
use Rattle.price.specs.Read.{outcome_in}
use Rattle.price.proofs.OutcomeLaws.{call_outcome, outcome_fits}
use Rattle.rules.proofs.GivesLaws.{question_sound}
use Rattle.rules.proofs.Promises as Rules
use Rattle.calendar.specs.Calls.{CalendarIs, CalendarListIs}
use Rattle.calendar.specs.Read.{read_stretches, listed_stretches}
use Rattle.calendar.proofs.ReadLaws.{Readable, lettered, stretches_back}

-- ---- the list that was written is the list that is read

-- a stretch of days with outcomes of the book's is one that its bytes hold
readable : (b : List ℕ) {book : List Record} → records b ≡ some book → (q : Question) (ss : List Stretch) → All (λ s. s.first ≤ s.last) ss → All (Holds (outcome book q)) ss → All Readable ss
readable b e q [] o h = tt
readable b {book} e q (s ∷ ss) o h =
    let at : outcome book q s.first ≡ s.outcome = h.0.inside s.first h.0.first_day (omega arith) o.0 in
    let fits = outcome_fits b e q s.first in (
      record {
        first = omega (arith, day_most s.first h.0.first_day);
        last = omega (arith, day_most s.last h.0.last_day);
        letters = ap (λ (x : Outcome). length x.currency) (sym at) ∙ fits.0;
        unit = subst (λ (x : Outcome). nat_abs x.unit ≤ most_total) at fits.1;
      },
      readable b e q ss o.1 h.1,
    )

-- each in the order of its days
each_ordered : (ss : List Stretch) → InOrder ss → All (λ s. s.first ≤ s.last) ss
each_ordered [] o = tt
each_ordered (s ∷ []) o = (o, tt)
each_ordered (s ∷ (t ∷ ss)) o = (o.0, each_ordered (t ∷ ss) o.2)

bytes_long : (ss : List Stretch) → All Readable ss → length (stretches_bytes ss) ≡ 20 * length ss
unfolding stretches_bytes
bytes_long [] h = refl
bytes_long (s ∷ ss) h =
    length-append (stretch_bytes s) (stretches_bytes ss)
    ∙ omega (arith, one, bytes_long ss h.1)
  where
    one : length (stretch_bytes s) ≡ 20
    one =
        let e : length (s.outcome.currency ++ signed_bytes_of 8 s.outcome.unit) ≡ 11 = length-append s.outcome.currency (signed_bytes_of 8 s.outcome.unit) ∙ omega (arith, h.0.letters) in
        omega (arith, e)

-- the price call, on the question with that day's date bytes and with any lines lent, has this outcome whenever it is not refused for its room
abbrev pub PricedAs : List ℕ → List ℕ → Question → ℕ → Outcome → Type 0
PricedAs b s q d o = (lines : List ℕ) (p : PriceAnswer) (left : List ℕ) → PriceIs b (redated (date_at q) d s) lines p left → (p.number ≡ 7 → ⊥) → outcome_in p ≡ o

priced_as : (b s : List ℕ) {book : List Record} {q : Question} {a : Article} → records b ≡ some book → question_of s ≡ some q → article_of book q.article ≡ some a
    → (d : ℕ) (o : Outcome) → is_day d ≡ true → outcome book q d ≡ o → PricedAs b s q d o
unfolding shown
priced_as b s {q = q} e f g d o day h lines p left is n =
    let number : p.number ≡ number_of (price b (redated (date_at q) d s) (length lines)) = ap (λ (y : PriceAnswer). y.number) is.answer in
    ap outcome_in is.answer ∙ call_outcome b s e f g (length lines) d day (λ z. n (number ∙ z)) ∙ h

-- a calendar with the number 0 has an answer
calendar_never : {B : Type 0} (form : List Stretch → List B) (b s : List ℕ) (end room : ℕ) → NeverZero (calendar_in form b s end room)
unfolding calendar_in finished listing within
calendar_never form b s end room =
    then_never (listing b s end) _
    (or_never 0 (records b) _ (λ book.
    or_never 1 (question_of s) _ (λ q.
    or_never 8 (period_to q.date end) _ (λ days.
    or_never 2 (article_of book q.article) _ (λ a. done_never (stretches (outcome book q) days))))))
    (λ ss. unless_never 6 (leb (length (form ss)) room) _ (done_never ss))

-- and the book has its article
answered_article : {B : Type 0} (form : List Stretch → List B) (b s : List ℕ) (end room : ℕ) (ss : List Stretch) {book : List Record} {q : Question}
    → records b ≡ some book → question_of s ≡ some q → calendar_in form b s end room ≡ done ss → (a : Article) × (article_of book q.article ≡ some a)
answered_article form b s end room ss {book} {q} f g e =
    let listed = calendar_answered form b s end room ss e in
    let same_book : listed.book ≡ book = some-injective listed.book book (sym listed.is_book ∙ f) in
    let same_question : listed.question ≡ q = some-injective listed.question q (sym listed.is_question ∙ g) in
    (listed.article, sym (λ i. article_of (same_book i) (same_question i).article) ∙ listed.has_article)

-- the stretches of the records at the front of a list
records_back : (ss : List Stretch) (rest : List Declared.Stretch) → All Readable ss → listed_stretches (length ss) (map record_of ss ++ rest) ≡ ss
records_back [] rest h = refl
records_back (s ∷ ss) rest h = λ i. record_back s s.outcome.currency h.0.letters i ∷ records_back ss rest h.1 i
  where
    record_back : (s : Stretch) (c : List ℕ) → length c ≡ 3 → as_stretch (record_of (lettered s c)) ≡ lettered s c
    record_back s [] e = absurd (omega arith)
    record_back s (x ∷ []) e = absurd (omega arith)
    record_back s (x ∷ y ∷ []) e = absurd (omega arith)
    record_back s (x ∷ y ∷ z ∷ []) e = refl
    record_back s (x ∷ y ∷ z ∷ (v ∷ c)) e = absurd (omega arith)

not_ten : (n : ℕ) → CalendarRefusal n → n ≡ 10 → ⊥
not_ten n (inl e) z = omega arith
not_ten n (inr (inl e)) z = omega arith
not_ten n (inr (inr (inl e))) z = omega arith
not_ten n (inr (inr (inr (inl e)))) z = omega arith
not_ten n (inr (inr (inr (inr e)))) z = omega arith

-- ---- the promises

module _ (b s : List ℕ) (end : ℕ) (lent : List ℕ) {r : CalendarAnswer} {after : List ℕ} (is : CalendarIs b s end lent r after) where
  -- There is one answer and one output.
  pub one_answer : {r' : CalendarAnswer} {after' : List ℕ} → CalendarIs b s end lent r' after' → (r ≡ r') × (after ≡ after')
  one_answer other = (is.answer ∙ sym other.answer, is.output ∙ sym other.output)

  said : r.number ≡ number_of (calendar b s end (length lent))
  unfolding shown_bytes
  said = ap (λ (w : CalendarAnswer). w.number) is.answer

  -- A number other than 0 is 1, 2, 9, 3 or 7; the length beside it is 0, and nothing is written.
  pub refused_writes_nothing : (r.number ≡ 0 → ⊥) → CalendarRefusal r.number × (r.length ≡ 0) × (after ≡ lent)
  unfolding shown_bytes lent_after
  refused_writes_nothing n =
      let rest = go (calendar b s end (length lent)) refl in
      (subst CalendarRefusal (sym said) (Rules.calendar_numbers stretches_bytes b s end (length lent) (λ z. n (said ∙ z))), rest.0, rest.1)
    where
      go : (x : Result (List Stretch)) → calendar b s end (length lent) ≡ x → (r.length ≡ 0) × (after ≡ lent)
      go (done ss) e = absurd (n (ap (λ (w : CalendarAnswer). w.number) (is.answer ∙ ap shown_bytes e)))
      go (refused k) e = (ap (λ (w : CalendarAnswer). w.length) (is.answer ∙ ap shown_bytes e), is.output ∙ ap (λ x. lent_after_calendar x lent) e)

  -- 10 is never said.
  pub never_ten : r.number ≡ 10 → ⊥
  never_ten e = not_ten r.number (refused_writes_nothing (λ z. omega arith)).0 e

  module _ {book : List Record} {q : Question} (f : records b ≡ some book) (g : question_of s ≡ some q) where
    -- 9 is said exactly when the end is no day, or is before the question's date, or from that date to the end, both counted, there are more
    -- than 1,096 days.
    pub nine_exactly : (r.number ≡ 9 → NoPeriod q.date end) × (NoPeriod q.date end → r.number ≡ 9)
    nine_exactly = let x = Rules.calendar_nine stretches_bytes b s end (length lent) book q f g in (λ e. x.0 (sym said ∙ e), λ h. said ∙ x.1 h)

    -- With an article that the book has and a period, room for a stretch a day is enough for an answer.
    pub answered : {a : Article} {days : List ℕ} → article_of book q.article ≡ some a → period_to q.date end ≡ some days → 20 * length days ≤ length lent → r.number ≡ 0
    unfolding calendar_in finished listing within shown_bytes
    answered {days = days} h p room =
        let ss : List Stretch = stretches (outcome book q) days in
        let right = period-right (outcome book q) (question_sound s q g).date (period_end q.date end days p) (period_days q.date end days p) in
        let fine : All Readable ss = readable b f q ss (each_ordered ss right.ordered) right.holds in
        let fits : leb (length (stretches_bytes ss)) (length lent) ≡ true = le-leb (length (stretches_bytes ss)) (length lent) (omega (arith, bytes_long ss fine, stretch_count (outcome book q) days)) in
        ap (λ (w : CalendarAnswer). w.number) is.answer ∙ rw (f, g, p, h, fits)

    -- The stretches read back from the bytes start on the question's day, each next one on the day after the one before, and the last ends on
    -- the end date; they stand in date order; neighbours differ; and on every day from a stretch's first to its last the price call, asked with
    -- the question whose date bytes are that day's and with any output lent, answers with the stretch's number, currency and unit total, unless
    -- it says 7 (which `room_enough` of the price call rules out for 1,584 bytes).
    pub each_day_by_the_price_call : r.number ≡ 0 → RightBy (PricedAs b s q) q.date end (read_stretches (r.length / 20) after)
    unfolding shown_bytes lent_after
    each_day_by_the_price_call z = go (calendar b s end (length lent)) refl
      where
        go : (x : Result (List Stretch)) → calendar b s end (length lent) ≡ x → RightBy (PricedAs b s q) q.date end (read_stretches (r.length / 20) after)
        go (refused k) e = absurd (calendar_never stretches_bytes b s end (length lent) (e ∙ ap refused (sym (ap (λ (w : CalendarAnswer). w.number) (is.answer ∙ ap shown_bytes e)) ∙ z)))
        go (done ss) e =
            let right = Rules.calendar_right stretches_bytes b s end (length lent) ss book q f g e in
            let fine : All Readable ss = readable b f q ss (each_ordered ss right.ordered) right.holds in
            let size : r.length ≡ 20 * length ss = ap (λ (w : CalendarAnswer). w.length) (is.answer ∙ ap shown_bytes e) ∙ bytes_long ss fine in
            let count : r.length / 20 ≡ length ss = omega arith in
            let output : after ≡ over (stretches_bytes ss) lent = is.output ∙ ap (λ x. lent_after_calendar x lent) e in
            let read : read_stretches (r.length / 20) after ≡ ss = (λ i. read_stretches (count i) (output i)) ∙ stretches_back ss (drop (length (stretches_bytes ss)) lent) fine in
            subst (RightBy (PricedAs b s q) q.date end) (sym read) (right_by (priced_as b s f g (answered_article stretches_bytes b s end (length lent) ss f g e).1) right)

-- ---- the list of records

module _ (b s : List ℕ) (end : ℕ) (lent : List Declared.Stretch) {r : CalendarAnswer} {after : List Declared.Stretch} (is : CalendarListIs b s end lent r after) where
  -- There is one answer and one list.
  pub one_list : {r' : CalendarAnswer} {after' : List Declared.Stretch} → CalendarListIs b s end lent r' after' → (r ≡ r') × (after ≡ after')
  one_list other = (is.answer ∙ sym other.answer, is.output ∙ sym other.output)

  listed_said : r.number ≡ number_of (calendar_list b s end (length lent))
  unfolding shown_records
  listed_said = ap (λ (w : CalendarAnswer). w.number) is.answer

  -- A number other than 0 is 1, 2, 9, 3 or 7; the length beside it is 0, and nothing is handed over.
  pub refused_lists_nothing : (r.number ≡ 0 → ⊥) → CalendarRefusal r.number × (r.length ≡ 0) × (after ≡ lent)
  unfolding shown_records lent_after_list lent_after
  refused_lists_nothing n =
      let rest = go (calendar_list b s end (length lent)) refl in
      (subst CalendarRefusal (sym listed_said) (Rules.calendar_numbers (λ ss. ss) b s end (length lent) (λ z. n (listed_said ∙ z))), rest.0, rest.1)
    where
      go : (x : Result (List Stretch)) → calendar_list b s end (length lent) ≡ x → (r.length ≡ 0) × (after ≡ lent)
      go (done ss) e = absurd (n (ap (λ (w : CalendarAnswer). w.number) (is.answer ∙ ap shown_records e)))
      go (refused k) e = (ap (λ (w : CalendarAnswer). w.length) (is.answer ∙ ap shown_records e), is.output ∙ ap (λ x. lent_after_list record_of x lent) e)

  -- 10 is never said.
  pub never_ten_listed : r.number ≡ 10 → ⊥
  never_ten_listed e = not_ten r.number (refused_lists_nothing (λ z. omega arith)).0 e

  module _ {book : List Record} {q : Question} (f : records b ≡ some book) (g : question_of s ≡ some q) where
    -- 9 is said exactly when it is said for the bytes.
    pub nine_exactly_listed : (r.number ≡ 9 → NoPeriod q.date end) × (NoPeriod q.date end → r.number ≡ 9)
    nine_exactly_listed = let x = Rules.calendar_nine (λ ss. ss) b s end (length lent) book q f g in (λ e. x.0 (sym listed_said ∙ e), λ h. listed_said ∙ x.1 h)

    -- With an article that the book has and a period, room for a record a day is enough for an answer.
    pub answered_list : {a : Article} {days : List ℕ} → article_of book q.article ≡ some a → period_to q.date end ≡ some days → length days ≤ length lent → r.number ≡ 0
    unfolding calendar_in finished listing within
    answered_list {days = days} h p room =
        let ss : List Stretch = stretches (outcome book q) days in
        let fits : leb (length ss) (length lent) ≡ true = le-leb (length ss) (length lent) (omega (arith, stretch_count (outcome book q) days)) in
        listed_said ∙ rw (f, g, p, h, fits)

    -- The stretches of the records handed over tile the period, stand in date order and differ from their neighbours, and on every day of a
    -- stretch the price call has its outcome: as for the bytes.
    pub each_listed_day_by_the_price_call : r.number ≡ 0 → RightBy (PricedAs b s q) q.date end (listed_stretches r.length after)
    unfolding shown_records lent_after_list lent_after
    each_listed_day_by_the_price_call z = go (calendar_list b s end (length lent)) refl
      where
        go : (x : Result (List Stretch)) → calendar_list b s end (length lent) ≡ x → RightBy (PricedAs b s q) q.date end (listed_stretches r.length after)
        go (refused k) e = absurd (calendar_never (λ ss. ss) b s end (length lent) (e ∙ ap refused (sym (ap (λ (w : CalendarAnswer). w.number) (is.answer ∙ ap shown_records e)) ∙ z)))
        go (done ss) e =
            let right = Rules.calendar_right (λ ss. ss) b s end (length lent) ss book q f g e in
            let fine : All Readable ss = readable b f q ss (each_ordered ss right.ordered) right.holds in
            let size : r.length ≡ length ss = ap (λ (w : CalendarAnswer). w.length) (is.answer ∙ ap shown_records e) in
            let output : after ≡ over (map record_of ss) lent = is.output ∙ ap (λ x. lent_after_list record_of x lent) e in
            let read : listed_stretches r.length after ≡ ss = (λ i. listed_stretches (size i) (output i)) ∙ records_back ss (drop (length (map record_of ss)) lent) fine in
            subst (RightBy (PricedAs b s q) q.date end) (sym read) (right_by (priced_as b s f g (answered_article (λ ss. ss) b s end (length lent) ss f g e).1) right)

-- ---- book K: what must not get through

-- Whatever the contract allows on K from 29 June 2024 to 2 January 2025, with `oak` granted, is three stretches: 10875 through 30 June, 11420 from
-- 1 July through 31 December, and then no price, refusal 4. So neither a call that prices the first day and repeats it gets through, nor one that
-- makes every day a stretch.
pub K-in-three-stretches : (lent : List ℕ) → 60 ≤ length lent → {r : CalendarAnswer} {after : List ℕ} → CalendarIs book_k calendar_asked calendar_end lent r after
    → (r ≡ record { length = 60; number = 0 }) × (read_stretches 3 after ≡ stretches_k) × (drop 60 after ≡ drop 60 lent)
unfolding shown_bytes lent_after stretches_bytes
K-in-three-stretches lent room {r} {after} is =
    let e : calendar book_k calendar_asked calendar_end (length lent) ≡ done stretches_k = calendar_k (length lent) room in
    let output : after ≡ over (stretches_bytes stretches_k) lent = is.output ∙ ap (λ x. lent_after_calendar x lent) e in
    (is.answer ∙ ap shown_bytes e, ap (read_stretches 3) output, ap (drop 60) output)

-- The same three as records.
pub K-in-three-records : (lent : List Declared.Stretch) → 3 ≤ length lent → {r : CalendarAnswer} {after : List Declared.Stretch} → CalendarListIs book_k calendar_asked calendar_end lent r after
    → (r ≡ record { length = 3; number = 0 }) × (listed_stretches 3 after ≡ stretches_k) × (drop 3 after ≡ drop 3 lent)
unfolding shown_records lent_after_list lent_after
K-in-three-records lent room {r} {after} is =
    let e : calendar_list book_k calendar_asked calendar_end (length lent) ≡ done stretches_k = list_k (length lent) room in
    let output : after ≡ over (map record_of stretches_k) lent = is.output ∙ ap (λ x. lent_after_list record_of x lent) e in
    (is.answer ∙ ap shown_records e, ap (listed_stretches 3) output, ap (drop 3) output)
