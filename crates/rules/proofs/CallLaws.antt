-- The price and the calendar call read backwards: what an answered one rests on, and which numbers a refused one has.
use Prim.Native.Nat.{ℕ, ◌≤◌}
use mathlib.Core.Path.{◌≡◌, refl, sym, ◌∙◌, ap, subst}
use mathlib.Core.Bool.{Bool, true, false}
use mathlib.Core.List.{List}
use mathlib.Core.Logic.{◌⊎◌, inl, inr}
use mathlib.Core.Option.{some, some-injective}
use native.Mathlib.Omega.{arith}
use lib.Dec.{eqb, leb}
use lib.ListN.{length}
use borrow.Author.Tests.{leb-true, le-leb}
use Rattle.rules.specs.Book.{Record, Article, article_of}
use Rattle.rules.specs.BookLayout.{records}
use Rattle.rules.specs.Question.{Question, question_of}
use Rattle.rules.specs.Refusals.{Result, done, refused, ◌>>=◌, or_refuse, refuse_unless, number_of}
use Rattle.rules.specs.Lists.{first}
use Rattle.rules.specs.Lines.{amounts, of_base, lines_of, most_lines_size, lines_bytes, total_of}
use Rattle.rules.specs.declared.Cents.{Cents}
use Rattle.rules.specs.declared.Total.{Total}
use Rattle.rules.specs.declared.Total.TheVariants.{InRange, OutOfRange}
use Rattle.rules.specs.Price.{Priced, Answer, in_one_currency, in_range, priced, answer_of, written, answered, in_room, price}
use Rattle.rules.specs.Calendar.{Stretch, stretches, outcome, period_to, within, listing, finished, calendar_in}
use Rattle.rules.proofs.RefusalLaws.{then_done, or_done, unless_done, done_is, not_refused, NeverZero, done_never, refused_never, or_never, unless_never, then_never, Refuses, or_refuses, unless_refuses, found_refuses, then_refuses}
use Rattle.rules.proofs.GivesLaws.{question_sound}
use Rattle.rules.proofs.RoomLaws.{enough_room}

-- ---- the price call

pub record Answered (b s : List ℕ) (room : ℕ) (a : Answer) : Type 0 where
  pub book : List Record
  pub question : Question
  pub article : Article
  pub at : Priced
  pub is_book : records b ≡ some book
  pub is_question : question_of s ≡ some question
  pub has_article : article_of book question.article ≡ some article
  pub is_priced : priced book question ≡ done at
  pub is : answer_of question at ≡ a
  pub fits : leb (length (written a)) room ≡ true

pub price_answered : (b s : List ℕ) (room : ℕ) (a : Answer) → price b s room ≡ done a → Answered b s room a
unfolding price answered
price_answered b s room a e =
    let x = then_done (or_refuse 1 (records b)) _ e in
    let y = then_done (or_refuse 2 (question_of s)) _ x.2 in
    let v = then_done (answered x.0 y.0) _ y.2 in
    let z = then_done (or_refuse 3 (article_of x.0 y.0.article)) _ v.1 in
    let p = then_done (priced x.0 y.0) _ z.2 in
    let w = then_done (refuse_unless 7 (leb (length (written v.0)) room)) _ v.2 in
    let i : v.0 ≡ a = done_is v.0 a w.2 in
    record {
      book = x.0;
      question = y.0;
      article = z.0;
      at = p.0;
      is_book = or_done 1 (records b) x.1;
      is_question = or_done 2 (question_of s) y.1;
      has_article = or_done 3 (article_of x.0 y.0.article) z.1;
      is_priced = p.1;
      is = done_is (answer_of y.0 p.0) v.0 p.2 ∙ i;
      fits = subst (λ (k : Answer). leb (length (written k)) room ≡ true) i (unless_done 7 (leb (length (written v.0)) room) w.1);
    }

-- what is answered with some room is answered with more
pub price_room : (b s : List ℕ) (room more : ℕ) (a : Answer) → price b s room ≡ done a → room ≤ more → price b s more ≡ done a
unfolding price answered
price_room b s room more a e l =
    let x = price_answered b s room a e in
    let fits : leb (length (written (answer_of x.question x.at))) more ≡ true =
    subst (λ (k : Answer). leb (length (written k)) more ≡ true) (sym x.is) (le-leb (length (written a)) more (omega (arith, leb-true (length (written a)) room x.fits))) in
    rw (x.is_book, x.is_question, x.has_article, x.is_priced, fits) (ap done x.is)

range_never : (t : Total) → NeverZero (in_range t)
range_never (InRange c) = done_never c
range_never OutOfRange = refused_never 5

pub priced_never : (book : List Record) (q : Question) → NeverZero (priced book q)
unfolding priced
priced_never book q =
    or_never 3 (first of_base (lines_of book q)) _ (λ b.
    unless_never 4 (in_one_currency b.row.currency (lines_of book q)) _
    (then_never (in_range (total_of (amounts (lines_of book q)))) _ (range_never (total_of (amounts (lines_of book q)))) (λ c. done_never (record { lines = lines_of book q; currency = b.row.currency }))))

pub answered_never : (book : List Record) (q : Question) → NeverZero (answered book q)
unfolding answered
answered_never book q =
    or_never 2 (article_of book q.article) _ (λ a. then_never (priced book q) _ (priced_never book q) (λ p. done_never (answer_of q p)))

-- so a price call with the number 0 has an answer
pub price_never : (b s : List ℕ) (room : ℕ) → NeverZero (price b s room)
unfolding price
price_never b s room =
    or_never 0 (records b) _ (λ book.
    or_never 1 (question_of s) _ (λ q.
    then_never (answered book q) _ (answered_never book q) (λ a.
    unless_never 6 (leb (length (written a)) room) _ (done_never a))))

-- a price that is refused is refused with 1 to 7
abbrev pub PriceRefusal : ℕ → Type 0
PriceRefusal n = (1 ≤ n) × (n ≤ 7)

range_refuses : (P : ℕ → Type 0) → P 6 → (t : Total) → Refuses P (in_range t)
range_refuses P six (InRange c) = tt
range_refuses P six OutOfRange = six

priced_refuses : (P : ℕ → Type 0) → P 4 → P 5 → P 6 → (book : List Record) (q : Question) → Refuses P (priced book q)
unfolding priced
priced_refuses P four five six book q =
    or_refuses P 4 (first of_base (lines_of book q)) _ four (λ b.
    unless_refuses P 5 (in_one_currency b.row.currency (lines_of book q)) _ five
    (then_refuses P (in_range (total_of (amounts (lines_of book q)))) _ (range_refuses P six (total_of (amounts (lines_of book q)))) (λ c. tt)))

pub answered_refuses : (P : ℕ → Type 0) → P 3 → P 4 → P 5 → P 6 → (book : List Record) (q : Question) → Refuses P (answered book q)
unfolding answered
answered_refuses P three four five six book q =
    or_refuses P 3 (article_of book q.article) _ three (λ a. then_refuses P (priced book q) _ (priced_refuses P four five six book q) (λ p. tt))

pub price_refuses : (b s : List ℕ) (room : ℕ) → Refuses PriceRefusal (price b s room)
unfolding price
price_refuses b s room =
    or_refuses PriceRefusal 1 (records b) _ (omega arith, omega arith) (λ book.
    or_refuses PriceRefusal 2 (question_of s) _ (omega arith, omega arith) (λ q.
    then_refuses PriceRefusal (answered book q) _
    (answered_refuses PriceRefusal (omega arith, omega arith) (omega arith, omega arith) (omega arith, omega arith) (omega arith, omega arith) book q)
    (λ a. unless_refuses PriceRefusal 7 (leb (length (written a)) room) _ (omega arith, omega arith) tt)))

-- a price has the lines of the question, and these are in range
pub priced_range : (book : List Record) (q : Question) {p : Priced} → priced book q ≡ done p → (c : Cents) × (total_of (amounts p.lines) ≡ InRange c) × (p.lines ≡ lines_of book q)
unfolding priced
priced_range book q {p} e =
    let x = then_done (or_refuse 4 (first of_base (lines_of book q))) _ e in
    let y = then_done (refuse_unless 5 (in_one_currency x.0.row.currency (lines_of book q))) _ x.2 in
    let z = then_done (in_range (total_of (amounts (lines_of book q)))) _ y.2 in
    let i = done_is _ p z.2 in
    (z.0, ap (λ (k : Priced). total_of (amounts k.lines)) (sym i) ∙ in_range_lem (total_of (amounts (lines_of book q))) z.1, ap (λ (k : Priced). k.lines) (sym i))
  where
    in_range_lem : (t : Total) {c : Cents} → in_range t ≡ done c → t ≡ InRange c
    in_range_lem (InRange d) {c} e = ap InRange (done_is d c e)
    in_range_lem OutOfRange {c} e = absurd (not_refused 6 c e)

-- what is answered has these lines
pub answered_are : (book : List Record) (q : Question) {a : Answer} → answered book q ≡ done a → a.lines ≡ lines_of book q
unfolding answered answer_of
answered_are book q {a} e =
    let x = then_done (or_refuse 3 (article_of book q.article)) _ e in
    let p = then_done (priced book q) _ x.2 in
    ap (λ (k : Answer). k.lines) (sym (done_is (answer_of q p.0) a p.2)) ∙ (priced_range book q p.1).2

-- the lines of an answer are those of the book's records and the question
pub answered_lines : (b s : List ℕ) (room : ℕ) (a : Answer) → price b s room ≡ done a → {book : List Record} {q : Question} → records b ≡ some book → question_of s ≡ some q → a.lines ≡ lines_of book q
unfolding answer_of
answered_lines b s room a e {book} {q} f g =
    let x = price_answered b s room a e in
    let same_book : x.book ≡ book = some-injective x.book book (sym x.is_book ∙ f) in
    let same_question : x.question ≡ q = some-injective x.question q (sym x.is_question ∙ g) in
    ap (λ (k : Answer). k.lines) (sym x.is) ∙ (priced_range x.book x.question x.is_priced).2 ∙ (λ i. lines_of (same_book i) (same_question i))

-- with room for 99 lines 7 is never given
pub price_not_seven : (b s : List ℕ) (room : ℕ) → most_lines_size ≤ room → Refuses (λ n. n ≡ 7 → ⊥) (price b s room)
unfolding price
price_not_seven b s room h =
    or_refuses NotSeven 1 (records b) _ (λ e. omega arith) (λ book.
    found_refuses NotSeven 2 (question_of s) _ (λ e. omega arith) (λ q f.
    go book q (question_sound s q f).granted (answered book q) refl
    (answered_refuses NotSeven (λ e. omega arith) (λ e. omega arith) (λ e. omega arith) (λ e. omega arith) book q)))
  where
    NotSeven : ℕ → Type 0
    NotSeven n = n ≡ 7 → ⊥

    go : (book : List Record) (q : Question) → length q.granted ≤ 32 → (r : Result Answer) → answered book q ≡ r → Refuses NotSeven r → Refuses NotSeven (r >>= in_room room)
    go book q few (refused n) e k = k
    go book q few (done a) e k =
        let fits : leb (length (written a)) room ≡ true =
        le-leb (length (written a)) room (omega (arith, ap (λ l. length (lines_bytes l)) (answered_are book q e), enough_room book q few)) in
        rw fits tt

-- with an accepted book and question and an article that the book has, 4 is the price's own
pub call_4 : (b s : List ℕ) (room : ℕ) {book : List Record} {q : Question} {a : Article} → records b ≡ some book → question_of s ≡ some q → article_of book q.article ≡ some a
    → eqb (number_of (price b s room)) 4 ≡ eqb (number_of (priced book q)) 4
unfolding price answered
call_4 b s room {book} {q} {a} e f g = rw (e, f, g) (go (priced book q))
  where
    seven : (p : Priced) (t : Bool) → eqb (number_of {A = Answer} (refuse_unless 7 t >>= λ _. done (answer_of q p))) 4 ≡ false
    seven p true = refl
    seven p false = refl

    go : (r : Result Priced) → eqb (number_of {A = Answer} (r >>= (λ p. done (answer_of q p)) >>= in_room room)) 4 ≡ eqb (number_of r) 4
    go (done p) = seven p (leb (length (written (answer_of q p))) room)
    go (refused n) = refl

-- ---- the calendar call, in either form

pub record Listed {B : Type 0} (form : List Stretch → List B) (b s : List ℕ) (end room : ℕ) (ss : List Stretch) : Type 0 where
  pub book : List Record
  pub question : Question
  pub article : Article
  pub days : List ℕ
  pub is_book : records b ≡ some book
  pub is_question : question_of s ≡ some question
  pub has_article : article_of book question.article ≡ some article
  pub is_period : period_to question.date end ≡ some days
  pub is : stretches (outcome book question) days ≡ ss
  pub fits : leb (length (form ss)) room ≡ true

pub calendar_answered : {B : Type 0} (form : List Stretch → List B) (b s : List ℕ) (end room : ℕ) (ss : List Stretch) → calendar_in form b s end room ≡ done ss → Listed form b s end room ss
unfolding calendar_in finished listing within
calendar_answered form b s end room ss e =
    let l = then_done (listing b s end) _ e in
    let ts = l.0 in
    let x = then_done (or_refuse 1 (records b)) _ l.1 in
    let y = then_done (or_refuse 2 (question_of s)) _ x.2 in
    let d = then_done (or_refuse 9 (period_to y.0.date end)) _ y.2 in
    let z = then_done (or_refuse 3 (article_of x.0 y.0.article)) _ d.2 in
    let w = then_done (refuse_unless 7 (leb (length (form ts)) room)) _ l.2 in
    record {
      book = x.0;
      question = y.0;
      article = z.0;
      days = d.0;
      is_book = or_done 1 (records b) x.1;
      is_question = or_done 2 (question_of s) y.1;
      has_article = or_done 3 (article_of x.0 y.0.article) z.1;
      is_period = or_done 9 (period_to y.0.date end) d.1;
      is = done_is (stretches (outcome x.0 y.0) d.0) ts z.2 ∙ done_is ts ss w.2;
      fits = subst (λ (l : List Stretch). leb (length (form l)) room ≡ true) (done_is ts ss w.2) (unless_done 7 (leb (length (form ts)) room) w.1);
    }

-- what is answered with some room is answered with more
pub calendar_room : {B : Type 0} (form : List Stretch → List B) (b s : List ℕ) (end room more : ℕ) (ss : List Stretch) → calendar_in form b s end room ≡ done ss → room ≤ more
    → calendar_in form b s end more ≡ done ss
unfolding calendar_in finished listing within
calendar_room form b s end room more ss e l =
    let x = calendar_answered form b s end room ss e in
    let fits : leb (length (form ss)) more ≡ true = le-leb (length (form ss)) more (omega (arith, leb-true (length (form ss)) room x.fits)) in
    rw (x.is_book, x.is_question, x.is_period, x.has_article, x.is, fits)

-- a calendar that is refused is refused with one of these
abbrev pub CalendarRefusal : ℕ → Type 0
CalendarRefusal n = (n ≡ 1) ⊎ ((n ≡ 2) ⊎ ((n ≡ 9) ⊎ ((n ≡ 3) ⊎ (n ≡ 7))))

-- behind what is listed there is 7 alone
pub finished_refuses : (P : ℕ → Type 0) (size : List Stretch → ℕ) (room : ℕ) (o : Result (List Stretch)) → P 7 → Refuses P o → Refuses P (finished size room o)
unfolding finished
finished_refuses P size room o seven h = then_refuses P o _ h (λ ss. unless_refuses P 7 (leb (size ss) room) _ seven tt)

pub calendar_refuses : {B : Type 0} (form : List Stretch → List B) (end room : ℕ) (b s : List ℕ) → Refuses CalendarRefusal (calendar_in form b s end room)
unfolding calendar_in listing within
calendar_refuses form end room b s =
    finished_refuses CalendarRefusal (λ ss. length (form ss)) room (listing b s end) (inr (inr (inr (inr refl))))
    (or_refuses CalendarRefusal 1 (records b) _ (inl refl) (λ book.
    or_refuses CalendarRefusal 2 (question_of s) _ (inr (inl refl)) (λ q.
    or_refuses CalendarRefusal 9 (period_to q.date end) _ (inr (inr (inl refl))) (λ days.
    or_refuses CalendarRefusal 3 (article_of book q.article) _ (inr (inr (inr (inl refl)))) (λ a. tt)))))
