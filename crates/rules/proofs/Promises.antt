-- What the rules promise, each under a name and in plain words. The proofs stand in the files of laws beside this one.
use Prim.Native.Nat.{ℕ, ◌+◌, ◌*◌, ◌≤◌, ◌<◌, ◌^◌}
use mathlib.Core.Path.{◌≡◌, refl, sym, ◌∙◌, ap, subst}
use mathlib.Core.Bool.{true, not, cond}
use mathlib.Core.List.{List, [], ◌∷◌, ◌++◌, map}
use mathlib.Core.Option.{Option, some, none, some-injective}
use lib.Count.{ones}
use lib.Dec.{eqb, leb, ltb}
use mathlib.Core.Logic.{◌⊎◌}
use lib.IntN.{ℤ, pos, ◌+ℤ◌, ◌*ℤ◌}
use native.Mathlib.Omega.{arith}
use lib.ListN.{length, take, drop, get_or, replicate}
use Rattle.rules.specs.Lists.{all, any, join, same}
use Rattle.rules.specs.Bytes.{bytes_of, signed_bytes_of, name_byte, raise}
use Rattle.rules.specs.Days.{is_day, next, last_day}
use Rattle.rules.specs.Book.{Record, Article, Row, base, article_of, rows, roundings}
use Rattle.rules.specs.BookLayout.{records}
use Rattle.rules.specs.Question.{Granted, Question, grants, question_of, no_currency}
use Rattle.rules.specs.Questions.{questions_of}
use Rattle.rules.specs.Choice.{step₅, choose}
use Rattle.rules.specs.Amounts.{multiple_by, rounded}
use Rattle.rules.specs.Lines.{Line, sum, amounts, total, slots_at, chosen, lines_of, line_bytes, most_lines_size}
use Rattle.rules.specs.Refusals.{Result, done, refused, ◌>>=◌, or_refuse, refuse_unless, number_of, lent_after}
use Rattle.rules.specs.Price as Price
use Rattle.rules.specs.Price.{Answer, answer_of, answered, price, unused_of, set_of}
use Rattle.rules.specs.Basket.{answer_size, answer_in, lines_in, basket_bytes, most_basket, most_basket_size, basket, shown_basket, lent_after_basket}
use Rattle.rules.specs.Calendar as Calendars
use Rattle.rules.specs.Calendar.{Outcome, Stretch, stretches, outcome, period_to, most_days, calendar_in}
use Rattle.rules.specs.FinalNumber as FinalNumber
use Rattle.rules.specs.Packaging as Packaging
use Rattle.rules.specs.Text as Text
use Rattle.rules.specs.Letters.{text}
use Rattle.rules.specs.Program.{most_input, behind, book_in, question_in, end_in, output}
use Rattle.rules.specs.declared.Way.{Way}
use Rattle.rules.specs.declared.Way.TheVariants.{Commercial}
use Rattle.rules.specs.declared.Rounding as Rounded
use Rattle.rules.specs.declared.Fraction.{Fraction}
use Rattle.rules.proofs.DayLaws as Days
use Rattle.rules.proofs.GivesLaws.{question_sound, version_1}
use Rattle.rules.proofs.BestLaws as Best
use Rattle.rules.proofs.ChoiceLaws as Choice
use Rattle.rules.proofs.NoPriceLaws as NoPrice
use Rattle.rules.proofs.UnusedLaws as Unused
use Rattle.rules.proofs.FactorLaws as Factor
use Rattle.rules.proofs.FactorLaws.{granting}
use Rattle.rules.proofs.RoundingLaws as Rounding
use Rattle.rules.proofs.HalvesLaws as Halves
use Rattle.rules.proofs.RaiseLaws as Raise
use Rattle.rules.proofs.CalendarLaws as Calendar
use Rattle.rules.proofs.CallLaws as Calls
use Rattle.rules.proofs.QuestionsLaws as Questions
use Rattle.rules.proofs.BasketLaws as Basket
use Rattle.rules.proofs.CurrencyLaws.{rows_in_letters}
use Rattle.rules.proofs.ListLaws.{All}
use Rattle.rules.proofs.RefusalLaws.{Refuses, known_number}
use Rattle.rules.proofs.RowLaws as Rows
use Rattle.rules.proofs.PeriodLaws as Period
use Rattle.rules.proofs.ProgramLaws as Program

-- ---- the price

-- The amounts that a salesperson reads out, line by line, sum to the unit total; and the total is the quantity times that.
pub amounts_sum : (b s : List ℕ) (room : ℕ) (a : Answer) (q : Question) → price b s room ≡ done a → question_of s ≡ some q
    → (sum (amounts a.lines) ≡ a.unit) × (a.total ≡ pos q.quantity *ℤ a.unit)
unfolding answer_of total
amounts_sum b s room a q e f =
    let x = Calls.price_answered b s room a e in
    let same : x.question ≡ q = some-injective x.question q (sym x.is_question ∙ f) in (
      ap (λ (k : Answer). sum (amounts k.lines)) (sym x.is) ∙ ap (λ (k : Answer). k.unit) x.is,
      ap (λ (k : Answer). k.total) (sym x.is) ∙ ap (λ (n : Question). pos n.quantity *ℤ total x.at.lines) same ∙ ap (λ (k : Answer). pos q.quantity *ℤ k.unit) x.is,
    )

-- Every line is of a row that the book has, of the asked article and sort, with both its dates days and the asked day between them, both ends
-- included; and the row's condition is the granted name at the line's place, raised, or at place 0 none. The line's factor is that of the name there,
-- and 1,000 at place 0.
pub line_of_a_row : (b s : List ℕ) (room : ℕ) (a : Answer) (book : List Record) (q : Question) → price b s room ≡ done a → records b ≡ some book → question_of s ≡ some q
    → All (λ l. Rows.RowFor book q l.place l.factor l.row) a.lines
line_of_a_row b s room a book q e f g = subst (All (λ l. Rows.RowFor book q l.place l.factor l.row)) (sym (Calls.answered_lines b s room a e f g)) (Rows.lines_for book q)

-- "No price" is said exactly when, of the base rows without a condition and of those under each granted name, none survives the steps of choice.
pub no_price : (b s : List ℕ) (room : ℕ) (book : List Record) (q : Question) (a : Article)
    → records b ≡ some book → question_of s ≡ some q → article_of book q.article ≡ some a
    → eqb (number_of (price b s room)) 4 ≡ not (any (λ s. NoPrice.any_left (NoPrice.left_at book q s)) (slots_at (grants q.granted) base))
no_price b s room book q a e f g = Calls.call_4 b s room e f g ∙ rw (NoPrice.refused_4 book q, NoPrice.base_line book q)

-- The count of granted names that brought no line is the number of ones in their set, and 32 bits hold that set.
pub unused_count_lem : (s : List ℕ) (q : Question) (ls : List Line) → question_of s ≡ some q
    → (ones (set_of (unused_of q ls)) ≡ length (unused_of q ls)) × (set_of (unused_of q ls) < 2 ^ 32)
unused_count_lem s q ls e = (Unused.unused_count_lem q ls, Unused.unused_below 32 q ls (question_sound s q e).granted)

-- ---- factors

-- Where every granted name has the factor 1,000, the lines are those that the rules give where nobody speaks of factors; so are the totals and the
-- outcome of every day, which are read off the lines.
pub plain_lines : (book : List Record) (q : Question) → Factor.AllOnce q.granted → lines_of book q ≡ Factor.plain_lines (roundings book) [] (chosen (rows book) q)
plain_lines = Factor.lines_once

-- It is so in a question of version 1, whose fifth byte is 1.
pub version_1_plain : (a b c d : ℕ) (t : List ℕ) (q : Question) → question_of (a ∷ b ∷ c ∷ d ∷ 1 ∷ t) ≡ some q → Factor.AllOnce q.granted
version_1_plain = version_1

-- A line begins with the 14 bytes that it has without factors: text number, level, place and amount. The factor stands behind them.
pub line_begins : (l : Line) → line_bytes l ≡ (bytes_of 4 l.row.text ++ (l.row.level ∷ l.place ∷ signed_bytes_of 8 l.amount)) ++ bytes_of 2 l.factor
line_begins l = refl

-- A repeat keeps the first factor: whatever factor a name has that was granted before, the answer is the same, and so is the outcome of every day.
pub repeat_factor : (book : List Record) (q : Question) (c : Granted) (f : ℕ) (xs ys : List Granted) → Factor.is_sent xs (map raise c.name) ≡ true
    → (answered book (granting q (xs ++ (c ∷ ys))) ≡ answered book (granting q (xs ++ (Factor.refactored c f ∷ ys))))
    × ((d : ℕ) → outcome book (granting q (xs ++ (c ∷ ys))) d ≡ outcome book (granting q (xs ++ (Factor.refactored c f ∷ ys))) d)
repeat_factor book q c f xs ys h =
    let e = Factor.repeat_grants c f xs ys h in
    (Factor.same_answered book q (xs ++ (c ∷ ys)) (xs ++ (Factor.refactored c f ∷ ys)) e, Factor.same_outcome book q (xs ++ (c ∷ ys)) (xs ++ (Factor.refactored c f ∷ ys)) e)

-- Bytes that are the same question get the same answer from every call, whatever their version.
pub same_question : (s s' : List ℕ) → question_of s ≡ question_of s' → Factor.AnsweredAlike s s'
same_question = Factor.answered_alike

-- So do questions laid end to end.
pub same_questions : (b : List ℕ) (room : ℕ) (ps ps' : List (List ℕ)) (qs : List Question) → Questions.Each ps qs → Questions.Each ps' qs → length qs ≤ most_basket
    → basket b (join ps) room ≡ basket b (join ps') room
unfolding basket
same_questions b room ps ps' qs e e' h =
    ap (λ (o : Option (List Question)). or_refuse 1 (records b) >>= λ book. or_refuse 2 o >>= λ qs. refuse_unless 7 (leb (length (basket_bytes (map (answered book) qs))) room) >>= λ _. done (map (answered book) qs))
    (Questions.questions_laid most_basket ps qs e h ∙ sym (Questions.questions_laid most_basket ps' qs e' h))

-- ---- names raised

-- The letters that are raised, each with its capital, and those beside them that have none in Latin-1.
pub raised_letters : map raise (text "abcdefghijklmnopqrstuvwxyzàáâãäåæçèéêëìíîïðñòóôõöøùúûüýþ") ≡ text "ABCDEFGHIJKLMNOPQRSTUVWXYZÀÁÂÃÄÅÆÇÈÉÊËÌÍÎÏÐÑÒÓÔÕÖØÙÚÛÜÝÞ"
raised_letters = refl

pub not_raised : map raise (text "ßÿ÷") ≡ text "ßÿ÷"
not_raised = refl

-- Raising twice is raising once: what was raised has no letter left that could be raised.
pub raised_once : (n : List ℕ) → map raise (map raise n) ≡ map raise n
raised_once = Raise.raised_once

-- The bytes of a name stay bytes of a name.
pub raised_name : (n : List ℕ) → all name_byte n ≡ true → all name_byte (map raise n) ≡ true
raised_name = Raise.raised_name

-- A name of ASCII is raised as it was before other letters were: a to z, and nothing else.
pub raised_ascii : (n : List ℕ) → all (λ b. ltb b 128) n ≡ true → map raise n ≡ map Raise.raised_to_z n
raised_ascii = Raise.raised_ascii

-- Two granted names are one exactly if they are raised alike.
pub one_name : (c d : Granted) → eqb (length (grants (c ∷ d ∷ []))) 1 ≡ same (map raise d.name) (map raise c.name)
one_name = Raise.one_name

-- ---- the choice of a row

-- The row that step 5 takes is one of those left: each row before it in the book is worse, and none behind it is better.
pub best_row : (rows : List Row) (r : Row) → step₅ rows ≡ some r → Best.Best r rows
best_row = Best.best

-- A row of which that is true is the one that step 5 takes; and it takes one if any row is left.
pub only_best_row : (rows : List Row) (r : Row) → Best.Best r rows → step₅ rows ≡ some r
only_best_row rows r b = Best.best_taken b

pub some_row : (r : Row) (rows : List Row) → (b : Row) × (step₅ (r ∷ rows) ≡ some b)
some_row r rows = let x = Best.held r rows in (x.0, Best.best_taken x.2)

-- One walk over a component's rows gives what the five steps give. It keeps whether a row that holds that day is in the asked currency, for
-- whatever quantity; and, of those that reach the quantity, the best in that currency and the best in any.
pub one_walk : (date quantity : ℕ) (asked : Option (List ℕ)) (rows : List Row)
    → Choice.taken (Choice.walk date quantity asked Choice.start rows) ≡ choose date quantity asked rows
one_walk = Choice.one_walk

-- ---- amounts

-- Down gives the greatest multiple of the step that is not above the amount, up the least that is not below it, commercial the nearest, and of two
-- equally near ones the one farther from zero.
pub rounding_right : (way : Way) (step : ℕ) (x : Fraction) → 0 < x.bottom → 0 < step → Rounding.Rounded way step x (multiple_by way step x)
rounding_right = Rounding.rounded_means

-- No other number is that.
pub only_rounding : (way : Way) (step : ℕ) (x : Fraction) → 0 < x.bottom → 0 < step → (m : ℤ) → Rounding.Rounded way step x m → m ≡ multiple_by way step x
only_rounding = Rounding.rounded_unique

-- Of an amount that, with the cents added before, is a half below zero, the commercial way gives one step less than one that sends every half to
-- the greater number.
pub halves_below_zero : (r : Rounded.Rounding) (x : Fraction) → r.way ≡ Commercial → 0 < x.bottom → 0 < r.step → Halves.HalfAmount r x
    → rounded r x +ℤ pos r.step ≡ Halves.rounded_before r x
halves_below_zero = Halves.step_less

-- Of every other amount it gives what such a way gives.
pub no_other_half : (r : Rounded.Rounding) (x : Fraction) → r.way ≡ Commercial → 0 < x.bottom → 0 < r.step
    → Halves.HalfAmount r x ⊎ (rounded r x ≡ Halves.rounded_before r x)
no_other_half = Halves.amount_stays

-- ---- days

-- Behind every day but the last comes a day, a greater number, and no day stands between.
pub next_day : (d : ℕ) → is_day d ≡ true → d < last_day → Days.NextDay d (next d)
next_day = Days.next_day

-- Of two days the later one, which is reached by going on day by day, has the greater number; and the greater one is reached.
pub later_is_greater : (d e : ℕ) → Days.Later d e → d < e
later_is_greater = Days.later_greater

pub greater_is_later : (d e : ℕ) → is_day d ≡ true → is_day e ≡ true → d < e → Days.Later d e
greater_is_later = Days.greater_later

-- ---- the calendar

-- The stretches of an answered calendar start on the question's day, each next one on the day after the one before, and the last ends on the end date;
-- they stand in date order; neighbours differ; and every day from a stretch's first to its last has its outcome: that of the day priced alone.
pub calendar_right : {B : Type 0} (form : List Stretch → List B) (b s : List ℕ) (end room : ℕ) (ss : List Stretch) (book : List Record) (q : Question)
    → records b ≡ some book → question_of s ≡ some q → calendar_in form b s end room ≡ done ss → Calendar.Right (outcome book q) q.date end ss
calendar_right form b s end room ss book q e f g =
    let x = Calls.calendar_answered form b s end room ss g in
    let day = (question_sound s x.question x.is_question).date in
    let r : Calendar.Right (outcome x.book x.question) x.question.date end (stretches (outcome x.book x.question) x.days) =
    Calendar.right (outcome x.book x.question) day (Calendar.period_end x.question.date end x.days x.is_period)
    (Calendar.period_days x.question.date end x.days x.is_period) in
    let same_book : x.book ≡ book = some-injective x.book book (sym x.is_book ∙ e) in
    let same_question : x.question ≡ q = some-injective x.question q (sym x.is_question ∙ f) in
    subst (λ (k : List Record). Calendar.Right (outcome k q) q.date end ss) same_book
    (subst (λ (n : Question). Calendar.Right (outcome x.book n) n.date end ss) same_question
    (subst (λ (l : List Stretch). Calendar.Right (outcome x.book x.question) x.question.date end l) x.is r))

-- Of no other list is all this true: so the stretches are the longest, and each is listed once.
pub only_stretches : (f : ℕ → Outcome) (from to : ℕ) (days : List ℕ) → is_day from ≡ true → period_to from to ≡ some days
    → (ss : List Stretch) → Calendar.Right f from to ss → stretches f days ≡ ss
only_stretches f from to days d e = Calendar.only_right f d (Calendar.period_end from to days e) (Calendar.period_days from to days e)

-- There are at most as many stretches as days, and never more than 1,096.
pub stretch_count : (f : ℕ → Outcome) (from to : ℕ) (days : List ℕ) → period_to from to ≡ some days → (length (stretches f days) ≤ length days) × (length days ≤ most_days)
stretch_count f from to days e = (Calendar.stretch_count f days, Calendar.period_count from to days e)

-- ---- the basket

-- The bytes accepted as many questions are exactly those of so many questions laid end to end, each of them a question by itself;
pub questions_are : (most : ℕ) (s : List ℕ) (qs : List Question) → questions_of most s ≡ some qs → Questions.Parts s qs × length qs ≤ most
questions_are = Questions.questions_parts

pub questions_laid : (most : ℕ) (ps : List (List ℕ)) (qs : List Question) → Questions.Each ps qs → length qs ≤ most
    → questions_of most (join ps) ≡ some qs
questions_laid = Questions.questions_laid

-- and they can be parted into questions in one way only.
pub one_split : (ps ps' : List (List ℕ)) (qs qs' : List Question) → Questions.Each ps qs → Questions.Each ps' qs' → join ps ≡ join ps' → ps ≡ ps'
one_split = Questions.one_split

-- Each outcome of an answered basket is the one that the price call gives for that question's bytes alone, with any room that is enough for a price.
pub basket_is_price : (b s : List ℕ) (room : ℕ) (rs : List (Result Answer)) → basket b s room ≡ done rs
    → (qs : List Question) × (p : Questions.Parts s qs) × ((enough : ℕ) → most_lines_size ≤ enough → rs ≡ map (λ x. price b x enough) p.parts)
basket_is_price = Basket.basket_singles

module _ (b s : List ℕ) (room : ℕ) (rs : List (Result Answer)) (e : basket b s room ≡ done rs) (lent : List ℕ) (j : ℕ) (h : j < length rs) where
  -- In the lent output the answer of the question at place j, from 0, has 33 bytes, from 33 times j on;
  pub basket_answer : take answer_size (drop (answer_size * j) (lent_after_basket (done rs) lent)) ≡ answer_in (get_or rs j (refused 0))
  basket_answer = Basket.answer_at b s room rs e lent j h

  -- its lines stand behind all answers and behind the lines of the questions before it.
  pub basket_lines : take (length (lines_in (get_or rs j (refused 0))))
      (drop (answer_size * length rs + length (join (take j (map lines_in rs)))) (lent_after_basket (done rs) lent))
      ≡ lines_in (get_or rs j (refused 0))
  basket_lines = Basket.lines_at b s room rs e lent j h

-- A question that is refused has its number and 32 zeros, and no lines.
pub refused_answer : (n : ℕ) → (answer_in (refused n) ≡ n ∷ replicate 32 0) × (lines_in (refused n) ≡ [])
unfolding Price.shown
refused_answer n = (refl, refl)

-- Its number is one of 3 to 6.
pub basket_outcomes : (b s : List ℕ) (room : ℕ) (rs : List (Result Answer)) → basket b s room ≡ done rs → All (Refuses Basket.OwnRefusal) rs
basket_outcomes b s room rs e = let x = Basket.basket_filled b s room rs e in subst (All (Refuses Basket.OwnRefusal)) x.are (Basket.each_refuses x.book x.questions)

-- With a book and questions a basket is refused with 7 exactly where less room is lent than 33 bytes for each question and all lines need.
pub basket_room : (b s : List ℕ) (room : ℕ) (book : List Record) (qs : List Question) → records b ≡ some book → questions_of most_basket s ≡ some qs
    → number_of (basket b s room) ≡ cond (leb (answer_size * length qs + length (join (map lines_in (map (answered book) qs)))) room) 0 7
basket_room b s room book qs e f =
    Basket.basket_is b s room e f
    ∙ ap (λ (n : ℕ). cond (leb n room) 0 7) (Basket.basket_size book (rows_in_letters b book e) qs)

-- A basket without a question is answered, and nothing is written.
pub empty_basket : (b : List ℕ) (room : ℕ) (book : List Record) → records b ≡ some book → (basket b [] room ≡ done []) × (basket_bytes [] ≡ [])
unfolding basket_bytes
empty_basket b room book e = (Basket.basket_empty b room book e, refl)

-- ---- refusals

-- A price that is refused has a number from 1 to 7;
pub price_numbers : (b s : List ℕ) (room : ℕ) → (number_of (price b s room) ≡ 0 → ⊥) → Calls.PriceRefusal (number_of (price b s room))
price_numbers b s room = known_number Calls.PriceRefusal (price b s room) (Calls.price_refuses b s room)

-- 7 is never among them where there is room for 99 lines, 1,584 bytes, as many as a price can have;
pub price_room_enough : (b s : List ℕ) (room : ℕ) → most_lines_size ≤ room → number_of (price b s room) ≡ 7 → ⊥
price_room_enough b s room h e = let z : number_of (price b s room) ≡ 0 → ⊥ = λ o. omega arith in known_number (λ n. n ≡ 7 → ⊥) (price b s room) (Calls.price_not_seven b s room h) z e

-- a calendar, in either form, has 1, 2, 9, 3 or 7, and so never 10.
pub calendar_numbers : {B : Type 0} (form : List Stretch → List B) (b s : List ℕ) (end room : ℕ) → (number_of (calendar_in form b s end room) ≡ 0 → ⊥)
    → Calls.CalendarRefusal (number_of (calendar_in form b s end room))
calendar_numbers form b s end room = known_number Calls.CalendarRefusal (calendar_in form b s end room) (Calls.calendar_refuses form end room b s)

-- With a book and a question, a calendar is refused with 9 exactly when the end is no day, or is before the question's date, or from that date to the
-- end, both counted, there are more than 1,096 days.
pub calendar_nine : {B : Type 0} (form : List Stretch → List B) (b s : List ℕ) (end room : ℕ) (book : List Record) (q : Question) → records b ≡ some book → question_of s ≡ some q
    → (number_of (calendar_in form b s end room) ≡ 9 → Period.NoPeriod q.date end) × (Period.NoPeriod q.date end → number_of (calendar_in form b s end room) ≡ 9)
calendar_nine form b s end room book q e f = (Period.period_nine form b s end room e f (question_sound s q f).date, Period.nine_period form b s end room e f)

-- The days from one to another are counted by one list only.
pub days_counted_once : (from to : ℕ) (ds es : List ℕ) → Calendar.Days from to ds → Calendar.Days from to es → ds ≡ es
days_counted_once from to ds es = Period.days_one

-- A basket that is refused has 1, 2 or 7;
pub basket_numbers : (b s : List ℕ) (room : ℕ) → (number_of (basket b s room) ≡ 0 → ⊥) → Basket.BasketRefusal (number_of (basket b s room))
basket_numbers b s room = known_number Basket.BasketRefusal (basket b s room) (Basket.basket_refuses b s room)

-- 7 is never among them where there is room for 283,800 bytes, 200 answers and 99 lines for each.
pub basket_room_enough : (b s : List ℕ) (room : ℕ) → most_basket_size ≤ room → number_of (basket b s room) ≡ 7 → ⊥
basket_room_enough b s room h e =
    let z : number_of (basket b s room) ≡ 0 → ⊥ = λ o. omega arith in
    known_number (λ n. n ≡ 7 → ⊥) (basket b s room) (Basket.basket_not_seven b s room h) z e

-- Beside a refusal's number stand zeros, and no lent byte changes: for the price,
pub refused_price : (n : ℕ) (lent : List ℕ)
    → (Price.shown (refused n) ≡ record {
      unit = pos 0;
      total = pos 0;
      lines = 0;
      unused = 0;
      unused_count = 0;
      number = n;
      currency = no_currency;
    }) × (Price.lent_after_price (refused n) lent ≡ lent)
unfolding Price.shown lent_after
refused_price n lent = (refl, refl)

-- for the basket,
pub refused_basket : (n : ℕ) (lent : List ℕ)
    → (shown_basket (refused n) ≡ record { length = 0; number = n }) × (lent_after_basket (refused n) lent ≡ lent)
unfolding shown_basket lent_after
refused_basket n lent = (refl, refl)

-- for the calendar in both its forms,
pub refused_calendar : {R : Type 0} (form : Calendars.Stretch → R) (n : ℕ) (lent : List ℕ) (list : List R)
    → (Calendars.shown_bytes (refused n) ≡ record { length = 0; number = n }) × (Calendars.lent_after_calendar (refused n) lent ≡ lent)
    × (Calendars.shown_records (refused n) ≡ record { length = 0; number = n }) × (Calendars.lent_after_list form (refused n) list ≡ list)
unfolding Calendars.shown_bytes Calendars.shown_records Calendars.lent_after_list lent_after
refused_calendar form n lent list = (refl, refl, refl, refl)

-- for the final article number,
pub refused_number : (n : ℕ) (lent : List ℕ) → (FinalNumber.shown (refused n) ≡ record { length = 0; number = n }) × (FinalNumber.lent_after_number (refused n) lent ≡ lent)
unfolding FinalNumber.shown lent_after
refused_number n lent = (refl, refl)

-- for the packaging data,
pub refused_packaging : (n : ℕ)
    → Packaging.shown (refused n) ≡ record {
      gross = pos 0;
      values = replicate 8 (pos 0);
      number = n;
      present = 0;
      units = replicate 9 0;
    }
unfolding Packaging.shown
refused_packaging n = refl

-- and for a line's text, whose part is then empty.
pub refused_text : (n : ℕ) → (Text.shown (refused n) ≡ record {
  place = 0;
  length = 0;
  number = n;
  book = 0;
}) × (Text.part (refused n) ≡ [])
unfolding Text.shown Text.part
refused_text n = (refl, refl)

-- ---- the program

-- Input of more than 65,536 bytes is refused with 1, whatever it holds;
pub program_too_long : (input : List ℕ) → most_input < length input → output input ≡ text "refusal 1\n"
program_too_long = Program.prints_too_long

-- so is input with fewer than four bytes, or with fewer than its book's own length says,
pub program_cut_in_the_book : (input : List ℕ) → Program.Cut input → output input ≡ text "refusal 1\n"
program_cut_in_the_book input h = Program.prints_no_book input (Program.cut_book input h)

-- and input with anything but a book in front.
pub program_no_book : (input : List ℕ) → records (book_in input) ≡ none → output input ≡ text "refusal 1\n"
program_no_book = Program.prints_no_book

module _ (input : List ℕ) (fits : length input ≤ most_input) (book : List Record) (is_book : records (book_in input) ≡ some book) where
  -- Behind a good book, a question of which fewer than four bytes are there, or fewer than its own length says, is refused with 2,
  pub program_cut_in_the_question : Program.Cut (behind input) → output input ≡ text "refusal 2\n"
  program_cut_in_the_question h = Program.prints_no_question input fits is_book (Program.cut_question (behind input) h)

  -- and so is anything but a question in its place.
  pub program_no_question : question_of (question_in input) ≡ none → output input ≡ text "refusal 2\n"
  program_no_question = Program.prints_no_question input fits is_book

  -- Behind a good book and a good question, an end date of another length than four bytes is refused with 9.
  pub program_end_of_another_length : (q : Question) → question_of (question_in input) ≡ some q → (length (end_in input) ≡ 4 → ⊥) → output input ≡ text "refusal 9\n"
  program_end_of_another_length q f = Program.prints_no_end input fits is_book f
