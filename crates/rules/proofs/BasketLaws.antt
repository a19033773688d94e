-- The basket is the price call, question by question; how many bytes it has, and where in them each answer and its lines stand.
use Prim.Native.Nat.{ℕ, zero, suc, ◌+◌, ◌*◌, ◌≤◌, ◌<◌}
use mathlib.Core.Path.{◌≡◌, refl, sym, ◌∙◌, ap, subst}
use mathlib.Core.Bool.{Bool, true, false, cond, false≢true}
use mathlib.Core.List.{List, [], ◌∷◌, ◌++◌, map, append_assoc}
use mathlib.Core.Logic.{◌⊎◌, inl, inr}
use mathlib.Core.Option.{some}
use native.Mathlib.Omega.{arith}
use lib.Dec.{leb}
use lib.ListN.{length, take, drop, get_or, length-append, length-map, get_or-map}
use lib.Seq.{take_at, drop-append-add}
use borrow.Author.Tests.{leb-true, le-leb}
use Rattle.rules.specs.Lists.{join}
use Rattle.rules.specs.Bytes.{bytes_of}
use Rattle.rules.specs.Book.{Record}
use Rattle.rules.specs.BookLayout.{records}
use Rattle.rules.specs.Question.{Question, question_of}
use Rattle.rules.specs.Questions.{questions_of}
use Rattle.rules.specs.Lines.{lines_bytes, most_lines_size}
use Rattle.rules.specs.Refusals.{Result, done, refused, ◌>>=◌, or_refuse, refuse_unless, number_of, lent_after}
use Rattle.rules.specs.Price.{Answer, answered, written, in_room, price, shown}
use Rattle.rules.specs.Basket.{answer_size, answer_bytes, answer_in, lines_in, basket_bytes, most_basket, most_basket_size, basket, lent_after_basket}
use Rattle.rules.specs.declared.PriceAnswer.{PriceAnswer}
use Rattle.rules.proofs.ListLaws.{All, all_at}
use Rattle.rules.proofs.RefusalLaws.{then_done, or_done, unless_done, done_is, NeverZero, done_never, or_never, unless_never}
use Rattle.rules.proofs.RefusalLaws.{Refuses, or_refuses, unless_refuses, found_refuses}
use Rattle.rules.proofs.GivesLaws.{question_sound}
use Rattle.rules.proofs.RoomLaws.{enough_room}
use Rattle.rules.proofs.CallLaws.{answered_are, answered_refuses}
use Rattle.rules.proofs.CurrencyLaws.{InLetters, rows_in_letters, answered_currency}
use Rattle.rules.proofs.QuestionsLaws.{Each, Parts, each_first, each_rest, questions_parts}

-- ---- what an answered basket rests on

pub record Filled (b s : List ℕ) (room : ℕ) (rs : List (Result Answer)) : Type 0 where
  pub book : List Record
  pub questions : List Question
  pub is_book : records b ≡ some book
  pub are_questions : questions_of most_basket s ≡ some questions
  pub are : map (answered book) questions ≡ rs
  pub fits : length (basket_bytes rs) ≤ room

pub basket_filled : (b s : List ℕ) (room : ℕ) (rs : List (Result Answer)) → basket b s room ≡ done rs → Filled b s room rs
unfolding basket
basket_filled b s room rs e =
    let x = then_done (or_refuse 1 (records b)) _ e in
    let y = then_done (or_refuse 2 (questions_of most_basket s)) _ x.2 in
    let all = map (answered x.0) y.0 in
    let w = then_done (refuse_unless 7 (leb (length (basket_bytes all)) room)) _ y.2 in
    let are : all ≡ rs = done_is all rs w.2 in
    record {
      book = x.0;
      questions = y.0;
      is_book = or_done 1 (records b) x.1;
      are_questions = or_done 2 (questions_of most_basket s) y.1;
      are = are;
      fits =
          subst (λ (l : List (Result Answer)). length (basket_bytes l) ≤ room) are
          (leb-true (length (basket_bytes all)) room (unless_done 7 (leb (length (basket_bytes all)) room) w.1));
    }

-- and when it is answered, or refused with 7
pub basket_is : (b s : List ℕ) (room : ℕ) {book : List Record} {qs : List Question} → records b ≡ some book → questions_of most_basket s ≡ some qs
    → number_of (basket b s room) ≡ cond (leb (length (basket_bytes (map (answered book) qs))) room) 0 7
unfolding basket
basket_is b s room {book} {qs} e f = rw (e, f) (go (leb (length (basket_bytes (map (answered book) qs))) room))
  where
    go : (t : Bool) → number_of {A = List (Result Answer)} (refuse_unless 7 t >>= λ _. done (map (answered book) qs)) ≡ cond t 0 7
    go true = refl
    go false = refl

pub basket_never : (b s : List ℕ) (room : ℕ) → NeverZero (basket b s room)
unfolding basket
basket_never b s room =
    or_never 0 (records b) _ (λ book.
    or_never 1 (questions_of most_basket s) _ (λ qs.
    unless_never 6 (leb (length (basket_bytes (map (answered book) qs))) room) _ (done_never (map (answered book) qs))))

-- a basket that is refused as a whole is refused with 1, 2 or 7
abbrev pub BasketRefusal : ℕ → Type 0
BasketRefusal n = (n ≡ 1) ⊎ ((n ≡ 2) ⊎ (n ≡ 7))

pub basket_refuses : (b s : List ℕ) (room : ℕ) → Refuses BasketRefusal (basket b s room)
unfolding basket
basket_refuses b s room =
    or_refuses BasketRefusal 1 (records b) _ (inl refl) (λ book.
    or_refuses BasketRefusal 2 (questions_of most_basket s) _ (inr (inl refl)) (λ qs.
    unless_refuses BasketRefusal 7 (leb (length (basket_bytes (map (answered book) qs))) room) _ (inr (inr refl)) tt))

-- without a question there is nothing to write
pub basket_empty : (b : List ℕ) (room : ℕ) (book : List Record) → records b ≡ some book → basket b [] room ≡ done []
unfolding basket questions_of basket_bytes
basket_empty b room book e = rw e (go (leb 0 room) (le-leb 0 room (omega arith)))
  where
    go : (t : Bool) → t ≡ true → ◌≡◌ {A = Result (List (Result Answer))} (refuse_unless 7 t >>= λ _. done []) (done [])
    go true h = refl
    go false h = absurd (false≢true h)

-- ---- each question's outcome

-- a question that is refused by itself is refused with 3 to 6
abbrev pub OwnRefusal : ℕ → Type 0
OwnRefusal n = (3 ≤ n) × (n ≤ 6)

pub each_refuses : (book : List Record) (qs : List Question) → All (Refuses OwnRefusal) (map (answered book) qs)
each_refuses book [] = tt
each_refuses book (q ∷ qs) = (
  answered_refuses OwnRefusal (omega arith, omega arith) (omega arith, omega arith) (omega arith, omega arith) (omega arith, omega arith) book q,
  each_refuses book qs,
)

-- with room for its lines, the price call gives a question the outcome that it has in a basket
pub answered_price : (b p : List ℕ) (room : ℕ) {book : List Record} {q : Question} → records b ≡ some book → question_of p ≡ some q
    → length (lines_in (answered book q)) ≤ room → answered book q ≡ price b p room
unfolding price
answered_price b p room {book} {q} e f fits = rw (e, f) (go (answered book q) fits)
  where
    go : (r : Result Answer) → length (lines_in r) ≤ room → r ≡ (r >>= in_room room)
    go (refused n) h = refl
    go (done a) h = rw (le-leb (length (written a)) room h)

-- 1,584 bytes are enough for any
pub lines_few : (book : List Record) (p : List ℕ) (q : Question) → question_of p ≡ some q → length (lines_in (answered book q)) ≤ most_lines_size
lines_few book p q f = go (answered book q) refl
  where
    go : (r : Result Answer) → answered book q ≡ r → length (lines_in r) ≤ most_lines_size
    go (refused n) e = omega arith
    go (done a) e = omega (arith, ap (λ l. length (lines_bytes l)) (answered_are book q e), enough_room book q (question_sound p q f).granted)

module _ (b : List ℕ) (book : List Record) (e : records b ≡ some book) where
  singles : (room : ℕ) → most_lines_size ≤ room → (ps : List (List ℕ)) (qs : List Question) → Each ps qs
      → map (answered book) qs ≡ map (λ p. price b p room) ps
  singles room h [] [] f = refl
  singles room h [] (q ∷ qs) f = let z : ◌≡◌ {A = ℕ} 0 (length (map (λ q. some q) (q ∷ qs))) = ap length f in absurd (omega arith)
  singles room h (p ∷ ps) [] f = let z : ◌≡◌ {A = ℕ} (length (map question_of (p ∷ ps))) 0 = ap length f in absurd (omega arith)
  singles room h (p ∷ ps) (q ∷ qs) f =
      let first : question_of p ≡ some q = each_first p ps q qs f in
      let fits : length (lines_in (answered book q)) ≤ room = omega (arith, lines_few book p q first) in
      λ i. answered_price b p room e first fits i ∷ singles room h ps qs (each_rest p ps q qs f) i

pub basket_singles : (b s : List ℕ) (room : ℕ) (rs : List (Result Answer)) → basket b s room ≡ done rs
    → (qs : List Question) × (p : Parts s qs) × ((enough : ℕ) → most_lines_size ≤ enough → rs ≡ map (λ x. price b x enough) p.parts)
basket_singles b s room rs e =
    let x = basket_filled b s room rs e in
    let p = (questions_parts most_basket s x.questions x.are_questions).0 in
    (x.questions, p, λ enough h. sym x.are ∙ singles b x.book x.is_book enough h p.parts x.questions p.each)

-- ---- how many bytes

-- an answer has 33
pub answer_bytes_lem : (a : PriceAnswer) → length a.currency ≡ 3 → length (answer_bytes a) ≡ answer_size
answer_bytes_lem a h = omega (arith, length-append a.currency (bytes_of 8 a.lines ++ (bytes_of 4 a.unused ++ (a.unused_count ∷ []))), h)

abbrev pub Answers : List (List ℕ) → Type 0
Answers xs = All (λ x. length x ≡ answer_size) xs

answers_length : (xs : List (List ℕ)) → Answers xs → length (join xs) ≡ answer_size * length xs
answers_length [] h = refl
answers_length (x ∷ xs) h = length-append x (join xs) ∙ omega (arith, h.0, answers_length xs h.1)

answers_before : (xs : List (List ℕ)) → Answers xs → (j : ℕ) → j ≤ length xs → length (join (take j xs)) ≡ answer_size * j
answers_before xs h zero l = refl
answers_before [] h (suc j) l = absurd (omega arith)
answers_before (x ∷ xs) h (suc j) l = length-append x (join (take j xs)) ∙ omega (arith, h.0, answers_before xs h.1 j (omega arith))

module _ (book : List Record) (letters : All InLetters book) where
  pub answer_size_lem : (q : Question) → length (answer_in (answered book q)) ≡ answer_size
  unfolding shown
  answer_size_lem q = go (answered book q) (answered_currency book letters q)
    where
      go : (r : Result Answer) → ((a : Answer) → r ≡ done a → length a.currency ≡ 3) → length (answer_in r) ≡ answer_size
      go (refused n) h = refl
      go (done a) h = answer_bytes_lem (shown (done a)) (h a refl)

  pub answers_sized : (qs : List Question) → Answers (map answer_in (map (answered book) qs))
  answers_sized [] = tt
  answers_sized (q ∷ qs) = (answer_size_lem q, answers_sized qs)

  pub basket_size : (qs : List Question)
      → length (basket_bytes (map (answered book) qs)) ≡ answer_size * length qs + length (join (map lines_in (map (answered book) qs)))
  unfolding basket_bytes
  basket_size qs =
      let answers = map answer_in (map (answered book) qs) in
      let n : length answers ≡ length qs = length-map (map (answered book) qs) answer_in ∙ length-map qs (answered book) in
      length-append (join answers) (join (map lines_in (map (answered book) qs))) ∙ omega (arith, answers_length answers (answers_sized qs), n)

  lines_many : (ps : List (List ℕ)) (qs : List Question) → Each ps qs
      → length (join (map lines_in (map (answered book) qs))) ≤ most_lines_size * length qs
  lines_many [] [] f = omega arith
  lines_many [] (q ∷ qs) f = let z : ◌≡◌ {A = ℕ} 0 (length (map (λ q. some q) (q ∷ qs))) = ap length f in absurd (omega arith)
  lines_many (p ∷ ps) [] f = let z : ◌≡◌ {A = ℕ} (length (map question_of (p ∷ ps))) 0 = ap length f in absurd (omega arith)
  lines_many (p ∷ ps) (q ∷ qs) f =
      let one = lines_few book p q (each_first p ps q qs f) in
      let rest = lines_many ps qs (each_rest p ps q qs f) in
      omega (arith, length-append (lines_in (answered book q)) (join (map lines_in (map (answered book) qs))), one, rest)

  -- 33 bytes and 1,584 of lines for each of 200 questions are enough for any basket
  pub basket_few : (s : List ℕ) (qs : List Question) → questions_of most_basket s ≡ some qs
      → length (basket_bytes (map (answered book) qs)) ≤ most_basket_size
  basket_few s qs e =
      let x = questions_parts most_basket s qs e in
      let few : length qs ≤ most_basket = x.1 in
      omega (arith, basket_size qs, lines_many x.0.parts qs x.0.each)

-- with so much room 7 is never given
pub basket_not_seven : (b s : List ℕ) (room : ℕ) → most_basket_size ≤ room → Refuses (λ n. n ≡ 7 → ⊥) (basket b s room)
unfolding basket
basket_not_seven b s room h =
    found_refuses NotSeven 1 (records b) _ (λ e. omega arith) (λ book e.
    found_refuses NotSeven 2 (questions_of most_basket s) _ (λ e. omega arith) (λ qs f. go book qs (basket_few book (rows_in_letters b book e) s qs f)))
  where
    NotSeven : ℕ → Type 0
    NotSeven n = n ≡ 7 → ⊥

    go : (book : List Record) (qs : List Question) → length (basket_bytes (map (answered book) qs)) ≤ most_basket_size
        → Refuses NotSeven (refuse_unless 7 (leb (length (basket_bytes (map (answered book) qs))) room) >>= λ _. done (map (answered book) qs))
    go book qs l = rw (le-leb (length (basket_bytes (map (answered book) qs))) room (omega arith)) tt

-- ---- where in them

-- one of many byte strings stands behind those before it, whatever comes behind them all
joined_at : (xs : List (List ℕ)) (d t : List ℕ) (j : ℕ) → j < length xs
    → take (length (get_or xs j d)) (drop (length (join (take j xs))) (join xs ++ t)) ≡ get_or xs j d
joined_at [] d t j h = absurd (omega arith)
joined_at (x ∷ xs) d t zero h = ap (take (length x)) (append_assoc x (join xs) t) ∙ take_at x (join xs ++ t) (length x) refl
joined_at (x ∷ xs) d t (suc j) h =
    (λ i. take (length (get_or xs j d)) (drop (length-append x (join (take j xs)) i) (append_assoc x (join xs) t i)))
    ∙ (ap (take (length (get_or xs j d))) (drop-append-add x (join xs ++ t) (length (join (take j xs)))) ∙ joined_at xs d t j (omega arith))

module _ (b s : List ℕ) (room : ℕ) (rs : List (Result Answer)) (e : basket b s room ≡ done rs) (lent : List ℕ) (j : ℕ) (h : j < length rs) where
  sized : Answers (map answer_in rs)
  sized =
      let x = basket_filled b s room rs e in
      subst (λ (l : List (Result Answer)). Answers (map answer_in l)) x.are
      (answers_sized x.book (rows_in_letters b x.book x.is_book) x.questions)

  after : lent_after_basket (done rs) lent ≡ join (map answer_in rs) ++ (join (map lines_in rs) ++ drop (length (basket_bytes rs)) lent)
  unfolding lent_after basket_bytes
  after = append_assoc (join (map answer_in rs)) (join (map lines_in rs)) (drop (length (basket_bytes rs)) lent)

  -- the answer of the question at place j, from 0, stands at 33 times j,
  pub answer_at : take answer_size (drop (answer_size * j) (lent_after_basket (done rs) lent)) ≡ answer_in (get_or rs j (refused 0))
  answer_at =
      let k : j < length (map answer_in rs) = omega (arith, length-map rs answer_in) in
      let rest = join (map lines_in rs) ++ drop (length (basket_bytes rs)) lent in
      let d = answer_in (refused 0) in
      let own : length (get_or (map answer_in rs) j d) ≡ answer_size = all_at (λ x. length x ≡ answer_size) (map answer_in rs) d sized j k in
      let before : length (join (take j (map answer_in rs))) ≡ answer_size * j = answers_before (map answer_in rs) sized j (omega arith) in
      ap (λ (l : List ℕ). take answer_size (drop (answer_size * j) l)) after
      ∙ (λ i. take (sym own i) (drop (sym before i) (join (map answer_in rs) ++ rest)))
      ∙ (joined_at (map answer_in rs) d rest j k ∙ get_or-map answer_in rs j (refused 0))

  -- and its lines behind all answers and the lines of the questions before it
  pub lines_at : take (length (lines_in (get_or rs j (refused 0))))
      (drop (answer_size * length rs + length (join (take j (map lines_in rs)))) (lent_after_basket (done rs) lent))
      ≡ lines_in (get_or rs j (refused 0))
  lines_at =
      let k : j < length (map lines_in rs) = omega (arith, length-map rs lines_in) in
      let rest = drop (length (basket_bytes rs)) lent in
      let before = length (join (take j (map lines_in rs))) in
      let own : get_or (map lines_in rs) j [] ≡ lines_in (get_or rs j (refused 0)) = get_or-map lines_in rs j (refused 0) in
      let answers : answer_size * length rs ≡ length (join (map answer_in rs)) =
      ap (λ (n : ℕ). answer_size * n) (sym (length-map rs answer_in)) ∙ sym (answers_length (map answer_in rs) sized) in
      (λ i. take (length (sym own i)) (drop (answers i + before) (after i)))
      ∙ (ap (take (length (get_or (map lines_in rs) j []))) (drop-append-add (join (map answer_in rs)) (join (map lines_in rs) ++ rest) before)
      ∙ (joined_at (map lines_in rs) [] rest j k ∙ own))
