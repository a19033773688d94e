-- A question that grants none, with names put into its bytes, is the same question with these names granted.
use Prim.Native.Nat.{ℕ, zero, suc, ◌+◌, ◌-◌, ◌≤◌, ◌<◌}
use mathlib.Core.Path.{◌≡◌, refl, sym, ◌∙◌, ap, subst}
use mathlib.Core.Bool.{Bool, true, false, ◌||◌}
use mathlib.Core.List.{List, [], ◌∷◌, ◌++◌, append_assoc}
use mathlib.Core.Option.{some, none-ne-some, some-injective}
use native.Mathlib.Omega.{arith}
use lib.Dec.{eqb}
use lib.ListN.{length, take, drop, get_or, length-append, length-drop}
use lib.Seq.{take_at, drop_at, drop-drop, drop-cons}
use borrow.Author.Tests.{eq-eqb, leb-true}
use Rattle.rules.specs.Lists.{same, between, all, any}
use Rattle.rules.specs.Layout.{Layout, and_then, ◌>>=◌, give, give_if, ◌such◌, byte, times, whole, wholly}
use Rattle.rules.specs.Bytes.{big, one_of, head_of, capitals, bytes_of}
use Rattle.rules.specs.Days.{is_day}
use Rattle.rules.specs.Book.{sale, purchase}
use Rattle.rules.specs.Question.{Question, Granted, Property, no_currency, asked_of, property, granted_in, versions, question_body, question_layout, question_of, count_at}
use Rattle.rules.proofs.GivesLaws.{gives_name, gives_such, gives_times}
use Rattle.rules.proofs.QuestionsLaws.{own_length_lem}
use Rattle.rules.proofs.TestLaws.{and_right, between_high, is_between}
use Rattle.rules.proofs.TakesLaws.{whole_end}
use Rattle.layout.specs.Reads.{only}
use Rattle.layout.specs.Ensures.{question_head_ok}
use Rattle.layout.proofs.LayoutLaws.{and_then_some}
use Rattle.layout.proofs.StoreLaws.{number_back}
use Rattle.layout.proofs.FromLaws.{question_head_reads}
use Rattle.question.proofs.RedateLaws.{Reading, reading_such, reading_byte, reading_one_of, reading_name, reading_number, such_bytes, such_back}
use Rattle.relation_rules.specs.Truth.{grantable}
use Rattle.relation_rules.specs.Derived.{grants_none, as_granted, granting, names_in, with_names}
use Rattle.derive.specs.Written.{most_named}
use Rattle.derive.proofs.NameLaws.{names_again, names_short}
use Rattle.derive.proofs.ShortLaws.{reading_sure, short_properties}

-- ---- two small things

first_byte : (s : List ℕ) (n : ℕ) (t : List ℕ) → (byte such between 0 32) s ≡ some (n, t) → s ≡ n ∷ t
first_byte [] n t e = absurd (none-ne-some (n, t) e)
first_byte (b ∷ s) n t e = let x = such_back (between 0 32 b) b n s t e in λ i. (x.1 i).0 ∷ (x.1 i).1

none_read : {A : Type 0} (m : Layout A) (n : ℕ) → n ≡ 0 → (s : List ℕ) (v : List A) (t : List ℕ) → times n m s ≡ some (v, t) → s ≡ t
none_read m zero z s v t e = ap (λ w. w.1) (some-injective ([], s) (v, t) e)
none_read m (suc n) z s v t e = absurd (omega (arith, z))

-- ---- the names

module _ (version : ℕ) (names : List (List ℕ)) where
  -- m reads a question that grants none off the front of s, and with the names behind their count the one that grants them
  record Put (m : Layout Question) (R : Question → ℕ → Type 0) (s : List ℕ) (q : Question) (t : List ℕ) : Type 0 where
    ahead : List ℕ
    rest : List ℕ
    splits : s ≡ ahead ++ (0 ∷ rest)
    stands : R q (length ahead)
    again : m (ahead ++ (length names ∷ (names_in version names ++ rest))) ≡ some (granting q names, t)
    short : length rest ≤ length t + 1057

  record Puts (m : Layout Question) (R : Question → ℕ → Type 0) : Type 0 where
    puts : (s : List ℕ) (q : Question) (t : List ℕ) → m s ≡ some (q, t) → grants_none q ≡ true → Put m R s q t

  -- a field ahead of them
  puts_then : {A : Type 0} {m : Layout A} {P : A → ℕ → Type 0} {f : A → Layout Question} {Q : A → Question → ℕ → Type 0} → Reading m P → ((a : A) → Puts (f a) (Q a))
      → (R : Question → ℕ → Type 0) → ((a : A) (q : Question) (k j : ℕ) → P a k → Q a q j → R q (k + j)) → Puts (m >>= f) R
  puts_then {m = m} {P} {f} {Q} l n R sum = record {
    puts = λ s q t e none.
        let x = and_then_some (m s) f e in
        let r = l.reads s x.0.0 x.0.1 x.1 in
        let h : Put (f x.0.0) (Q x.0.0) x.0.1 q t = (n x.0.0).puts x.0.1 q t x.2 none in
        let w : List ℕ = length names ∷ (names_in version names ++ h.rest) in
        record {
          ahead = r.taken ++ h.ahead;
          rest = h.rest;
          splits = r.splits ∙ (ap (λ (u : List ℕ). r.taken ++ u) h.splits ∙ sym (append_assoc r.taken h.ahead (0 ∷ h.rest)));
          stands = subst (R q) (sym (length-append r.taken h.ahead)) (sum x.0.0 q (length r.taken) (length h.ahead) r.size h.stands);
          again = ap (λ (u : List ℕ). and_then (m u) f) (append_assoc r.taken h.ahead w) ∙ (ap (λ o. and_then o f) (r.again (h.ahead ++ w)) ∙ h.again);
          short = h.short;
        };
  }

  -- ---- behind the count

  -- for this article, with so many bytes ahead of the count
  abbrev For : List ℕ → ℕ → Question → ℕ → Type 0
  For article n q k = (q.article ≡ article) × (k ≡ n)

  module _ (article : List ℕ) (sort : ℕ) (currency : List ℕ) (date quantity : ℕ) where
    abbrev asked : List Granted → List Property → Question
    asked granted properties = record {
      article = article;
      sort = sort;
      currency = asked_of currency;
      date = date;
      quantity = quantity;
      granted = granted;
      properties = properties;
    }

    abbrev behind : List Granted → Layout Question
    behind granted = (byte such between 0 32) >>= λ count. times count property >>= λ properties. give (asked granted properties)

    -- what is read there is the question, whatever names it grants
    record Behind (granted : List Granted) (s : List ℕ) (q : Question) (t : List ℕ) : Type 0 where
      article_is : q.article ≡ article
      granted_is : q.granted ≡ granted
      again : behind (as_granted names) s ≡ some (granting q names, t)
      short : length s ≤ length t + 1057

    behind_reads : (granted : List Granted) (s : List ℕ) (q : Question) (t : List ℕ) → behind granted s ≡ some (q, t) → Behind granted s q t
    unfolding granting
    behind_reads granted s q t e =
        let x = and_then_some ((byte such between 0 32) s) (λ count. times count property >>= λ properties. give (asked granted properties)) e in
        let y = and_then_some (times x.0.0 property x.0.1) (λ properties. give (asked granted properties)) x.2 in
        let is = some-injective (asked granted y.0.0, y.0.1) (q, t) y.2 in
        let r = (reading_such reading_byte (between 0 32)).reads s x.0.0 x.0.1 x.1 in
        let few = between_high 0 32 x.0.0 ((gives_such byte (between 0 32)).sure s x.0.0 x.0.1 x.1) in
        record {
          article_is = ap (λ (w : Question × List ℕ). w.0.article) (sym is);
          granted_is = ap (λ (w : Question × List ℕ). w.0.granted) (sym is);
          again =
              ap (λ o. and_then o (λ count. times count property >>= λ properties. give (asked (as_granted names) properties))) x.1
              ∙ ap (λ o. and_then o (λ properties. give (asked (as_granted names) properties))) y.1
              ∙ (λ i. some (granting (is i).0 names, (is i).1));
          short = omega (
            arith,
            r.size,
            ap length r.splits,
            length-append r.taken x.0.1,
            (short_properties x.0.0 few).takes x.0.1 y.0.0 y.0.1 y.1,
            ap (λ (w : Question × List ℕ). length w.1) is,
          );
        }

    abbrev counted : Layout Question
    counted = (byte such between 0 32) >>= λ n. times n (granted_in version) >>= behind

    counted_puts : all grantable names ≡ true → length names ≤ 32 → Puts counted (For article 0)
    counted_puts good few = record {
      puts = λ s q t e none.
          let x = and_then_some ((byte such between 0 32) s) (λ n. times n (granted_in version) >>= behind) e in
          let n : ℕ = x.0.0 in
          let rest : List ℕ = x.0.1 in
          let y = and_then_some (times n (granted_in version) rest) behind x.2 in
          let b = behind_reads y.0.0 y.0.1 q t y.2 in
          let long : length y.0.0 ≡ n = (gives_times n (granted_in version)).sure rest y.0.0 y.0.1 y.1 in
          let zero_is : n ≡ 0 = omega (arith, long, ap length b.granted_is, leb-true (length q.granted) 0 none) in
          let left : rest ≡ y.0.1 = none_read (granted_in version) n zero_is rest y.0.0 y.0.1 y.1 in
          record {
            ahead = [];
            rest = rest;
            splits = first_byte s n rest x.1 ∙ ap (λ (k : ℕ). k ∷ rest) zero_is;
            stands = (b.article_is, refl);
            again =
                ap (λ (c : Bool). and_then (give_if c (length names) (names_in version names ++ rest)) (λ n. times n (granted_in version) >>= behind)) (is_between 0 32 (length names) (omega arith) few)
                ∙ ap (λ o. and_then o behind) (names_again version names good rest)
                ∙ ap (behind (as_granted names)) left
                ∙ b.again;
            short = omega (arith, ap length left, b.short);
          };
    }

  -- ---- a question

  -- so many bytes are ahead of the count
  abbrev Ahead : Question → ℕ → Type 0
  Ahead q k = (k ≡ 13 + length q.article) × (length q.article ≤ 40)

  body_puts : all grantable names ≡ true → length names ≤ 32 → Puts (question_body version) Ahead
  body_puts good few =
      let l =
      puts_then (reading_sure (reading_name 1 40) (gives_name 1 40)) (λ article.
      puts_then (reading_one_of (sale ∷ purchase ∷ [])) (λ sort.
      puts_then (such_bytes 3 (λ c. capitals c || same c no_currency)) (λ currency.
      puts_then (reading_such (reading_number 4) is_day) (λ date.
      puts_then (reading_such (reading_number 4) (between 1 100_000)) (λ quantity.
      counted_puts article sort currency date quantity good few)
      (For article 4) (λ a q k j p h. (h.0, omega (arith, h.1))))
      (For article 8) (λ a q k j p h. (h.0, omega (arith, h.1))))
      (For article 11) (λ a q k j p h. (h.0, omega (arith, p.1, h.1))))
      (For article 12) (λ a q k j p h. (h.0, omega (arith, h.1))))
      Ahead (λ a q k j p h. (omega (arith, p.0, h.1, ap length h.0), omega (arith, between_high 1 40 (length a) p.1, ap length h.0))) in
      l

-- ---- its bytes

only_some : {A : Type 0} (b : Bool) (x y : A) → some x ≡ only b y → (b ≡ true) × (x ≡ y)
only_some true x y e = (refl, some-injective x y e)
only_some false x y e = absurd (none-ne-some x (sym e))

-- the head of the new bytes, in the same version
head_again : (n version : ℕ) (t : List ℕ) → n < 4294967296 → any (eqb version) versions ≡ true → head_of versions n (bytes_of 4 n ++ (version ∷ t)) ≡ some (version, t)
head_again n version t h known =
    ap (λ (m : ℕ). and_then (give_if (eqb n m) m (version ∷ t)) (λ _. one_of versions)) (number_back 4 n h)
    ∙ ap (λ (b : Bool). and_then (give_if b n (version ∷ t)) (λ _. one_of versions)) (eq-eqb n n refl)
    ∙ ap (λ (b : Bool). give_if b version t) known

-- with names that a question can grant
module _ (s : List ℕ) (q : Question) (e : question_of s ≡ some q) (none : grants_none q ≡ true)
    (names : List (List ℕ)) (good : all grantable names ≡ true) (few : length names ≤ 32) where
  abbrev version : ℕ
  version = get_or s 4 0

  known_version : any (eqb version) versions ≡ true
  unfolding question_of
  known_version =
      let x = and_then_some (head_of versions (length s) s) question_body (whole_end (question_layout (length s) s) q e) in
      let head = only_some (question_head_ok s) x.0 (version, drop 5 s) (sym x.1 ∙ (question_head_reads s).is) in
      and_right (eqb (length s) (big (take 4 s))) (any (eqb version) versions) head.0

  body : question_body version (drop 5 s) ≡ some (q, [])
  unfolding question_of
  body =
      let x = and_then_some (head_of versions (length s) s) question_body (whole_end (question_layout (length s) s) q e) in
      let head = only_some (question_head_ok s) x.0 (version, drop 5 s) (sym x.1 ∙ (question_head_reads s).is) in
      ap (λ (w : ℕ × List ℕ). question_body w.0 w.1) (sym head.1) ∙ x.2

  put : Put version names (question_body version) (Ahead version names) (drop 5 s) q []
  put = (body_puts version names good few).puts (drop 5 s) q [] body none

  abbrev size : ℕ
  size = length s + length (names_in version names)

  abbrev behind_head : List ℕ
  behind_head = put.ahead ++ (length names ∷ (names_in version names ++ put.rest))

  five : 5 ≤ length s
  five = (own_length_lem s q e).1

  front : take (count_at q - 4) (drop 4 s) ≡ version ∷ put.ahead
  front =
      let at : suc (length put.ahead) ≡ count_at q - 4 = omega (arith, put.stands.0) in
      ap (take (count_at q - 4)) (drop-cons s 4 0 (omega (arith, five)) ∙ ap (λ (t : List ℕ). version ∷ t) put.splits)
      ∙ take_at (version ∷ put.ahead) (0 ∷ put.rest) (count_at q - 4) at

  back : drop (count_at q + 1) s ≡ put.rest
  back =
      let behind : count_at q + 1 ≡ 5 + (count_at q - 4) = omega arith in
      let at : length (put.ahead ++ (0 ∷ [])) ≡ count_at q - 4 = length-append put.ahead (0 ∷ []) ∙ omega (arith, put.stands.0) in
      ap (λ (k : ℕ). drop k s) behind
      ∙ sym (drop-drop (count_at q - 4) 5 s)
      ∙ ap (drop (count_at q - 4)) (put.splits ∙ sym (append_assoc put.ahead (0 ∷ []) put.rest))
      ∙ drop_at (put.ahead ++ (0 ∷ [])) put.rest (count_at q - 4) at

  bytes_are : with_names q names s ≡ bytes_of 4 size ++ (version ∷ behind_head)
  unfolding with_names
  bytes_are = λ i. bytes_of 4 size ++ (front i ++ (length names ∷ (names_in version names ++ back i)))

  pub named_long : length (with_names q names s) ≡ size
  named_long =
      ap length bytes_are
      ∙ omega (
        arith,
        five,
        length-drop 5 s,
        ap length put.splits,
        length-append put.ahead (0 ∷ put.rest),
        length-append put.ahead (length names ∷ (names_in version names ++ put.rest)),
        length-append (names_in version names) put.rest,
      )

  -- How long the bytes are at most.
  pub named_short : length (with_names q names s) ≤ most_named
  named_short = omega (
    arith,
    named_long,
    five,
    length-drop 5 s,
    ap length put.splits,
    length-append put.ahead (0 ∷ put.rest),
    put.stands.0,
    put.stands.1,
    put.short,
    names_short version names good,
    few,
  )

  -- The bytes with the names in them are a question, and it is the same question with these names granted.
  pub named_reads : question_of (with_names q names s) ≡ some (granting q names)
  unfolding question_of
  named_reads =
      ap question_of bytes_are
      ∙ ap (λ (k : ℕ). whole (question_layout k) (bytes_of 4 size ++ (version ∷ behind_head))) (sym (ap length bytes_are) ∙ named_long)
      ∙ ap (λ o. wholly (and_then o question_body)) (head_again size version behind_head (omega (arith, named_long, named_short)) known_version)
      ∙ ap wholly put.again
