-- What a caller of the packaging call can rely on, whatever the bytes: said of any answer that the contract allows.
use Prim.Native.Nat.{ℕ, zero, suc, ◌<◌}
use mathlib.Core.Path.{◌≡◌, refl, sym, ◌∙◌, ap, subst}
use mathlib.Core.Bool.{Bool, true, false, ◌&&◌, ◌||◌, not, cond, false≢true}
use mathlib.Core.List.{List, [], ◌∷◌, map}
use mathlib.Core.Logic.{◌⊎◌, inl, inr}
use mathlib.Core.Option.{Option, some, none, some-injective}
use native.Mathlib.Omega.{arith}
use lib.IntN.{ℤ, pos, negsuc, ◌+ℤ◌, ◌*ℤ◌}
use lib.ListN.{get_or, replicate, get_or-replicate}
use lib.Signed.{non_neg, ◌≤ℤ◌}
use Rattle.integers.proofs.Signed.{le_of}
use Rattle.rules.specs.Lists.{same, all, first, pick, if_some}
use Rattle.rules.specs.Book.{Record, Pack, article_of, pack_of}
use Rattle.rules.specs.BookLayout.{records, has, eight, no_unit}
use Rattle.rules.specs.Question.{Question, question_of}
use Rattle.rules.specs.Refusals.{Result, done, refused, ◌>>=◌, or_refuse, refuse_unless}
use Rattle.rules.specs.Packaging.{used, present_in, value_in, is_given, units_given, unit_in, units_agree, three, tare, net, items, Packed, packed_of, packaging, shown}
use Rattle.rules.specs.declared.PackagingAnswer.{PackagingAnswer}
use Rattle.rules.proofs.TestLaws.{and_left, and_right}
use Rattle.rules.proofs.ListLaws.{All, all_each, same_eq}
use Rattle.rules.proofs.PackagingLaws.{Answered, packaging_answered, each_of_eight, set_has}
use Rattle.records.specs.Ensures.{PackBounds, units_in}
use Rattle.packed.specs.Answer.{summed}
use Rattle.packaging.proofs.CallLaws.{with_book, with_question, opened}
use Rattle.packaging.proofs.AbsentLaws.{used_sound, all_lack, unit_three, three_units}

-- ---- what is promised of an answer

-- its value i
abbrev pub value : PackagingAnswer → ℕ → ℤ
value a i = get_or a.values i (pos 0)

-- its unit of length 0, volume 1, weight 2
abbrev pub unit : PackagingAnswer → ℕ → List ℕ
unit a k = get_or (units_in a.units) k no_unit

abbrev pub Weighs : PackagingAnswer → Type 0
Weighs a = a.gross ≡ cond (all (λ i. has i a.present) (tare ∷ net ∷ items ∷ [])) (value a tare +ℤ value a net *ℤ value a items) (pos 0)

abbrev pub ZeroIfAbsent : PackagingAnswer → Type 0
ZeroIfAbsent a = (i : ℕ) → i < 8 → has i a.present ≡ false → value a i ≡ pos 0

abbrev pub NoneBelow : PackagingAnswer → Type 0
NoneBelow a = ((i : ℕ) → i < 8 → pos 0 ≤ℤ value a i) × (pos 0 ≤ℤ a.gross)

abbrev pub Refusal : ℕ → Type 0
Refusal n = (n ≡ 1) ⊎ ((n ≡ 2) ⊎ ((n ≡ 3) ⊎ ((n ≡ 8) ⊎ (n ≡ 11))))

abbrev pub Zeros : PackagingAnswer → Type 0
Zeros a = (a.number ≡ 0 → ⊥) → Refusal a.number × (a ≡ record {
  gross = pos 0;
  values = replicate 8 (pos 0);
  number = a.number;
  present = 0;
  units = replicate 9 0;
})

-- ---- of what some records come to

-- what holds of each of the three units, at any number below 3
each_of_three : (P : ℕ → Type 0) → All P three → (k : ℕ) → k < 3 → P k
each_of_three P h zero l = h.0
each_of_three P h (suc zero) l = h.1.0
each_of_three P h (suc (suc zero)) l = h.1.1.0
each_of_three P h (suc (suc (suc k))) l = absurd (omega arith)

module _ (us : List Pack) where
  abbrev answer : PackagingAnswer
  answer = shown (done (packed_of us))

  value_is : (i : ℕ) → i < 8 → value answer i ≡ value_in us i
  unfolding shown packed_of
  value_is = each_of_eight (λ i. value answer i ≡ value_in us i) (refl, (refl, (refl, (refl, (refl, (refl, (refl, (refl, tt))))))))

  present_is : (i : ℕ) → i < 8 → has i answer.present ≡ present_in us i
  unfolding shown packed_of
  present_is i l = set_has (present_in us) i l

  weighs : Weighs answer
  unfolding shown packed_of
  weighs = sym (λ i. cond (present_is 4 (omega arith) i && (present_is 5 (omega arith) i && (present_is 6 (omega arith) i && true))) (value_in us tare +ℤ value_in us net *ℤ value_in us items) (pos 0))

  module _ (sound : All PackBounds us) where
    absent : ZeroIfAbsent answer
    absent i l e = value_is i l ∙ all_lack us sound i l (sym (present_is i l) ∙ e)

    unit_is : (k : ℕ) → k < 3 → unit answer k ≡ unit_in us k
    unfolding shown packed_of
    unit_is k l = ap (λ (ls : List (List ℕ)). get_or ls k no_unit) (three_units (unit_in us 0) (unit_in us 1) (unit_in us 2) (unit_three us sound 0) (unit_three us sound 1) (unit_three us sound 2))
        ∙ each_of_three (λ k. get_or (map (unit_in us) three) k no_unit ≡ unit_in us k) (refl, (refl, (refl, tt))) k l

  module _ (signs : all (λ i. non_neg (value_in us i)) eight ≡ true) where
    sign : (i : ℕ) → i < 8 → non_neg (value answer i) ≡ true
    sign i l = ap non_neg (value_is i l) ∙ each_of_eight (λ i. non_neg (value_in us i) ≡ true) (all_each (λ i. non_neg (value_in us i)) eight signs) i l

    not_below : (z : ℤ) → non_neg z ≡ true → pos 0 ≤ℤ z
    not_below (pos n) e = le_of (omega arith)
    not_below (negsuc n) e = absurd (false≢true e)

    gross_sign : (x y z : ℤ) → non_neg x ≡ true → non_neg y ≡ true → non_neg z ≡ true → (b : Bool) → non_neg (cond b (x +ℤ y *ℤ z) (pos 0)) ≡ true
    gross_sign (pos x) (pos y) (pos z) e f g true = refl
    gross_sign (pos x) (pos y) (negsuc z) e f g true = absurd (false≢true g)
    gross_sign (pos x) (negsuc y) z e f g true = absurd (false≢true f)
    gross_sign (negsuc x) y z e f g true = absurd (false≢true e)
    gross_sign x y z e f g false = refl

    none_below : NoneBelow answer
    none_below = (
      λ i l. not_below (value answer i) (sign i l),
      not_below answer.gross
          (ap non_neg weighs
          ∙ gross_sign (value answer tare) (value answer net) (value answer items) (sign 4 (omega arith)) (sign 5 (omega arith)) (sign 6 (omega arith)) (all (λ i. has i answer.present) (tare ∷ net ∷ items ∷ []))),
    )

-- a unit that no record gives
none_given : (us : List Pack) (k : ℕ) → all (λ u. not (is_given (get_or u.units k no_unit))) us ≡ true → unit_in us k ≡ no_unit
none_given [] k e = refl
none_given (u ∷ us) k e = go (is_given (get_or u.units k no_unit)) (and_left (not (is_given (get_or u.units k no_unit))) _ e) (none_given us k (and_right (not (is_given (get_or u.units k no_unit))) _ e))
  where
    go : (b : Bool) → not b ≡ true → unit_in us k ≡ no_unit → if_some (pick b (get_or u.units k no_unit) (first is_given (units_given us k))) no_unit (λ u. u) ≡ no_unit
    go true f ih = absurd (false≢true f)
    go false f ih = ih

-- a unit that is given where all agree
agreed : (held : List ℕ) (us : List Pack) (k : ℕ) → all (λ u. not (is_given u) || same u held) (units_given us k) ≡ true
    → All (λ u. is_given (get_or u.units k no_unit) ≡ true → get_or u.units k no_unit ≡ held) us
agreed held [] k e = tt
agreed held (u ∷ us) k e = (
  λ f. same_eq (get_or u.units k no_unit) held (sym (ap (λ (b : Bool). not b || same (get_or u.units k no_unit) held) f) ∙ and_left (not (is_given (get_or u.units k no_unit)) || same (get_or u.units k no_unit) held) _ e),
  agreed held us k (and_right (not (is_given (get_or u.units k no_unit)) || same (get_or u.units k no_unit) held) _ e),
)

one_given : (us : List Pack) → All PackBounds us → all (units_agree us) three ≡ true → (k : ℕ) → k < 3
    → All (λ u. is_given (get_or u.units k no_unit) ≡ true → get_or u.units k no_unit ≡ unit (shown (done (packed_of us))) k) us
one_given us sound e k l =
    subst (λ (held : List ℕ). All (λ u. is_given (get_or u.units k no_unit) ≡ true → get_or u.units k no_unit ≡ held) us) (sym (unit_is us sound k l))
    (agreed (unit_in us k) us k (each_of_three (λ k. units_agree us k ≡ true) (all_each (units_agree us) three e) k l))

-- ---- the refusals

abbrev Refused : Result Packed → Type 0
Refused (done p) = Unit {0}
Refused (refused n) = Refusal n

chain : {A : Type 0} (n : ℕ) → Refusal n → (o : Option A) (f : A → Result Packed) → ((x : A) → Refused (f x)) → Refused (or_refuse n o >>= f)
chain n h none f k = h
chain n h (some x) f k = k x

last : (us : List Pack) → Refused (summed us)
unfolding summed
last us = go (all (units_agree us) three && all (λ i. non_neg (value_in us i)) eight)
  where
    go : (t : Bool) → Refused (refuse_unless 11 t >>= λ _. done (packed_of us))
    go true = tt
    go false = inr (inr (inr (inr refl)))

refusals : (b s : List ℕ) → Refused (packaging b s)
refusals b s =
    subst Refused (sym (opened b s))
    (chain 1 (inl refl) (records b) (with_book s) λ book.
    chain 2 (inr (inl refl)) (question_of s) (with_question book) λ q.
    chain 3 (inr (inr (inl refl))) (article_of book q.article) (λ _. or_refuse 8 (pack_of book q.article []) >>= λ p. summed (used book q p)) λ _.
    chain 8 (inr (inr (inr (inl refl)))) (pack_of book q.article []) (λ p. summed (used book q p)) λ p. last (used book q p))

-- ---- the promises

module _ (b s : List ℕ) {a : PackagingAnswer} (e : a ≡ shown (packaging b s)) where
  -- what is so of a refusal and of an answered call
  by_cases : (P : PackagingAnswer → Type 0) → ((n : ℕ) → Refusal n → P (shown (refused n)))
      → ((p : Packed) (x : Answered b s p) → P (shown (done (packed_of (used x.book x.question x.pack))))) → P a
  by_cases P r d = subst P (sym e) (go (packaging b s) refl (refusals b s))
    where
      go : (x : Result Packed) → packaging b s ≡ x → Refused x → P (shown x)
      go (done p) f h = let x = packaging_answered b s p f in subst (λ (q : Packed). P (shown (done q))) x.is (d p x)
      go (refused n) f h = r n h

  -- The gross weight is tare plus net times items, of the values as they are listed, where all three are present; else it is 0.
  pub gross_right : Weighs a
  unfolding shown
  gross_right = by_cases Weighs (λ n h. refl) (λ y x. weighs (used x.book x.question x.pack))

  -- A value that is not present is 0.
  pub absent_is_zero : ZeroIfAbsent a
  unfolding shown
  absent_is_zero = by_cases ZeroIfAbsent (λ n h i l f. get_or-replicate 8 i (pos 0) (pos 0) l) (λ y x. absent (used x.book x.question x.pack) (used_sound x))

  -- No value is below 0, nor is the gross weight.
  pub none_below_zero : NoneBelow a
  unfolding shown
  none_below_zero =
      by_cases NoneBelow (λ n h. (λ i l. rw (get_or-replicate 8 i (pos 0) (pos 0) l) (le_of (omega arith)), le_of (omega arith)))
      (λ y x. none_below (used x.book x.question x.pack) (and_right (all (units_agree (used x.book x.question x.pack)) three) _ x.sound))

  -- A number other than 0 is 1, 2, 3, 8 or 11, and the answer beside it is all zeros.
  pub refused_with_zeros : Zeros a
  unfolding shown
  refused_with_zeros = by_cases Zeros (λ n h f. (h, refl)) (λ y x f. absurd (f refl))

  -- There is one answer: two that the contract allows are the same.
  pub one_answer : {c : PackagingAnswer} → c ≡ shown (packaging b s) → a ≡ c
  one_answer f = e ∙ sym f

  module _ (book : List Record) (q : Question) (p : Pack) (is_book : records b ≡ some book) (is_question : question_of s ≡ some q) (has_pack : pack_of book q.article [] ≡ some p) where
    the_used : {y : Packed} (x : Answered b s y) → used x.book x.question x.pack ≡ used book q p
    the_used x =
        let i : x.book ≡ book = some-injective x.book book (sym x.is_book ∙ is_book) in
        let j : x.question ≡ q = some-injective x.question q (sym x.is_question ∙ is_question) in
        let k : x.pack ≡ p = some-injective x.pack p (sym x.has_pack ∙ (λ t. pack_of (i t) (j t).article []) ∙ has_pack) in
        λ t. used (i t) (j t) (k t)

    module _ (k : ℕ) (l : k < 3) where
      -- A unit that no used record gives is answered by three zeros.
      pub no_unit_lem : all (λ u. not (is_given (get_or u.units k no_unit))) (used book q p) ≡ true → unit a k ≡ no_unit
      unfolding shown
      no_unit_lem f =
          by_cases (λ a. unit a k ≡ no_unit) (λ n h. each_of_three (λ k. get_or (units_in (replicate 9 0)) k no_unit ≡ no_unit) (refl, (refl, (refl, tt))) k l)
          (λ y x. unit_is (used x.book x.question x.pack) (used_sound x) k l ∙ ap (λ (us : List Pack). unit_in us k) (the_used x) ∙ none_given (used book q p) k f)

      -- Each used record that gives a unit gives the one that is answered.
      pub one_unit : a.number ≡ 0 → All (λ u. is_given (get_or u.units k no_unit) ≡ true → get_or u.units k no_unit ≡ unit a k) (used book q p)
      unfolding shown
      one_unit =
          by_cases (λ a. a.number ≡ 0 → All (λ u. is_given (get_or u.units k no_unit) ≡ true → get_or u.units k no_unit ≡ unit a k) (used book q p)) (λ n h z. absurd (not_zero n h z))
          (λ y x z. subst (All _) (the_used x) (one_given (used x.book x.question x.pack) (used_sound x) (and_left (all (units_agree (used x.book x.question x.pack)) three) _ x.sound) k l))
        where
          not_zero : (n : ℕ) → Refusal n → n ≡ 0 → ⊥
          not_zero n (inl f) z = omega arith
          not_zero n (inr (inl f)) z = omega arith
          not_zero n (inr (inr (inl f))) z = omega arith
          not_zero n (inr (inr (inr (inl f)))) z = omega arith
          not_zero n (inr (inr (inr (inr f)))) z = omega arith
