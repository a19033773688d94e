-- The call read backwards: what an answered one rests on, and which refusals there are.
use Prim.Native.Nat.{ℕ, ◌≤◌}
use mathlib.Core.Path.{◌≡◌, refl, sym, ◌∙◌, ap, ap₂, subst}
use mathlib.Core.Bool.{true}
use mathlib.Core.List.{List}
use mathlib.Core.Option.{some, some-injective}
use mathlib.Core.Logic.{◌⊎◌, inl, inr}
use native.Mathlib.Omega.{arith}
use lib.Dec.{leb}
use lib.ListN.{length, take, drop}
use lib.Seq.{take_at, drop_at}
use borrow.Author.Tests.{leb-true}
use Rattle.rules.specs.Book.{Record, Article, article_of}
use Rattle.rules.specs.BookLayout.{records}
use Rattle.rules.specs.Question.{Question, question_of}
use Rattle.rules.specs.Refusals.{Result, done, refused, or_refuse, refuse_unless, lent_after}
use Rattle.rules.specs.FinalNumber.{final_number_of, final_number, shown, lent_after_number}
use Rattle.rules.specs.declared.Written.{Written}
use Rattle.rules.proofs.RefusalLaws.{then_done, or_done, unless_done, done_is, Refuses, or_refuses, unless_refuses}
use Rattle.final_number.specs.Ensures.{NumberCall}

-- ---- the definition

pub record Numbered (b s : List ℕ) (room : ℕ) (n : List ℕ) : Type 0 where
  pub book : List Record
  pub question : Question
  pub article : Article
  pub is_book : records b ≡ some book
  pub is_question : question_of s ≡ some question
  pub has_article : article_of book question.article ≡ some article
  pub is : final_number_of book question article ≡ n
  pub fits : length n ≤ room

pub numbered : (b s : List ℕ) (room : ℕ) (n : List ℕ) → final_number b s room ≡ done n → Numbered b s room n
unfolding final_number
numbered b s room n e =
    let x = then_done (or_refuse 1 (records b)) _ e in
    let y = then_done (or_refuse 2 (question_of s)) _ x.2 in
    let z = then_done (or_refuse 3 (article_of x.0 y.0.article)) _ y.2 in
    let w = then_done (refuse_unless 7 (leb (length (final_number_of x.0 y.0 z.0)) room)) _ z.2 in
    let i : final_number_of x.0 y.0 z.0 ≡ n = done_is (final_number_of x.0 y.0 z.0) n w.2 in
    record {
      book = x.0;
      question = y.0;
      article = z.0;
      is_book = or_done 1 (records b) x.1;
      is_question = or_done 2 (question_of s) y.1;
      has_article = or_done 3 (article_of x.0 y.0.article) z.1;
      is = i;
      fits = leb-true (length n) room (subst (λ (k : List ℕ). leb (length k) room ≡ true) i (unless_done 7 (leb (length (final_number_of x.0 y.0 z.0)) room) w.1));
    }

-- the same of any book, question and article that the bytes are
pub numbered_as : {b s : List ℕ} {room : ℕ} {n : List ℕ} → Numbered b s room n → (book : List Record) (q : Question) (a : Article) → records b ≡ some book → question_of s ≡ some q → article_of book q.article ≡ some a → n ≡ final_number_of book q a
numbered_as x book q a e f g =
    let i : x.book ≡ book = some-injective x.book book (sym x.is_book ∙ e) in
    let j : x.question ≡ q = some-injective x.question q (sym x.is_question ∙ f) in
    let k : x.article ≡ a = some-injective x.article a (sym x.has_article ∙ (ap₂ (λ rs (y : Question). article_of rs y.article) i j ∙ g)) in
    sym x.is ∙ (ap₂ (λ rs y. final_number_of rs y x.article) i j ∙ ap (final_number_of book q) k)

abbrev pub OneOfFour : ℕ → Type 0
OneOfFour k = (k ≡ 1) ⊎ ((k ≡ 2) ⊎ ((k ≡ 3) ⊎ (k ≡ 7)))

one_of_four : (b s : List ℕ) (room : ℕ) → Refuses OneOfFour (final_number b s room)
unfolding final_number
one_of_four b s room =
    or_refuses OneOfFour 1 (records b) _ (inl refl) (λ book.
    or_refuses OneOfFour 2 (question_of s) _ (inr (inl refl)) (λ q.
    or_refuses OneOfFour 3 (article_of book q.article) _ (inr (inr (inl refl))) (λ a.
    unless_refuses OneOfFour 7 (leb (length (final_number_of book q a)) room) _ (inr (inr (inr refl))) tt)))

-- ---- what the caller has: the answer and the bytes

-- number 0: the number stands in front, and behind it all is as it was
pub record Handed (b s old new : List ℕ) (r : Written) : Type 0 where
  pub text : List ℕ
  pub is : Numbered b s (length old) text
  pub long : r.length ≡ length text
  pub front : take r.length new ≡ text
  pub behind : drop r.length new ≡ drop r.length old

-- any other: zeros, and all is as it was
pub record Refused (old new : List ℕ) (r : Written) : Type 0 where
  pub known : OneOfFour r.number
  pub zeros : r ≡ record { length = 0; number = r.number }
  pub same : new ≡ old

not_zero : (k : ℕ) → OneOfFour k → k ≡ 0 → ⊥
not_zero k (inl e) z = omega arith
not_zero k (inr (inl e)) z = omega arith
not_zero k (inr (inr (inl e))) z = omega arith
not_zero k (inr (inr (inr e))) z = omega arith

module _ {b s old new : List ℕ} {r : Written} (call : NumberCall b s old new r) where
  pub handed : r.number ≡ 0 → Handed b s old new r
  unfolding shown lent_after
  handed z = go (final_number b s (length old)) refl call.answer call.lent (one_of_four b s (length old))
    where
      go : (x : Result (List ℕ)) → final_number b s (length old) ≡ x → r ≡ shown x → new ≡ lent_after_number x old → Refuses OneOfFour x → Handed b s old new r
      go (done n) e a l o =
          let long : r.length ≡ length n = ap (λ w. w.length) a in
          record {
            text = n;
            is = numbered b s (length old) n e;
            long = long;
            front = ap (take r.length) l ∙ take_at n (drop (length n) old) r.length (sym long);
            behind = ap (drop r.length) l ∙ (drop_at n (drop (length n) old) r.length (sym long) ∙ ap (λ (k : ℕ). drop k old) (sym long));
          }
      go (refused k) e a l o = absurd (not_zero k o (sym (ap (λ w. w.number) a) ∙ z))

  pub refused_is : (r.number ≡ 0 → ⊥) → Refused old new r
  unfolding shown lent_after
  refused_is n = go (final_number b s (length old)) call.answer call.lent (one_of_four b s (length old))
    where
      go : (x : Result (List ℕ)) → r ≡ shown x → new ≡ lent_after_number x old → Refuses OneOfFour x → Refused old new r
      go (done m) a l o = absurd (n (ap (λ w. w.number) a))
      go (refused k) a l o =
          let e : r.number ≡ k = ap (λ w. w.number) a in
          record { known = rw e o; zeros = a ∙ ap (λ (m : ℕ). record { length = 0; number = m }) (sym e); same = l }
