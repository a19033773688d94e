-- What a caller of the text call can rely on, whatever the bytes: said of any answer and any part that the contracts allow.
use Prim.Native.Nat.{ℕ}
use mathlib.Core.Path.{◌≡◌, refl, sym, ◌∙◌, subst, transport}
use mathlib.Core.List.{List}
use mathlib.Core.Logic.{◌⊎◌, inl, inr}
use native.Mathlib.Omega.{arith}
use denote.Ref.{Bor}
use Rattle.rules.specs.Refusals.{Result, done, refused}
use Rattle.rules.specs.Text.{Found, InAsked, InFallback, text, part, shown}
use Rattle.rules.specs.declared.TextAnswer.{TextAnswer}
use Rattle.texts.specs.Ensures.{Handed, IsPart, lender}
use Rattle.texts.specs.Looks.{Looked, Looks}
use Rattle.texts.proofs.StandLaws.{Stands}
use Rattle.texts.proofs.TextLaws.{OneOfTwo, text_refused, fallback_stands, asked_stands, lends_fallback, lends_asked}

-- ---- the answer

abbrev InOne : TextAnswer → Type 0
InOne a = a.number ≡ 0 → (a.book ≡ 1) ⊎ (a.book ≡ 2)

abbrev Zeros : TextAnswer → Type 0
Zeros a = (a.number ≡ 0 → ⊥) → ((a.number ≡ 1) ⊎ (a.number ≡ 12)) × (a ≡ record {
  place = 0;
  length = 0;
  number = a.number;
  book = 0;
})

in_one : (x : Result Found) → OneOfTwo x → InOne (shown x)
unfolding shown
in_one (done (InAsked e)) p h = inl refl
in_one (done (InFallback e)) p h = inr refl
in_one (refused k) (inl j) h = absurd (omega arith)
in_one (refused k) (inr j) h = absurd (omega arith)

zeros : (x : Result Found) → OneOfTwo x → Zeros (shown x)
unfolding shown
zeros (done f) p h = absurd (h refl)
zeros (refused k) p h = (p, refl)

module _ (s t : List ℕ) (n : ℕ) {a : TextAnswer} (e : a ≡ shown (text s t n)) where
  -- An answer that names the asked book names a part of it: place and length lie in the book, and the bytes there are the text.
  pub stands_in_asked : a.book ≡ 1 → Stands s a.place a.length (part (text s t n))
  stands_in_asked h = asked_stands s t n e (λ k. omega arith)

  -- One that names the fallback book names a part of that.
  pub stands_in_fallback : a.book ≡ 2 → Stands t a.place a.length (part (text s t n))
  stands_in_fallback h = fallback_stands s t n e h

  -- Number 0 goes with the asked book or the fallback book.
  pub found_in_one : a.number ≡ 0 → (a.book ≡ 1) ⊎ (a.book ≡ 2)
  found_in_one = subst InOne (sym e) (in_one (text s t n) (text_refused s t n))

  -- Any other number is 1 or 12, and the answer beside it is all zeros.
  pub refused_with_zeros : (a.number ≡ 0 → ⊥) → ((a.number ≡ 1) ⊎ (a.number ≡ 12)) × (a ≡ record {
    place = 0;
    length = 0;
    number = a.number;
    book = 0;
  })
  refused_with_zeros = subst Zeros (sym e) (zeros (text s t n) (text_refused s t n))

  -- There is one answer: two that the contract allows are the same.
  pub one_answer : {b : TextAnswer} → b ≡ shown (text s t n) → a ≡ b
  one_answer f = e ∙ sym f

-- A look has one result.
pub one_look : {want r r' : Looked} → Looks want r → Looks want r' → r ≡ r'
one_look p q = sym p.is ∙ q.is

-- ---- the part

module _ (asked fallback : Bor (List ℕ)) (n : ℕ) {r : Bor (List ℕ)} (p : Handed asked fallback n r) where
  -- There is one part: of two that the contract allows the bytes are the same, and they lie at the same place of the same block.
  pub one_part : {r' : Bor (List ℕ)} → Handed asked fallback n r' → (r.now ≡ r'.now) × (r.ref_ptr.0 ≡ r'.ref_ptr.0) × (r.ref_ptr.1 ≡ r'.ref_ptr.1)
  one_part q = (p.contents ∙ sym q.contents, p.lies.block ∙ sym q.lies.block, p.lies.offset ∙ sym q.lies.offset)

  module _ {a : TextAnswer} (e : a ≡ shown (text asked.now fallback.now n)) where
    lies_where : (b : Bor (List ℕ)) → lender asked fallback (text asked.now fallback.now n) ≡ b → IsPart b a.place a.length r
    lies_where b l = transport (λ i. IsPart (l i) (sym e i).place (sym e i).length r) p.lies

    -- Part and answer say the same: where the answer names the fallback book, the part is of that book, at the answer's place and as long as it says,
    pub part_of_fallback : a.book ≡ 2 → IsPart fallback a.place a.length r
    part_of_fallback h = lies_where fallback (lends_fallback asked fallback (text asked.now fallback.now n) e h)

    -- and else of the asked book; of a refused call that is its first 0 bytes. So an empty text that is found and a refusal, alike as parts, differ in the answer's number.
    pub part_of_asked : (a.book ≡ 2 → ⊥) → IsPart asked a.place a.length r
    part_of_asked h = lies_where asked (lends_asked asked fallback (text asked.now fallback.now n) e h)
