-- Whose a record is: kinds 1 and 2 start with the number of an article, and what stands there in the record stands there in the book.
use Prim.Native.Nat.{ℕ, ◌+◌, ◌-◌, ◌≤◌, ◌<◌}
use mathlib.Core.Path.{◌≡◌, refl, sym, ◌∙◌, ap}
use mathlib.Core.Bool.{Bool, true, false, ◌&&◌, ◌||◌, not, false≢true}
use mathlib.Core.List.{List}
use mathlib.Core.Option.{Option, some, none, none-ne-some, some-injective}
use native.Mathlib.Omega.{arith}
use native.Mathlib.Decide.{ℕ_discrete}
use lib.Dec.{T, eqb}
use lib.ListN.{length, take, drop, get_or}
use borrow.Author.Tests.{ne_eqb, eqb-true}
use Rattle.std.specs.Prelude as Std
use Rattle.rules.specs.Lists.{same}
use Rattle.rules.specs.Layout.{whole}
use Rattle.rules.specs.Book.{Record, ArticleRecord, PriceRecord, RoundingRecord, PackagingRecord, SchemeRecord}
use Rattle.rules.specs.BookLayout.{kinded}
use Rattle.rules.proofs.ListLaws.{same_eq, same_refl}
use Rattle.rules.proofs.TestLaws.{and_left, and_right}
use Rattle.layout.specs.Reads.{part, name_stop}
use Rattle.layout.specs.Ensures.{Says, Number}
use Rattle.layout.proofs.PartLaws.{part_within, part_length}
use Rattle.records.specs.Asks.{Accepted}
use Rattle.records.specs.Tests.{starts_with}
use Rattle.records.proofs.FieldLaws.{kind_byte, first_long, first_in, starts_is, accepted_long}
use Rattle.wanted.specs.declared.last.Last.{Last}
use Rattle.questions.specs.declared.Name.{Name}
use Rattle.wanted.specs.Table.{FoundOr}
use Rattle.wanted.specs.Entries.{of_article}
use Rattle.wanted.specs.Last.{PartOf, RecordAt, LastIs, LastNamed, LastAfter}

-- ---- a name

pub first_is : {b bs : List ℕ} {names : List Name} {n : ℕ} {r : Std.Option ℕ} → FoundOr bs names n (take (0 - 0) (drop 0 b)) r
    → LastIs b bs names n (record { from = 0; to = 0; rank = r })
first_is f = record { low = omega arith; fits = omega arith; found = f }

module _ {b bs : List ℕ} {names : List Name} {n from to : ℕ} where
  pub named_same : {last : Last} → LastIs b bs names n last → {r : Bool}
      → Says (same (take (last.to - last.from) (drop last.from b)) (take (to - from) (drop from b))) r → r ≡ true
      → LastNamed b bs names n from to last
  named_same {last} is s t = record { is = is; name = same_eq (part b last.from last.to) (part b from to) (s.is ∙ t) }

  pub named_new : PartOf b from to → {r : Std.Option ℕ} → FoundOr bs names n (take (to - from) (drop from b)) r
      → LastNamed b bs names n from to (record { from = from; to = to; rank = r })
  named_new p f = record { is = record { low = p.low; fits = p.fits; found = f }; name = refl }

-- ---- a record by itself

module _ {t : List ℕ} (p : Accepted t) (h : (eqb (get_or t 0 0) 1 || eqb (get_or t 0 0) 2) ≡ true) where
  not_three : T (not (eqb (get_or t 0 0) 3))
  not_three = go (ℕ_discrete (get_or t 0 0) 3)
    where
      go : Dec (get_or t 0 0 ≡ 3) → T (not (eqb (get_or t 0 0) 3))
      go (yes e) = absurd (false≢true (sym (ap (λ (k : ℕ). eqb k 1 || eqb k 2) e) ∙ h))
      go (no n) = rw (ne_eqb (get_or t 0 0) 3 n) tt

  long : 1 < length t
  long = first_long t (get_or t 0 0) not_three p refl

  module _ {x : ℕ} (n : Number (get_or t 1 0) 256 x) where
    stop : Number (name_stop t 1) (2 + x + 1) (2 + x)
    stop = record { is = omega (arith, n.is); below = omega arith }

    inside : 2 + x ≤ length t
    inside = first_in t (get_or t 0 0) not_three p refl stop

    named : of_article (whole kinded t) ≡ some (part t 2 (2 + x))
    unfolding starts_with of_article
    named = go (whole kinded t) (starts_is t (get_or t 0 0) not_three p refl stop (part t 2 (2 + x)) (record { is = same_refl (part t 2 (2 + x)) })).is
      where
        -- no other kind starts so
        other : (k : ℕ) (b : Bool) → (eqb k 1 || eqb k 2) ≡ false → (eqb k (get_or t 0 0) && b) ≡ true → ⊥
        other k b f e = false≢true (sym f ∙ ap (λ (j : ℕ). eqb j 1 || eqb j 2) (eqb-true k (get_or t 0 0) (and_left (eqb k (get_or t 0 0)) b e)) ∙ h)

        go : (o : Option Record) → starts_with (get_or t 0 0) (part t 2 (2 + x)) o ≡ true → of_article o ≡ some (part t 2 (2 + x))
        go none e = absurd (false≢true e)
        go (some (ArticleRecord a)) e =
            ap some (same_eq a.number (part t 2 (2 + x)) (and_right (eqb 1 (get_or t 0 0)) (same a.number (part t 2 (2 + x))) e))
        go (some (PriceRecord r)) e =
            ap some (same_eq r.article (part t 2 (2 + x)) (and_right (eqb 2 (get_or t 0 0)) (same r.article (part t 2 (2 + x))) e))
        go (some (RoundingRecord r)) e = absurd (other 3 _ refl e)
        go (some (PackagingRecord r)) e = absurd (other 4 _ refl e)
        go (some (SchemeRecord r)) e = absurd (other 5 _ refl e)

of_none : {t : List ℕ} → Accepted t → (eqb (get_or t 0 0) 1 || eqb (get_or t 0 0) 2) ≡ false → (x : List ℕ) → of_article (whole kinded t) ≡ some x → ⊥
unfolding of_article
of_none {t} p f = go (whole kinded t) refl
  where
    go : (o : Option Record) → whole kinded t ≡ o → (x : List ℕ) → of_article o ≡ some x → ⊥
    go none i x e = none-ne-some x e
    go (some (ArticleRecord a)) i x e = false≢true (sym f ∙ ap (λ (k : ℕ). eqb k 1 || eqb k 2) (kind_byte t (ArticleRecord a) i))
    go (some (PriceRecord r)) i x e = false≢true (sym f ∙ ap (λ (k : ℕ). eqb k 1 || eqb k 2) (kind_byte t (PriceRecord r) i))
    go (some (RoundingRecord r)) i x e = none-ne-some x e
    go (some (PackagingRecord r)) i x e = none-ne-some x e
    go (some (SchemeRecord r)) i x e = none-ne-some x e

-- ---- where it stands in the book

module _ {b : List ℕ} {start end : ℕ} (p : RecordAt b start end) where
  pub last_some : 0 < length (take (end - start) (drop start b))
  last_some = accepted_long p.accepted

  pub last_none : {bs : List ℕ} {names : List Name} {n : ℕ} {last : Last} → LastIs b bs names n last
      → (eqb (get_or (take (end - start) (drop start b)) 0 0) 1 || eqb (get_or (take (end - start) (drop start b)) 0 0) 2) ≡ false
      → LastAfter b bs names n (whole kinded (part b start end)) last
  last_none is f = record { is = is; own = λ x e. absurd (of_none p.accepted f x e) }

  module _ (h : (eqb (get_or (take (end - start) (drop start b)) 0 0) 1 || eqb (get_or (take (end - start) (drop start b)) 0 0) 2) ≡ true) where
    pub last_long : 1 < length (take (end - start) (drop start b))
    last_long = long p.accepted h

    module _ {x : ℕ} (n : Number (get_or (take (end - start) (drop start b)) 1 0) 256 x) where
      in_book : start + 2 + x ≤ length b
      in_book = omega (arith, inside p.accepted h n, part_length b start end p.fits, p.low, p.fits)

      pub last_part : PartOf b (start + 2) (start + 2 + x)
      last_part = record { low = omega arith; fits = in_book }

      its_name : of_article (whole kinded (part b start end)) ≡ some (part b (start + 2) (start + 2 + x))
      its_name =
          let e : 2 + x - 2 ≡ x = omega arith in
          named p.accepted h n
          ∙ ap some (ap (λ (k : ℕ). take k (drop 2 (part b start end))) e
          ∙ part_within b start end 2 x (omega (arith, inside p.accepted h n, part_length b start end p.fits)))

      its : (y : List ℕ) → of_article (whole kinded (part b start end)) ≡ some y → part b (start + 2) (start + 2 + x) ≡ y
      its y e = some-injective (part b (start + 2) (start + 2 + x)) y (sym its_name ∙ e)

      pub last_named : {bs : List ℕ} {names : List Name} {k : ℕ} {r : Last} → LastNamed b bs names k (start + 2) (start + 2 + x) r
          → LastAfter b bs names k (whole kinded (part b start end)) r
      last_named r = record { is = r.is; own = λ y e. r.name ∙ its y e }
