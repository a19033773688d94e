-- At which place a record is kept, and which record is the first there.
use Prim.Native.Nat.{ℕ, ◌<◌}
use mathlib.Core.Path.{◌≡◌, refl, sym, ◌∙◌, ap}
use mathlib.Core.Bool.{Bool, true, false, ◌&&◌, cond}
use mathlib.Core.List.{List}
use mathlib.Core.Option.{Option, some, none}
use native.Mathlib.Omega.{arith}
use lib.Dec.{eqb}
use lib.ListN.{take, drop}
use borrow.Author.Tests.{eq-eqb, ne_eqb}
use Rattle.rules.specs.Question.{Granted}
use Rattle.rules.specs.Lists.{same, first, pick, cons_some, if_some}
use Rattle.rules.specs.Layout.{whole}
use Rattle.rules.specs.Book.{Record, PackagingRecord, Pack, as_pack, packagings}
use Rattle.rules.specs.BookLayout.{kinded}
use Rattle.rules.proofs.KindLaws.{pack_kind, read_only}
use Rattle.layout.specs.Ensures.{Says}
use Rattle.records.specs.declared.packagings.Packing.{Packing}
use Rattle.records.specs.Tests.{starts_with}
use Rattle.records.specs.Ensures.{bytes_in, PackIs, pack_in}
use Rattle.records.proofs.TestLaws.{packaging_read}
use Rattle.grants.specs.Places.{place_of, PlaceIs}
use Rattle.packaging.specs.Spots.{pack_held, place_for, PlaceFor, first_at}

-- ---- the place of a record

module _ (table : List ℕ) (n : ℕ) (article t : List ℕ) {b : Bool} (s : Says (starts_with 4 article (whole kinded t)) b) where
  pub place_named : {p : Packing} {i : ℕ} → b ≡ true → PackIs t p
      → {condition : List ℕ} → condition ≡ bytes_in t p.condition → PlaceIs table n condition i → PlaceFor table n article (whole kinded t) i
  unfolding starts_with place_for pack_in
  place_named {p} {i} e h f k =
      let own : same (take p.article.size (drop p.article.at t)) article ≡ true = sym (ap (starts_with 4 article) h.is) ∙ s.is ∙ e in
      record { below = k.below; of = λ names g c. (k.of names g c).is ∙ rw (h.is, own) (ap (place_of names) f) }

  pub place_none : b ≡ false → PlaceFor table n article (whole kinded t) 33
  unfolding starts_with place_for
  place_none e = record { below = omega arith; of = λ names g c. go names (whole kinded t) (s.is ∙ e) }
    where
      held : (names : List Granted) (o : Option Pack) → if_some o false (λ p. same p.article article) ≡ false
          → 33 ≡ if_some o 33 (λ p. cond (same p.article article) (place_of names p.condition) 33)
      held names none f = refl
      held names (some p) f = rw f

      go : (names : List Granted) (o : Option Record) → starts_with 4 article o ≡ false → 33 ≡ place_for names article o
      go names none f = refl
      go names (some r) f = held names (as_pack r) (sym (packaging_read article r) ∙ f)

-- ---- the first at a place, when one more record stands in front

packs_more : (o : Option Record) (rs : List Record) → packagings (cons_some o rs) ≡ cons_some (pack_held o) (packagings rs)
packs_more none rs = refl
packs_more (some r) rs = refl

module _ (names : List Granted) (article : List ℕ) (rs : List Record) (i : ℕ) where
  abbrev belongs : Pack → Bool
  belongs p = same p.article article && eqb (place_of names p.condition) i

  more : (o : Option Record) → first_at names article (cons_some o rs) i ≡ first belongs (cons_some (pack_held o) (packagings rs))
  unfolding first_at
  more o = ap (first belongs) (packs_more o rs)

  pub first_passed : (o : Option Record) → (place_for names article o ≡ i → ⊥) → first_at names article (cons_some o rs) i ≡ first_at names article rs i
  unfolding place_for first_at
  first_passed o n = more o ∙ go (pack_held o) n
    where
      one : (p : Pack) (b : Bool) → (cond b (place_of names p.condition) 33 ≡ i → ⊥)
          → pick (b && eqb (place_of names p.condition) i) p (first belongs (packagings rs)) ≡ first belongs (packagings rs)
      one p true n = rw (ne_eqb (place_of names p.condition) i n)
      one p false n = refl

      go : (o : Option Pack) → (if_some o 33 (λ p. cond (same p.article article) (place_of names p.condition) 33) ≡ i → ⊥)
          → first belongs (cons_some o (packagings rs)) ≡ first belongs (packagings rs)
      go none n = refl
      go (some p) n = one p (same p.article article) n

  pub first_here : i < 33 → (o : Option Record) → place_for names article o ≡ i
      → (x : Pack) × (o ≡ some (PackagingRecord x)) × (first_at names article (cons_some o rs) i ≡ some x)
  unfolding place_for
  first_here l none e = absurd (omega arith)
  first_here l (some r) e = go (as_pack r) refl e
    where
      one : (p : Pack) (b : Bool) → cond b (place_of names p.condition) 33 ≡ i
          → pick (b && eqb (place_of names p.condition) i) p (first belongs (packagings rs)) ≡ some p
      one p true e = rw (eq-eqb (place_of names p.condition) i e)
      one p false e = absurd (omega arith)

      go : (o : Option Pack) → as_pack r ≡ o → if_some o 33 (λ p. cond (same p.article article) (place_of names p.condition) 33) ≡ i
          → (x : Pack) × (some r ≡ some (PackagingRecord x)) × (first_at names article (cons_some (some r) rs) i ≡ some x)
      go none f e = absurd (omega arith)
      go (some p) f e = (
        p,
        ap some (read_only pack_kind r p f),
        more (some r) ∙ ap (λ (o : Option Pack). first belongs (cons_some o (packagings rs))) f ∙ one p (same p.article article) e,
      )
