-- Accepted records by their places: where the names of each kind end, how many bytes stand behind them, and the record that they are.
use Prim.Native.Nat.{ℕ, zero, suc, ◌+◌, ◌-◌, ◌≤◌}
use mathlib.Core.Path.{◌≡◌, refl, sym, ◌∙◌, ap}
use mathlib.Core.Bool.{true, false, false≢true}
use mathlib.Core.List.{List, [], ◌∷◌}
use mathlib.Core.Option.{Option, some, some-injective}
use mathlib.Core.Logic.{◌⊎◌, inl, inr}
use native.Mathlib.Omega.{arith}
use native.Mathlib.Decide.{ℕ_discrete}
use lib.ListN.{length, drop, get_or}
use Rattle.rules.specs.Lists.{is_some}
use Rattle.rules.specs.Layout.{Layout, ◌>>=◌, whole}
use Rattle.rules.specs.Bytes.{name}
use Rattle.rules.specs.Book.{Record, ArticleRecord, PriceRecord, RoundingRecord, PackagingRecord, SchemeRecord}
use Rattle.rules.specs.BookLayout.{article_body, price_body, rounding_body, packaging_body, scheme_body, kinded, body}
use Rattle.layout.specs.Reads.{part, name_stop}
use Rattle.layout.specs.Ensures.{Accepts, NameEnd}
use Rattle.layout.proofs.LayoutLaws.{accepted_is, not_both}
use Rattle.layout.proofs.NameLaws.{name_cases, name_rest, no_first}
use Rattle.kinds.specs.Fields.{kind_of, second_stop, third_stop, article_at, row_at, rounding_at, pack_at, scheme_at}
use Rattle.kinds.specs.Ensures.{Stands}
use Rattle.kinds.proofs.KindLaws.{article_no, article_reads, price_no, price_reads, rounding_no, rounding_reads, scheme_no, scheme_reads}
use Rattle.kinds.proofs.PackagingLaws.{packaging_no, packaging_reads}
use Rattle.kinds.proofs.RecordLaws.{kind_is}

-- ---- what an accepted body has

-- the name in front, and what is behind it
module _ {B : Type 0} (lo hi : ℕ) (f : List ℕ → Layout B) (s : List ℕ) (at : ℕ) (ok : is_some (whole (name lo hi >>= f) (drop at s)) ≡ true) where
  pub name_there : NameEnd lo hi s at (name_stop s at)
  name_there = go (name_cases lo hi s at)
    where
      go : NameEnd lo hi s at 0 ⊎ NameEnd lo hi s at (name_stop s at) → NameEnd lo hi s at (name_stop s at)
      go (inl p) = absurd (not_both _ ok (no_first p f (omega arith)))
      go (inr p) = p

  pub name_behind : is_some (whole (f (part s (at + 1) (name_stop s at))) (drop (name_stop s at) s)) ≡ true
  name_behind = sym (ap is_some (name_rest name_there f (omega arith) refl)) ∙ ok

-- the number of bytes with which alone it is accepted
pub right_size : {A : Type 0} (o : Option A) (m n : ℕ) → is_some o ≡ true → ((m ≡ n → ⊥) → Accepts o false) → m ≡ n
right_size o m n ok none-else = go (ℕ_discrete m n)
  where
    go : Dec (m ≡ n) → m ≡ n
    go (yes e) = e
    go (no e) = absurd (not_both o ok (none-else e))

-- ---- each kind
module _ (s : List ℕ) (at : ℕ) where
  pub article_parts : is_some (whole article_body (drop at s)) ≡ true → Stands article_body s at (second_stop s at) 0 (ArticleRecord (article_at s at (name_stop s at) (second_stop s at)))
  article_parts ok =
      let p = name_there 1 40 _ s at ok in
      let q = name_there 0 20 _ s (name_stop s at) (name_behind 1 40 _ s at ok) in
      let n : length s - second_stop s at ≡ 0 = right_size (whole article_body (drop at s)) _ _ ok (article_no p (omega arith) q (omega arith)) in
      record { long = omega (arith, q.fits); is = accepted_is article_body (article_reads p (omega arith) q (omega arith)) (omega arith) ok }

  pub price_parts : is_some (whole price_body (drop at s)) ≡ true → Stands price_body s at (second_stop s at) 29 (PriceRecord (row_at s at (name_stop s at) (second_stop s at)))
  price_parts ok =
      let p = name_there 1 40 _ s at ok in
      let q = name_there 0 20 _ s (name_stop s at) (name_behind 1 40 _ s at ok) in
      let n : length s - second_stop s at ≡ 29 = right_size (whole price_body (drop at s)) _ _ ok (price_no p (omega arith) q (omega arith)) in
      record { long = omega (arith, q.fits); is = accepted_is price_body (price_reads p (omega arith) q (omega arith) n) (omega arith) ok }

  pub rounding_parts : is_some (whole rounding_body (drop at s)) ≡ true → Stands rounding_body s at at 15 (RoundingRecord (rounding_at s at))
  rounding_parts ok =
      let n : length s - at ≡ 15 = right_size (whole rounding_body (drop at s)) _ _ ok (rounding_no s at) in
      record { long = omega arith; is = accepted_is rounding_body (rounding_reads s at n) (omega arith) ok }

  pub packaging_parts : is_some (whole packaging_body (drop at s)) ≡ true → Stands packaging_body s at (second_stop s at) 42 (PackagingRecord (pack_at s at (name_stop s at) (second_stop s at)))
  packaging_parts ok =
      let p = name_there 1 40 _ s at ok in
      let q = name_there 0 20 _ s (name_stop s at) (name_behind 1 40 _ s at ok) in
      let n : length s - second_stop s at ≡ 42 = right_size (whole packaging_body (drop at s)) _ _ ok (packaging_no p (omega arith) q (omega arith)) in
      record { long = omega (arith, q.fits); is = accepted_is packaging_body (packaging_reads p (omega arith) q (omega arith) n) (omega arith) ok }

  pub scheme_parts : is_some (whole scheme_body (drop at s)) ≡ true → Stands scheme_body s at (third_stop s at) 4 (SchemeRecord (scheme_at s at (name_stop s at) (second_stop s at) (third_stop s at)))
  scheme_parts ok =
      let p = name_there 1 20 _ s at ok in
      let ok₂ = name_behind 1 20 _ s at ok in
      let q = name_there 0 8 _ s (name_stop s at) ok₂ in
      let r = name_there 0 8 _ s (second_stop s at) (name_behind 0 8 _ s (name_stop s at) ok₂) in
      let n : length s - third_stop s at ≡ 4 = right_size (whole scheme_body (drop at s)) _ _ ok (scheme_no p (omega arith) q (omega arith) r (omega arith)) in
      record { long = omega (arith, r.fits); is = accepted_is scheme_body (scheme_reads p (omega arith) q (omega arith) r (omega arith) n) (omega arith) ok }

-- ---- the kind byte says which kind

pub record_long : (t : List ℕ) → is_some (whole kinded t) ≡ true → 1 ≤ length t
record_long [] e = absurd (false≢true e)
record_long (x ∷ t) e = omega arith

-- an accepted record is its body
module _ (t : List ℕ) (k : ℕ) (ok : is_some (whole kinded t) ≡ true) (e : get_or t 0 0 ≡ k) where
  pub record_is : whole kinded t ≡ whole (body k) (drop 1 t)
  record_is = kind_is t (record_long t ok) k e

  pub body_ok : is_some (whole (body k) (drop 1 t)) ≡ true
  body_ok = sym (ap is_some record_is) ∙ ok

module _ (t : List ℕ) (r : Record) (is : whole kinded t ≡ some r) where
  ok : is_some (whole kinded t) ≡ true
  ok = ap is_some is

  -- a body that is a record of kind k
  of_kind : (k : ℕ) → get_or t 0 0 ≡ k → {x : Record} → whole (body k) (drop 1 t) ≡ some x → kind_of x ≡ k → kind_of r ≡ k
  of_kind k e {x} i j = ap kind_of (sym (some-injective x r (sym i ∙ (sym (record_is t k ok e) ∙ is)))) ∙ j

  pub kind_of_lem : (k : ℕ) → get_or t 0 0 ≡ k → kind_of r ≡ k
  kind_of_lem zero e = absurd (false≢true (body_ok t 0 ok e))
  kind_of_lem (suc zero) e = of_kind 1 e (article_parts t 1 (body_ok t 1 ok e)).is refl
  kind_of_lem (suc (suc zero)) e = of_kind 2 e (price_parts t 1 (body_ok t 2 ok e)).is refl
  kind_of_lem (suc (suc (suc zero))) e = of_kind 3 e (rounding_parts t 1 (body_ok t 3 ok e)).is refl
  kind_of_lem (suc (suc (suc (suc zero)))) e = of_kind 4 e (packaging_parts t 1 (body_ok t 4 ok e)).is refl
  kind_of_lem (suc (suc (suc (suc (suc zero))))) e = of_kind 5 e (scheme_parts t 1 (body_ok t 5 ok e)).is refl
  kind_of_lem (suc (suc (suc (suc (suc (suc k)))))) e = absurd (false≢true (body_ok t (suc (suc (suc (suc (suc (suc k)))))) ok e))
