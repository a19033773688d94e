-- A price row of an accepted book is sound: what its layout tests, and that its numbers fit their bytes.
use Prim.Native.Nat.{ℕ, zero, suc, ◌+◌, ◌*◌, ◌^◌, ◌≤◌, ◌<◌}
use mathlib.Core.Path.{◌≡◌, refl, sym, ◌∙◌, ap, subst}
use mathlib.Core.Bool.{Bool, true, false, ◌&&◌, ◌||◌, not}
use mathlib.Core.List.{List, [], ◌∷◌, ◌++◌}
use mathlib.Core.Option.{Option, some, none, none-ne-some, some-injective}
use native.Mathlib.Omega.{arith}
use native.Mathlib.Nat.{pow-succ', mul_assoc, mul-le-mul_right}
use lib.Dec.{eqb, leb}
use lib.ListN.{length}
use borrow.Author.Tests.{eq-eqb}
use Rattle.rules.specs.Lists.{all, any, between, same}
use Rattle.rules.specs.Layout.{Layout, ◌>>=◌, give, give_if, ◌such◌, must, front, bytes, byte, times, back, whole, wholly, framed, to_end}
use Rattle.rules.specs.Bytes.{big_from, big, number, signed, signed_of, one_of, name, name_byte, capitals, head, either_side}
use Rattle.rules.specs.Book.{Record, ArticleRecord, PriceRecord, RoundingRecord, PackagingRecord, SchemeRecord, Article, Pack, Scheme, rows, sale, purchase, base, surcharge, discount}
use Rattle.rules.specs.BookLayout.{value_of, in_bounds, article_body, price_body, rounding_body, packaging_body, scheme_body, unit_for, length_units, volume_units, weight_units, has, zero_unless_present, star, keeps_apart, body, kinded, one_record, most_bytes, book_layout, records}
use Rattle.file_rules.specs.PriceLine.{is_name}
use Rattle.rules.specs.declared.Rounding.{Rounding}
use Rattle.rules.proofs.TestLaws.{both}
use Rattle.rules.proofs.ListLaws.{All}
use Rattle.rules.proofs.GivesLaws.{and_then_lem, Gives, gives_field, gives_any, gives_value}
use Rattle.file_rules.proofs.PriceLineLaws.{SoundRow}

-- these are bytes
abbrev pub AreBytes : List ℕ → Type 0
AreBytes s = All (λ b. b < 256) s

-- of bytes, the layout gives only what has P, and leaves bytes
pub record Sure {A : Type 0} (m : Layout A) (P : A → Type 0) : Type 0 where
  pub sure : (s : List ℕ) (v : A) (t : List ℕ) → AreBytes s → m s ≡ some (v, t) → P v × AreBytes t

module _ {A B : Type 0} (m : Layout A) (f : A → Layout B) {P : A → Type 0} {Q : B → Type 0} where
  sure_field : Sure m P → ((a : A) → P a → Sure (f a) Q) → Sure (m >>= f) Q
  sure_field h k =
      record {
        sure = λ s v t b e.
            let x = and_then_lem (m s) f e in
            let y = h.sure s x.0.0 x.0.1 b x.1 in
            (k x.0.0 y.0).sure x.0.1 v t y.1 x.2;
      }

module _ {A : Type 0} where
  sure_give : (a : A) {P : A → Type 0} → P a → Sure (give a) P
  sure_give a {P} p = record {
    sure = λ s v t b e. let x : ◌≡◌ {A = A × List ℕ} (a, s) (v, t) = some-injective (a, s) (v, t) e in
        (subst P (ap (λ (x : A × List ℕ). x.0) x) p, subst AreBytes (ap (λ (x : A × List ℕ). x.1) x) b);
  }

  sure_none : {P : A → Type 0} (m : Layout A) → ((s : List ℕ) → m s ≡ none) → Sure m P
  sure_none m h = record { sure = λ s v t b e. absurd (none-ne-some (v, t) (sym (h s) ∙ e)) }

  sure_if : (b : Bool) (a : A) {P : A → Type 0} → (b ≡ true → P a) → Sure (give_if b a) P
  sure_if true a p = sure_give a (p refl)
  sure_if false a p = sure_none (give_if false a) (λ s. refl)

  pub sure_such : (m : Layout A) (p : A → Bool) {P : A → Type 0} → Sure m P → Sure (m such p) (λ a. P a × (p a ≡ true))
  sure_such m p h = sure_field m (λ a. give_if (p a) a) h (λ a q. sure_if (p a) a (λ e. (q, e)))

pub sure_byte : Sure byte (λ b. b < 256)
sure_byte = record { sure = go }
  where
    go : (s : List ℕ) (v : ℕ) (t : List ℕ) → AreBytes s → byte s ≡ some (v, t) → (v < 256) × AreBytes t
    go [] v t b e = absurd (none-ne-some (v, t) e)
    go (c ∷ s) v t b e =
        let x : ◌≡◌ {A = ℕ × List ℕ} (c, s) (v, t) = some-injective (c, s) (v, t) e in
        (subst (λ (k : ℕ). k < 256) (ap (λ (x : ℕ × List ℕ). x.0) x) b.0, subst AreBytes (ap (λ (x : ℕ × List ℕ). x.1) x) b.1)

-- n bytes are n, and bytes
pub sure_bytes : (n : ℕ) → Sure (bytes n) (λ v. (length v ≡ n) × AreBytes v)
sure_bytes zero = sure_give [] (refl, tt)
sure_bytes (suc n) = record { sure = go (sure_bytes n) }
  where
    more : (c : ℕ) → c < 256 → (o : Option (List ℕ × List ℕ)) → ((v t : List ℕ) → o ≡ some (v, t) → ((length v ≡ n) × AreBytes v) × AreBytes t)
        → (v t : List ℕ) → front c o ≡ some (v, t) → ((length v ≡ suc n) × AreBytes v) × AreBytes t
    more c l none h v t e = absurd (none-ne-some (v, t) e)
    more c l (some p) h v t e =
        let x : ◌≡◌ {A = List ℕ × List ℕ} (c ∷ p.0, p.1) (v, t) = some-injective (c ∷ p.0, p.1) (v, t) e in
        let y = h p.0 p.1 refl in
        subst (λ (x : List ℕ × List ℕ). ((length x.0 ≡ suc n) × AreBytes x.0) × AreBytes x.1) x ((ap suc y.0.0, (l, y.0.1)), y.1)

    go : Sure (bytes n) (λ v. (length v ≡ n) × AreBytes v) → (s v t : List ℕ) → AreBytes s → bytes (suc n) s ≡ some (v, t)
        → ((length v ≡ suc n) × AreBytes v) × AreBytes t
    go g [] v t b e = absurd (none-ne-some (v, t) e)
    go g (c ∷ s) v t b e = more c b.0 (bytes n s) (λ v t f. g.sure s v t b.1 f) v t e

-- k bytes make a number below the k-th power of 256
pub big_below : (n : ℕ) (bs : List ℕ) → AreBytes bs → big_from n bs < suc n * 256 ^ length bs
big_below n [] h = omega arith
big_below n (b ∷ bs) h =
    let l : b < 256 = h.0 in
    let i : big_from (n * 256 + b) bs < suc (n * 256 + b) * 256 ^ length bs = big_below (n * 256 + b) bs h.1 in
    let j : suc (n * 256 + b) * 256 ^ length bs ≤ suc n * 256 * 256 ^ length bs = mul-le-mul_right (256 ^ length bs) (omega arith) in
    let k : suc n * 256 * 256 ^ length bs ≡ suc n * 256 ^ suc (length bs) =
    mul_assoc (suc n) 256 (256 ^ length bs) ∙ ap (λ (m : ℕ). suc n * m) (sym (pow-succ' 256 (length bs))) in
    omega arith

pub sure_number : (k : ℕ) → Sure (number k) (λ n. n < 1 * 256 ^ k)
sure_number k =
    sure_field (bytes k) (λ bs. give (big bs)) (sure_bytes k) λ bs h.
    sure_give (big bs) (subst (λ (j : ℕ). big bs < 1 * 256 ^ j) h.0 (big_below 0 bs h.1))

pub sure_one_of : (few : List ℕ) → Sure (one_of few) (λ b. any (eqb b) few ≡ true)
sure_one_of few = sure_field byte (λ b. give_if (any (eqb b) few) b) sure_byte (λ b h. sure_if (any (eqb b) few) b (λ e. e))

sure_signed : Sure (signed 4) (λ z. Unit {0})
sure_signed = sure_field (number 4) (λ n. give (signed_of 4 n)) (sure_number 4) λ n h. sure_give (signed_of 4 n) tt

pub sure_name : (lo hi : ℕ) → Sure (name lo hi) (λ v. is_name lo hi v ≡ true)
sure_name lo hi =
    sure_field (byte such between lo hi) (λ n. bytes n such all name_byte) (sure_such byte (between lo hi) sure_byte) λ n h.
    sure_field (bytes n) (λ v. give_if (all name_byte v) v) (sure_bytes n) λ v g.
    sure_if (all name_byte v) v (λ e. both (between lo hi (length v)) (all name_byte v) (ap (between lo hi) g.0 ∙ h.1) e)

-- ---- a price record

abbrev pub SoundRecord : Record → Type 0
SoundRecord (ArticleRecord a) = Unit {0}
SoundRecord (PriceRecord r) = SoundRow r
SoundRecord (RoundingRecord r) = Unit {0}
SoundRecord (PackagingRecord p) = Unit {0}
SoundRecord (SchemeRecord c) = Unit {0}

sure_price : Sure price_body SoundRecord
sure_price =
    sure_field (name 1 40) _ (sure_name 1 40) λ article ea.
    sure_field (name 0 20) _ (sure_name 0 20) λ condition ec.
    sure_field (one_of (sale ∷ purchase ∷ [])) _ (sure_one_of (sale ∷ purchase ∷ [])) λ sort es.
    sure_field (one_of (base ∷ surcharge ∷ discount ∷ [])) _ (sure_one_of (base ∷ surcharge ∷ discount ∷ [])) λ level el.
    sure_field (one_of (1 ∷ 2 ∷ [])) _ (sure_one_of (1 ∷ 2 ∷ [])) λ rule er.
    sure_field (number 4) _ (sure_number 4) λ text_number et.
    sure_field (one_of (0 ∷ 1 ∷ [])) _ (sure_one_of (0 ∷ 1 ∷ [])) λ fixed ef.
    sure_field (signed 4) _ sure_signed λ v ev.
    sure_field (must (in_bounds (value_of fixed v))) _
    (sure_if (in_bounds (value_of fixed v)) tt {P = λ _. in_bounds (value_of fixed v) ≡ true} (λ e. e)) λ _ eb.
    sure_field (bytes 3 such capitals) _ (sure_such (bytes 3) capitals (sure_bytes 3)) λ currency eu.
    sure_field (number 4) _ (sure_number 4) λ from e₁.
    sure_field (number 4) _ (sure_number 4) λ to e₂.
    sure_field (number 4) _ (sure_number 4) λ up_to e₃.
    sure_field (number 2) _ (sure_number 2) λ rounding e₄.
    sure_give _
    (record {
      article = ea;
      condition = ec;
      sort = es;
      level = el;
      rule = er;
      text = omega (arith, et);
      value = eb;
      currency = both (eqb (length currency) 3) (capitals currency) (eq-eqb (length currency) 3 eu.0.0) eu.1;
      from = omega (arith, e₁);
      to = omega (arith, e₂);
      up_to = omega (arith, e₃);
      rounding = omega (arith, e₄);
    })

-- ---- a record of any kind

module _ {A B : Type 0} (m : Layout A) (f : A → Layout B) {Q : B → Type 0} where
  skip : ((a : A) → Gives (f a) Q) → Gives (m >>= f) Q
  skip k = gives_field m f (gives_any m) (λ a _. k a)

pub other₁ : (P : Record → Type 0) → ((x : Article) → P (ArticleRecord x)) → Gives article_body P
other₁ P h = skip (name 1 40) _ λ number. skip (name 0 20) _ λ scheme. gives_value (ArticleRecord _) (h _)

pub other₃ : (P : Record → Type 0) → ((x : Rounding) → P (RoundingRecord x)) → Gives rounding_body P
other₃ P h =
    skip (number 2 such leb 1) _ λ n.
    skip (one_of (0 ∷ 1 ∷ 2 ∷ [])) _ λ way.
    skip (number 4 such between 1 1_000_000) _ λ step.
    skip (signed 4 such either_side 1_000_000) _ λ before.
    skip (signed 4 such either_side 1_000_000) _ λ after.
    gives_value (RoundingRecord _) (h _)

pub other₄ : (P : Record → Type 0) → ((x : Pack) → P (PackagingRecord x)) → Gives packaging_body P
other₄ P h =
    skip (name 1 40) _ λ article.
    skip (name 0 20) _ λ condition.
    skip byte _ λ present.
    skip (times 6 (signed 4 such either_side 10_000_000)) _ λ physical.
    skip (times 2 (signed 4 such either_side 10_000)) _ λ counts.
    skip (must (zero_unless_present present (physical ++ counts))) _ λ _.
    skip (unit_for (has 0 present || (has 1 present || has 2 present)) length_units) _ λ length_unit.
    skip (unit_for (has 3 present) volume_units) _ λ volume_unit.
    skip (unit_for (has 4 present || has 5 present) weight_units) _ λ weight_unit.
    skip (must (not (same article star && eqb (length condition) 0))) _ λ _.
    gives_value (PackagingRecord _) (h _)

pub other₅ : (P : Record → Type 0) → ((x : Scheme) → P (SchemeRecord x)) → Gives scheme_body P
other₅ P h =
    skip (name 1 20) _ λ id.
    skip (name 0 8) _ λ number_separator.
    skip (name 0 8) _ λ value_separator.
    skip (one_of (0 ∷ 1 ∷ [])) _ λ visibility.
    skip (byte such λ c. eqb c 0 || name_byte c) _ λ hidden.
    skip (byte such λ c. eqb c 0 || name_byte c) _ λ unselected.
    skip (one_of (0 ∷ 1 ∷ [])) _ λ trim.
    skip (must (eqb trim 0 || keeps_apart value_separator hidden unselected)) _ λ _.
    gives_value (SchemeRecord _) (h _)

-- by its kind
kind_sound : (kind : ℕ) (s : List ℕ) (v : Record) (t : List ℕ) → AreBytes s → body kind s ≡ some (v, t) → SoundRecord v
kind_sound zero s v t b e = absurd (none-ne-some (v, t) e)
kind_sound (suc zero) s v t b e = (other₁ SoundRecord (λ x. tt)).sure s v t e
kind_sound (suc (suc zero)) s v t b e = (sure_price.sure s v t b e).0
kind_sound (suc (suc (suc zero))) s v t b e = (other₃ SoundRecord (λ x. tt)).sure s v t e
kind_sound (suc (suc (suc (suc zero)))) s v t b e = (other₄ SoundRecord (λ x. tt)).sure s v t e
kind_sound (suc (suc (suc (suc (suc zero))))) s v t b e = (other₅ SoundRecord (λ x. tt)).sure s v t e
kind_sound (suc (suc (suc (suc (suc (suc k)))))) s v t b e = absurd (none-ne-some (v, t) e)

kinded_sound : (s : List ℕ) (v : Record) → AreBytes s → whole kinded s ≡ some v → SoundRecord v
kinded_sound [] v b e = absurd (none-ne-some v e)
kinded_sound (k ∷ s) v b e = go (body k s) refl e
  where
    go : (o : Option (Record × List ℕ)) → body k s ≡ o → wholly o ≡ some v → SoundRecord v
    go none i e = absurd (none-ne-some v e)
    go (some (x, [])) i e = subst SoundRecord (some-injective x v e) (kind_sound k s x [] b.1 i)
    go (some (x, c ∷ t)) i e = absurd (none-ne-some v e)

pub sure_record : Sure one_record SoundRecord
sure_record =
    sure_field (number 2) (λ n. framed n kinded) (sure_number 2) λ n _.
    sure_field (bytes n) (λ s. back (whole kinded s)) (sure_bytes n) λ s h. go (whole kinded s) (λ v e. kinded_sound s v h.1 e)
  where
    go : (o : Option Record) → ((v : Record) → o ≡ some v → SoundRecord v) → Sure (back o) SoundRecord
    go none k = sure_none (back none) (λ s. refl)
    go (some v) k = record { sure = (sure_give v {P = SoundRecord} (k v refl)).sure }

-- ---- a book

abbrev Read : List Record × List ℕ → Type 0
Read x = All SoundRecord x.0 × AreBytes x.1

each_sound : (n : ℕ) (s : List ℕ) (v : List Record) (t : List ℕ) → AreBytes s → to_end n one_record s ≡ some (v, t) → Read (v, t)
each_sound zero [] v t b e = subst Read (some-injective ([], []) (v, t) e) (tt, tt)
each_sound zero (c ∷ s) v t b e = absurd (none-ne-some (v, t) e)
each_sound (suc n) [] v t b e = subst Read (some-injective ([], []) (v, t) e) (tt, tt)
each_sound (suc n) (c ∷ s) v t b e =
    let x = and_then_lem (one_record (c ∷ s)) (λ a. to_end n one_record >>= λ rest. give (a ∷ rest)) e in
    let y = sure_record.sure (c ∷ s) x.0.0 x.0.1 b x.1 in
    let z = and_then_lem (to_end n one_record x.0.1) (λ rest. give (x.0.0 ∷ rest)) x.2 in
    let w = each_sound n x.0.1 z.0.0 z.0.1 y.1 z.1 in
    subst Read (some-injective (x.0.0 ∷ z.0.0, z.0.1) (v, t) z.2) ((y.0, w.0), w.1)

sure_book : (lent : ℕ) → Sure (book_layout lent) (All SoundRecord)
sure_book lent =
    sure_field (must (leb lent most_bytes)) _ (sure_if (leb lent most_bytes) tt {P = λ _. Unit {0}} (λ e. tt)) λ _ _.
    sure_field (head lent) _ (sure_field (number 4 such eqb lent) _ (sure_such (number 4) (eqb lent) (sure_number 4))
    (λ _ _. sure_one_of (1 ∷ []))) λ _ _.
    record { sure = λ s v t b e. each_sound (length s) s v t b e }

sound_rows : (rs : List Record) → All SoundRecord rs → All SoundRow (rows rs)
sound_rows [] hs = tt
sound_rows (ArticleRecord a ∷ rs) hs = sound_rows rs hs.1
sound_rows (PriceRecord r ∷ rs) hs = (hs.0, sound_rows rs hs.1)
sound_rows (RoundingRecord r ∷ rs) hs = sound_rows rs hs.1
sound_rows (PackagingRecord a ∷ rs) hs = sound_rows rs hs.1
sound_rows (SchemeRecord c ∷ rs) hs = sound_rows rs hs.1

-- Every price row of an accepted book is sound.
pub book_sound : (s : List ℕ) (book : List Record) → AreBytes s → records s ≡ some book → All SoundRow (rows book)
unfolding records
book_sound s book b e = go (book_layout (length s) s) refl e
  where
    go : (o : Option (List Record × List ℕ)) → book_layout (length s) s ≡ o → wholly o ≡ some book → All SoundRow (rows book)
    go none i e = absurd (none-ne-some book e)
    go (some (x, [])) i e =
        subst (λ (rs : List Record). All SoundRow (rows rs)) (some-injective x book e)
        (sound_rows x ((sure_book (length s)).sure s x [] b i).0)
    go (some (x, c ∷ t)) i e = absurd (none-ne-some book e)
