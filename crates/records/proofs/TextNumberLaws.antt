-- Of a book that is bytes, a row's text number has no more than its four bytes: so a line shows all of it.
use Prim.Native.Nat.{ℕ, zero, suc, ◌<◌}
use mathlib.Core.Path.{◌≡◌, refl, sym, ◌∙◌, ap, subst}
use mathlib.Core.Bool.{Bool, true, false}
use mathlib.Core.List.{List, [], ◌∷◌}
use mathlib.Core.Option.{Option, some, none, none-ne-some, some-injective}
use native.Mathlib.Omega.{arith}
use lib.Dec.{eqb, leb}
use lib.ListN.{length, drop}
use Rattle.rules.specs.Lists.{is_some, between, all, any}
use Rattle.rules.specs.Layout.{Layout, ◌>>=◌, give, give_if, ◌such◌, must, front, bytes, byte, whole, wholly, back, to_end}
use Rattle.rules.specs.Bytes.{big, number, signed, name, name_byte, one_of, head, capitals}
use Rattle.rules.specs.Book.{Record, ArticleRecord, PriceRecord, RoundingRecord, PackagingRecord, SchemeRecord, Row, sale, purchase, base, surcharge, discount}
use Rattle.rules.specs.BookLayout.{kinded, price_body, value_of, in_bounds, one_record, most_bytes, book_layout, records}
use Rattle.rules.proofs.ListLaws.{All}
use Rattle.rules.proofs.GivesLaws.{and_then_lem}
use Rattle.rules.proofs.RowLaws.{Among, among_has}
use Rattle.kinds.proofs.PartsLaws.{record_is}
use Rattle.records.proofs.FieldLaws.{kind_byte}

-- a byte is below 256
abbrev pub Bytes : List ℕ → Type 0
Bytes s = All (λ b. b < 256) s

-- read off bytes, the value is sure of P, and what is left is bytes
record Keeps {A : Type 0} (m : Layout A) (P : A → Type 0) : Type 0 where
  sure : (s : List ℕ) (v : A) (t : List ℕ) → Bytes s → m s ≡ some (v, t) → P v × Bytes t

-- ---- fields

module _ {A B : Type 0} where
  keeps_field : (m : Layout A) (f : A → Layout B) {P : A → Type 0} {Q : B → Type 0} → Keeps m P → ((a : A) → P a → Keeps (f a) Q) → Keeps (m >>= f) Q
  keeps_field m f h k = record {
    sure = λ s v t w e.
        let x = and_then_lem (m s) f e in
        let y = h.sure s x.0.0 x.0.1 w x.1 in
        (k x.0.0 y.0).sure x.0.1 v t y.1 x.2;
  }

module _ {A : Type 0} where
  keeps_value : (a : A) {P : A → Type 0} → P a → Keeps (give a) P
  keeps_value a {P} p = record {
    sure = λ s v t w e. let i = some-injective (a, s) (v, t) e in (subst P (ap (λ (x : A × List ℕ). x.0) i) p, subst Bytes (ap (λ (x : A × List ℕ). x.1) i) w);
  }

  keeps_if : (b : Bool) (a : A) {P : A → Type 0} → P a → Keeps (give_if b a) P
  keeps_if true a p = keeps_value a p
  keeps_if false a p = record { sure = λ s v t w e. absurd (none-ne-some (v, t) e) }

  keeps_such : (m : Layout A) (p : A → Bool) {P : A → Type 0} → Keeps m P → Keeps (m such p) P
  keeps_such m p k = keeps_field m (λ a. give_if (p a) a) k (λ a h. keeps_if (p a) a h)

keeps_byte : Keeps byte (λ b. b < 256)
keeps_byte = record { sure = λ s v t w e. go s v t w e }
  where
    go : (s : List ℕ) (v : ℕ) (t : List ℕ) → Bytes s → byte s ≡ some (v, t) → (v < 256) × Bytes t
    go [] v t w e = absurd (none-ne-some (v, t) e)
    go (b ∷ s) v t w e =
        let i = some-injective (b, s) (v, t) e in
        (subst (λ (x : ℕ). x < 256) (ap (λ (x : ℕ × List ℕ). x.0) i) w.0, subst Bytes (ap (λ (x : ℕ × List ℕ). x.1) i) w.1)

-- n bytes are n, and bytes
abbrev Run : ℕ → List ℕ → Type 0
Run n v = Bytes v × (length v ≡ n)

keeps_bytes : (n : ℕ) → Keeps (bytes n) (Run n)
keeps_bytes zero = keeps_value [] (tt, refl)
keeps_bytes (suc n) = record { sure = λ s v t w e. go (keeps_bytes n) s v t w e }
  where
    more : (b : ℕ) → b < 256 → (o : Option (List ℕ × List ℕ)) → ((v t : List ℕ) → o ≡ some (v, t) → Run n v × Bytes t) → (v t : List ℕ) → front b o ≡ some (v, t) → Run (suc n) v × Bytes t
    more b l none h v t e = absurd (none-ne-some (v, t) e)
    more b l (some p) h v t e =
        let i = some-injective (b ∷ p.0, p.1) (v, t) e in
        let y = h p.0 p.1 refl in
        (subst (Run (suc n)) (ap (λ (x : List ℕ × List ℕ). x.0) i) ((l, y.0.0), ap suc y.0.1), subst Bytes (ap (λ (x : List ℕ × List ℕ). x.1) i) y.1)

    go : Keeps (bytes n) (Run n) → (s v t : List ℕ) → Bytes s → bytes (suc n) s ≡ some (v, t) → Run (suc n) v × Bytes t
    go k [] v t w e = absurd (none-ne-some (v, t) e)
    go k (b ∷ s) v t w e = more b w.0 (bytes n s) (λ v t e. k.sure s v t w.1 e) v t e

-- a number of four bytes
four : (v : List ℕ) → Run 4 v → big v < 4294967296
four [] h = absurd (omega (arith, h.1))
four (a ∷ []) h = absurd (omega (arith, h.1))
four (a ∷ b ∷ []) h = absurd (omega (arith, h.1))
four (a ∷ b ∷ c ∷ []) h = absurd (omega (arith, h.1))
four (a ∷ b ∷ c ∷ d ∷ []) h = omega (arith, h.0.0, h.0.1.0, h.0.1.1.0, h.0.1.1.1.0)
four (a ∷ b ∷ c ∷ d ∷ e ∷ v) h = absurd (omega (arith, h.1))

keeps_number : (n : ℕ) → Keeps (number n) (λ x. Unit {0})
keeps_number n = keeps_field (bytes n) _ (keeps_bytes n) (λ v h. keeps_value (big v) tt)

keeps_four : Keeps (number 4) (λ n. n < 4294967296)
keeps_four = keeps_field (bytes 4) _ (keeps_bytes 4) (λ v h. keeps_value (big v) (four v h))

keeps_one : (bs : List ℕ) → Keeps (one_of bs) (λ b. b < 256)
keeps_one bs = keeps_such byte (λ b. any (eqb b) bs) keeps_byte

keeps_name : (lo hi : ℕ) → Keeps (name lo hi) (λ v. Unit {0})
keeps_name lo hi =
    keeps_field (byte such between lo hi) _ (keeps_such byte (between lo hi) keeps_byte) λ n _.
    keeps_field (bytes n) _ (keeps_bytes n) λ v _. keeps_if (all name_byte v) v tt

-- ---- a row

abbrev Texted : Record → Type 0
Texted (ArticleRecord a) = Unit {0}
Texted (PriceRecord r) = r.text < 4294967296
Texted (RoundingRecord r) = Unit {0}
Texted (PackagingRecord p) = Unit {0}
Texted (SchemeRecord s) = Unit {0}

keeps_row : Keeps price_body Texted
keeps_row =
    keeps_field (name 1 40) _ (keeps_name 1 40) λ article _.
    keeps_field (name 0 20) _ (keeps_name 0 20) λ condition _.
    keeps_field (one_of (sale ∷ purchase ∷ [])) _ (keeps_one (sale ∷ purchase ∷ [])) λ sort _.
    keeps_field (one_of (base ∷ surcharge ∷ discount ∷ [])) _ (keeps_one (base ∷ surcharge ∷ discount ∷ [])) λ level _.
    keeps_field (one_of (1 ∷ 2 ∷ [])) _ (keeps_one (1 ∷ 2 ∷ [])) λ rule _.
    keeps_field (number 4) _ keeps_four λ text h.
    keeps_field (one_of (0 ∷ 1 ∷ [])) _ (keeps_one (0 ∷ 1 ∷ [])) λ fixed _.
    keeps_field (signed 4) _ (keeps_field (number 4) _ keeps_four λ n _. keeps_value _ {P = λ z. Unit {0}} tt) λ v _.
    keeps_field (must (in_bounds (value_of fixed v))) _ (keeps_if (in_bounds (value_of fixed v)) tt {P = λ u. Unit {0}} tt) λ u _.
    keeps_field (bytes 3 such capitals) _ (keeps_such (bytes 3) capitals (keeps_bytes 3)) λ currency _.
    keeps_field (number 4) _ keeps_four λ from _.
    keeps_field (number 4) _ keeps_four λ to _.
    keeps_field (number 4) _ keeps_four λ up_to _.
    keeps_field (number 2) _ (keeps_number 2) λ rounding _.
    keeps_value _ h

whole_keeps : {A : Type 0} {m : Layout A} {P : A → Type 0} → Keeps m P → (s : List ℕ) (a : A) → Bytes s → whole m s ≡ some a → P a
whole_keeps {m} {P} k s a w e = go (m s) refl e
  where
    go : (o : Option (_ × List ℕ)) → m s ≡ o → wholly o ≡ some a → P a
    go none i e = absurd (none-ne-some a e)
    go (some (x, [])) i e = (k.sure s a [] w (i ∙ ap (λ (y : _). some (y, [])) (some-injective x a e))).0
    go (some (x, b ∷ t)) i e = absurd (none-ne-some a e)

drop_bytes : (n : ℕ) (s : List ℕ) → Bytes s → Bytes (drop n s)
drop_bytes zero s w = w
drop_bytes (suc n) [] w = tt
drop_bytes (suc n) (b ∷ s) w = drop_bytes n s w.1

texted : (t : List ℕ) (r : Record) → Bytes t → whole kinded t ≡ some r → Texted r
texted t (ArticleRecord a) w is = tt
texted t (PriceRecord x) w is = whole_keeps keeps_row (drop 1 t) (PriceRecord x) (drop_bytes 1 t w) (sym (record_is t 2 (ap is_some is) (kind_byte t (PriceRecord x) is)) ∙ is)
texted t (RoundingRecord x) w is = tt
texted t (PackagingRecord p) w is = tt
texted t (SchemeRecord s) w is = tt

-- ---- a book

keeps_record : Keeps one_record Texted
keeps_record = keeps_field (number 2) _ (keeps_number 2) λ n _. keeps_field (bytes n) _ (keeps_bytes n) λ s h. go (whole kinded s) (λ r e. texted s r h.0 e)
  where
    go : (o : Option Record) → ((r : Record) → o ≡ some r → Texted r) → Keeps (back o) Texted
    go none k = record { sure = λ s v t w e. absurd (none-ne-some (v, t) e) }
    go (some r) k = keeps_value r (k r refl)

none_left : (rs : List Record) (t : List ℕ) → ◌≡◌ {A = Option (List Record × List ℕ)} (some ([], [])) (some (rs, t)) → All Texted rs × Bytes t
none_left rs t e = subst (λ (x : List Record × List ℕ). All Texted x.0 × Bytes x.1) (some-injective ([], []) (rs, t) e) (tt, tt)

to_end_lem : (n : ℕ) (s : List ℕ) (rs : List Record) (t : List ℕ) → Bytes s → to_end n one_record s ≡ some (rs, t) → All Texted rs × Bytes t
to_end_lem zero [] rs t w e = none_left rs t e
to_end_lem zero (b ∷ s) rs t w e = absurd (none-ne-some (rs, t) e)
to_end_lem (suc n) [] rs t w e = none_left rs t e
to_end_lem (suc n) (b ∷ s) rs t w e =
    (keeps_field one_record (λ r. to_end n one_record >>= λ rest. give (r ∷ rest)) {Q = All Texted} keeps_record
    (λ r p. keeps_field (to_end n one_record) (λ rest. give (r ∷ rest)) (record { sure = to_end_lem n }) (λ rest hs. keeps_value (r ∷ rest) {P = All Texted} (p, hs)))).sure (b ∷ s) rs t w e

keeps_book : (lent : ℕ) → Keeps (book_layout lent) (All Texted)
keeps_book lent =
    keeps_field (must (leb lent most_bytes)) _ (keeps_if (leb lent most_bytes) tt {P = λ u. Unit {0}} tt) λ u _.
    keeps_field (head lent) _ (keeps_field (number 4 such eqb lent) _ (keeps_such (number 4) (eqb lent) keeps_four) λ n _. keeps_one (1 ∷ [])) λ version _.
    record { sure = λ s. to_end_lem (length s) s }

-- a row that a book of bytes has
pub text_below : (b : List ℕ) {book : List Record} → Bytes b → records b ≡ some book → {r : Row} → Among (PriceRecord r) book → r.text < 4294967296
unfolding records
text_below b {book} w e m = among_has Texted m (whole_keeps (keeps_book (length b)) b book w e)
