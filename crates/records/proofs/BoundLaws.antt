-- The bounds that the numbers of an accepted record have, by its kind.
use Prim.Native.Nat.{ℕ, zero, suc, ◌≤◌}
use mathlib.Core.Path.{◌≡◌, sym, ◌∙◌, ap, subst}
use mathlib.Core.Bool.{Bool, true, ◌&&◌, ◌||◌, not}
use mathlib.Core.List.{List, [], ◌∷◌, ◌++◌, append-nil}
use mathlib.Core.Option.{some}
use native.Mathlib.Omega.{arith}
use lib.Dec.{eqb, leb}
use lib.ListN.{length, drop}
use lib.IntN.{ℤ}
use borrow.Author.Tests.{leb-true}
use Rattle.rules.specs.Lists.{is_some, between, same, any}
use Rattle.rules.specs.Layout.{◌>>=◌, give, ◌such◌, bytes, byte, times, whole}
use Rattle.rules.specs.Bytes.{number, signed, name, name_byte, one_of, head, capitals, either_side}
use Rattle.rules.specs.Book.{Record, ArticleRecord, PriceRecord, RoundingRecord, PackagingRecord, SchemeRecord, sale, purchase, base, surcharge, discount}
use Rattle.rules.specs.BookLayout.{kinded, one_record, book_layout, records, most_bytes, price_body, rounding_body, packaging_body, scheme_body, keeps_apart, value_of, in_bounds, zero_unless_present, has, unit_for, length_units, volume_units, weight_units, no_unit, star}
use Rattle.rules.proofs.TestLaws.{between_low, between_high}
use Rattle.rules.proofs.GivesLaws.{Gives, gives_field, gives_any, gives_value, gives_tested, gives_if, gives_such, gives_bytes, gives_name, gives_framed, gives_repeated, whole_gives}
use Rattle.rules.proofs.ListLaws.{All}
use Rattle.rules.proofs.RangeLaws.{either_in}
use Rattle.kinds.proofs.PartsLaws.{record_is}
use Rattle.records.specs.Ensures.{Bounded, ValuesIn}
use Rattle.records.proofs.FieldLaws.{kind_byte}

-- ---- each body

gives_price : Gives price_body Bounded
gives_price =
    gives_field (name 1 40) _ (gives_any (name 1 40)) λ article _.
    gives_field (name 0 20) _ (gives_any (name 0 20)) λ condition _.
    gives_field (one_of (sale ∷ purchase ∷ [])) _ (gives_any (one_of (sale ∷ purchase ∷ []))) λ sort _.
    gives_field (one_of (base ∷ surcharge ∷ discount ∷ [])) _ (gives_such byte (λ b. any (eqb b) (base ∷ surcharge ∷ discount ∷ []))) λ level h₁.
    gives_field (one_of (1 ∷ 2 ∷ [])) _ (gives_such byte (λ b. any (eqb b) (1 ∷ 2 ∷ []))) λ rule h₂.
    gives_field (number 4) _ (gives_any (number 4)) λ text _.
    gives_field (one_of (0 ∷ 1 ∷ [])) _ (gives_any (one_of (0 ∷ 1 ∷ []))) λ fixed _.
    gives_field (signed 4) _ (gives_any (signed 4)) λ v _.
    gives_field _ _ (gives_if (λ (u : Unit {0}). in_bounds (value_of fixed v)) tt) λ u h₃.
    gives_field (bytes 3 such capitals) _ (gives_any (bytes 3 such capitals)) λ currency _.
    gives_field (number 4) _ (gives_any (number 4)) λ from _.
    gives_field (number 4) _ (gives_any (number 4)) λ to _.
    gives_field (number 4) _ (gives_any (number 4)) λ up_to _.
    gives_field (number 2) _ (gives_any (number 2)) λ rounding _.
    gives_value _ (record { level = h₁; rule = h₂; value = h₃ })

gives_rounding : Gives rounding_body Bounded
gives_rounding =
    gives_field (number 2 such leb 1) _ (gives_such (number 2) (leb 1)) λ n h₁.
    gives_field (one_of (0 ∷ 1 ∷ 2 ∷ [])) _ (gives_any (one_of (0 ∷ 1 ∷ 2 ∷ []))) λ way _.
    gives_field (number 4 such between 1 1_000_000) _ (gives_such (number 4) (between 1 1_000_000)) λ step h₂.
    gives_field (signed 4 such either_side 1_000_000) _ (gives_such (signed 4) (either_side 1_000_000)) λ before h₃.
    gives_field (signed 4 such either_side 1_000_000) _ (gives_such (signed 4) (either_side 1_000_000)) λ after h₄.
    gives_value _
    (record {
      number_low = leb-true 1 n h₁;
      sound = record {
        step_low = between_low 1 1_000_000 step h₂;
        step_high = between_high 1 1_000_000 step h₂;
        before_in = either_in 1_000_000 before h₃;
        after_in = either_in 1_000_000 after h₄;
      };
    })

-- values that are all within `most`, and what is behind them
values_in : {most : ℕ} → most ≤ 10_000_000 → (z : ℤ) (zs : List ℤ) → either_side most z ≡ true → ValuesIn zs → ValuesIn (z ∷ zs)
values_in {most} h z zs e hs zero = omega (arith, either_in most z e)
values_in h z zs e hs (suc i) = hs i

-- values in bounds, whatever stands behind them in bounds
gives_values : (most n : ℕ) → most ≤ 10_000_000 → Gives (times n (signed 4 such either_side most)) (λ zs. (ys : List ℤ) → ValuesIn ys → ValuesIn (zs ++ ys))
gives_values most zero h = gives_value [] (λ ys hs. hs)
gives_values most (suc n) h =
    gives_field (signed 4 such either_side most) (λ z. times n (signed 4 such either_side most) >>= λ rest. give (z ∷ rest)) (gives_such (signed 4) (either_side most)) λ z e.
    gives_field (times n (signed 4 such either_side most)) (λ rest. give (z ∷ rest)) (gives_values most n h) λ rest k.
    gives_value (z ∷ rest) (λ ys hs. values_in h z (rest ++ ys) e (k ys hs))

nothing_in : ValuesIn []
nothing_in i = omega arith

gives_unit : (needed : Bool) (units : List (List ℕ)) → Gives (unit_for needed units) (λ u. length u ≡ 3)
gives_unit needed units = gives_field (bytes 3) _ (gives_bytes 3) λ u e. gives_tested (any (same u) units || (same u no_unit && not needed)) u (λ _. e)

gives_packaging : Gives packaging_body Bounded
gives_packaging =
    gives_field (name 1 40) _ (gives_any (name 1 40)) λ article _.
    gives_field (name 0 20) _ (gives_any (name 0 20)) λ condition _.
    gives_field byte _ (gives_any byte) λ present _.
    gives_field (times 6 (signed 4 such either_side 10_000_000)) _ (gives_values 10_000_000 6 (omega arith)) λ physical h.
    gives_field (times 2 (signed 4 such either_side 10_000)) _ (gives_values 10_000 2 (omega arith)) λ counts k.
    gives_field _ _ (gives_if (λ (u : Unit {0}). zero_unless_present present (physical ++ counts)) tt) λ u z.
    gives_field (unit_for (has 0 present || (has 1 present || has 2 present)) length_units) _ (gives_unit (has 0 present || (has 1 present || has 2 present)) length_units) λ length_unit l₁.
    gives_field (unit_for (has 3 present) volume_units) _ (gives_unit (has 3 present) volume_units) λ volume_unit l₂.
    gives_field (unit_for (has 4 present || has 5 present) weight_units) _ (gives_unit (has 4 present || has 5 present) weight_units) λ weight_unit l₃.
    gives_field _ _ (gives_if (λ (u : Unit {0}). not (same article star && eqb (length condition) 0)) tt) λ u _.
    gives_value _ (record {
      values_in = h counts (subst ValuesIn (append-nil counts) (k [] nothing_in));
      absent = z;
      letters = (l₁, (l₂, (l₃, tt)));
    })

gives_scheme : Gives scheme_body Bounded
gives_scheme =
    gives_field (name 1 20) _ (gives_name 1 20) λ id h₁.
    gives_field (name 0 8) _ (gives_name 0 8) λ number_separator h₂.
    gives_field (name 0 8) _ (gives_name 0 8) λ value_separator h₃.
    gives_field (one_of (0 ∷ 1 ∷ [])) _ (gives_any (one_of (0 ∷ 1 ∷ []))) λ visibility _.
    gives_field (byte such λ c. eqb c 0 || name_byte c) _ (gives_any (byte such λ c. eqb c 0 || name_byte c)) λ hidden _.
    gives_field (byte such λ c. eqb c 0 || name_byte c) _ (gives_any (byte such λ c. eqb c 0 || name_byte c)) λ unselected _.
    gives_field (one_of (0 ∷ 1 ∷ [])) _ (gives_any (one_of (0 ∷ 1 ∷ []))) λ trim _.
    gives_field _ _ (gives_if (λ (u : Unit {0}). eqb trim 0 || keeps_apart value_separator hidden unselected) tt) λ u _.
    gives_value _
    (record {
      named = between_low 1 20 (length id) h₁;
      number_short = between_high 0 8 (length number_separator) h₂;
      value_short = between_high 0 8 (length value_separator) h₃;
    })

-- ---- a record

-- an accepted record's numbers are in their bounds
pub in_bounds_lem : (t : List ℕ) (r : Record) → whole kinded t ≡ some r → Bounded r
in_bounds_lem t (ArticleRecord a) is = tt
in_bounds_lem t (PriceRecord x) is = whole_gives gives_price (drop 1 t) _ (sym (record_is t 2 (ap is_some is) (kind_byte t (PriceRecord x) is)) ∙ is)
in_bounds_lem t (RoundingRecord x) is = whole_gives gives_rounding (drop 1 t) _ (sym (record_is t 3 (ap is_some is) (kind_byte t (RoundingRecord x) is)) ∙ is)
in_bounds_lem t (PackagingRecord p) is = whole_gives gives_packaging (drop 1 t) _ (sym (record_is t 4 (ap is_some is) (kind_byte t (PackagingRecord p) is)) ∙ is)
in_bounds_lem t (SchemeRecord s) is = whole_gives gives_scheme (drop 1 t) _ (sym (record_is t 5 (ap is_some is) (kind_byte t (SchemeRecord s) is)) ∙ is)

-- and so are those of each record of a book
pub gives_record : Gives one_record Bounded
gives_record = gives_field (number 2) _ (gives_any (number 2)) λ n _. gives_framed kinded n in_bounds_lem

pub book_bounds : (b : List ℕ) {rs : List Record} → records b ≡ some rs → All Bounded rs
unfolding records
book_bounds b {rs} is = whole_gives gives_book b rs is
  where
    gives_book : Gives (book_layout (length b)) (All Bounded)
    gives_book =
        gives_field _ _ (gives_if (λ (u : Unit {0}). leb (length b) most_bytes) tt) λ u _.
        gives_field (head (length b)) _ (gives_any (head (length b))) λ version _.
        gives_repeated one_record gives_record
