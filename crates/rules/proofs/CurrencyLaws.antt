-- A row of an accepted book has a currency of three letters, and so has every price.
use Prim.Native.Nat.{ℕ, zero, suc}
use mathlib.Core.Path.{◌≡◌, sym, ◌∙◌, ap, subst}
use mathlib.Core.Bool.{◌&&◌, ◌||◌, not}
use mathlib.Core.List.{List, [], ◌∷◌, ◌++◌}
use mathlib.Core.Option.{some, none-ne-some}
use lib.Dec.{eqb, leb}
use lib.ListN.{length}
use Rattle.rules.specs.Lists.{same, between, first}
use Rattle.rules.specs.Layout.{Layout, ◌>>=◌, give_if, ◌such◌, must, bytes, byte, times}
use Rattle.rules.specs.Bytes.{number, signed, name, name_byte, one_of, head, capitals, either_side}
use Rattle.rules.specs.Book.{Record, ArticleRecord, PriceRecord, RoundingRecord, PackagingRecord, SchemeRecord}
use Rattle.rules.specs.Book.{article_of, sale, purchase, base, surcharge, discount}
use Rattle.rules.specs.BookLayout.{value_of, in_bounds, has, zero_unless_present, unit_for, length_units, volume_units, weight_units, star, keeps_apart}
use Rattle.rules.specs.BookLayout.{broken, article_body, price_body, rounding_body, packaging_body, scheme_body, body, kinded}
use Rattle.rules.specs.BookLayout.{one_record, most_bytes, records}
use Rattle.rules.specs.Question.{Question}
use Rattle.rules.specs.Lines.{of_base, lines_of, amounts, total_of}
use Rattle.rules.specs.Refusals.{done, or_refuse, refuse_unless}
use Rattle.rules.specs.Price.{Priced, Answer, in_one_currency, in_range, priced, answer_of, answered}
use Rattle.rules.proofs.ListLaws.{All, Holds, first_holds}
use Rattle.rules.proofs.RefusalLaws.{then_done, or_done, done_is}
use Rattle.rules.proofs.GivesLaws.{Gives, gives_field, gives_any, gives_value, gives_tested, gives_bytes}
use Rattle.rules.proofs.GivesLaws.{gives_framed, gives_repeated, whole_gives}
use Rattle.rules.proofs.RowLaws.{among_has, all_imply, lines_for}

-- a row's currency has three bytes; of other records nothing is said
abbrev pub InLetters : Record → Type 0
InLetters (ArticleRecord a) = Unit {0}
InLetters (PriceRecord r) = length r.currency ≡ 3
InLetters (RoundingRecord r) = Unit {0}
InLetters (PackagingRecord p) = Unit {0}
InLetters (SchemeRecord s) = Unit {0}

-- ---- the five kinds

-- a field that does not matter
passed : {A : Type 0} (m : Layout A) (f : A → Layout Record) → ((a : A) → Gives (f a) InLetters) → Gives (m >>= f) InLetters
passed m f k = gives_field m f (gives_any m) λ a _. k a

three : Gives (bytes 3 such capitals) (λ c. length c ≡ 3)
three = gives_field (bytes 3) (λ c. give_if (capitals c) c) (gives_bytes 3) λ c e. gives_tested (capitals c) c (λ _. e)

of_price : Gives price_body InLetters
of_price =
    passed (name 1 40) _ λ article.
    passed (name 0 20) _ λ condition.
    passed (one_of (sale ∷ purchase ∷ [])) _ λ sort.
    passed (one_of (base ∷ surcharge ∷ discount ∷ [])) _ λ level.
    passed (one_of (1 ∷ 2 ∷ [])) _ λ rule.
    passed (number 4) _ λ text.
    passed (one_of (0 ∷ 1 ∷ [])) _ λ fixed.
    passed (signed 4) _ λ v.
    passed (must (in_bounds (value_of fixed v))) _ λ _.
    gives_field (bytes 3 such capitals) _ three λ currency h.
    passed (number 4) _ λ from.
    passed (number 4) _ λ to.
    passed (number 4) _ λ up_to.
    passed (number 2) _ λ rounding.
    gives_value _ h

of_article : Gives article_body InLetters
of_article = passed (name 1 40) _ λ n. passed (name 0 20) _ λ scheme. gives_value _ tt

of_rounding : Gives rounding_body InLetters
of_rounding =
    passed (number 2 such leb 1) _ λ n.
    passed (one_of (0 ∷ 1 ∷ 2 ∷ [])) _ λ way.
    passed (number 4 such between 1 1_000_000) _ λ step.
    passed (signed 4 such either_side 1_000_000) _ λ before.
    passed (signed 4 such either_side 1_000_000) _ λ after.
    gives_value _ tt

of_packaging : Gives packaging_body InLetters
of_packaging =
    passed (name 1 40) _ λ article.
    passed (name 0 20) _ λ condition.
    passed byte _ λ present.
    passed (times 6 (signed 4 such either_side 10_000_000)) _ λ physical.
    passed (times 2 (signed 4 such either_side 10_000)) _ λ counts.
    passed (must (zero_unless_present present (physical ++ counts))) _ λ _.
    passed (unit_for (has 0 present || (has 1 present || has 2 present)) length_units) _ λ length_unit.
    passed (unit_for (has 3 present) volume_units) _ λ volume_unit.
    passed (unit_for (has 4 present || has 5 present) weight_units) _ λ weight_unit.
    passed (must (not (same article star && eqb (length condition) 0))) _ λ _.
    gives_value _ tt

of_scheme : Gives scheme_body InLetters
of_scheme =
    passed (name 1 20) _ λ id.
    passed (name 0 8) _ λ number_separator.
    passed (name 0 8) _ λ value_separator.
    passed (one_of (0 ∷ 1 ∷ [])) _ λ visibility.
    passed (byte such λ c. eqb c 0 || name_byte c) _ λ hidden.
    passed (byte such λ c. eqb c 0 || name_byte c) _ λ unselected.
    passed (one_of (0 ∷ 1 ∷ [])) _ λ trim.
    passed (must (eqb trim 0 || keeps_apart value_separator hidden unselected)) _ λ _.
    gives_value _ tt

of_none : Gives broken InLetters
of_none = record { sure = λ s v t e. absurd (none-ne-some (v, t) e) }

of_kind : (kind : ℕ) → Gives (body kind) InLetters
of_kind zero = of_none
of_kind (suc zero) = of_article
of_kind (suc (suc zero)) = of_price
of_kind (suc (suc (suc zero))) = of_rounding
of_kind (suc (suc (suc (suc zero)))) = of_packaging
of_kind (suc (suc (suc (suc (suc zero))))) = of_scheme
of_kind (suc (suc (suc (suc (suc (suc n)))))) = of_none

-- ---- a book, and a price by it

of_record : Gives one_record InLetters
of_record = passed (number 2) _ λ n. gives_framed kinded n (whole_gives (passed byte body of_kind))

pub rows_in_letters : (b : List ℕ) (book : List Record) → records b ≡ some book → All InLetters book
unfolding records
rows_in_letters b book e =
    whole_gives
    (gives_field (must (leb (length b) most_bytes)) _ (gives_any (must (leb (length b) most_bytes))) λ _ _.
    gives_field (head (length b)) _ (gives_any (head (length b))) λ _ _. gives_repeated one_record of_record) b book e

module _ (book : List Record) (letters : All InLetters book) (q : Question) where
  lines_in_letters : All (λ l. length l.row.currency ≡ 3) (lines_of book q)
  lines_in_letters = all_imply (λ l for. among_has InLetters for.in_book letters) (lines_of book q) (lines_for book q)

  pub priced_currency : (p : Priced) → priced book q ≡ done p → length p.currency ≡ 3
  unfolding priced
  priced_currency p e =
      let x = then_done (or_refuse 4 (first of_base (lines_of book q))) _ e in
      let y = then_done (refuse_unless 5 (in_one_currency x.0.row.currency (lines_of book q))) _ x.2 in
      let z = then_done (in_range (total_of (amounts (lines_of book q)))) _ y.2 in
      let found : Holds (λ l. length l.row.currency ≡ 3) (some x.0) =
      subst (Holds (λ l. length l.row.currency ≡ 3)) (or_done 4 (first of_base (lines_of book q)) x.1)
      (first_holds (λ l. length l.row.currency ≡ 3) of_base (lines_of book q) lines_in_letters) in
      ap (λ (k : Priced). length k.currency) (sym (done_is _ p z.2)) ∙ found

  pub answered_currency : (a : Answer) → answered book q ≡ done a → length a.currency ≡ 3
  unfolding answered answer_of
  answered_currency a e =
      let x = then_done (or_refuse 3 (article_of book q.article)) _ e in
      let p = then_done (priced book q) _ x.2 in
      ap (λ (k : Answer). length k.currency) (sym (done_is (answer_of q p.0) a p.2)) ∙ priced_currency p.0 p.1
