-- The rows of a file without a bad line, line by line: a line brings nothing, or a row in front of those of the lines behind it.
use Prim.Native.Nat.{ℕ, suc, ◌+◌, ◌<◌}
use mathlib.Core.Path.{◌≡◌, sym, ◌∙◌, ap}
use mathlib.Core.Bool.{Bool, true, false, ◌||◌}
use mathlib.Core.List.{List, [], ◌∷◌, ◌++◌}
use mathlib.Core.Option.{Option, some, none, some-injective, none-ne-some}
use lib.ListN.{length, drop}
use Rattle.rules.specs.PlacedRefusals.{ResultAt, Done, ◌>>=◌, or_refuse_at, or_zero_at}
use Rattle.rules.proofs.PlacedRefusalLaws.{then_done, or_done, done_is}
use Rattle.file_rules.specs.Fields.{is_blank, is_remark, lines_of}
use Rattle.file_rules.specs.PriceLine.{NamedRow, price_line, alone, brought_by, brought}
use Rattle.file_rules.specs.PriceFile.{lines_from}
use Rattle.layout.specs.Reads.{part}
use Rattle.layout.specs.Ensures.{Says}
use Rattle.rules.specs.Layout.{whole}
use Rattle.fields.specs.Given.{GivesNone}
use Rattle.fields.specs.Field.{CutAt}
use Rattle.fields.proofs.LineLaws.{line_at}
use Rattle.price_line.specs.declared.PriceLine.{PriceLine}
use Rattle.price_line.specs.Line.{row_on, LineIs}
use Rattle.reading.specs.Rows.{rows_in, Good, Skips, Brings}

-- ---- what a line brings

module _ (line : List ℕ) {t : Bool} (s : Says (is_blank line || is_remark line) t) where
  pub nothing_brought : t ≡ true → brought line ≡ some []
  unfolding brought
  nothing_brought e = ap (λ (b : Bool). brought_by b line) (s.is ∙ e)

  module _ (e : t ≡ false) where
    pub row_brought : {r : PriceLine} → LineIs line r → brought line ≡ some (row_on line r ∷ [])
    unfolding brought
    row_brought p = ap (λ (b : Bool). brought_by b line) (s.is ∙ e) ∙ ap alone p.is

    pub none_brought : GivesNone (whole price_line line) → brought line ≡ none
    unfolding brought
    none_brought p = ap (λ (b : Bool). brought_by b line) (s.is ∙ e) ∙ ap alone p.is

-- ---- line by line

abbrev rest_of : List NamedRow → ResultAt (List NamedRow) → ResultAt (List NamedRow)
rest_of here o = o >>= λ behind. Done (here ++ behind)

any_number : (n m : ℕ) (ss : List (List ℕ)) (ls : List NamedRow) → lines_from n ss ≡ Done ls → lines_from m ss ≡ Done ls
unfolding lines_from
any_number n m [] ls e = e
any_number n m (s ∷ ss) ls e =
    let x = then_done (or_refuse_at 13 n (brought s)) (λ here. rest_of here (lines_from (suc n) ss)) e in
    let y = then_done (lines_from (suc n) ss) (λ behind. Done (x.0 ++ behind)) x.2 in
    ap (λ (o : Option (List NamedRow)). or_refuse_at 13 m o >>= λ here. rest_of here (lines_from (suc m) ss)) (or_done 13 n (brought s) x.1)
    ∙ (ap (rest_of x.0) (any_number (suc n) (suc m) ss y.0 y.1) ∙ y.2)

-- the rows of a line, and those behind it
pub record Parted (file : List ℕ) (at next : ℕ) (line : List ℕ) : Type 0 where
  pub here : List NamedRow
  pub brings : brought line ≡ some here
  pub good : Good (drop next file)
  pub is : rows_in (drop at file) ≡ here ++ rows_in (drop next file)

module _ {file : List ℕ} {at end : ℕ} (g : Good (drop at file)) (l : at < length file) (c : CutAt 10 file at end) where
  pub parted : Parted file at (end + 1) (part file at end)
  unfolding rows_in lines_from
  parted =
      let s = part file at end in
      let ss = lines_of (drop (end + 1) file) in
      let e : lines_from 1 (s ∷ ss) ≡ Done (rows_in (drop at file)) = sym (ap (lines_from 1) (line_at c l)) ∙ g.is in
      let x = then_done (or_refuse_at 13 1 (brought s)) (λ here. rest_of here (lines_from 2 ss)) e in
      let y = then_done (lines_from 2 ss) (λ behind. Done (x.0 ++ behind)) x.2 in
      let w : lines_from 1 ss ≡ Done y.0 = any_number 2 1 ss y.0 y.1 in
      let b : rows_in (drop (end + 1) file) ≡ y.0 = ap (or_zero_at [] (λ ls. ls)) w in
      record {
        here = x.0;
        brings = or_done 13 1 (brought s) x.1;
        good = record { is = w ∙ ap Done (sym b) };
        is = sym (done_is (x.0 ++ y.0) (rows_in (drop at file)) y.2) ∙ ap (λ (ls : List NamedRow). x.0 ++ ls) (sym b);
      }

  module _ {t : Bool} (s : Says (is_blank (part file at end) || is_remark (part file at end)) t) where
    pub skips : t ≡ true → Skips file at (end + 1)
    skips e =
        let h : [] ≡ parted.here = some-injective [] parted.here (sym (nothing_brought (part file at end) s e) ∙ parted.brings) in
        record { good = parted.good; is = parted.is ∙ ap (λ (ls : List NamedRow). ls ++ rows_in (drop (end + 1) file)) (sym h) }

    module _ (e : t ≡ false) where
      pub row_there : GivesNone (whole price_line (part file at end)) → ⊥
      row_there n = none-ne-some parted.here (sym (none_brought (part file at end) s e n) ∙ parted.brings)

      pub brings : {r : PriceLine} → LineIs (part file at end) r → Brings file at (end + 1) (part file at end) r
      brings {r} p =
          let x : (row_on (part file at end) r ∷ []) ≡ parted.here =
          some-injective (row_on (part file at end) r ∷ []) parted.here (sym (row_brought (part file at end) s e p) ∙ parted.brings) in
          record { good = parted.good; is = parted.is ∙ ap (λ (ls : List NamedRow). ls ++ rows_in (drop (end + 1) file)) (sym x) }
