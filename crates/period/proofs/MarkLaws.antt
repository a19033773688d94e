-- The marks of a walk over the records are the days of change of the definition.
use Prim.Native.Nat.{ℕ, ◌+◌, ◌-◌, ◌≤◌, ◌<◌}
use mathlib.Core.Path.{◌≡◌, refl, sym, ◌∙◌, ap}
use mathlib.Core.Bool.{Bool, true, false, ◌&&◌, ◌||◌}
use mathlib.Core.List.{List, ◌∷◌}
use mathlib.Core.Option.{Option, some, none}
use Rattle.std.specs.Prelude as Std
use Rattle.std.specs.Prelude.{Some, None}
use lib.Dec.{eqb}
use lib.ListN.{length, take, drop, get_or, replicate, length-replicate}
use Rattle.rules.specs.Lists.{same, any, keep, cons_if, cons_some, if_some}
use Rattle.rules.specs.Days.{next}
use Rattle.rules.specs.Layout.{whole}
use Rattle.rules.specs.Book.{Row, Record, as_row, rows}
use Rattle.rules.specs.BookLayout.{kinded}
use Rattle.rules.specs.Changes.{dated, moving_rows, days_of_change, changes, is_change}
use Rattle.rules.specs.declared.PriceRow.{PriceRow}
use Rattle.rules.proofs.TestLaws.{or_assoc, or_false}
use Rattle.layout.specs.Ensures.{Says}
use Rattle.layout.proofs.StoreLaws.{all_same}
use Rattle.layout.specs.Records.{records_left, Between, RecordHere, StopIs}
use Rattle.book.proofs.WalkLaws.{pass_here, pass_next, pass_record, pass_end}
use Rattle.records.specs.Tests.{is_row}
use Rattle.records.specs.Ensures.{RowIs, row_in}
use Rattle.period.specs.declared.marks.Change.{Change}
use Rattle.period.specs.Positions.{Dates}
use Rattle.period.specs.Marks.{changes_on, DatesChange, RecordChanges, ChangeMarked, MarksAre, Marking}

-- ---- the days of change of a record

module _ (article : List ℕ) (sort : ℕ) where
  abbrev own : Row → Bool
  own r = same r.article article && eqb r.sort sort

  -- a row, and then others
  row_changes : (r : Row) (rs : List Row) (d : ℕ)
      → any (eqb d) (days_of_change (moving_rows article sort (r ∷ rs))) ≡ (((own r && dated r) && (eqb d r.from || eqb d (next r.to))) || any (eqb d) (days_of_change (moving_rows article sort rs)))
  unfolding moving_rows days_of_change
  row_changes r rs d = go (own r) (dated r) refl
    where
      go : (a b : Bool) → dated r ≡ b
          → any (eqb d) (days_of_change (keep dated (cons_if a r (keep own rs)))) ≡ (((a && b) && (eqb d r.from || eqb d (next r.to))) || any (eqb d) (days_of_change (keep dated (keep own rs))))
      go false b e = refl
      go true false e = rw e
      go true true e = rw e (sym (or_assoc (eqb d r.from) (eqb d (next r.to)) (any (eqb d) (days_of_change (keep dated (keep own rs))))))

module _ (t article : List ℕ) (sort : ℕ) {b : Bool} (s : Says (is_row article sort (whole kinded t)) b) where
  pub row_change : {row : PriceRow} {r : Std.Option Change} → b ≡ true → RowIs t row → DatesChange row.from row.to r
      → RecordChanges article sort (whole kinded t) r
  unfolding is_row is_change changes row_in
  row_change {row} {r} e i h =
      let mine : own article sort (row_in t row) ≡ true = sym (ap (is_row article sort) i.is) ∙ (s.is ∙ e) in
      record {
        is = λ rest d k.
            ap (λ (o : Option Record). is_change (cons_some o rest) article sort d) i.is
            ∙ row_changes article sort (row_in t row) (rows rest) d
            ∙ ap (λ (x : Bool). ((x && dated (row_in t row)) && (eqb d row.from || eqb d (next row.to))) || is_change rest article sort d) mine
            ∙ ap (λ (x : Bool). x || is_change rest article sort d) (sym (h.is d k));
      }

  pub no_change : b ≡ false → RecordChanges article sort (whole kinded t) None
  unfolding is_row is_change changes
  no_change e = record {
    is = λ rest d k. go rest d (whole kinded t) (s.is ∙ e);
  }
    where
      past : (rest : List Row) (d : ℕ) (o : Option Row) → if_some o false (own article sort) ≡ false
          → any (eqb d) (days_of_change (moving_rows article sort (cons_some o rest))) ≡ any (eqb d) (days_of_change (moving_rows article sort rest))
      past rest d none f = refl
      past rest d (some r) f = row_changes article sort r rest d ∙ rw f

      go : (rest : List Record) (d : ℕ) (o : Option Record) → is_row article sort o ≡ false
          → is_change (cons_some o rest) article sort d ≡ is_change rest article sort d
      go rest d none f = refl
      go rest d (some r) f = past (rows rest) d (as_row r) f

-- ---- marks

module _ (w : List ℕ) (from : ℕ) (article : List ℕ) (sort : ℕ) (dates : List ℕ) where
  pub mark_start : Between w from → Dates dates → Marking w from article sort dates (replicate 1096 false) from
  mark_start b h = record {
    between = b;
    dates_are = h;
    long = length-replicate 1096 false;
    unmarked = λ i l. all_same 1096 i false;
    is = λ i l. ap (λ (x : Bool). x || is_change (records_left w from) article sort (get_or dates i 0)) (all_same 1096 i false);
  }

  module _ {marks : List Bool} {at : ℕ} (inv : Marking w from article sort dates marks at) where
    pub mark_here : at < length w → RecordHere w at
    mark_here h = pass_here inv.between h

    module _ (h : at < length w) {end : ℕ} (stop : StopIs w at end) where
      pub mark_turn : {c : Std.Option Change} → RecordChanges article sort (whole kinded (take (end - (at + 2)) (drop (at + 2) w))) c → {marks' : List Bool} → ChangeMarked dates c marks marks'
          → Marking w from article sort dates marks' end
      mark_turn {c} change m = record {
        between = pass_next inv.between h stop;
        dates_are = inv.dates_are;
        long = m.long ∙ inv.long;
        unmarked = λ k l. m.behind k l ∙ inv.unmarked k l;
        is = λ k l.
            let d : ℕ = get_or dates k 0 in
            let rest : Bool = is_change (records_left w end) article sort d in
            ap (λ (x : Bool). x || rest) (m.is k l)
            ∙ or_assoc (get_or marks k false) (changes_on c d) rest
            ∙ ap (λ (x : Bool). get_or marks k false || x) (sym (ap (λ rs. is_change rs article sort d) (pass_record inv.between h stop) ∙ change.is (records_left w end) d (inv.dates_are.each_day k l)))
            ∙ inv.is k l;
      }

    pub mark_end : length w ≤ at → MarksAre w from article sort dates marks
    unfolding is_change changes moving_rows days_of_change
    mark_end h = record {
      long = inv.long;
      behind = inv.unmarked;
      is = λ i l. sym (or_false (get_or marks i false)) ∙ ap (λ rs. get_or marks i false || is_change rs article sort (get_or dates i 0)) (sym (pass_end inv.between h)) ∙ inv.is i l;
    }
