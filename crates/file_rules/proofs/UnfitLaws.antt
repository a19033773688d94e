-- The place beside refusal 13 of the writer is where the first price record stands that no line can hold.
use Prim.Native.Nat.{ℕ, ◌+◌}
use mathlib.Core.Path.{◌≡◌, refl, sym, ◌∙◌, ap, subst}
use mathlib.Core.Bool.{Bool, true, false, not}
use mathlib.Core.List.{List, [], ◌∷◌, ◌++◌}
use mathlib.Core.Option.{Option, some, none, none-ne-some, some-injective}
use Rattle.rules.specs.Lists.{first, pick, if_some}
use Rattle.rules.specs.Book.{Record, PriceRecord, Row, as_row}
use Rattle.rules.specs.Placed.{Placed, placed_records, placed_as, holding}
use Rattle.file_rules.specs.PriceFile.{fits_line, first_unfit}
use Rattle.rules.proofs.ListLaws.{All}
use Rattle.rules.proofs.KindLaws.{row_kind}
use Rattle.rules.proofs.PlacedLaws.{placed_all}
use Rattle.rules.proofs.StandLaws.{Stands, placed_stand}

-- a row and those before and behind it: all before fit a line, it does not
pub record Split (ps : List (Placed Row)) (place : ℕ) : Type 0 where
  pub before : List (Placed Row)
  pub here : Placed Row
  pub after : List (Placed Row)
  pub split : ps ≡ before ++ (here ∷ after)
  pub fit : All (λ p. fits_line p.held ≡ true) before
  pub unfit : fits_line here.held ≡ false
  pub there : here.start + 1 ≡ place

-- such a row of a book, whose record stands there
pub record UnfitAt (book : List ℕ) (place : ℕ) : Type 0 where
  pub records : List (Placed Record)
  pub good : placed_records book ≡ some records
  pub first : Split (placed_as as_row records) place
  pub stands : Stands book (holding first.here (PriceRecord first.here.held))

split_at : (ps : List (Placed Row)) (place : ℕ) → first_unfit ps ≡ some place → Split ps place
split_at [] place e = absurd (none-ne-some place e)
split_at (p ∷ ps) place e = go (fits_line p.held) refl (split_at ps place)
  where
    found : Bool → Option ℕ
    found b = if_some (pick (not b) p (first (λ p. not (fits_line p.held)) ps)) none (λ p. some (p.start + 1))

    go : (b : Bool) → fits_line p.held ≡ b → (first_unfit ps ≡ some place → Split ps place) → Split (p ∷ ps) place
    go true f k =
        let x = k (ap found (sym f) ∙ e) in
        record {
          before = p ∷ x.before;
          here = x.here;
          after = x.after;
          split = ap (λ (u : List (Placed Row)). p ∷ u) x.split;
          fit = (f, x.fit);
          unfit = x.unfit;
          there = x.there;
        }
    go false f k =
        record {
          before = [];
          here = p;
          after = ps;
          split = refl;
          fit = tt;
          unfit = f;
          there = some-injective (p.start + 1) place (ap found (sym f) ∙ e);
        }

in_the_middle : {A : Type 0} (P : A → Type 0) (xs ys : List A) (y : A) → All P (xs ++ (y ∷ ys)) → P y
in_the_middle P [] ys y hs = hs.0
in_the_middle P (x ∷ xs) ys y hs = in_the_middle P xs ys y hs.1

pub unfit_at : (book : List ℕ) (ps : List (Placed Record)) (place : ℕ) → placed_records book ≡ some ps → first_unfit (placed_as as_row ps) ≡ some place
    → UnfitAt book place
unfit_at book ps place e f =
    let x = split_at (placed_as as_row ps) place f in
    let rows : All (λ q. Stands book (holding q (PriceRecord q.held))) (placed_as as_row ps) =
    placed_all row_kind (Stands book) ps (placed_stand book ps e).each in
    record {
      records = ps;
      good = e;
      first = x;
      stands = in_the_middle (λ q. Stands book (holding q (PriceRecord q.held))) x.before x.after x.here
          (subst (All (λ q. Stands book (holding q (PriceRecord q.held)))) x.split rows);
    }
