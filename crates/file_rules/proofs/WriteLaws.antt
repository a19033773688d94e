-- The writer's call read backwards: what was written where it is done, and why it is refused where it is not; and when it is done.
use Prim.Native.Nat.{ℕ, ◌+◌, ◌≤◌}
use mathlib.Core.Path.{◌≡◌, refl, sym, ◌∙◌, ap, subst}
use mathlib.Core.Bool.{Bool, true, false, not}
use mathlib.Core.List.{List, [], ◌∷◌, map}
use mathlib.Core.Option
use mathlib.Core.Option.{Option, some, none, none-ne-some}
use mathlib.Core.Logic.{◌⊎◌, inl, inr}
use lib.Dec.{leb}
use lib.ListN.{length}
use borrow.Author.Tests.{leb-true, le-leb}
use Rattle.rules.specs.Lists.{first, pick, if_some}
use Rattle.rules.specs.Book.{Record, PriceRecord, Row, as_row, rows}
use Rattle.rules.specs.BookLayout.{records}
use Rattle.rules.specs.Placed.{Placed, placed_records, placed_as}
use Rattle.rules.specs.PlacedRefusals.{ResultAt, Done, RefusedAt, ◌>>=◌, or_refuse_at, unless_at, unless_so}
use Rattle.file_rules.specs.PriceFile.{fits_line, first_unfit, file_text, written_of, write_file}
use Rattle.rules.proofs.ListLaws.{All}
use Rattle.rules.proofs.PlacedLaws.{held_in, placed_held, placed_some, placed_as_lem}
use Rattle.rules.proofs.PlacedRefusalLaws.{then_done, then_refused, or_done, or_refused, so_done, so_refused, at_done, at_refused, done_is, not_done}
use Rattle.file_rules.proofs.UnfitLaws.{UnfitAt, unfit_at}

abbrev Fit : List Row → Type 0
Fit rs = All (λ r. fits_line r ≡ true) rs

-- what is found where the first row fits, or does not
abbrev found : Placed Row → List (Placed Row) → Bool → Option ℕ
found p ps b = if_some (pick (not b) p (first (λ p. not (fits_line p.held)) ps)) none (λ p. some (p.start + 1))

fit_all : (ps : List (Placed Row)) → first_unfit ps ≡ none → Fit (held_in ps)
fit_all [] e = tt
fit_all (p ∷ ps) e = go (fits_line p.held) refl (fit_all ps)
  where
    go : (b : Bool) → fits_line p.held ≡ b → (first_unfit ps ≡ none → Fit (held_in ps)) → Fit (held_in (p ∷ ps))
    go true f k = (f, k (ap (found p ps) (sym f) ∙ e))
    go false f k = absurd (none-ne-some (p.start + 1) (sym e ∙ ap (found p ps) f))

all_fit : (ps : List (Placed Row)) → Fit (held_in ps) → first_unfit ps ≡ none
all_fit [] hs = refl
all_fit (p ∷ ps) hs = ap (found p ps) hs.0 ∙ all_fit ps hs.1

-- ---- rows at places

abbrev fits : ℕ → List Row → Bool
fits room rs = leb (length (file_text rs)) room

abbrev last : ℕ → List Row → Unit {0} → ResultAt (List Row)
last room rs t = unless_so 7 (fits room rs) >>= λ _. Done rs

record WrittenAs (room : ℕ) (ps : List (Placed Row)) (rs : List Row) : Type 0 where
  are : held_in ps ≡ rs
  fit : Fit (held_in ps)
  room_for : length (file_text (held_in ps)) ≤ room

written_done : (room : ℕ) (ps : List (Placed Row)) (rs : List Row) → written_of room ps ≡ Done rs → WrittenAs room ps rs
written_done room ps rs e =
    let x = then_done (unless_at 13 (first_unfit ps)) (last room (held_in ps)) e in
    let y = then_done (unless_so 7 (fits room (held_in ps))) (λ _. Done (held_in ps)) x.2 in
    record {
      are = done_is (held_in ps) rs y.2;
      fit = fit_all ps (at_done 13 (first_unfit ps) x.1);
      room_for = leb-true (length (file_text (held_in ps))) room (so_done 7 (fits room (held_in ps)) y.1);
    }

written_refused : (room : ℕ) (ps : List (Placed Row)) {n p : ℕ} → written_of room ps ≡ RefusedAt n p
    → ((13 ≡ n) × (first_unfit ps ≡ some p)) ⊎ ((7 ≡ n) × (0 ≡ p))
written_refused room ps {n} {p} e = go (then_refused (unless_at 13 (first_unfit ps)) (last room (held_in ps)) e)
  where
    short : (unless_so 7 (fits room (held_in ps)) ≡ RefusedAt n p)
        ⊎ ((t : Unit {0}) × (unless_so 7 (fits room (held_in ps)) ≡ Done t) × (Done (held_in ps) ≡ RefusedAt n p)) → (7 ≡ n) × (0 ≡ p)
    short (inl f) = let x = so_refused 7 (fits room (held_in ps)) f in (x.1, x.2)
    short (inr f) = absurd (not_done n p (held_in ps) (sym f.2))

    go : (unless_at 13 (first_unfit ps) ≡ RefusedAt n p)
        ⊎ ((t : Unit {0}) × (unless_at 13 (first_unfit ps) ≡ Done t) × (last room (held_in ps) t ≡ RefusedAt n p))
        → ((13 ≡ n) × (first_unfit ps ≡ some p)) ⊎ ((7 ≡ n) × (0 ≡ p))
    go (inl f) = inl (at_refused 13 (first_unfit ps) f)
    go (inr f) = inr (short (then_refused (unless_so 7 (fits room (held_in ps))) (λ _. Done (held_in ps)) f.2))

-- ---- the call

pub record WrittenFrom (book : List ℕ) (room : ℕ) (rs : List Row) : Type 0 where
  pub content : List Record
  pub good : records book ≡ some content
  pub is : rows content ≡ rs
  pub fit : All (λ r. fits_line r ≡ true) rs
  pub fits : length (file_text rs) ≤ room

abbrev behind : ℕ → List (Placed Record) → ResultAt (List Row)
behind room ps = written_of room (placed_as as_row ps)

pub done_from : (book : List ℕ) (room : ℕ) (rs : List Row) → write_file book room ≡ Done rs → WrittenFrom book room rs
unfolding write_file
done_from book room rs e =
    let x = then_done (or_refuse_at 1 0 (placed_records book)) (behind room) e in
    let w = written_done room (placed_as as_row x.0) rs x.2 in
    record {
      content = held_in x.0;
      good = placed_held book ∙ ap (Option.map held_in) (or_done 1 0 (placed_records book) x.1);
      is = placed_as_lem as_row x.0 ∙ w.are;
      fit = subst (λ (rs : List Row). Fit rs) w.are w.fit;
      fits = subst (λ (rs : List Row). length (file_text rs) ≤ room) w.are w.room_for;
    }

abbrev Refusals : List ℕ → ℕ → ℕ → Type 0
Refusals book n p = ((1 ≡ n) × (0 ≡ p) × (records book ≡ none)) ⊎ (((13 ≡ n) × UnfitAt book p) ⊎ ((7 ≡ n) × (0 ≡ p)))

pub refused_by_lem : (book : List ℕ) (room n p : ℕ) → write_file book room ≡ RefusedAt n p
    → ((1 ≡ n) × (0 ≡ p) × (records book ≡ none)) ⊎ (((13 ≡ n) × UnfitAt book p) ⊎ ((7 ≡ n) × (0 ≡ p)))
unfolding write_file
refused_by_lem book room n p e = go (then_refused (or_refuse_at 1 0 (placed_records book)) (behind room) e)
  where
    unfit : (ps : List (Placed Record)) → placed_records book ≡ some ps
        → ((13 ≡ n) × (first_unfit (placed_as as_row ps) ≡ some p)) ⊎ ((7 ≡ n) × (0 ≡ p)) → Refusals book n p
    unfit ps g (inl f) = inr (inl (f.0, unfit_at book ps p g f.1))
    unfit ps g (inr f) = inr (inr f)

    go : (or_refuse_at 1 0 (placed_records book) ≡ RefusedAt n p)
        ⊎ ((ps : List (Placed Record)) × (or_refuse_at 1 0 (placed_records book) ≡ Done ps) × (behind room ps ≡ RefusedAt n p)) → Refusals book n p
    go (inl f) =
        let x = or_refused 1 0 (placed_records book) f in inl (x.1, x.2, placed_held book ∙ ap (Option.map held_in) x.0)
    go (inr f) = unfit f.0 (or_done 1 0 (placed_records book) f.1) (written_refused room (placed_as as_row f.0) f.2)

pub rows_all : (rs : List Row) → rows (map PriceRecord rs) ≡ rs
rows_all [] = refl
rows_all (r ∷ rs) = ap (λ rs. r ∷ rs) (rows_all rs)

-- a book of price records that fit lines is written, where there is room
pub write_rows : (book : List ℕ) (room : ℕ) (rs : List Row) → records book ≡ some (map PriceRecord rs) → Fit rs → length (file_text rs) ≤ room
    → write_file book room ≡ Done rs
unfolding write_file
write_rows book room rs e fs h =
    let x = placed_some book (map PriceRecord rs) e in
    let ps = placed_as as_row x.0 in
    let w : held_in ps ≡ rs = sym (placed_as_lem as_row x.0) ∙ (ap rows x.2 ∙ rows_all rs) in
    ap (λ (o : Option (List (Placed Record))). or_refuse_at 1 0 o >>= behind room) x.1
    ∙ (ap (λ (o : Option ℕ). unless_at 13 o >>= last room (held_in ps)) (all_fit ps (subst (λ (rs : List Row). Fit rs) (sym w) fs))
    ∙ (ap (λ (vs : List Row). last room vs tt) w
    ∙ ap (λ (b : Bool). unless_so 7 b >>= λ _. Done rs) (le-leb (length (file_text rs)) room h)))
