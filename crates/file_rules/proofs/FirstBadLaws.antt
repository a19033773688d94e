-- The price file: the line that the reader names is the first that makes no record, and it names one wherever there is such a line.
use Prim.Native.Nat.{ℕ, suc}
use mathlib.Core.Path.{◌≡◌, sym, ◌∙◌, ap, subst}
use mathlib.Core.Bool.{true, false}
use mathlib.Core.List.{List, [], ◌∷◌, ◌++◌}
use mathlib.Core.Option.{Option, some, none}
use mathlib.Core.Logic.{◌⊎◌, inl, inr}
use lib.Dec.{leb}
use lib.ListN.{length}
use Rattle.rules.specs.Book.{Row}
use Rattle.rules.specs.RowBytes.{rows_bytes}
use Rattle.rules.specs.PlacedRefusals.{ResultAt, Done, RefusedAt, ◌>>=◌, or_refuse_at, unless_so}
use Rattle.file_rules.specs.Fields.{lines_of}
use Rattle.file_rules.specs.PriceLine.{NamedRow, brought}
use Rattle.file_rules.specs.PriceFile.{numbered, lines_from, read_file}
use Rattle.rules.proofs.PlacedRefusalLaws.{then_done, then_refused, or_done, or_refused, so_done, so_refused, done_is, not_done}

-- of lines from the n-th on, line p is the first that makes no record: all before it bring a row, or nothing where they are blank or remarks
pub data FirstBad : ℕ → List (List ℕ) → ℕ → Type 0 where
  here : {n : ℕ} {s : List ℕ} {ss : List (List ℕ)} → brought s ≡ none → FirstBad n (s ∷ ss) n
  there : {n p : ℕ} {s : List ℕ} {ss : List (List ℕ)} {ls : List NamedRow} → brought s ≡ some ls → FirstBad (suc n) ss p → FirstBad n (s ∷ ss) p

pub lines_refused : (n : ℕ) (ss : List (List ℕ)) {m p : ℕ} → lines_from n ss ≡ RefusedAt m p → (13 ≡ m) × FirstBad n ss p
unfolding lines_from
lines_refused n [] {m} {p} e = absurd (not_done m p [] (sym e))
lines_refused n (s ∷ ss) {m} {p} e =
    go (then_refused (or_refuse_at 13 n (brought s)) (λ here. lines_from (suc n) ss >>= λ behind. Done (here ++ behind)) e)
    (λ f. lines_refused (suc n) ss f)
  where
    behind_it : (ls : List NamedRow)
        → (lines_from (suc n) ss ≡ RefusedAt m p) ⊎ ((a : List NamedRow) × (lines_from (suc n) ss ≡ Done a) × (Done (ls ++ a) ≡ RefusedAt m p))
        → lines_from (suc n) ss ≡ RefusedAt m p
    behind_it ls (inl f) = f
    behind_it ls (inr f) = absurd (not_done m p (ls ++ f.0) (sym f.2))

    go : (or_refuse_at 13 n (brought s) ≡ RefusedAt m p)
        ⊎ ((ls : List NamedRow) × (or_refuse_at 13 n (brought s) ≡ Done ls) ×
        ((lines_from (suc n) ss >>= λ behind. Done (ls ++ behind)) ≡ RefusedAt m p))
        → (lines_from (suc n) ss ≡ RefusedAt m p → (13 ≡ m) × FirstBad (suc n) ss p) → (13 ≡ m) × FirstBad n (s ∷ ss) p
    go (inl f) k = let x = or_refused 13 n (brought s) f in (x.1, subst (FirstBad n (s ∷ ss)) x.2 (here x.0))
    go (inr f) k =
        let x = k (behind_it f.0 (then_refused (lines_from (suc n) ss) (λ behind. Done (f.0 ++ behind)) f.2)) in
        (x.0, there (or_done 13 n (brought s) f.1) x.1)

pub bad_refused : {n : ℕ} {ss : List (List ℕ)} {p : ℕ} → FirstBad n ss p → lines_from n ss ≡ RefusedAt 13 p
unfolding lines_from
bad_refused (here {n = n} {ss = ss} e) =
    ap (λ (o : Option (List NamedRow)). or_refuse_at 13 n o >>= λ here. lines_from (suc n) ss >>= λ behind. Done (here ++ behind)) e
bad_refused (there {n = n} {ss = ss} {ls = ls} e b) =
    ap (λ (o : Option (List NamedRow)). or_refuse_at 13 n o >>= λ here. lines_from (suc n) ss >>= λ behind. Done (here ++ behind)) e
    ∙ ap (λ (o : ResultAt (List NamedRow)). o >>= λ behind. Done (ls ++ behind)) (bad_refused b)

-- The reader refuses with 13 and a place exactly where that is the number of the first bad line; any other refusal is 7 at place 0, of a file
-- with no bad line.
pub read_13 : (file : List ℕ) (room : ℕ) {p : ℕ} → FirstBad 1 (lines_of file) p → read_file file room ≡ RefusedAt 13 p
unfolding read_file
read_13 file room b =
    ap (λ (o : ResultAt (List NamedRow)). o >>= λ ls. unless_so 7 (leb (length (rows_bytes (numbered ls))) room) >>= λ _. Done (numbered ls))
    (bad_refused b)

pub record NoRoom (file : List ℕ) (room n p : ℕ) : Type 0 where
  pub lines : List NamedRow
  pub good : lines_from 1 (lines_of file) ≡ Done lines
  pub long : leb (length (rows_bytes (numbered lines))) room ≡ false
  pub number : 7 ≡ n
  pub place : 0 ≡ p

pub read_refused : (file : List ℕ) (room : ℕ) {n p : ℕ} → read_file file room ≡ RefusedAt n p
    → ((13 ≡ n) × FirstBad 1 (lines_of file) p) ⊎ NoRoom file room n p
unfolding read_file
read_refused file room {n} {p} e =
    go (then_refused (lines_from 1 (lines_of file)) (λ ls. unless_so 7 (leb (length (rows_bytes (numbered ls))) room) >>= λ _. Done (numbered ls)) e)
  where
    end : (ls : List NamedRow) → lines_from 1 (lines_of file) ≡ Done ls
        → (unless_so 7 (leb (length (rows_bytes (numbered ls))) room) ≡ RefusedAt n p)
        ⊎ ((t : Unit {0}) × (unless_so 7 (leb (length (rows_bytes (numbered ls))) room) ≡ Done t) × (Done (numbered ls) ≡ RefusedAt n p))
        → NoRoom file room n p
    end ls f (inl g) =
        let x =
        so_refused 7 (leb (length (rows_bytes (numbered ls))) room) g in record { lines = ls; good = f; long = x.0; number = x.1; place = x.2 }
    end ls f (inr g) = absurd (not_done n p (numbered ls) (sym g.2))

    go : (lines_from 1 (lines_of file) ≡ RefusedAt n p)
        ⊎ ((ls : List NamedRow) × (lines_from 1 (lines_of file) ≡ Done ls) ×
        ((unless_so 7 (leb (length (rows_bytes (numbered ls))) room) >>= λ _. Done (numbered ls)) ≡ RefusedAt n p))
        → ((13 ≡ n) × FirstBad 1 (lines_of file) p) ⊎ NoRoom file room n p
    go (inl f) = inl (lines_refused 1 (lines_of file) f)
    go (inr f) =
        inr (end f.0 f.1 (then_refused (unless_so 7 (leb (length (rows_bytes (numbered f.0))) room)) (λ _. Done (numbered f.0)) f.2))

-- what is read are the rows of all lines, numbered
pub record ReadFrom (file : List ℕ) (room : ℕ) (rs : List Row) : Type 0 where
  pub lines : List NamedRow
  pub good : lines_from 1 (lines_of file) ≡ Done lines
  pub is : numbered lines ≡ rs
  pub fits : leb (length (rows_bytes (numbered lines))) room ≡ true

pub read_done : (file : List ℕ) (room : ℕ) {rs : List Row} → read_file file room ≡ Done rs → ReadFrom file room rs
unfolding read_file
read_done file room {rs} e =
    let x = then_done (lines_from 1 (lines_of file)) (λ ls. unless_so 7 (leb (length (rows_bytes (numbered ls))) room) >>= λ _. Done (numbered ls)) e in
    let y = then_done (unless_so 7 (leb (length (rows_bytes (numbered x.0))) room)) (λ _. Done (numbered x.0)) x.2 in
    record {
      lines = x.0;
      good = x.1;
      is = done_is (numbered x.0) rs y.2;
      fits = so_done 7 (leb (length (rows_bytes (numbered x.0))) room)
          y.1;
    }
