-- What the reader gives: text numbers that run by first appearance, and rows that a book may hold and a line can.
use Prim.Native.Nat.{ℕ, suc, ◌+◌, ◌≤◌, ◌<◌}
use mathlib.Core.Path.{◌≡◌, refl, ap, subst}
use mathlib.Core.Bool.{Bool, true, false, cond}
use mathlib.Core.List.{List, [], ◌∷◌, map}
use native.Mathlib.Omega.{arith}
use lib.Dec.{leb}
use lib.ListN.{length}
use borrow.Author.Tests.{leb-true}
use Rattle.rules.specs.Book.{Row}
use Rattle.rules.specs.RowBytes.{rows_bytes}
use Rattle.rules.specs.PlacedRefusals.{Done}
use Rattle.file_rules.specs.Fields.{lines_of}
use Rattle.file_rules.specs.PriceLine.{NamedRow}
use Rattle.file_rules.specs.PriceFile.{numbered_by, numbered, run_from, texts, texts_run, read_file, fits_line}
use Rattle.rules.proofs.TestLaws.{and_left, and_right}
use Rattle.rules.proofs.ListLaws.{All}
use Rattle.rules.proofs.RowLaws.{all_imply}
use Rattle.file_rules.proofs.PriceLineLaws.{SoundRow}
use Rattle.file_rules.proofs.PriceFileLaws.{numbered_runs}
use Rattle.file_rules.proofs.FirstBadLaws.{read_done}
use Rattle.file_rules.proofs.LineSoundLaws.{SoundLine, lines_sound}
use Rattle.file_rules.proofs.RowBytesLaws.{at_least_one}

-- numbers that run are no more than there are
run_within : (k : ℕ) (ts : List ℕ) → run_from k ts ≡ true → All (λ t. t ≤ k + length ts) ts
unfolding run_from
run_within k [] e = tt
run_within k (t ∷ ts) e =
    let l : t ≤ suc k = leb-true t (suc k) (and_left (leb t (suc k)) (run_from (cond (leb t k) k t) ts) e) in
    let n : cond (leb t k) k t ≤ suc k = next (leb t k) l in (
      omega arith,
      all_imply {P = λ x. x ≤ cond (leb t k) k t + length ts} {Q = λ x. x ≤ k + suc (length ts)} (λ x h. omega arith) ts
          (run_within (cond (leb t k) k t) ts (and_right (leb t (suc k)) (run_from (cond (leb t k) k t) ts) e)),
    )
  where
    next : (b : Bool) → t ≤ suc k → cond b k t ≤ suc k
    next true l = omega arith
    next false l = l

sound_each : (ns : List (List ℕ)) (ls : List NamedRow) → All SoundLine ls → All (λ t. t < 4_294_967_296) (texts (map (numbered_by ns) ls))
    → All SoundRow (map (numbered_by ns) ls)
sound_each ns [] hs ts = tt
sound_each ns (l ∷ ls) hs ts = (hs.0.sound _ ts.0, sound_each ns ls hs.1 ts.1)

fit_each : (ns : List (List ℕ)) (ls : List NamedRow) → All SoundLine ls → All (λ r. fits_line r ≡ true) (map (numbered_by ns) ls)
fit_each ns [] hs = tt
fit_each ns (l ∷ ls) hs = (hs.0.fits, fit_each ns ls hs.1)

count_texts : (rs : List Row) → length (texts rs) ≡ length rs
count_texts [] = refl
count_texts (r ∷ rs) = ap suc (count_texts rs)

pub numbers_run : (file : List ℕ) (room : ℕ) (rs : List Row) → read_file file room ≡ Done rs → texts_run rs ≡ true
numbers_run file room rs e = let x = read_done file room e in subst (λ (rs : List Row). texts_run rs ≡ true) x.is (numbered_runs x.lines)

pub rows_sound : (file : List ℕ) (room : ℕ) (rs : List Row) → read_file file room ≡ Done rs → length (rows_bytes rs) < 4_294_967_296
    → All SoundRow rs × All (λ r. fits_line r ≡ true) rs
unfolding numbered
rows_sound file room rs e h =
    let x = read_done file room e in
    let s : All SoundLine x.lines = lines_sound 1 (lines_of file) x.lines x.good in
    let c : length rs < 4_294_967_296 = omega (arith, at_least_one rs) in
    let t : All (λ t. t < 4_294_967_296) (texts rs) =
    all_imply {P = λ t. t ≤ 0 + length (texts rs)} {Q = λ t. t < 4_294_967_296} (λ t l. omega (arith, count_texts rs)) (texts rs)
    (run_within 0 (texts rs) (numbers_run file room rs e)) in (
      subst (λ (rs : List Row). All (λ t. t < 4_294_967_296) (texts rs) → All SoundRow rs) x.is (λ t. sound_each _ x.lines s t) t,
      subst (λ (rs : List Row). All (λ r. fits_line r ≡ true) rs) x.is (fit_each _ x.lines s),
    )
