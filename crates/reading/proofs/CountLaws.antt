-- No file has more rows than bytes, nor more names of texts than rows.
use Prim.Native.Nat.{ℕ, suc, ◌+◌, ◌≤◌}
use mathlib.Core.Path.{◌≡◌, refl, sym, subst}
use mathlib.Core.Bool.{Bool, true, false, ◌||◌, cond}
use mathlib.Core.List.{List, [], ◌∷◌, ◌++◌}
use mathlib.Core.Option.{Option, some, none, some-injective, none-ne-some}
use native.Mathlib.Omega.{arith}
use lib.Dec.{eqb}
use lib.ListN.{length, length-append}
use Rattle.rules.specs.Layout.{whole}
use Rattle.rules.specs.PlacedRefusals.{Done, ◌>>=◌, or_refuse_at}
use Rattle.rules.proofs.PlacedRefusalLaws.{then_done, or_done, done_is}
use Rattle.file_rules.specs.Fields.{line_end, onto_first, lines_of, is_blank, is_remark}
use Rattle.file_rules.specs.PriceLine.{NamedRow, is_empty, price_line, alone, brought_by, brought}
use Rattle.file_rules.specs.PriceFile.{lines_from}
use Rattle.file_rules.proofs.PriceFileLaws.{lines_on, lines_end}
use Rattle.file_rules.proofs.NumberingLaws.{seen, after}
use Rattle.reading.specs.Rows.{rows_in, Good, met_after}
use Rattle.reading.proofs.MetLaws.{one_longer}

-- ---- lines, rows

onto_long : (b : ℕ) (ls : List (List ℕ)) → length (onto_first b ls) ≤ length ls + 1
onto_long b [] = omega arith
onto_long b (l ∷ ls) = omega arith

few_lines : (s : List ℕ) → length (lines_of s) ≤ length s
unfolding lines_of
few_lines [] = omega arith
few_lines (b ∷ s) = by (eqb b line_end) refl (few_lines s)
  where
    by : (t : Bool) → eqb b line_end ≡ t → length (lines_of s) ≤ length s → length (lines_of (b ∷ s)) ≤ suc (length s)
    by true e h = subst (λ (ls : List (List ℕ)). length ls ≤ suc (length s)) (sym (lines_end b s e)) (omega arith)
    by false e h = subst (λ (ls : List (List ℕ)). length ls ≤ suc (length s)) (sym (lines_on b s e)) (omega (arith, onto_long b (lines_of s)))

one_row : (s : List ℕ) (ls : List NamedRow) → brought s ≡ some ls → length ls ≤ 1
unfolding brought
one_row s ls e = by (is_blank s || is_remark s) e
  where
    one : (o : Option NamedRow) → alone o ≡ some ls → length ls ≤ 1
    one none e = absurd (none-ne-some ls e)
    one (some l) e = subst (λ (ls : List NamedRow). length ls ≤ 1) (some-injective (l ∷ []) ls e) (omega arith)

    by : (t : Bool) → brought_by t s ≡ some ls → length ls ≤ 1
    by true e = subst (λ (ls : List NamedRow). length ls ≤ 1) (some-injective [] ls e) (omega arith)
    by false e = one (whole price_line s) e

few_rows : (n : ℕ) (ss : List (List ℕ)) (ls : List NamedRow) → lines_from n ss ≡ Done ls → length ls ≤ length ss
unfolding lines_from
few_rows n [] ls e = subst (λ (ls : List NamedRow). length ls ≤ 0) (done_is [] ls e) (omega arith)
few_rows n (s ∷ ss) ls e =
    let x = then_done (or_refuse_at 13 n (brought s)) (λ here. lines_from (suc n) ss >>= λ behind. Done (here ++ behind)) e in
    let y = then_done (lines_from (suc n) ss) (λ behind. Done (x.0 ++ behind)) x.2 in
    let i : length x.0 ≤ 1 = one_row s x.0 (or_done 13 n (brought s) x.1) in
    let j : length y.0 ≤ length ss = few_rows (suc n) ss y.0 y.1 in
    subst (λ (ls : List NamedRow). length ls ≤ suc (length ss)) (done_is (x.0 ++ y.0) ls y.2) (omega (arith, length-append x.0 y.0))

-- ---- names

after_long : (met : List (List ℕ)) (x : List ℕ) → (length met ≤ length (after met x)) × (length (after met x) ≤ length met + 1)
after_long met x = by (is_empty x || seen met x)
  where
    by : (t : Bool) → (length met ≤ length (cond t met (met ++ (x ∷ [])))) × (length (cond t met (met ++ (x ∷ []))) ≤ length met + 1)
    by true = (omega arith, omega arith)
    by false = (omega (arith, one_longer met x), omega (arith, one_longer met x))

pub met_grows : (met : List (List ℕ)) (ls : List NamedRow)
    → (length met ≤ length (met_after met ls)) × (length (met_after met ls) ≤ length met + length ls)
unfolding met_after
met_grows met [] = (omega arith, omega arith)
met_grows met (l ∷ ls) =
    let a = after_long met l.name in
    let i = met_grows (after met l.name) ls in
    (omega (arith, a.0, i.0), omega (arith, a.1, i.1))

pub few_names : (file : List ℕ) → Good file → length (met_after [] (rows_in file)) ≤ length file
few_names file g = omega (arith, (met_grows [] (rows_in file)).1, few_rows 1 (lines_of file) (rows_in file) g.is, few_lines file)
