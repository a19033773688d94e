-- Lines with two sums in hand are the lines of the definition, and the amounts listed sum to the unit total.
use mathlib.Core.Path.{◌≡◌, refl, sym, ◌∙◌, ap}
use mathlib.Core.Bool.{Bool, true, false, cond}
use mathlib.Core.List.{List, [], ◌∷◌, ◌++◌, map, append_assoc, append-nil}
use lib.Dec.{eqb}
use lib.IntN.{ℤ, pos, ◌+ℤ◌, +ℤ_idl, +ℤ_idr, +ℤ_assoc}
use Rattle.rules.specs.Lists.{keep, cons_if}
use Rattle.rules.specs.Book.{Record, roundings, rounding_for, rows}
use Rattle.rules.specs.Question.{Question}
use Rattle.rules.specs.Amounts.{rounded, factored, exact}
use Rattle.rules.specs.Lines.{Line, Chosen, total, base_sum, of_base, line_after, lines_after, lines_of, chosen}
use Rattle.rules.specs.declared.Rounding.{Rounding}
use Rattle.rules.proofs.ListLaws.{keep_append}

pub total_cons : (l : Line) (ls : List Line) → total (l ∷ ls) ≡ l.amount +ℤ total ls
unfolding total
total_cons l ls = refl

pub total_append : (ls ms : List Line) → total (ls ++ ms) ≡ total ls +ℤ total ms
unfolding total
total_append [] ms = sym (+ℤ_idl (total ms))
total_append (l ∷ ls) ms = ap (λ z. l.amount +ℤ z) (total_append ls ms) ∙ sym (+ℤ_assoc l.amount (total ls) (total ms))

total_one : (l : Line) → total (l ∷ []) ≡ l.amount
unfolding total
total_one l = +ℤ_idr l.amount

-- an amount that counts to the base sum only on a base line
abbrev pub amount_if : Bool → ℤ → ℤ
amount_if true z = z
amount_if false z = pos 0

base_one : (b : Bool) (l : Line) → total (cons_if b l []) ≡ amount_if b l.amount
unfolding total
base_one true l = +ℤ_idr l.amount
base_one false l = refl

-- one more line behind the others: what the two sums become
pub total_snoc : (ls : List Line) (l : Line) → total (ls ++ (l ∷ [])) ≡ total ls +ℤ l.amount
total_snoc ls l = total_append ls (l ∷ []) ∙ ap (λ z. total ls +ℤ z) (total_one l)

pub base_snoc : (ls : List Line) (l : Line) → base_sum (ls ++ (l ∷ [])) ≡ base_sum ls +ℤ amount_if (of_base l) l.amount
unfolding base_sum
base_snoc ls l =
    ap total (keep_append of_base ls (l ∷ []))
    ∙ total_append (keep of_base ls) (keep of_base (l ∷ []))
    ∙ ap (λ z. total (keep of_base ls) +ℤ z) (base_one (of_base l) l)

-- ---- the same lines, with the two sums in hand

abbrev pub line_with : List Rounding → ℤ → ℤ → Chosen → Line
line_with rs base running c =
    record {
      place = c.place;
      factor = c.factor;
      row = c.row;
      amount = rounded (rounding_for c.row.rounding rs) (factored c.factor (exact c.row.value (cond (eqb c.row.rule 1) base running)));
    }

abbrev pub run : List Rounding → ℤ → ℤ → List Chosen → List Line
run rs base running [] = []
run rs base running (c ∷ cs) =
    line_with rs base running c
    ∷ run rs (base +ℤ amount_if (of_base (line_with rs base running c)) (line_with rs base running c).amount) (running +ℤ (line_with rs base running c).amount) cs

pub runs : (rs : List Rounding) (before : List Line) (cs : List Chosen) → lines_after rs before cs ≡ before ++ run rs (base_sum before) (total before) cs
unfolding lines_after
runs rs before [] = sym (append-nil before)
runs rs before (c ∷ cs) =
    let l : Line = line_after rs before c in
    runs rs (before ++ (l ∷ [])) cs
    ∙ append_assoc before (l ∷ []) (run rs (base_sum (before ++ (l ∷ []))) (total (before ++ (l ∷ []))) cs)
    ∙ ap (λ ms. before ++ (l ∷ ms)) (λ i. run rs (base_snoc before l i) (total_snoc before l i) cs)

-- the lines of a question, by a run that starts with two zeros
pub lines_run : (book : List Record) (q : Question) → lines_of book q ≡ run (roundings book) (pos 0) (pos 0) (chosen (rows book) q)
unfolding lines_of base_sum total
lines_run book q = runs (roundings book) [] (chosen (rows book) q)

-- the rows of the lines are the chosen rows: refusals 4 and 5 need no amount
pub run_rows : (rs : List Rounding) (cs : List Chosen) (base running : ℤ) → map (λ l. l.row) (run rs base running cs) ≡ map (λ c. c.row) cs
run_rows rs [] base running = refl
run_rows rs (c ∷ cs) base running = ap (λ xs. c.row ∷ xs) (run_rows rs cs _ _)

pub line_rows : (book : List Record) (q : Question) → map (λ l. l.row) (lines_of book q) ≡ map (λ c. c.row) (chosen (rows book) q)
line_rows book q = ap (λ ls. map (λ l. l.row) ls) (lines_run book q) ∙ run_rows (roundings book) (chosen (rows book) q) (pos 0) (pos 0)
