-- The definition's lines by the views of the chosen rows: amounts, base line, currency, places and bytes.
use Prim.Native.Nat.{ℕ}
use mathlib.Core.Path.{◌≡◌, refl, ap, ◌∙◌}
use mathlib.Core.Bool.{Bool, true, false, ◌&&◌, cond}
use mathlib.Core.List.{List, [], ◌∷◌, ◌++◌, map}
use mathlib.Core.Option
use mathlib.Core.Option.{Option, some}
use lib.IntN.{ℤ, ◌+ℤ◌, +ℤ_idr}
use Rattle.rules.specs.Lists.{first, pick}
use Rattle.rules.specs.Lines.{Chosen, Line, amounts, of_base, line_bytes, lines_bytes}
use Rattle.rules.specs.Price.{in_one_currency}
use Rattle.rules.specs.declared.Rounding.{Rounding}
use Rattle.rules.proofs.LinesLaws.{amount_if, line_with, run}
use Rattle.lines.specs.Views.{View, view_of, is_base, fits, one_currency, amount_on, amounts_from, views_bytes}

grows : (b : Bool) (base z : ℤ) → base +ℤ amount_if b z ≡ cond b (base +ℤ z) base
grows true base z = refl
grows false base z = +ℤ_idr base

map_pick : {A B C : Type 0} (f : A → C) (g : B → C) (b : Bool) (x : A) (y : B) (o : Option A) (p : Option B)
    → f x ≡ g y → Option.map f o ≡ Option.map g p → Option.map f (pick b x o) ≡ Option.map g (pick b y p)
map_pick f g true x y o p e h = ap some e
map_pick f g false x y o p e h = h

module _ (rs : List Rounding) where
  abbrev views : List Chosen → List View
  views cs = map (view_of rs) cs

  pub run_amounts : (base total : ℤ) (cs : List Chosen) → amounts (run rs base total cs) ≡ amounts_from base total (views cs)
  unfolding amounts_from amount_on
  run_amounts base total [] = refl
  run_amounts base total (c ∷ cs) =
      let l : Line = line_with rs base total c in
      ap (λ zs. l.amount ∷ zs)
      (run_amounts (base +ℤ amount_if (of_base l) l.amount) (total +ℤ l.amount) cs ∙ ap (λ b. amounts_from b (total +ℤ l.amount) (views cs)) (grows (of_base l) base l.amount))

  -- the currency of the first base line
  pub run_base : (base total : ℤ) (cs : List Chosen) → Option.map (λ l. l.row.currency) (first of_base (run rs base total cs)) ≡ Option.map (λ v. v.currency) (first is_base (views cs))
  run_base base total [] = refl
  run_base base total (c ∷ cs) =
      let l : Line = line_with rs base total c in
      map_pick (λ l. l.row.currency) (λ v. v.currency) (is_base (view_of rs c)) l (view_of rs c) (first of_base (run rs (base +ℤ amount_if (of_base l) l.amount) (total +ℤ l.amount) cs)) (first is_base (views cs)) refl
      (run_base (base +ℤ amount_if (of_base l) l.amount) (total +ℤ l.amount) cs)

  pub run_currency : (c : List ℕ) (base total : ℤ) (cs : List Chosen) → in_one_currency c (run rs base total cs) ≡ one_currency c (views cs)
  run_currency c base total [] = refl
  run_currency c base total (x ∷ xs) =
      let l : Line = line_with rs base total x in
      ap (λ b. fits c (view_of rs x) && b) (run_currency c (base +ℤ amount_if (of_base l) l.amount) (total +ℤ l.amount) xs)

  pub run_places : (base total : ℤ) (cs : List Chosen) → map (λ l. l.place) (run rs base total cs) ≡ map (λ v. v.place) (views cs)
  run_places base total [] = refl
  run_places base total (c ∷ cs) =
      let l : Line = line_with rs base total c in
      ap (λ ps. c.place ∷ ps) (run_places (base +ℤ amount_if (of_base l) l.amount) (total +ℤ l.amount) cs)

  pub run_bytes : (base total : ℤ) (cs : List Chosen) → lines_bytes (run rs base total cs) ≡ views_bytes (views cs) (amounts (run rs base total cs))
  unfolding lines_bytes views_bytes
  run_bytes base total [] = refl
  run_bytes base total (c ∷ cs) =
      let l : Line = line_with rs base total c in
      ap (λ bs. line_bytes l ++ bs) (run_bytes (base +ℤ amount_if (of_base l) l.amount) (total +ℤ l.amount) cs)
