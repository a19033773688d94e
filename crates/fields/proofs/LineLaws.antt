-- Blank lines and remarks.
use Prim.Native.Nat.{ℕ, ◌+◌, ◌<◌}
use mathlib.Core.Path.{◌≡◌, refl, sym, ◌∙◌, ap}
use mathlib.Core.Bool.{Bool, true, false, ◌&&◌, ◌||◌}
use mathlib.Core.List.{List, [], ◌∷◌}
use lib.Dec.{eqb}
use lib.ListN.{length, drop, get_or}
use Rattle.std.specs.List.{list_all}
use Rattle.rules.specs.Lists.{all}
use Rattle.file_rules.specs.Fields.{is_blank, is_remark, cut, lines_of, onto_first}
use Rattle.file_rules.proofs.PriceFileLaws.{lines_on, lines_end}
use Rattle.file_rules.proofs.FieldLaws.{cut_on, cut_at}
use Rattle.layout.specs.Ensures.{Says}
use Rattle.fields.specs.Field.{CutAt}
use Rattle.fields.proofs.PartLaws.{next_byte}
use Rattle.layout.specs.Reads.{part}
use lib.Seq.{drop-drop}
use borrow.Author.Tests.{eq-eqb, ne_eqb, eqb-true, eqb-false}

all_is : (p : ℕ → Bool) (s : List ℕ) → list_all p s ≡ all p s
all_is p [] = refl
all_is p (b ∷ s) = ap (λ (t : Bool). p b && t) (all_is p s)

abbrev pub blank : ℕ → Bool
blank b = eqb b 32 || eqb b 9

pub blank_is : (s : List ℕ) {r : Bool} → r ≡ list_all blank s → Says (is_blank s) r
blank_is s e = record { is = sym (e ∙ all_is blank s) }

pub nothing_is : (s : List ℕ) {a b : Bool} → Says (is_blank s) a → Says (is_remark s) b → Says (is_blank s || is_remark s) (a || b)
nothing_is s {a} p q = record { is = ap (λ t. t || is_remark s) p.is ∙ ap (λ t. a || t) q.is }

-- ---- where a line ends

unfoldable Cut : List ℕ → List (List ℕ)
Cut s = (cut 10 s).0 ∷ lines_of (drop 1 (cut 10 s).1)

onto_cut : (b : ℕ) (s : List ℕ) → eqb 10 b ≡ false → Cut (b ∷ s) ≡ onto_first b (Cut s)
unfolding Cut
onto_cut b s e = ap (λ (p : List ℕ × List ℕ). p.0 ∷ lines_of (drop 1 p.1)) (cut_on 10 b s e)

at_end_lem : (b : ℕ) (s : List ℕ) → eqb 10 b ≡ true → lines_of (b ∷ s) ≡ Cut (b ∷ s)
unfolding Cut
at_end_lem b s e =
    lines_end b s (eq-eqb b 10 (sym (eqb-true 10 b e))) ∙ sym (ap (λ (p : List ℕ × List ℕ). p.0 ∷ lines_of (drop 1 p.1)) (cut_at 10 b s e))

last_byte : (b : ℕ) → eqb 10 b ≡ false → onto_first b (lines_of []) ≡ Cut (b ∷ [])
unfolding Cut lines_of cut
last_byte b e = sym (ap (λ (p : List ℕ × List ℕ). p.0 ∷ lines_of (drop 1 p.1)) (cut_on 10 b [] e))

first_line : (b : ℕ) (s : List ℕ) → lines_of (b ∷ s) ≡ Cut (b ∷ s)
first_line b [] = by (eqb 10 b) refl
  where
    by : (x : Bool) → eqb 10 b ≡ x → lines_of (b ∷ []) ≡ Cut (b ∷ [])
    by true e = at_end_lem b [] e
    by false e = lines_on b [] (ne_eqb b 10 (λ f. eqb-false 10 b e (sym f))) ∙ last_byte b e
first_line b (c ∷ s) = by (eqb 10 b) refl (first_line c s)
  where
    by : (x : Bool) → eqb 10 b ≡ x → lines_of (c ∷ s) ≡ Cut (c ∷ s) → lines_of (b ∷ (c ∷ s)) ≡ Cut (b ∷ (c ∷ s))
    by true e i = at_end_lem b (c ∷ s) e
    by false e i = lines_on b (c ∷ s) (ne_eqb b 10 (λ f. eqb-false 10 b e (sym f))) ∙ (ap (onto_first b) i ∙ sym (onto_cut b (c ∷ s) e))

-- a line, and those behind it
pub line_at : {s : List ℕ} {at r : ℕ} → CutAt 10 s at r → at < length s → lines_of (drop at s) ≡ part s at r ∷ lines_of (drop (r + 1) s)
unfolding Cut
line_at {s} {at} {r} p l =
    ap lines_of (next_byte s at l)
    ∙ (first_line (get_or s at 0) (drop (at + 1) s)
    ∙ (sym (ap Cut (next_byte s at l))
    ∙ (ap (λ (x : List ℕ × List ℕ). x.0 ∷ lines_of (drop 1 x.1)) p.is ∙ ap (λ (u : List ℕ). part s at r ∷ lines_of u) (drop-drop 1 r s))))
