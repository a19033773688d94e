-- A row's line, column by column, and the columns as code has them.
use Prim.Native.Nat.{ℕ, zero, suc, ◌+◌}
use mathlib.Core.Path.{◌≡◌, refl, sym, ◌∙◌, ap}
use mathlib.Core.Bool.{true, false}
use mathlib.Core.List.{List, [], ◌∷◌, ◌++◌, append_assoc, append-nil}
use mathlib.Core.Option.{Option}
use lib.Dec.{eqb}
use lib.IntN.{ℤ}
use lib.ListN.{take, drop, get_or}
use Rattle.rules.specs.Lists.{any, join_with}
use Rattle.rules.specs.Letters.{text}
use Rattle.rules.specs.Bytes.{signed_of}
use Rattle.rules.specs.Book.{Record, PriceRecord}
use Rattle.rules.specs.BookLayout.{value_of}
use Rattle.rules.specs.Program.{digits, decimal}
use Rattle.rules.specs.RowBytes.{flag_of, hundredths_of}
use Rattle.file_rules.specs.Fields.{field_text, first_field_text}
use Rattle.file_rules.specs.Decimals.{text_text, date_text, value_text}
use Rattle.file_rules.specs.PriceLine.{line_text}
use Rattle.file_rules.specs.PriceFile.{file_text}
use Rattle.file_rules.proofs.PriceLineLaws.{two_cases}
use Rattle.layout.specs.Reads.{part}
use Rattle.kinds.specs.Fields.{number_at, signed_at, row_at}
use Rattle.records.specs.Asks.{TwoNames}
use Rattle.records.proofs.PriceLaws.{row_rule}
use Rattle.decimals.specs.Texts.{ended}
use Rattle.quotes.specs.Names.{text_in}
use Rattle.price_terms.specs.declared.Terms.{Terms}
use Rattle.price_terms.specs.Terms.{TermsAre, flag_digit, two, four, span_text, tail_text}
use Rattle.price_terms.proofs.PartLaws.{flat}
use Rattle.price_text.specs.Line.{brings, line_of, names_text, term_text}

-- ---- fields with semicolons between them, and an empty one behind them

ends : List (List ℕ) → List ℕ → List ℕ
ends [] u = u
ends (f ∷ fs) u = ended f ++ ends fs u

with_ends : (f : List ℕ) (fs : List (List ℕ)) (u : List ℕ) → join_with (text ";") (f ∷ (fs ++ ([] ∷ []))) ++ u ≡ ends (f ∷ fs) u
unfolding ends ended
with_ends f [] u = refl
with_ends f (g ∷ gs) u =
    append_assoc f (59 ∷ join_with (text ";") (g ∷ (gs ++ ([] ∷ [])))) u
    ∙ (ap (λ (s : List ℕ). f ++ (59 ∷ s)) (with_ends g gs u) ∙ sym (append_assoc f (59 ∷ []) (ends (g ∷ gs) u)))

-- ---- the columns that code writes in its own way

rule_digit : (n : ℕ) → any (eqb n) (1 ∷ 2 ∷ []) ≡ true → decimal n ≡ (48 + n) ∷ []
unfolding digits
rule_digit n e = two_cases (λ (k : ℕ). decimal k ≡ (48 + k) ∷ []) 1 2 refl refl n e

flag_digit_lem : (k : ℕ) (z : ℤ) → decimal (flag_of (value_of k z)) ≡ flag_digit k ∷ []
unfolding digits
flag_digit_lem zero z = refl
flag_digit_lem (suc k) z = refl

worth : (k : ℕ) (z : ℤ) → hundredths_of (value_of k z) ≡ z
worth zero z = refl
worth (suc k) z = refl

-- ---- a line

module _ (names : List ℕ → List ℕ) (sort level : ℕ) (currency : List ℕ) where
  -- by its columns
  abbrev laid : List ℕ → ℕ → ℤ → List ℕ → ℕ → ℕ → ℕ → List ℕ
  laid rule number value flag from to upto =
      names
      (ended (sort ∷ [])
      ++ (ended (level ∷ [])
      ++ (ended rule
      ++ (ended (text_text number)
      ++ (ended (value_text value)
      ++ (ended flag
      ++ (ended currency ++ (ended (date_text from) ++ (ended (date_text to) ++ (ended (decimal upto) ++ (10 ∷ [])))))))))))

module _ (t : List ℕ) (a p : ℕ) (here : TwoNames t a p 29 (PriceRecord (row_at t 1 a p))) {r : Terms} (m : TermsAre t p r) where
  abbrev names : List ℕ → List ℕ
  names u = ended (text_in true (part t 2 a)) ++ (ended (text_in false (part t (a + 1) p)) ++ u)

  abbrev columns : List ℕ → ℕ → ℤ → List ℕ → ℕ → ℕ → ℕ → List ℕ
  columns = laid names (get_or t p 0) (get_or t (p + 1) 0) (take 3 (drop (p + 12) t))

  -- of the row
  row_laid : line_of t
      ≡ columns (decimal (get_or t (p + 2) 0)) (number_at 4 t (p + 3)) (hundredths_of (value_of (get_or t (p + 7) 0) (signed_at t (p + 8))))
      (decimal (flag_of (value_of (get_or t (p + 7) 0) (signed_at t (p + 8))))) (number_at 4 t (p + 15)) (number_at 4 t (p + 19)) (number_at 4 t (p + 23))
  unfolding line_of file_text line_text row_at text_in ends
  row_laid =
      let k : ℕ = get_or t (p + 7) 0 in
      let v = value_of k (signed_at t (p + 8)) in
      ap (λ (o : Option Record). file_text (brings o)) here.is
      ∙ (append-nil (line_text (row_at t 1 a p) ++ (10 ∷ []))
      ∙ with_ends (first_field_text (part t 2 a))
      (field_text (part t (a + 1) p)
      ∷ (get_or t p 0 ∷ [])
      ∷ (get_or t (p + 1) 0 ∷ [])
      ∷ decimal (get_or t (p + 2) 0)
      ∷ text_text (number_at 4 t (p + 3))
      ∷ value_text (hundredths_of v)
      ∷ decimal (flag_of v)
      ∷ take 3 (drop (p + 12) t)
      ∷ date_text (number_at 4 t (p + 15))
      ∷ date_text (number_at 4 t (p + 19))
      ∷ decimal (number_at 4 t (p + 23))
      ∷ []) (10 ∷ []))

  -- of the code
  code_laid : two (names_text t a p) (term_text t p r)
      ≡ columns ((48 + get_or t (p + 2) 0) ∷ []) r.text (signed_of 4 r.value) (flag_digit (get_or t (p + 7) 0) ∷ []) r.from r.to r.upto
  unfolding two four ended
  code_laid =
      let s = ended (get_or t p 0 ∷ []) in
      let l = ended (get_or t (p + 1) 0 ∷ []) in
      let d = ended ((48 + get_or t (p + 2) 0) ∷ []) in
      let x = ended (text_text r.text) in
      let v = ended (value_text (signed_of 4 r.value)) in
      let f = ended (flag_digit (get_or t (p + 7) 0) ∷ []) in
      let c = take 3 (drop (p + 12) t) in
      let last = span_text r.from r.to r.upto in
      append_assoc (ended (text_in true (part t 2 a))) (ended (text_in false (part t (a + 1) p))) (term_text t p r)
      ∙ ap names
      (flat s l d x (tail_text t p r)
      ∙ ap (λ (u : List ℕ). s ++ (l ++ (d ++ (x ++ u))))
      (flat v f c (59 ∷ []) last ∙ ap (λ (u : List ℕ). v ++ (f ++ u)) (sym (append_assoc c (59 ∷ []) last))))

  pub line_as : line_of t ≡ two (names_text t a p) (term_text t p r)
  line_as = row_laid ∙ (same ∙ sym code_laid)
    where
      k : ℕ
      k = get_or t (p + 7) 0

      same : columns (decimal (get_or t (p + 2) 0)) (number_at 4 t (p + 3)) (hundredths_of (value_of k (signed_at t (p + 8))))
          (decimal (flag_of (value_of k (signed_at t (p + 8))))) (number_at 4 t (p + 15)) (number_at 4 t (p + 19)) (number_at 4 t (p + 23))
          ≡ columns ((48 + get_or t (p + 2) 0) ∷ []) r.text (signed_of 4 r.value) (flag_digit k ∷ []) r.from r.to r.upto
      same =
          λ i. columns (rule_digit (get_or t (p + 2) 0) (row_rule t a p here).is i) (sym m.text i)
          ((worth k (signed_at t (p + 8)) ∙ ap (signed_of 4) (sym m.value)) i)
          (flag_digit_lem k (signed_at t (p + 8)) i) (sym m.from i) (sym m.to i) (sym m.upto i)
