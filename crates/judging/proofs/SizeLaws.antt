-- How long the records of rows are, whatever numbers their texts have.
use Prim.Native.Nat.{ℕ, ◌+◌}
use mathlib.Core.Path.{◌≡◌, refl, sym, ◌∙◌, ap, ap₂}
use mathlib.Core.List.{List, [], ◌∷◌, ◌++◌, map}
use native.Mathlib.Omega.{arith}
use lib.ListN.{length, length-append}
use Rattle.rules.specs.Lists.{join}
use Rattle.rules.specs.RowBytes.{row_bytes, rows_bytes}
use Rattle.file_rules.specs.PriceLine.{NamedRow}
use Rattle.file_rules.specs.PriceFile.{with_text, text_names, numbered, text_number}
use Rattle.price_record.proofs.SizeLaws.{row_length}
use Rattle.judging.specs.Judge.{sizes}

-- whatever the text numbers are
pub texts_apart : (g : NamedRow → ℕ) (ls : List NamedRow) → length (rows_bytes (map (λ l. with_text (g l) l.row) ls)) ≡ sizes ls
unfolding rows_bytes sizes
texts_apart g [] = refl
texts_apart g (l ∷ ls) =
    length-append (row_bytes (with_text (g l) l.row)) (join (map row_bytes (map (λ l. with_text (g l) l.row) ls)))
    ∙ (ap₂ (λ (m n : ℕ). m + n) (row_length (with_text (g l) l.row) ∙ sym (row_length l.row)) (texts_apart g ls)
    ∙ sym (length-append (row_bytes l.row) (join (map row_bytes (map (λ l. l.row) ls)))))

pub numbered_length : (ls : List NamedRow) → length (rows_bytes (numbered ls)) ≡ sizes ls
unfolding numbered
numbered_length ls = texts_apart (λ l. text_number (text_names ls) l.name) ls

pub sizes_none : sizes [] ≡ 0
unfolding sizes rows_bytes
sizes_none = refl

pub sizes_one : (l : NamedRow) → sizes (l ∷ []) ≡ 31 + length l.row.article + length l.row.condition + length l.row.currency
unfolding sizes rows_bytes
sizes_one l = length-append (row_bytes l.row) [] ∙ omega (arith, row_length l.row)

pub sizes_append : (ks ls : List NamedRow) → sizes (ks ++ ls) ≡ sizes ks + sizes ls
unfolding sizes rows_bytes
sizes_append [] ls = omega arith
sizes_append (k ∷ ks) ls =
    length-append (row_bytes k.row) (join (map row_bytes (map (λ l. l.row) (ks ++ ls))))
    ∙ (ap (λ (n : ℕ). length (row_bytes k.row) + n) (sizes_append ks ls)
    ∙ omega (arith, length-append (row_bytes k.row) (join (map row_bytes (map (λ l. l.row) ks)))))
