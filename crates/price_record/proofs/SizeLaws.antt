-- How long a price record is: by its names alone.
use Prim.Native.Nat.{ℕ, suc, ◌+◌}
use mathlib.Core.Path.{◌≡◌, ◌∙◌}
use mathlib.Core.List.{List, ◌∷◌, ◌++◌}
use native.Mathlib.Omega.{arith}
use lib.ListN.{length, length-append}
use Rattle.rules.specs.Bytes.{bytes_of}
use Rattle.rules.specs.Book.{Row}
use Rattle.rules.specs.RowBytes.{value_bytes, row_body, row_bytes}

pub body_length : (r : Row) → length (row_body r) ≡ 28 + length r.article + length r.condition + length r.currency
body_length r =
    let a : length (r.article ++ (length r.condition ∷ (r.condition ++ terms))) ≡ length r.article + suc (length (r.condition ++ terms)) =
    length-append r.article (length r.condition ∷ (r.condition ++ terms)) in
    let c : length (r.condition ++ terms) ≡ length r.condition + (12 + length (r.currency ++ dates)) =
    length-append r.condition terms ∙ omega arith in
    let m : length (r.currency ++ dates) ≡ length r.currency + 14 = length-append r.currency dates ∙ omega arith in
    omega arith
  where
    dates : List ℕ
    dates = bytes_of 4 r.from ++ (bytes_of 4 r.to ++ (bytes_of 4 r.up_to ++ bytes_of 2 r.rounding))

    terms : List ℕ
    terms = r.sort ∷ r.level ∷ r.rule ∷ (bytes_of 4 r.text ++ (value_bytes r.value ++ (r.currency ++ dates)))

pub row_length : (r : Row) → length (row_bytes r) ≡ 31 + length r.article + length r.condition + length r.currency
unfolding row_bytes
row_length r = let e : length (row_body r) ≡ 28 + length r.article + length r.condition + length r.currency = body_length r in omega arith
