-- Books and questions written as bytes, for the worked sums: the layouts of specs/, the other way round.
use Prim.Native.Nat.{ℕ, ◌+◌}
use mathlib.Core.List.{List, [], ◌∷◌, ◌++◌, map}
use lib.ListN.{length}
use lib.IntN.{ℤ}
use Rattle.rules.specs.Lists.{join}
use Rattle.rules.specs.Bytes.{bytes_of, signed_bytes_of}
use Rattle.rules.specs.RowBytes.{name_bytes, record_bytes}

abbrev pub book_bytes : List (List ℕ) → List ℕ
book_bytes rs = bytes_of 4 (5 + length (join rs)) ++ (1 ∷ join rs)

abbrev pub article_bytes : List ℕ → List ℕ → List ℕ
article_bytes n scheme = record_bytes 1 (name_bytes n ++ name_bytes scheme)

abbrev pub rounding_bytes : ℕ → ℕ → ℕ → ℤ → ℤ → List ℕ
rounding_bytes n way step before after = record_bytes 3 (bytes_of 2 n ++ (way ∷ (bytes_of 4 step ++ (signed_bytes_of 4 before ++ signed_bytes_of 4 after))))

abbrev pub pack_bytes : List ℕ → List ℕ → ℕ → List ℤ → List (List ℕ) → List ℕ
pack_bytes article condition present values units =
    record_bytes 4 (name_bytes article ++ (name_bytes condition ++ (present ∷ (join (map (signed_bytes_of 4) values) ++ join units))))

abbrev pub scheme_bytes : List ℕ → List ℕ → List ℕ → ℕ → ℕ → ℕ → ℕ → List ℕ
scheme_bytes id number_separator value_separator visibility hidden unselected trim =
    record_bytes 5 (name_bytes id ++ (name_bytes number_separator ++ (name_bytes value_separator ++ (visibility ∷ hidden ∷ unselected ∷ trim ∷ []))))

abbrev pub property_bytes : ℕ → ℕ → List ℕ → List ℕ
property_bytes width state value = width ∷ state ∷ name_bytes value

abbrev pub counted_bytes : List (List ℕ) → List ℕ
counted_bytes xs = length xs ∷ join xs

-- the granted names are given as bytes
abbrev pub question_in : ℕ → List ℕ → ℕ → List ℕ → ℕ → ℕ → List (List ℕ) → List (List ℕ) → List ℕ
question_in version article sort currency date quantity granted properties = bytes_of 4 (4 + length rest) ++ rest
  where
    rest : List ℕ
    rest = version ∷ (name_bytes article ++ (sort ∷ (currency ++ (bytes_of 4 date ++ (bytes_of 4 quantity ++ (counted_bytes granted ++ counted_bytes properties))))))

abbrev pub question_bytes : List ℕ → ℕ → List ℕ → ℕ → ℕ → List (List ℕ) → List (List ℕ) → List ℕ
question_bytes article sort currency date quantity granted properties = question_in 1 article sort currency date quantity (map name_bytes granted) properties

-- version 2: a factor behind each name
abbrev pub factor_bytes : List ℕ × ℕ → List ℕ
factor_bytes p = name_bytes p.0 ++ bytes_of 2 p.1

abbrev pub question_bytes₂ : List ℕ → ℕ → List ℕ → ℕ → ℕ → List (List ℕ × ℕ) → List (List ℕ) → List ℕ
question_bytes₂ article sort currency date quantity granted properties = question_in 2 article sort currency date quantity (map factor_bytes granted) properties
