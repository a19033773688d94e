-- A table worked by hand: three names are sent, the third is the first again once raised, with another factor.
use mathlib.Core.Path.{◌≡◌, refl}
use mathlib.Core.Bool.{true, false}
use mathlib.Core.List.{List, [], ◌∷◌, ◌++◌, map}
use lib.ListN.{replicate}
use Rattle.rules.specs.Letters.{text}
use Rattle.rules.specs.Question.{Granted, grants}
use Rattle.grants.specs.Table.{table_from, table_of}
use Rattle.grants.specs.Places.{place_in, place_of, is_first, factor_of}

abbrev sent : List Granted
sent =
    record { name = text "Oak"; factor = 500 }
    ∷ record { name = text "PINE"; factor = 1000 }
    ∷ record { name = text "oaK"; factor = 2000 }
    ∷ []

-- two entries, and zeros at the place of the repeat and behind it
pub the_table : table_of (grants sent) ≡ (3 ∷ 1 ∷ 244 ∷ text "OAK") ++ (replicate 17 0 ++ ((4 ∷ 3 ∷ 232 ∷ text "PINE") ++ replicate 706 0))
unfolding grants table_of table_from
the_table = refl

-- no condition, the first and the second name, one in small letters (a row's condition is not raised), and one that was not sent
pub the_places : map (place_of sent) ([] ∷ text "OAK" ∷ text "PINE" ∷ text "pine" ∷ text "ELM" ∷ []) ≡ 0 ∷ 1 ∷ 2 ∷ 33 ∷ 33 ∷ []
unfolding grants place_of place_in
the_places = refl

pub named_first : map (is_first sent) (1 ∷ 2 ∷ 3 ∷ 4 ∷ []) ≡ true ∷ true ∷ false ∷ false ∷ []
unfolding grants is_first
named_first = refl

-- no condition, the first and the second name
pub the_factors : map (factor_of sent) (0 ∷ 1 ∷ 2 ∷ []) ≡ 1000 ∷ 500 ∷ 1000 ∷ []
unfolding grants factor_of
the_factors = refl
