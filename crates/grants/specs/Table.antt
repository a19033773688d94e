-- The granted names of a question as a table of bytes: an entry for each of 32 places, raised names with their factors where they are named first.
use Rattle.std.specs.Prelude.{ℕ, zero, suc, ◌+◌, ◌-◌, ◌*◌, ◌≤◌, ◌≡◌, Bool, true, false, ◌&&◌, cond, List, [], ◌∷◌, ◌++◌, map, eqb, ltb, length, get_or, replicate}
use Rattle.rules.specs.Lists.{same, all, between}
use Rattle.rules.specs.Bytes.{bytes_of, raise}
use Rattle.rules.specs.Question.{Granted, Grant, grants, most_factor}
use Rattle.rules.proofs.ListLaws.{All}
use Rattle.layout.specs.Reads.{part}
use Rattle.layout.specs.Ensures.{Puts}

-- a length byte, a factor and the longest name
abbrev pub entry_size : ℕ
entry_size = 23

-- an entry for each place
abbrev pub table_size : ℕ
table_size = 736

-- a name's length, its factor, its bytes, and zeros up to 23 bytes
abbrev pub entry : List ℕ → ℕ → List ℕ
entry c f = length c ∷ (bytes_of 2 f ++ (c ++ replicate (20 - length c) 0))

-- the name that is granted at a place, or nothing
abbrev pub name_of : ℕ → List Grant → List ℕ
name_of p [] = []
name_of p (g ∷ gs) = cond (eqb g.place p) g.name (name_of p gs)

-- and its factor, or 0
abbrev pub factor_among : ℕ → List Grant → ℕ
factor_among p [] = 0
factor_among p (g ∷ gs) = cond (eqb g.place p) g.factor (factor_among p gs)

-- the entries of m places from p on
unfoldable pub table_from : ℕ → ℕ → List Grant → List ℕ
table_from p zero gs = []
table_from p (suc m) gs = entry (name_of p gs) (factor_among p gs) ++ table_from (suc p) m gs

unfoldable pub table_of : List Grant → List ℕ
table_of gs = table_from 1 32 gs

-- the table is that of these names, of which there are at most 32, each of 1 to 20 bytes, with factors up to 10,000
pub record GrantsAre (names : List Granted) (table : List ℕ) : Type 0 where
  pub is : table ≡ table_of (grants names)
  pub few : length names ≤ 32
  pub sizes : all (λ c. between 1 20 (length c.name)) names ≡ true
  pub factors : All (λ c. c.factor ≤ most_factor) names

-- ---- on the way: the bytes of a table, whatever it is of

-- the entry behind i others is that of the name
unfoldable pub entry_is : List ℕ → ℕ → List ℕ → Bool
entry_is t i c = eqb (get_or t (entry_size * i) 0) (length c) && same (part t (entry_size * i + 3) (entry_size * i + 3 + length c)) c

-- the place of the first of m entries behind i others that is that of the name, or 33
unfoldable pub look_from : List ℕ → ℕ → ℕ → List ℕ → ℕ
look_from t i zero c = 33
look_from t i (suc m) c = cond (entry_is t i c) (i + 1) (look_from t (i + 1) m c)

-- the table once a name has come in behind k entries: only a name that none of them is
pub record Entered (t : List ℕ) (k : ℕ) (name : List ℕ) (factor : ℕ) (r : List ℕ) : Type 0 where
  pub new : ltb (look_from t 0 k (map raise name)) 33 ≡ false → Puts t (entry_size * k) (length name ∷ (bytes_of 2 factor ++ map raise name)) r
  pub again : ltb (look_from t 0 k (map raise name)) 33 ≡ true → r ≡ t
