-- What functions over the bytes of a field ensure.
use Rattle.std.specs.Prelude.{ℕ, ◌+◌, ◌-◌, ◌*◌, ◌≤◌, ◌≡◌, List, [], ◌∷◌, Bool, true, cond, ◌&&◌, eqb, leb, ℤ, pos, length, take, drop, get_or}
use Rattle.std.proofs.Math.Option.{Option, some, none}
use Rattle.rules.specs.Lists.{all, if_some}
use Rattle.rules.specs.Bytes.{either_side}
use Rattle.file_rules.specs.Decimals.{is_digit, tens_from, minus, value_in}
use Rattle.file_rules.specs.PriceLine.{is_currency}
use Rattle.layout.specs.Reads.{only}
use Rattle.figures.specs.declared.Amount.{Amount}
use Rattle.rules.specs.declared.Currency.{Currency}

-- ---- digits

-- one digit more behind those of n, or none: whatever is no digit, or goes above `most`
abbrev pub one_digit : ℕ → ℕ → ℕ → Option ℕ
one_digit most n b = only (is_digit b && leb (n * 10 + (b - 48)) most) (n * 10 + (b - 48))

-- a number that is not above `most`
abbrev pub up_to : ℕ → Option ℕ → Option ℕ
up_to most o = if_some o none (λ n. only (leb n most) n)

-- digits alone
abbrev pub tens_in : ℕ → List ℕ → Option ℕ
tens_in n s = only (all is_digit s) (tens_from n s)

-- ---- amounts

-- the byte at k, or the digit 0
pub record OneByte (s : List ℕ) (k r : ℕ) : Type 0 where
  pub is : r ≡ get_or s k 48

abbrev pub zeros_behind : List ℕ → Bool
zeros_behind s = all (eqb 48) (drop 2 s)

pub record PointAt (s : List ℕ) (p r : ℕ) : Type 0 where
  pub is : drop 1 (drop p s) ≡ drop r s
  pub fits : r ≤ length s

-- no price has more hundredths
abbrev pub most_cents : ℕ
most_cents = 100_000_000

-- what stands from d on
abbrev pub behind : List ℕ → ℕ → List ℕ
behind s d = take (length s - d) (drop d s)

abbrev pub signed_by : Bool → ℕ → ℤ
signed_by b n = cond b (minus n) (pos n)

-- an amount that is not beyond them
abbrev pub near : Option ℤ → Option ℤ
near o = if_some o none (λ z. only (either_side most_cents z) z)

pub record AmountIs (s : List ℕ) (r : Amount) : Type 0 where
  pub is : near (value_in s) ≡ some (signed_by r.minus r.hundredths)
  pub below : r.hundredths ≤ most_cents

-- ---- letters

abbrev pub letters_of : Currency → List ℕ
letters_of c = c.0 ∷ c.1 ∷ c.2 ∷ []

pub record CapitalsAre (s : List ℕ) (r : Currency) : Type 0 where
  pub good : is_currency s ≡ true
  pub is : s ≡ letters_of r
