-- "The price book": how numbers and names stand in bytes, for every layout.
use Rattle.std.specs.Prelude.{ℕ, zero, suc, ◌+◌, ◌*◌, ◌-◌, ◌/◌, ◌%◌, ◌^◌, Bool, ◌&&◌, ◌||◌, not, cond, List, [], ◌∷◌, eqb, leb, ltb, take, ℤ, pos, negsuc}
use Rattle.rules.specs.Lists.{between, all, any}
use Rattle.rules.specs.Letters.{letter}
use Rattle.rules.specs.Layout.{Layout, ◌>>=◌, give, ◌such◌, bytes, byte}

-- ---- numbers, the highest byte first

-- the number whose bytes are those of n, and then these
abbrev pub big_from : ℕ → List ℕ → ℕ
big_from n [] = n
big_from n (b ∷ bs) = big_from (n * 256 + b) bs

abbrev pub big : List ℕ → ℕ
big bs = big_from 0 bs

-- a number of k bytes, read with a sign: the upper half of the range stands for the numbers below zero
abbrev pub signed_of : ℕ → ℕ → ℤ
signed_of k n = cond (ltb n (2 ^ (8 * k - 1))) (pos n) (negsuc (2 ^ (8 * k) - 1 - n))

abbrev pub number : ℕ → Layout ℕ
number k = do
  bs ← bytes k
  give (big bs)

abbrev pub signed : ℕ → Layout ℤ
signed k = do
  n ← number k
  give (signed_of k n)

-- and written: the k bytes of a number
abbrev pub bytes_of : ℕ → ℕ → List ℕ
bytes_of zero n = []
bytes_of (suc k) n = (n / 256 ^ k) % 256 ∷ bytes_of k n

abbrev pub twos : ℕ → ℤ → ℕ
twos k (pos n) = n
twos k (negsuc n) = 2 ^ (8 * k) - 1 - n

abbrev pub signed_bytes_of : ℕ → ℤ → List ℕ
signed_bytes_of k z = bytes_of k (twos k z)

-- at most n either side of zero
abbrev pub either_side : ℕ → ℤ → Bool
either_side n (pos m) = leb m n
either_side n (negsuc m) = ltb m n

-- one byte, of a few
abbrev pub one_of : List ℕ → Layout ℕ
one_of bs = byte such λ b. any (eqb b) bs

-- the head of a layout: the length of the whole as it was lent, and one of these versions
abbrev pub head_of : List ℕ → ℕ → Layout ℕ
head_of versions lent = do
  _ ← number 4 such eqb lent
  one_of versions

-- of a book and a text book there is version 1 alone
abbrev pub head : ℕ → Layout ℕ
head lent = head_of (1 ∷ []) lent

-- a book and a question begin with their own length: how long they say they are
abbrev pub own_length : List ℕ → ℕ
own_length s = big (take 4 s)

-- ---- letters and names

-- the printable bytes of Latin-1
abbrev pub name_byte : ℕ → Bool
name_byte b = between 32 126 b || between 160 255 b

-- a length byte from lo to hi, and that many printable bytes
abbrev pub name : ℕ → ℕ → Layout (List ℕ)
name lo hi = do
  n ← byte such between lo hi
  bytes n such all name_byte

-- a currency's letters
abbrev pub capitals : List ℕ → Bool
capitals bs = all (between (letter "A") (letter "Z")) bs

-- the small letters of Latin-1 that have a capital there: a to z, and bytes 224 to 254 but for the sign of division
abbrev pub small_letter : ℕ → Bool
small_letter b = between (letter "a") (letter "z") b || (between 224 254 b && not (eqb b 247))

-- "Which row is chosen", "Raise umlauts too": small letters of a granted name become capitals, which stand 32 before them
abbrev pub raise : ℕ → ℕ
raise b = cond (small_letter b) (b - 32) b
