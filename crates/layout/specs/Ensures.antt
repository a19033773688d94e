-- What functions over bytes ensure, and what they ask: contracts that name a definition and a result.
use Rattle.std.specs.Prelude.{ℕ, ◌+◌, ◌-◌, ◌*◌, ◌/◌, ◌^◌, ◌≤◌, ◌<◌, ◌≡◌, List, ◌++◌, Bool, ◌&&◌, cond, eqb, leb, ltb, ℤ, pos, negsuc, nat_abs, length, take, drop, get_or}
use Rattle.std.proofs.Math.Option.{Option}
use Rattle.std.specs.Int.Signed.{mag}
use Rattle.rules.specs.Lists.{any, is_some}
use Rattle.rules.specs.Bytes.{name, big}
use Rattle.rules.specs.BookLayout.{most_bytes}
use Rattle.rules.specs.Question.{versions}
use Rattle.layout.specs.Reads.{Reads, part}

-- `r` is the test
pub record Says (test r : Bool) : Type 0 where
  pub is : test ≡ r

-- `r` says whether there is one
pub record Accepts {A : Type 0} (o : Option A) (r : Bool) : Type 0 where
  pub is : is_some o ≡ r

-- the head of a layout: the length of the whole as it was lent, and one of these versions
abbrev pub head_in : List ℕ → List ℕ → Bool
head_in versions s = eqb (length s) (big (take 4 s)) && any (eqb (get_or s 4 0)) versions

abbrev pub question_head_ok : List ℕ → Bool
question_head_ok s = head_in versions s

-- of version 1
abbrev pub head_ok : List ℕ → Bool
head_ok s = eqb (length s) (big (take 4 s)) && eqb (get_or s 4 0) 1

-- that of a book and of a text book: they have so many bytes at most
abbrev pub book_head_ok : List ℕ → Bool
book_head_ok s = leb (length s) most_bytes && head_ok s

-- `r` is the number n, below `top`
pub record Number (n top r : ℕ) : Type 0 where
  pub is : r ≡ n
  pub below : r < top

-- `r` is the number z, at most `most` either side of zero
pub record SignedNumber (z : ℤ) (most : ℕ) (r : ℤ) : Type 0 where
  pub is : r ≡ z
  pub within : nat_abs r ≤ most

-- z can be written as k bytes with a sign (`mag` is n both for n and for -1 - n, so this is the whole range)
pub record FitsSigned (k : ℕ) (z : ℤ) : Type 0 where
  pub fits : mag z < 2 ^ (8 * k - 1)

-- the name at `at` ends at `r`; 0: none
pub record NameEnd (lo hi : ℕ) (s : List ℕ) (at r : ℕ) : Type 0 where
  pub reads : Reads (name lo hi) s at (ltb 0 r) (part s (at + 1) r) r
  pub low : 0 < r → at < r
  pub fits : r ≤ length s

-- from `at` on stand the new bytes, for which there was room; all others are as they were, and there are as many as before
pub record Puts (old : List ℕ) (at : ℕ) (bytes new : List ℕ) : Type 0 where
  pub is : new ≡ take at old ++ (bytes ++ drop (at + length bytes) old)
  pub room : at + length bytes ≤ length old
  pub long : length new ≡ length old

-- and they end at `r`
pub record PutsTo (old : List ℕ) (at : ℕ) (bytes new : List ℕ) (r : ℕ) : Type 0 where
  pub puts : Puts old at bytes new
  pub ends : r ≡ at + length bytes

-- two's complement by the greatest unsigned number `top` of a width: of 4 bytes 4294967295
abbrev pub signed_in : ℕ → ℕ → ℤ
signed_in top n = cond (ltb n (top / 2 + 1)) (pos n) (negsuc (top - n))

abbrev pub twos_in : ℕ → ℤ → ℕ
twos_in top (pos n) = n
twos_in top (negsuc n) = top - n
