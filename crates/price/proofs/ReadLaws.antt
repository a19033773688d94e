-- The written lines read back.
use Prim.Native.Nat.{ℕ, ◌%◌, ◌≤◌}
use mathlib.Core.Path.{◌≡◌, refl, ◌∙◌, ap}
use mathlib.Core.List.{List, [], ◌∷◌, ◌++◌, map}
use native.Mathlib.Omega.{arith}
use native.Mathlib.Nat.{mod-lt}
use lib.IntN.{ℤ, nat_abs}
use lib.ListN.{length}
use Rattle.rules.specs.Bytes.{big, bytes_of}
use Rattle.rules.specs.Lines.{Line, amounts, lines_bytes}
use Rattle.rules.proofs.ListLaws.{All}
use Rattle.layout.proofs.StoreLaws.{fits_near, bytes_back, bytes_halves, number_back}
use Rattle.price.specs.Read.{WrittenLine, lines_in, amounts_in}

-- what four bytes hold of a text number, and two of a factor; of one that a book of bytes or a question has, all
abbrev pub written_line : Line → WrittenLine
written_line l = record {
  text = l.row.text % 4294967296;
  level = l.row.level;
  place = l.place;
  amount = l.amount;
  factor = l.factor % 65536;
}

text_back : (n : ℕ) → big (bytes_of 4 n) ≡ n % 4294967296
text_back n = ap big (bytes_halves 0 4 n) ∙ number_back 4 (n % 4294967296) (mod-lt n (omega arith))

factor_back : (n : ℕ) → big (bytes_of 2 n) ≡ n % 65536
factor_back n = ap big (bytes_halves 0 2 n) ∙ number_back 2 (n % 65536) (mod-lt n (omega arith))

pub lines_back : (ls : List Line) (rest : List ℕ) → All (λ z. nat_abs z ≤ 2_000_000_000) (amounts ls) → lines_in (length ls) (lines_bytes ls ++ rest) ≡ map written_line ls
unfolding lines_bytes
lines_back [] rest h = refl
lines_back (l ∷ ls) rest h =
    let z : ℤ = l.amount in
    λ i.
    record {
      text = text_back l.row.text i;
      level = l.row.level;
      place = l.place;
      amount = bytes_back 8 (omega arith) z (fits_near 8 z (omega (arith, h.0))) i;
      factor = factor_back l.factor i;
    }
    ∷ lines_back ls rest h.1 i

amounts_read : (ls : List Line) → map (λ w. w.amount) (map written_line ls) ≡ amounts ls
amounts_read [] = refl
amounts_read (l ∷ ls) = ap (λ zs. l.amount ∷ zs) (amounts_read ls)

pub amounts_back : (ls : List Line) (rest : List ℕ) → All (λ z. nat_abs z ≤ 2_000_000_000) (amounts ls) → amounts_in (length ls) (lines_bytes ls ++ rest) ≡ amounts ls
amounts_back ls rest h = ap (map (λ w. w.amount)) (lines_back ls rest h) ∙ amounts_read ls
