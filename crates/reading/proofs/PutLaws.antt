-- A record whose text waits: put as one without a text, and then its kind taken back.
use Prim.Native.Nat.{ℕ, zero, suc, ◌+◌, ◌<◌}
use mathlib.Core.Path.{◌≡◌, sym, ◌∙◌, ap}
use mathlib.Core.List.{List, [], ◌∷◌, ◌++◌}
use native.Mathlib.Omega.{arith}
use lib.ListN.{length, take, drop, set, length-set}
use lib.Seq.{set-append_left, length-take-le}
use Rattle.rules.specs.Book.{Row}
use Rattle.rules.specs.RowBytes.{row_bytes}
use Rattle.file_rules.specs.PriceFile.{with_text}
use Rattle.layout.specs.Ensures.{PutsTo}
use Rattle.reading.specs.Rows.{waiting}
use Rattle.reading.proofs.RecordLaws.{some_bytes}

set_behind : (xs ys : List ℕ) (i n a : ℕ) → i ≡ length xs + n → set (xs ++ ys) i a ≡ xs ++ set ys n a
set_behind [] ys i n a e = ap (λ (k : ℕ). set ys k a) (omega arith)
set_behind (x ∷ xs) ys zero n a e = absurd (omega arith)
set_behind (x ∷ xs) ys (suc i) n a e = ap (λ (s : List ℕ). x ∷ s) (set_behind xs ys i n a (omega arith))

-- a byte within what was put
put_set : {old bs new : List ℕ} {at r : ℕ} → PutsTo old at bs new r → (n a : ℕ) → n < length bs → PutsTo old at (set bs n a) (set new (at + n) a) r
put_set {old} {bs} {new} {at} {r} p n a h =
    let front : at + n ≡ length (take at old) + n = omega (arith, length-take-le at old (omega (arith, p.puts.room))) in
    let same : length (set bs n a) ≡ length bs = length-set bs n a in
    record {
      puts = record {
        is = ap (λ (s : List ℕ). set s (at + n) a) p.puts.is
            ∙ (set_behind (take at old) (bs ++ drop (at + length bs) old) (at + n) n a front
            ∙ (ap (λ (s : List ℕ). take at old ++ s) (set-append_left bs (drop (at + length bs) old) n a h)
            ∙ ap (λ (k : ℕ). take at old ++ (set bs n a ++ drop (at + k) old)) (sym same)));
        room = omega (arith, p.puts.room, same);
        long = length-set new (at + n) a ∙ p.puts.long;
      };
      ends = omega (arith, p.ends, same);
    }

module _ {out mid : List ℕ} {to e : ℕ} (r : Row) (w : PutsTo out to (row_bytes (with_text 0 r)) mid e) where
  pub kind_room : to + 2 < length mid
  kind_room = omega (arith, w.puts.room, w.puts.long, some_bytes (with_text 0 r))

  pub waiting_put : PutsTo out to (waiting r) (set mid (to + 2) 0) e
  unfolding waiting
  waiting_put = put_set w 2 0 (some_bytes (with_text 0 r))
