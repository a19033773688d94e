-- A price by itself: its lines stand at the front of its output, and there are as many bytes of them as it says.
use Prim.Native.Nat.{ℕ, zero, suc, ◌*◌, ◌<◌}
use mathlib.Core.Path.{◌≡◌, refl, sym, ◌∙◌, ap}
use mathlib.Core.List.{List, [], ◌∷◌}
use native.Mathlib.Omega.{arith}
use lib.ListN.{length, take, drop, get_or, length-append}
use lib.Seq.{take_at}
use Rattle.rules.specs.Lines.{Line, line_size, line_bytes, lines_bytes}
use Rattle.rules.specs.Refusals.{Result, done, refused, lent_after}
use Rattle.rules.specs.Price.{Answer, price, shown}
use Rattle.rules.specs.Basket.{answer_bytes, answer_in, lines_in}
use Rattle.rules.specs.declared.PriceAnswer.{PriceAnswer}
use Rattle.price.specs.Call.{PriceIs}

-- within a list it does not matter what would stand behind it
pub any_default : {A : Type 0} (l : List A) (j : ℕ) (d e : A) → j < length l → get_or l j d ≡ get_or l j e
any_default [] j d e h = absurd (omega arith)
any_default (x ∷ l) zero d e h = refl
any_default (x ∷ l) (suc j) d e h = any_default l j d e (omega arith)

bytes_of : (ls : List Line) → length (lines_bytes ls) ≡ line_size * length ls
unfolding lines_bytes
bytes_of [] = refl
bytes_of (l ∷ ls) = length-append (line_bytes l) (lines_bytes ls) ∙ omega (arith, bytes_of ls)

module _ {b p lent : List ℕ} {a : PriceAnswer} {lines : List ℕ} (is : PriceIs b p lent a lines) where
  pub answer_of : answer_in (price b p (length lent)) ≡ answer_bytes a
  answer_of = ap answer_bytes (sym is.answer)

  pub count_of : length (lines_in (price b p (length lent))) ≡ line_size * a.lines
  unfolding shown
  count_of = go (price b p (length lent)) ∙ ap (λ (x : PriceAnswer). line_size * x.lines) (sym is.answer)
    where
      go : (r : Result Answer) → length (lines_in r) ≡ line_size * (shown r).lines
      go (done x) = bytes_of x.lines
      go (refused n) = refl

  pub front_of : take (line_size * a.lines) lines ≡ lines_in (price b p (length lent))
  unfolding shown lent_after
  front_of = ap (take (line_size * a.lines)) is.output ∙ go (price b p (length lent)) count_of
    where
      go : (r : Result Answer) → length (lines_in r) ≡ line_size * a.lines → take (line_size * a.lines) (lent_after (λ (x : Answer). lines_in (done x)) r lent) ≡ lines_in r
      go (done x) h = take_at (lines_in (done x)) (drop (length (lines_in (done x))) lent) (line_size * a.lines) h
      go (refused n) h = ap (λ (k : ℕ). take k lent) (sym h)
