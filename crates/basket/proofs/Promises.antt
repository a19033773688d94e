-- What a basket promises, of whatever answer and output the contract of the call allows.
use Prim.Native.Nat.{ℕ, ◌+◌, ◌*◌, ◌≤◌, ◌<◌}
use mathlib.Core.Path.{◌≡◌, refl, sym, ◌∙◌, ap, subst}
use mathlib.Core.List.{List, [], ◌∷◌, map}
use native.Mathlib.Omega.{arith}
use lib.ListN.{length, take, drop, get_or, length-map, get_or-map}
use Rattle.rules.specs.Lists.{join}
use Rattle.rules.specs.Lines.{line_size, most_lines_size}
use Rattle.rules.specs.Refusals.{Result, done, refused, number_of}
use Rattle.rules.specs.Price.{Answer, price}
use Rattle.rules.specs.Basket.{answer_size, answer_in, lines_in, most_basket_size, basket, shown_basket, lent_after_basket}
use Rattle.rules.specs.declared.Written.{Written}
use Rattle.rules.proofs.BasketLaws.{BasketRefusal, basket_never}
use Rattle.rules.proofs.Promises.{refused_basket, basket_numbers, basket_room_enough, basket_is_price, basket_answer, basket_lines}
use Rattle.basket.specs.Basket.{BasketIs}
use Rattle.basket.specs.Read.{lines_before, EachPriced}
use Rattle.basket.proofs.ReadLaws.{any_default, answer_of, count_of, front_of}

module _ {b s lent : List ℕ} {r : Written} {after : List ℕ} (is : BasketIs b s lent r after) where
  number_is : r.number ≡ number_of (basket b s (length lent))
  unfolding shown_basket
  number_is = ap (λ (w : Written). w.number) is.answer

  -- Refused, the length is 0 and no lent byte is written;
  pub refused_writes_nothing : (r.number ≡ 0 → ⊥) → (r.length ≡ 0) × (after ≡ lent)
  unfolding shown_basket
  refused_writes_nothing n = go (basket b s (length lent)) is.answer is.output
    where
      go : (x : Result (List (Result Answer))) → r ≡ shown_basket x → after ≡ lent_after_basket x lent → (r.length ≡ 0) × (after ≡ lent)
      go (done rs) e f = absurd (n (ap (λ (w : Written). w.number) e))
      go (refused k) e f = (ap (λ (w : Written). w.length) e, f ∙ (refused_basket k lent).1)

  -- the number is 1, 2 or 7,
  pub its_numbers : (r.number ≡ 0 → ⊥) → BasketRefusal r.number
  its_numbers n = subst BasketRefusal (sym number_is) (basket_numbers b s (length lent) (λ z. n (number_is ∙ z)))

  -- and with room for 200 answers of 99 lines each it is never 7.
  pub room_enough : most_basket_size ≤ length lent → r.number ≡ 7 → ⊥
  room_enough h e = basket_room_enough b s (length lent) h (sym number_is ∙ e)

  -- Answered, each question has the answer and the lines that the price call gives for it alone, whatever output that was lent, if long enough.
  pub each_by_the_price_call : r.number ≡ 0 → EachPriced b s after
  each_by_the_price_call z = go (basket b s (length lent)) refl
    where
      go : (x : Result (List (Result Answer))) → basket b s (length lent) ≡ x → EachPriced b s after
      go (refused k) e = absurd (basket_never b s (length lent) (e ∙ ap refused (sym (ap (λ x. number_of x) e) ∙ sym number_is ∙ z)))
      go (done rs) e =
          let x = basket_is_price b s (length lent) rs e in
          let ps : List (List ℕ) = x.1.parts in
          let singly = x.2 in
          let out : after ≡ lent_after_basket (done rs) lent = is.output ∙ ap (λ (y : Result (List (Result Answer))). lent_after_basket y lent) e in
          let count : length rs ≡ length ps = ap length (singly most_lines_size (omega arith)) ∙ length-map ps (λ p. price b p most_lines_size) in
          record {
            parts = ps;
            laid = x.1.laid;
            each = λ j h room enough {a} {lines} told.
                let k : j < length rs = omega (arith, count) in
                let own : get_or rs j (refused 0) ≡ price b (get_or ps j []) (length room) =
                ap (λ (l : List (Result Answer)). get_or l j (refused 0)) (singly (length room) enough)
                ∙ any_default (map (λ p. price b p (length room)) ps) j (refused 0) (price b [] (length room)) (omega (arith, length-map ps (λ p. price b p (length room))))
                ∙ get_or-map (λ p. price b p (length room)) ps j [] in
                let own_lines : lines_in (get_or rs j (refused 0)) ≡ take (line_size * a.lines) lines = ap lines_in own ∙ sym (front_of told) in
                let size : length (lines_in (get_or rs j (refused 0))) ≡ line_size * a.lines = ap (λ y. length (lines_in y)) own ∙ count_of told in
                let before : length (join (take j (map lines_in rs))) ≡ lines_before b ps j =
                ap (λ (l : List (Result Answer)). length (join (take j (map lines_in l)))) (singly most_lines_size (omega arith))
                ∙ ap (λ (l : List (List ℕ)). length (join (take j l))) (twice ps) in
                record {
                  answer = ap (λ (l : List ℕ). take answer_size (drop (answer_size * j) l)) out ∙ basket_answer b s (length lent) rs e lent j k ∙ ap answer_in own ∙ answer_of told;
                  lines =
                      (λ i. take (sym size i) (drop (answer_size * sym count i + sym before i) (out i)))
                      ∙ basket_lines b s (length lent) rs e lent j k
                      ∙ own_lines;
                };
          }
        where
          twice : (ps : List (List ℕ)) → map lines_in (map (λ p. price b p most_lines_size) ps) ≡ map (λ p. lines_in (price b p most_lines_size)) ps
          twice [] = refl
          twice (p ∷ ps) = ap (λ (l : List (List ℕ)). lines_in (price b p most_lines_size) ∷ l) (twice ps)

  -- Two results that the contract allows are equal, and so are the bytes they leave.
  pub one_answer : {r' : Written} {after' : List ℕ} → BasketIs b s lent r' after' → (r ≡ r') × (after ≡ after')
  one_answer is' = (is.answer ∙ sym is'.answer, is.output ∙ sym is'.output)
