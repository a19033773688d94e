-- The price call, refusal by refusal in their order, and the answer.
use Prim.Native.Nat.{ℕ}
use mathlib.Core.Path.{◌≡◌, refl, sym, ◌∙◌, ap, subst}
use mathlib.Core.Bool.{true, false}
use mathlib.Core.List.{List}
use native.Mathlib.Omega.{arith}
use lib.Dec.{leb}
use lib.ListN.{length}
use borrow.Author.Tests.{le-leb, lt-leb}
use Rattle.std.specs.Prelude.{Some, None}
use Rattle.std.specs.Prelude as Std
use Rattle.rules.specs.Book.{Record}
use Rattle.rules.specs.Question.{Question}
use Rattle.rules.specs.Reasons.{number_for}
use Rattle.rules.specs.Refusals.{Result, done, refused, ◌>>=◌, lent_after}
use Rattle.rules.specs.Price.{Answer, written, answered, in_room, price, shown}
use Rattle.rules.specs.declared.PriceAnswer.{PriceAnswer}
use Rattle.rules.specs.declared.Refusal.{Refusal}
use Rattle.rules.specs.declared.Refusal.TheVariants.{ShortOutput}
use Rattle.layout.proofs.StoreLaws.{puts_front}
use Rattle.layout.specs.Records.{records_left}
use Rattle.question.specs.declared.Ask.{Ask}
use Rattle.question.specs.Asked.{ask_in}
use Rattle.grants.specs.declared.asking.Asking.{Asking}
use Rattle.grants.specs.Asking.{AskingIs}
use Rattle.survey.specs.declared.window.Window.{Window}
use Rattle.survey.specs.declared.entrance.Entered.{Entered}
use Rattle.survey.specs.Window.{Windows}
use Rattle.survey.specs.Entrance.{Entering, KeptOut}
use Rattle.survey.proofs.WindowLaws.{window_as}
use Rattle.survey.proofs.EntranceLaws.{stays_out, goes_in}
use Rattle.quote.specs.declared.Quote.{Quote}
use Rattle.quote.specs.Quote.{Quoted, QuoteIs}
use Rattle.price.specs.declared.answered.Answered.{Answered}
use Rattle.price.specs.Answered.{PutsIfRoom, PricedTo, RefusedTo}
use Rattle.price.specs.Call.{PriceIs, PriceRefused}

-- ---- the quote

-- the question asks by what is made of it
module _ {s : List ℕ} {ask : Ask} {k : Asking} (is : AskingIs s ask k) {b : List ℕ} where
  pub quote_window : {w : Window} → Windows b 5 (ask_in s ask).article ask.sort w → Windows b 5 k.article.now k.terms.sort w
  quote_window = window_as is.asks.article is.asks.sort

  pub quote_told : {r : Quote} → QuoteIs b k.article.now k.table.now k.terms r → Quoted b (ask_in s ask) r
  quote_told q = q.of (ask_in s ask) is.asks

-- ---- the call

-- the definition from refusal 3 on
abbrev behind : List ℕ → List Record → Question → Result Answer
behind lent book q = answered book q >>= in_room (length lent)

module _ {b s : List ℕ} (lent : List ℕ) where
  -- refusals 1 and 2
  pub kept_out : {x : Refusal} → KeptOut b s x → PriceRefused b s lent x lent
  unfolding price
  kept_out told = record { is = stays_out (behind lent) told; same = refl }

  module _ {w : Entered} (told : Entering b s w) where
    -- behind the entrance it is as the question is answered, within the room
    by_answer : {x : Result Answer} → answered (records_left b 5) (ask_in s w.ask) ≡ x → price b s (length lent) ≡ (x >>= in_room (length lent))
    unfolding price
    by_answer e = goes_in (behind lent) told ∙ ap (λ y. y >>= in_room (length lent)) e

    -- 3 to 6
    pub no_price : {x : Refusal} {after : List ℕ} → RefusedTo (records_left b 5) (ask_in s w.ask) lent after x → PriceRefused b s lent x after
    no_price r = record { is = by_answer r.is; same = r.same }

    module _ {r : Answered} {after : List ℕ} (p : PricedTo (records_left b 5) (ask_in s w.ask) lent (Some 0) after r) where
      put_as : {e : Std.Option ℕ} → r.end ≡ e → PutsIfRoom lent (Some 0) (written p.price) after e
      put_as e = subst (PutsIfRoom lent (Some 0) (written p.price) after) e p.lines

      -- 7
      pub no_room : r.end ≡ None → PriceRefused b s lent ShortOutput after
      no_room e =
          let n = put_as e in
          let f : leb (length (written p.price)) (length lent) ≡ false = lt-leb (length (written p.price)) (length lent) (omega (arith, n.full)) in
          record { is = by_answer p.is ∙ rw f refl; same = n.same }

      -- with room, the lines go to the front, and what is read is the definition's
      pub has_answer : {end : ℕ} → r.end ≡ Some end → PriceIs b s lent r.answer after
      unfolding lent_after
      has_answer e =
          let w = put_as e in
          let f : leb (length (written p.price)) (length lent) ≡ true = le-leb (length (written p.price)) (length lent) (omega (arith, w.fits)) in
          let is_done : price b s (length lent) ≡ done p.price = by_answer p.is ∙ rw f refl in
          record { answer = p.told ∙ ap shown (sym is_done); output = puts_front w.put.puts ∙ ap (λ (a : Result Answer). lent_after written a lent) (sym is_done) }

module _ {b s lent : List ℕ} where
  pub refused_shown : {x : Refusal} {after : List ℕ} → PriceRefused b s lent x after → {r : PriceAnswer} → r ≡ shown (refused (number_for x)) → PriceIs b s lent r after
  unfolding lent_after
  refused_shown p e = record { answer = e ∙ ap shown (sym p.is); output = p.same ∙ ap (λ (a : Result Answer). lent_after written a lent) (sym p.is) }
