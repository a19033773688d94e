-- What is answered to the question in some bytes, from what was found for it: what is read of that, and its lines.
use Prim.Native.Nat.{ℕ, ◌*◌, ◌≤◌}
use mathlib.Core.Path.{◌≡◌, refl, sym, ◌∙◌, ap, subst}
use mathlib.Core.Bool.{Bool, true, false, cond}
use mathlib.Core.List.{List, []}
use mathlib.Core.Option.{Option, some, none}
use native.Mathlib.Omega.{arith}
use lib.ListN.{length, take}
use Rattle.std.specs.Prelude.{Some, None, MatchOption}
use Rattle.std.specs.Prelude as Std
use Rattle.rules.specs.Lists.{first, if_some}
use Rattle.rules.specs.Lines.{line_size, total_of}
use Rattle.rules.specs.Question.{Question}
use Rattle.rules.specs.Reasons.{number_for}
use Rattle.rules.specs.Refusals.{done, refused}
use Rattle.rules.specs.Price.{answer_of, answered, written, shown}
use Rattle.rules.specs.Basket.{lines_in}
use Rattle.rules.specs.Calendar.{OutcomeIs, as_outcome}
use Rattle.rules.specs.Calendar as Calendar
use Rattle.rules.specs.declared.Total.{Total}
use Rattle.rules.specs.declared.Total.TheVariants.{InRange, OutOfRange}
use Rattle.rules.specs.declared.PriceAnswer.{PriceAnswer}
use Rattle.rules.specs.declared.Refusal.{Refusal}
use Rattle.layout.specs.Ensures.{PutsTo}
use Rattle.layout.specs.Records.{records_left}
use Rattle.layout.proofs.StoreLaws.{to_nothing}
use Rattle.question.specs.declared.Ask.{Ask}
use Rattle.question.specs.Asked.{ask_in, AskIs}
use Rattle.survey.specs.declared.Found.{Found}
use Rattle.survey.specs.declared.window.Window.{Window}
use Rattle.survey.specs.Survey.{FoundIs, Known, Unknown}
use Rattle.survey.proofs.EntranceLaws.{has_number}
use Rattle.lines.specs.declared.Pick.{Pick}
use Rattle.lines.specs.Views.{View, is_base, one_currency, amounts_of, views_in, views_bytes, amounts_in}
use Rattle.lines.specs.Verdict.{judged, no_price, price_if}
use Rattle.lines.proofs.SliceLaws.{slice_views, slice_count}
use Rattle.quote.specs.declared.Quote.{Quote}
use Rattle.quote.specs.Quote.{Quoted}
use Rattle.quote.proofs.OutcomeLaws.{quoted_few, quoted_long}
use Rattle.price.specs.declared.answered.Answered.{Answered}
use Rattle.price.specs.Call.{answer_with}
use Rattle.price.specs.Answered.{Ready, Listed, PriceNumber, RoomFor, PutsIfRoom, PricedTo, RefusedTo, AnsweredIs, answered_to, lines_to}
use Rattle.price.proofs.AnsweredLaws.{unknown_article, size, unpriced, as_quoted, is_priced, priced_shown, priced_lines}

-- ---- the number of a day's price

no_number : PriceNumber 0
no_number = record { most = omega arith; least = λ h. omega arith }

some_number : (n : ℕ) → 4 ≤ n → n ≤ 6 → PriceNumber n
some_number n l m = record { most = m; least = λ h. l }

judged_number : (vs : List View) → PriceNumber (judged vs).refusal
unfolding judged
judged_number vs = go (first is_base vs)
  where
    total : (c : List ℕ) (t : Total) → PriceNumber (price_if c t).refusal
    total c (InRange x) = no_number
    total c OutOfRange = some_number 6 (omega arith) (omega arith)

    one : (v : View) (t : Bool) → PriceNumber (cond t (price_if v.currency (total_of (amounts_of vs))) (no_price 5)).refusal
    one v true = total v.currency (total_of (amounts_of vs))
    one v false = some_number 5 (omega arith) (omega arith)

    go : (o : Option View) → PriceNumber (if_some o (no_price 4) λ v. cond (one_currency v.currency vs) (price_if v.currency (total_of (amounts_of vs))) (no_price 5)).refusal
    go none = some_number 4 (omega arith) (omega arith)
    go (some v) = one v (one_currency v.currency vs)

pub price_number : {b : List ℕ} {q : Question} {k : Quote} → Quoted b q k → PriceNumber k.verdict.outcome.refusal
price_number {k = k} told = subst PriceNumber (sym (ap (λ (o : Calendar.Outcome). o.refusal) told.judged.is.is)) (judged_number (views_in k.picks.rows k.picks.n))

-- ---- a question that was read

module _ {b s : List ℕ} {ask : Ask} (asks : AskIs s ask) {f : Found} (found : FoundIs b (ask_in s ask).article ask.sort f) where
  pub refuses_3 : {x : Refusal} → Unknown f x → {out : List ℕ} → RefusedTo (records_left b 5) (ask_in s ask) out out x
  refuses_3 u = record { is = unknown_article (ask_in s ask) found u.article ∙ ap (λ (y : Refusal). refused (number_for y)) (sym u.is); same = refl }

  module _ {w : Window} (known : Known f w) {k : Quote} (quoted : Quoted b (ask_in s ask) k) where
    pub refuses_so : {x : Refusal} → k.verdict.outcome.refusal ≡ number_for x → {out : List ℕ} → RefusedTo (records_left b 5) (ask_in s ask) out out x
    refuses_so {x} e = record { is = unpriced found known.article quoted (λ z. has_number x (sym e ∙ z)) ∙ ap refused e; same = refl }

    module _ (z : k.verdict.outcome.refusal ≡ 0) where
      listed : Listed k.picks.rows k.verdict.amounts k.picks.n
      listed = record { few = quoted_few quoted; each_in = quoted.judged.each_in; size = ap length (priced_lines found known.article quoted z) ∙ size quoted }

      -- as a slice
      module _ {rows : List Pick} (e : rows ≡ take k.picks.n k.picks.rows) where
        long : k.picks.n ≤ length k.picks.rows
        long = omega (arith, quoted_few quoted, quoted_long quoted)

        bytes_are : views_bytes (views_in rows (length rows)) (amounts_in k.verdict.amounts (length rows)) ≡ views_bytes (views_in k.picks.rows k.picks.n) (amounts_in k.verdict.amounts k.picks.n)
        bytes_are = λ i. views_bytes (slice_views k.picks.rows k.picks.n e i) (amounts_in k.verdict.amounts (slice_count k.picks.rows k.picks.n e long i))

        pub lines_listed : Listed rows k.verdict.amounts (length rows)
        lines_listed =
            let count = slice_count k.picks.rows k.picks.n e long in
            record { few = omega (arith, count, listed.few); each_in = listed.each_in; size = ap length bytes_are ∙ listed.size ∙ ap (λ (m : ℕ). line_size * m) (sym count) }

        pub has_price : {r : PriceAnswer} → r ≡ answer_with ask.quantity k.picks.n k.verdict.outcome k.unused.0
            → {old new : List ℕ} {start end : Std.Option ℕ} → PutsIfRoom old start (views_bytes (views_in rows (length rows)) (amounts_in k.verdict.amounts (length rows))) new end
            → PricedTo (records_left b 5) (ask_in s ask) old start new (record { answer = r; end = end })
        unfolding answer_of
        has_price {r} h {old} {new} {start} {end} p =
            let count : r.lines ≡ k.picks.n = ap (λ (a : PriceAnswer). a.lines) h in
            record {
              price = as_quoted found known.article quoted z;
              is = is_priced found known.article quoted z;
              told = h ∙ priced_shown found known.article quoted z ∙ ap shown (is_priced found known.article quoted z);
              few = omega (arith, count, quoted_few quoted);
              size = ap (λ (m : ℕ). line_size * m) count ∙ sym (size quoted);
              lines = subst (λ (bs : List ℕ). PutsIfRoom old start bs new end) (bytes_are ∙ priced_lines found known.article quoted z) p;
            }

-- ---- and one that is ready to be answered

module _ {b s : List ℕ} {f : Found} (ready : Ready b s f) {ask : Ask} (is : AskIs s ask) where
  pub ready_found : FoundIs b (ask_in s ask).article ask.sort f
  ready_found = ready.has (ask_in s ask) is.is

  as_asked : answered_to (records_left b 5) s ≡ answered (records_left b 5) (ask_in s ask)
  unfolding answered_to
  as_asked = rw is.is

  module _ {old new : List ℕ} {start : Std.Option ℕ} where
    pub ready_priced : {r : Answered} → PricedTo (records_left b 5) (ask_in s ask) old start new r → AnsweredIs (records_left b 5) s old start new r
    ready_priced {r} p =
        let e : answered_to (records_left b 5) s ≡ done p.price = as_asked ∙ p.is in
        let same : lines_to (records_left b 5) s ≡ written p.price = ap lines_in e in
        record {
          told = record { is = p.told ∙ ap shown (sym e); few = p.few; size = p.size ∙ ap length (sym same) };
          lines = subst (λ (bs : List ℕ). PutsIfRoom old start bs new r.end) (sym same) p.lines;
        }

    -- a refused question has zeros beside the number, and no lines
    pub ready_refused : {x : Refusal} → RefusedTo (records_left b 5) (ask_in s ask) old new x → {r : PriceAnswer} → r ≡ shown (refused (number_for x))
        → {end : Std.Option ℕ} → RoomFor (length new) start 0 end → AnsweredIs (records_left b 5) s old start new (record { answer = r; end = end })
    unfolding shown
    ready_refused {x} p {r} h {end} room =
        let e : answered_to (records_left b 5) s ≡ refused (number_for x) = as_asked ∙ p.is in
        let none_read : r.lines ≡ 0 = ap (λ (a : PriceAnswer). a.lines) h in
        let none_put : lines_to (records_left b 5) s ≡ [] = ap lines_in e in
        record {
          told = record {
            is = h ∙ ap shown (sym e);
            few = omega (arith, none_read);
            size = ap (λ (n : ℕ). line_size * n) none_read ∙ ap length (sym none_put);
          };
          lines = subst (λ (bs : List ℕ). PutsIfRoom old start bs new end) (sym none_put) (subst (λ (o : List ℕ). PutsIfRoom o start [] new end) p.same (go start end room));
        }
      where
        go : (st en : Std.Option ℕ) → RoomFor (length new) st 0 en → PutsIfRoom new st [] new en
        go None en q = (q, refl)
        go (Some at) None q = record { full = q; same = refl }
        go (Some at) (Some k) q = record { fits = q.1; put = subst (PutsTo new at [] new) (sym q.0) (to_nothing (omega (arith, q.1))) }
