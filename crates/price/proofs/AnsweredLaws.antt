-- What is answered to a question where there is room enough: refusals 3 to 6, or the price, from what is quoted.
use Prim.Native.Nat.{ℕ, ◌*◌}
use mathlib.Core.Path.{◌≡◌, sym, ◌∙◌, ap}
use mathlib.Core.Bool.{true, false}
use mathlib.Core.List.{List}
use native.Mathlib.Omega.{arith}
use lib.Count.{ones}
use lib.IntN.{pos, ◌*ℤ◌}
use lib.ListN.{length}
use Rattle.rules.proofs.ListLaws.{absent, present}
use Rattle.rules.specs.Book.{article_of}
use Rattle.rules.specs.Question.{Question, letters_of}
use Rattle.rules.specs.Lines.{Line, lines_of, line_size, lines_bytes}
use Rattle.rules.specs.Refusals.{done, refused, ◌>>=◌}
use Rattle.rules.specs.Price.{Answer, priced, answer_of, answered, shown, unused_of, set_of}
use Rattle.rules.proofs.UnusedLaws.{unused_count_lem}
use Rattle.layout.specs.Records.{records_left}
use Rattle.grants.specs.Idle.{idle}
use Rattle.survey.specs.declared.Found.{Found}
use Rattle.survey.specs.Survey.{FoundIs}
use Rattle.lines.specs.Views.{views_in, views_bytes, amounts_in}
use Rattle.lines.proofs.PricedLaws.{line_count, line_places, bytes_count}
use Rattle.quote.specs.declared.Quote.{Quote}
use Rattle.quote.specs.Quote.{Quoted}
use Rattle.quote.proofs.OutcomeLaws.{quoted_few, quoted_long, quoted_stand}
use Rattle.quote.proofs.UnusedLaws.{idle_lines}
use Rattle.price.specs.Call.{answer_with}

-- ---- the article

module _ {b : List ℕ} (q : Question) {f : Found} (found : FoundIs b q.article q.sort f) where
  pub unknown_article : f.article ≡ false → answered (records_left b 5) q ≡ refused 3
  unfolding answered
  unknown_article n =
      let e = absent (article_of (records_left b 5) q.article) (sym found.there ∙ n) in
      rw e

  known_article : f.article ≡ true → answered (records_left b 5) q ≡ (priced (records_left b 5) q >>= λ p. done (answer_of q p))
  unfolding answered
  known_article n =
      let x = present (article_of (records_left b 5) q.article) (sym found.there ∙ n) in
      rw x.1

-- ---- the quote

module _ {b : List ℕ} {q : Question} {r : Quote} (told : Quoted b q r) where
  -- how many bytes the lines take
  pub size : length (lines_bytes (lines_of (records_left b 5) q)) ≡ line_size * r.picks.n
  size = bytes_count (records_left b 5) q r.picks.rows r.picks.n (quoted_stand told) (omega (arith, quoted_few told, quoted_long told))

  -- the granted places that brought no line
  set_is : r.unused.0 ≡ set_of (unused_of q (lines_of (records_left b 5) q))
  set_is =
      told.idle.is ∙ ap set_of (sym (idle_lines q (lines_of (records_left b 5) q) ∙ ap (idle q.granted) (line_places (records_left b 5) q r.picks.rows r.picks.n (quoted_stand told))))

-- ---- refusals 4 to 6, and the answer

module _ {b : List ℕ} {q : Question} {f : Found} (found : FoundIs b q.article q.sort f) (n : f.article ≡ true)
    {k : Quote} (quoted : Quoted b q k) where
  pub unpriced : (k.verdict.outcome.refusal ≡ 0 → ⊥) → answered (records_left b 5) q ≡ refused k.verdict.outcome.refusal
  unpriced z =
      let e = quoted.judged.refuses z (records_left b 5) q (quoted_stand quoted) in
      known_article q found n ∙ rw e.is

  module _ (z : k.verdict.outcome.refusal ≡ 0) where
    -- the price of these lines
    abbrev pub as_quoted : Answer
    as_quoted = answer_of q (record { lines = lines_of (records_left b 5) q; currency = letters_of k.verdict.outcome.currency })

    pub is_priced : answered (records_left b 5) q ≡ done as_quoted
    is_priced =
        let e = quoted.judged.answered z (records_left b 5) q (quoted_stand quoted) in
        known_article q found n ∙ rw e.is

    -- what is read of it
    pub priced_shown : answer_with q.quantity k.picks.n k.verdict.outcome k.unused.0 ≡ shown (answered (records_left b 5) q)
    unfolding answer_of shown
    priced_shown =
        let ls : List Line = lines_of (records_left b 5) q in
        let x = quoted.judged.answered z (records_left b 5) q (quoted_stand quoted) in
        let count : length ls ≡ k.picks.n = line_count (records_left b 5) q k.picks.rows k.picks.n (quoted_stand quoted) (omega (arith, quoted_few quoted, quoted_long quoted)) in
        let set' : k.unused.0 ≡ set_of (unused_of q ls) = set_is quoted in
        let ones' : ones k.unused.0 ≡ length (unused_of q ls) = ap ones set' ∙ unused_count_lem q ls in
        (λ i. record {
          unit = sym x.unit i;
          total = pos q.quantity *ℤ sym x.unit i;
          lines = sym count i;
          unused = set' i;
          unused_count = ones' i;
          number = 0;
          currency = letters_of k.verdict.outcome.currency;
        }) ∙ ap shown (sym is_priced)

    -- and the bytes of its lines
    pub priced_lines : views_bytes (views_in k.picks.rows k.picks.n) (amounts_in k.verdict.amounts k.picks.n) ≡ lines_bytes (lines_of (records_left b 5) q)
    priced_lines = let x = quoted.judged.answered z (records_left b 5) q (quoted_stand quoted) in sym x.bytes
