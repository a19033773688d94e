-- The pass over the records of a book: what was found so far is what the records gone by have. While a book is not yet accepted this holds
-- only if the records that are left turn out to be records.
use Prim.Native.Nat.{ℕ, ◌+◌, ◌-◌, ◌≤◌, ◌<◌}
use mathlib.Core.Path.{◌≡◌, refl, sym, ◌∙◌, ap, subst}
use mathlib.Core.Bool.{Bool, true, false, ◌||◌, not, false≢true}
use mathlib.Core.List.{List}
use mathlib.Core.Option.{Option}
use native.Mathlib.Omega.{arith}
use lib.Dec.{eqb}
use lib.ListN.{length, take, drop, get_or, length-replicate}
use borrow.Author.Tests.{eqb-true, eq-eqb, ne_eqb}
use Rattle.rules.specs.Lists.{is_some}
use Rattle.rules.specs.Layout.{whole}
use Rattle.rules.specs.Book.{Record, article_of, rows_of, roundings}
use Rattle.rules.specs.BookLayout.{kinded, records}
use Rattle.rules.proofs.TestLaws.{or_false, or_assoc, so, not_so}
use Rattle.layout.specs.Reads.{part}
use Rattle.layout.specs.Ensures.{Says, book_head_ok}
use Rattle.layout.specs.Records.{records_left, Between, RecordHere, StopIs}
use Rattle.book.specs.Ensures.{Decides, RecordEnd}
use Rattle.book.proofs.BookLaws.{book_not, book_start, walk_bad, walk_again}
use Rattle.book.proofs.BookLaws as Book
use Rattle.book.proofs.WalkLaws.{end_stops, pass_start, pass_here, pass_next, pass_record, pass_end}
use Rattle.records.specs.Asks.{Accepted}
use Rattle.records.specs.Tests as Tests
use Rattle.records.proofs.TestLaws.{article_turn}
use Rattle.records.proofs.FieldLaws.{starts_not}
use Rattle.records.proofs.PriceLaws.{no_row}
use Rattle.records.proofs.RoundingLaws.{rounding_told}
use Rattle.survey.specs.declared.Found.{Found}
use Rattle.survey.specs.declared.Sighted.{Sighted}
use Rattle.survey.specs.declared.window.Spans.{Spans}
use Rattle.survey.specs.declared.window.Noted.{Noted}
use Rattle.survey.specs.Window.{SpansAfter, SpotNoted}
use Rattle.survey.specs.Survey.{unseen, none_noted, SightedAfter, FoundOf, FoundIs, BookFound, NoBook}
use Rattle.survey.proofs.WindowLaws.{span_kept, Spanning, rows_gather, roundings_gather, rows_outside, roundings_outside, span_start, span_turn, span_end, windows}
use Rattle.survey.proofs.SpotLaws.{Noting, noting_start, noting_turn, noting_end}

-- ---- a record goes by

noted_is : (s : Sighted) (article : List ℕ) (sort : ℕ) (o : Option Record) {at end : ℕ} {own rounding art : Bool} {spans : Spans}
    → Says (Tests.is_row article sort o) own → Says (Tests.is_rounding o) rounding → SpansAfter s.spans own rounding at end spans → Says (Tests.article_of article o) art
    → SightedAfter s article sort o at end (record { article = s.article || art; spans = spans })
noted_is s article sort o {at} {end} {own} {spans = spans} mine kind after there = record {
  there = ap (λ x. s.article || x) (sym there.is);
  spans =
      subst (λ (x : Bool). SpansAfter s.spans x (Tests.is_rounding o) at end spans) (sym mine.is)
      (subst (λ (x : Bool). SpansAfter s.spans own x at end spans) (sym kind.is) after);
}

by_kind : (t : List ℕ) → Accepted t → {r : Bool} → eqb (get_or t 0 0) 3 ≡ r → Says (Tests.is_rounding (whole kinded t)) r
by_kind t a e = record { is = (rounding_told t a).is ∙ e }

module _ (s : Sighted) (t article : List ℕ) (sort : ℕ) (a : Accepted t) {at end : ℕ} where
  -- a price is no article and no rounding
  pub noted_row : {own : Bool} {spans : Spans} → get_or t 0 0 ≡ 2 → Says (Tests.is_row article sort (whole kinded t)) own → SpansAfter s.spans own false at end spans
      → SightedAfter s article sort (whole kinded t) at end (record { article = s.article; spans = spans })
  noted_row {spans = spans} e mine after =
      subst (λ (x : Bool). SightedAfter s article sort (whole kinded t) at end (record { article = x; spans = spans })) (or_false s.article)
      (noted_is s article sort (whole kinded t) mine (by_kind t a (ne_eqb (get_or t 0 0) 3 (λ i. omega (arith, e)))) after (starts_not t 1 article a (λ i. omega (arith, e))))

  module _ {r : Bool} (said : Says (Tests.is_rounding (whole kinded t)) r) where
    pub noted_rounding : {spans : Spans} → r ≡ true → SpansAfter s.spans false true at end spans
        → SightedAfter s article sort (whole kinded t) at end (record { article = s.article; spans = spans })
    noted_rounding {spans} y after =
        let e : get_or t 0 0 ≡ 3 = eqb-true (get_or t 0 0) 3 (sym (rounding_told t a).is ∙ (said.is ∙ y)) in
        subst (λ (x : Bool). SightedAfter s article sort (whole kinded t) at end (record { article = x; spans = spans })) (or_false s.article)
        (noted_is s article sort (whole kinded t) (no_row t article sort (starts_not t 2 article a (λ i. omega (arith, e))) refl) (by_kind t a (eq-eqb (get_or t 0 0) 3 e)) after
        (starts_not t 1 article a (λ i. omega (arith, e))))

    pub noted_other : {there : Bool} → (get_or t 0 0 ≡ 2 → ⊥) → r ≡ false → Says (Tests.article_of article (whole kinded t)) there
        → SightedAfter s article sort (whole kinded t) at end (record { article = s.article || there; spans = s.spans })
    noted_other d n there =
        noted_is s article sort (whole kinded t) (no_row t article sort (starts_not t 2 article a d) refl) (record { is = said.is ∙ n })
        (record { rows = span_kept s.spans.rows at end refl; roundings = span_kept s.spans.roundings at end refl }) there

-- ---- the pass over an accepted book

-- what is kept and noted is what the records before `at` have
pub record Passed (b article : List ℕ) (sort : ℕ) (seen : Sighted) (k : Noted) (at : ℕ) : Type 0 where
  pub between : Between b at
  pub rows_span : Spanning (rows_of article sort) b 5 seen.spans.rows at
  pub roundings_span : Spanning roundings b 5 seen.spans.roundings at
  pub noting : Noting b 5 k at
  pub there : (seen.article || is_some (article_of (records_left b at) article)) ≡ is_some (article_of (records_left b 5) article)

module _ (b article : List ℕ) (sort : ℕ) where
  pub find_start : is_some (records b) ≡ true → Passed b article sort unseen none_noted 5
  find_start ok = record {
    between = pass_start b ok;
    rows_span = span_start (rows_gather article sort) (omega arith);
    roundings_span = span_start roundings_gather (omega arith);
    noting = noting_start;
    there = refl;
  }

  module _ {seen : Sighted} {k : Noted} {at : ℕ} (p : Passed b article sort seen k at) where
    pub find_here : at < length b → RecordHere b at
    find_here h = pass_here p.between h

    pub find_long : length k.spots ≡ 16
    find_long = p.noting.long

    pub find_turn : at < length b → {end : ℕ} → StopIs b at end → {next : Sighted}
        → SightedAfter seen article sort (whole kinded (take (end - (at + 2)) (drop (at + 2) b))) at end next
        → {r : Noted} → SpotNoted k (Tests.is_rounding (whole kinded (take (end - (at + 2)) (drop (at + 2) b)))) at r
        → Passed b article sort next r end
    find_turn h {end} stop {next} after noted =
        let o : Option Record = whole kinded (part b (at + 2) end) in
        let step = pass_record p.between h stop in
        record {
          between = pass_next p.between h stop;
          rows_span = span_turn (rows_gather article sort) p.rows_span p.between stop step (rows_outside article sort o) after.spans.rows;
          roundings_span = span_turn roundings_gather p.roundings_span p.between stop step (roundings_outside o) after.spans.roundings;
          noting = noting_turn p.between stop step p.noting noted;
          there =
              ap (λ x. x || is_some (article_of (records_left b end) article)) after.there
              ∙ or_assoc seen.article (Tests.article_of article o) (is_some (article_of (records_left b end) article))
              ∙ ap (λ x. seen.article || x) (sym (ap (λ rs. is_some (article_of rs article)) step ∙ article_turn o (records_left b end) article))
              ∙ p.there;
        }

    pub find_end : length b ≤ at → {found : Found} → FoundOf seen k found → FoundIs b article sort found
    unfolding article_of
    find_end h of =
        let none_left = pass_end p.between h in
        subst (FoundIs b article sort) (sym of.is)
        (record {
          there =
              sym (or_false seen.article)
              ∙ ap (λ (rs : List Record). seen.article || is_some (article_of rs article)) (sym none_left)
              ∙ p.there;
          window =
              windows (span_end (rows_gather article sort) p.rows_span p.between.fits none_left)
              (span_end roundings_gather p.roundings_span p.between.fits none_left) (noting_end p.noting none_left);
        })

-- ---- the pass that accepts a book

-- the records from `at` on decide about the book
pub record Surveying (b article : List ℕ) (sort : ℕ) (seen : Sighted) (k : Noted) (at : ℕ) : Type 0 where
  pub decides : Decides b at
  pub long : length k.spots ≡ 16
  pub passed : is_some (records b) ≡ true → Passed b article sort seen k at

module _ (b article : List ℕ) (sort : ℕ) where
  module _ {r : Bool} (header : Says (book_head_ok b) r) where
    pub survey_header : not r ≡ true → NoBook b
    survey_header e = record { is = sym (book_not b header (not_so r e)) }

    pub survey_start : not r ≡ false → Surveying b article sort unseen none_noted 5
    survey_start e = record {
      decides = book_start b header (so r e);
      long = length-replicate {A = ℕ} 16 0;
      passed = find_start b article sort;
    }

  module _ {seen : Sighted} {k : Noted} {at : ℕ} (inv : Surveying b article sort seen k at) where
    pub survey_here : at < length b → at ≤ length b
    survey_here h = omega arith

    pub survey_long : length k.spots ≡ 16
    survey_long = inv.long

    pub survey_end : length b ≤ at → {found : Found} → FoundOf seen k found
        → BookFound b article sort found
    survey_end h of =
        let ok : is_some (records b) ≡ true = sym (Book.walk_end inv.decides h) in
        record { book = ok; found = find_end b article sort (inv.passed ok) h of }

    module _ (h : at < length b) {end : ℕ} (e : RecordEnd b at end) where
      pub survey_bad : end < 1 → NoBook b
      survey_bad g = record { is = sym (walk_bad inv.decides h e g) }

      module _ (g : 1 ≤ end) where
        pub survey_low : at + 2 ≤ end
        survey_low = omega (arith, (end_stops e g).low)

        pub survey_less : length b - end < length b - at
        survey_less = omega (arith, (end_stops e g).low)

        pub survey_accepted : Accepted (take (end - (at + 2)) (drop (at + 2) b))
        survey_accepted = record { ok = (end_stops e g).ok }

        pub survey_turn : {next : Sighted} → SightedAfter seen article sort (whole kinded (take (end - (at + 2)) (drop (at + 2) b))) at end next
            → {r : Noted} → SpotNoted k (Tests.is_rounding (whole kinded (take (end - (at + 2)) (drop (at + 2) b)))) at r
            → Surveying b article sort next r end
        survey_turn after noted = record {
          decides = walk_again inv.decides h e g;
          long = noted.long;
          passed = λ ok. find_turn b article sort (inv.passed ok) h (end_stops e g) after noted;
        }
