-- Where in the book the rows of an article and sort stand, and where the roundings: a later walk, and a lookup, may keep to these stretches, and a
-- lookup to the spots of the roundings where these are few.
use Rattle.std.specs.Prelude.{ℕ, ◌≤◌, ◌≡◌, Bool, cond, List, [], ◌∷◌, ◌++◌, eqb, length, take}
use Rattle.rules.specs.Book.{rows_of, roundings}
use Rattle.layout.specs.Records.{records_left, Between}
use Rattle.lookup.specs.Roundings.{SpotsNoted}
use Rattle.survey.specs.declared.window.Noted.{Noted}
use Rattle.survey.specs.declared.window.Span.{Span}
use Rattle.survey.specs.declared.window.Spans.{Spans}
use Rattle.survey.specs.declared.window.Window.{Window}

unfoldable pub span_after : Span → Bool → ℕ → ℕ → Span
span_after s counts at end = cond counts (record { first = cond (eqb s.first s.last) at s.first; last = end }) s

-- `r` is the span once the record from `at` to `end` has gone by, if that counts
pub record SpanAfter (s : Span) (counts : Bool) (at end : ℕ) (r : Span) : Type 0 where
  pub is : r ≡ span_after s counts at end

-- `r` are the spans once a record has gone by that is a row of the article and sort, or a rounding, or neither
pub record SpansAfter (s : Spans) (own rounding : Bool) (at end : ℕ) (r : Spans) : Type 0 where
  pub rows : SpanAfter s.rows own at end r.rows
  pub roundings : SpanAfter s.roundings rounding at end r.roundings

-- `r` has the spots noted once the record at `at` has gone by, which is a rounding or not; a count of more than 16 says no spots
pub record SpotNoted (k : Noted) (rounding : Bool) (at : ℕ) (r : Noted) : Type 0 where
  pub long : length r.spots ≡ 16
  pub few : r.count ≤ 16 → k.count ≤ 16
  pub is : r.count ≤ 16 → take r.count r.spots ≡ cond rounding (take k.count k.spots ++ (at ∷ [])) (take k.count k.spots)

-- at most 16 are the spots of all roundings of b from `start` on
pub record NotedIn (b : List ℕ) (start : ℕ) (k : Noted) : Type 0 where
  pub are : k.count ≤ 16 → SpotsNoted b start k.spots k.count

-- of the records of b from `start` on: those in the one span have all rows of the article and sort, and those in the other have all
-- roundings, which are noted where they are few
pub record Windows (b : List ℕ) (start : ℕ) (article : List ℕ) (sort : ℕ) (w : Window) : Type 0 where
  pub fits : w.spans.rows.last ≤ length b
  pub between : Between (take w.spans.rows.last b) w.spans.rows.first
  pub same : rows_of article sort (records_left (take w.spans.rows.last b) w.spans.rows.first) ≡ rows_of article sort (records_left b start)
  pub rounding_fits : w.spans.roundings.last ≤ length b
  pub rounding_between : Between (take w.spans.roundings.last b) w.spans.roundings.first
  pub rounding_same : roundings (records_left (take w.spans.roundings.last b) w.spans.roundings.first) ≡ roundings (records_left b start)
  pub noted : NotedIn b start w.noted
