-- The window: the records of a span are a run of the book's, and outside of it stands none that counts.
use Prim.Native.Nat.{ℕ, zero, suc, ◌+◌, ◌-◌, ◌≤◌, ◌<◌}
use mathlib.Core.Path.{◌≡◌, refl, sym, ◌∙◌, ap, subst}
use mathlib.Core.Bool.{Bool, true, false, ◌&&◌, cond, false≢true}
use mathlib.Core.List.{List, [], ◌∷◌, ◌++◌, append-nil, append_assoc}
use mathlib.Core.Option.{Option, some, none}
use native.Mathlib.Omega.{arith}
use lib.Dec.{eqb}
use lib.ListN.{length, take, drop}
use lib.Seq.{length-take-le, take-take}
use borrow.Author.Tests.{eq-eqb, ne_eqb, eqb-true}
use Rattle.rules.specs.Lists.{same, is_some, keep, cons_if, cons_some, if_some}
use Rattle.rules.specs.Layout.{whole}
use Rattle.rules.specs.Bytes.{big}
use Rattle.rules.specs.Book.{Row, Record, as_row, as_rounding, rows, rows_of, roundings}
use Rattle.rules.specs.BookLayout.{kinded}
use Rattle.rules.proofs.ListLaws.{keep_append, gather_append, absent}
use Rattle.layout.specs.Reads.{part}
use Rattle.layout.specs.Records.{record_in, records_from, listed, records_left, Between, StopIs}
use Rattle.book.specs.Ensures.{RecordEnd}
use Rattle.book.proofs.BookLaws.{in_front, record_good, from_end, from_record}
use Rattle.records.specs.Tests.{is_row, is_rounding}
use Rattle.survey.specs.declared.window.Span.{Span}
use Rattle.survey.specs.declared.window.Noted.{Noted}
use Rattle.survey.specs.declared.window.Spans.{Spans}
use Rattle.survey.specs.declared.window.Window.{Window}
use Rattle.survey.specs.Window.{span_after, SpanAfter, SpansAfter, NotedIn, Windows}

-- ---- what the function computes

module _ (s : Span) (at end : ℕ) {counts : Bool} where
  pub span_kept : counts ≡ false → SpanAfter s counts at end s
  unfolding span_after
  span_kept e = record { is = rw e }

  pub span_first : counts ≡ true → s.first ≡ s.last → SpanAfter s counts at end (record { first = at; last = end })
  unfolding span_after
  span_first e f = record { is = rw (e, eq-eqb s.first s.last f) }

  pub span_wider : counts ≡ true → (s.first ≡ s.last → ⊥) → SpanAfter s counts at end (record { first = s.first; last = end })
  unfolding span_after
  span_wider e n = record { is = rw (e, ne_eqb s.first s.last n) }

-- ---- runs of records

-- these records stand from a to b, one behind the other
pub data Run (w : List ℕ) (b : ℕ) : ℕ → List Record → Type 0 where
  Stay : (a : ℕ) → a ≡ b → Run w b a []
  Step : (a e : ℕ) (r : Record) (rs : List Record) → StopIs w a e → whole kinded (part w (a + 2) e) ≡ some r → Run w b e rs → Run w b a (r ∷ rs)

module _ {w : List ℕ} where
  run_append : {b a c : ℕ} {rs ss : List Record} → Run w b a rs → Run w c b ss → Run w c a (rs ++ ss)
  run_append {c = c} {ss = ss} (Stay a e) y = subst (λ (k : ℕ). Run w c k ss) (sym e) y
  run_append {ss = ss} (Step a e r rs s i x) y = Step a e r (rs ++ ss) s i (run_append x y)

  run_le : {b a : ℕ} {rs : List Record} → Run w b a rs → a ≤ b
  run_le {b} (Stay a e) = omega arith
  run_le (Step a e r rs s i x) = omega (arith, s.low, run_le x)

  run_empty : {a b : ℕ} {rs : List Record} → Run w b a rs → a ≡ b → rs ≡ []
  run_empty (Stay a e) f = refl
  run_empty (Step a e r rs s i x) f = absurd (omega (arith, s.low, run_le x))

-- the front of a book holds what the book holds there
pub front : (k from b : ℕ) (w : List ℕ) → from + k ≤ b → take k (drop from (take b w)) ≡ take k (drop from w)
front k zero b w h = take-take k b w (omega arith)
front k (suc f) zero w h = absurd (omega arith)
front k (suc f) (suc b) [] h = refl
front k (suc f) (suc b) (x ∷ w) h = front k f b w (omega arith)

module _ {w : List ℕ} {b : ℕ} (fits : b ≤ length w) where
  front_record : {a e : ℕ} → StopIs w a e → e ≤ b → RecordEnd (take b w) a e
  front_record {a} {e} s h =
      let n = big (take 2 (drop a (take b w))) in
      let size : n ≡ big (take 2 (drop a w)) = ap big (front 2 a b w (omega (arith, s.low))) in
      let long : length (take b w) ≡ b = length-take-le b w fits in
      let stop : a + 2 + n ≡ e = omega (arith, size, s.is) in
      let ok : is_some (whole kinded (part (take b w) (a + 2) (a + 2 + n))) ≡ true =
      ap (λ (k : ℕ). is_some (whole kinded (part (take b w) (a + 2) k))) stop ∙ ap (λ (t : List ℕ). is_some (whole kinded t)) (front (e - (a + 2)) (a + 2) b w (omega (arith, s.low))) ∙ s.ok in
      subst (RecordEnd (take b w) a) stop
      (record_good (take b w) a {top = n + 1} (record { is = refl; below = omega arith }) (omega (arith, long, s.low)) (omega (arith, long, stop)) (record { is = ok }) refl)

  run_records : {a : ℕ} {rs : List Record} → Run w b a rs → records_from (take b w) a ≡ some rs
  unfolding record_in
  run_records (Stay a e) = from_end (take b w) a (omega (arith, length-take-le b w fits))
  run_records (Step a e r rs s f x) =
      let h : e ≤ b = run_le x in
      let k : a < length (take b w) = omega (arith, length-take-le b w fits, s.low) in
      let first : record_in (take b w) a e ≡ some r = ap (whole kinded) (front (e - (a + 2)) (a + 2) b w (omega (arith, s.low))) ∙ f in
      from_record (take b w) a k (front_record s h) ∙ (λ i. in_front (first i) (run_records x i))

  run_between : {a : ℕ} {rs : List Record} → 5 ≤ a → Run w b a rs → Between (take b w) a
  run_between l x = record {
    low = l;
    fits = omega (arith, length-take-le b w fits, run_le x);
    ok = ap is_some (run_records x);
  }

-- ---- records that count

-- what is gathered of them, record by record
pub record Gathers {A : Type 0} (f : List Record → List A) : Type 0 where
  pub empty : f [] ≡ []
  pub append : (xs ys : List Record) → f (xs ++ ys) ≡ f xs ++ f ys

pub rows_gather : (article : List ℕ) (sort : ℕ) → Gathers (rows_of article sort)
unfolding rows_of
rows_gather article sort = record { empty = refl; append = λ xs ys. ap (keep _) (gather_append _ xs ys) ∙ keep_append _ (rows xs) (rows ys) }

pub roundings_gather : Gathers roundings
roundings_gather = record { empty = refl; append = λ xs ys. gather_append _ xs ys }

-- a record that is no row of the article and sort brings none, and one that is no rounding no rounding
pub rows_outside : (article : List ℕ) (sort : ℕ) (o : Option Record) → is_row article sort o ≡ false
    → (r : Record) → o ≡ some r → rows_of article sort (r ∷ []) ≡ []
unfolding is_row rows_of
rows_outside article sort o f r e = go (as_row r) (sym (ap (is_row article sort) e) ∙ f)
  where
    go : (x : Option Row) → if_some x false (λ p. same p.article article && eqb p.sort sort) ≡ false
        → keep (λ p. same p.article article && eqb p.sort sort) (cons_some x []) ≡ []
    go none g = refl
    go (some p) g = ap (λ b. cons_if b p []) g

pub roundings_outside : (o : Option Record) → is_rounding o ≡ false → (r : Record) → o ≡ some r → roundings (r ∷ []) ≡ []
unfolding is_rounding
roundings_outside o f r e = ap (λ x. cons_some x []) (absent (as_rounding r) (sym (ap is_rounding e) ∙ f))

-- ---- the loop

-- the records in the span, those behind it up to `at`, and those that are left are all; of those behind it none counts
pub record Spanning {A : Type 0} (f : List Record → List A) (w : List ℕ) (from : ℕ) (s : Span) (at : ℕ) : Type 0 where
  pub low : 5 ≤ s.first
  pub inside : List Record
  pub behind : List Record
  pub run : Run w s.last s.first inside
  pub gap : Run w at s.last behind
  pub none : f behind ≡ []
  pub rest : f inside ++ f (records_left w at) ≡ f (records_left w from)

-- and when none is left: the records in the span have all that counts
pub record Spanned {A : Type 0} (f : List Record → List A) (w : List ℕ) (from : ℕ) (s : Span) : Type 0 where
  pub fits : s.last ≤ length w
  pub between : Between (take s.last w) s.first
  pub same : f (records_left (take s.last w) s.first) ≡ f (records_left w from)

module _ {A : Type 0} {f : List Record → List A} (g : Gathers f) {w : List ℕ} {from : ℕ} where
  pub span_start : 5 ≤ from → Spanning f w from (record { first = from; last = from }) from
  span_start l = record {
    low = l;
    inside = [];
    behind = [];
    run = Stay from refl;
    gap = Stay from refl;
    none = g.empty;
    rest = ap (λ (xs : List A). xs ++ f (records_left w from)) g.empty;
  }

  module _ {s : Span} {at end : ℕ} (inv : Spanning f w from s at) (b : Between w at) (stop : StopIs w at end) where
    -- one record more
    module _ (r : Record) (is : whole kinded (part w (at + 2) end) ≡ some r) (step : records_left w at ≡ r ∷ records_left w end) where
      one : Run w end at (r ∷ [])
      one = Step at end r [] stop is (Stay end refl)

      left : f (records_left w at) ≡ f (r ∷ []) ++ f (records_left w end)
      left = ap f step ∙ g.append (r ∷ []) (records_left w end)

      past : f (r ∷ []) ≡ [] → Spanning f w from s end
      past out = record {
        low = inv.low;
        inside = inv.inside;
        behind = inv.behind ++ (r ∷ []);
        run = inv.run;
        gap = run_append inv.gap one;
        none = g.append inv.behind (r ∷ []) ∙ (λ i. inv.none i ++ out i);
        rest = ap (λ (xs : List A). f inv.inside ++ xs) (sym (left ∙ ap (λ (xs : List A). xs ++ f (records_left w end)) out)) ∙ inv.rest;
      }

      begins : s.first ≡ s.last → Spanning f w from (record { first = at; last = end }) end
      begins e = record {
        low = b.low;
        inside = r ∷ [];
        behind = [];
        run = one;
        gap = Stay end refl;
        none = g.empty;
        rest =
            sym left
            ∙ ap (λ (xs : List A). xs ++ f (records_left w at)) (sym (ap f (run_empty inv.run e) ∙ g.empty))
            ∙ inv.rest;
      }

      wider : Spanning f w from (record { first = s.first; last = end }) end
      wider = record {
        low = inv.low;
        inside = inv.inside ++ (inv.behind ++ (r ∷ []));
        behind = [];
        run = run_append inv.run (run_append inv.gap one);
        gap = Stay end refl;
        none = g.empty;
        rest =
            ap (λ (xs : List A). xs ++ f (records_left w end))
            (g.append inv.inside (inv.behind ++ (r ∷ []))
            ∙ ap (λ (xs : List A). f inv.inside ++ xs) (g.append inv.behind (r ∷ []) ∙ ap (λ (xs : List A). xs ++ f (r ∷ [])) inv.none))
            ∙ append_assoc (f inv.inside) (f (r ∷ [])) (f (records_left w end))
            ∙ ap (λ (xs : List A). f inv.inside ++ xs) (sym left)
            ∙ inv.rest;
      }

      turned : (counts : Bool) → (counts ≡ false → f (r ∷ []) ≡ []) → Spanning f w from (span_after s counts at end) end
      unfolding span_after
      turned false out = past (out refl)
      turned true out = go (eqb s.first s.last) refl
        where
          go : (t : Bool) → eqb s.first s.last ≡ t → Spanning f w from (record { first = cond t at s.first; last = end }) end
          go true e = begins (eqb-true s.first s.last e)
          go false e = wider

    pub span_turn : {counts : Bool} {new : Span} → records_left w at ≡ cons_some (whole kinded (part w (at + 2) end)) (records_left w end)
        → (counts ≡ false → (r : Record) → whole kinded (part w (at + 2) end) ≡ some r → f (r ∷ []) ≡ []) → SpanAfter s counts at end new → Spanning f w from new end
    span_turn {counts} step out after = rw after.is (go (whole kinded (part w (at + 2) end)) refl)
      where
        go : (o : Option Record) → whole kinded (part w (at + 2) end) ≡ o → Spanning f w from (span_after s counts at end) end
        go none e = absurd (false≢true (sym (ap is_some e) ∙ stop.ok))
        go (some r) e = turned r e (step ∙ ap (λ o. cons_some o (records_left w end)) e) counts (λ c. out c r e)

  pub span_end : {s : Span} {at : ℕ} → Spanning f w from s at → at ≤ length w → records_left w at ≡ [] → Spanned f w from s
  span_end {s} {at} inv h e =
      let fits : s.last ≤ length w = omega (arith, run_le inv.gap) in
      record {
        fits = fits;
        between = run_between fits inv.low inv.run;
        same =
            ap (λ o. f (listed o)) (run_records fits inv.run)
            ∙ sym (append-nil (f inv.inside))
            ∙ ap (λ (xs : List A). f inv.inside ++ xs) (sym (ap f e ∙ g.empty))
            ∙ inv.rest;
      }

-- ---- the window

pub spans_noted : {s : Spans} {own rounding : Bool} {at end : ℕ} {a b : Span} → SpanAfter s.rows own at end a → SpanAfter s.roundings rounding at end b
    → SpansAfter s own rounding at end (record { rows = a; roundings = b })
spans_noted a b = record { rows = a; roundings = b }

pub windows : {b : List ℕ} {start : ℕ} {article : List ℕ} {sort : ℕ} {rs ss : Span} {k : Noted}
    → Spanned (rows_of article sort) b start rs → Spanned roundings b start ss → NotedIn b start k
    → Windows b start article sort (record { spans = record { rows = rs; roundings = ss }; noted = k })
windows a b k = record {
  fits = a.fits;
  between = a.between;
  same = a.same;
  rounding_fits = b.fits;
  rounding_between = b.between;
  rounding_same = b.same;
  noted = k;
}

-- a window is that of an article and a sort by whatever name
pub window_as : {b : List ℕ} {start : ℕ} {article article' : List ℕ} {sort sort' : ℕ} {w : Window} → article ≡ article' → sort ≡ sort'
    → Windows b start article sort w → Windows b start article' sort' w
window_as {b} {start} {article'} {sort} {w} e f h = subst (λ (k : ℕ). Windows b start article' k w) f (subst (λ (n : List ℕ). Windows b start n sort w) e h)
