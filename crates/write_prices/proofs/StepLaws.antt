-- A step of a walk over the records of a book, with their places.
use Prim.Native.Nat.{ℕ, ◌+◌, ◌≤◌, ◌<◌}
use mathlib.Core.Path.{◌≡◌, refl, sym, ◌∙◌, ap, ap₂, subst}
use mathlib.Core.Bool.{Bool, true, false, not, and-true, false≢true}
use mathlib.Core.List.{List, [], ◌∷◌, ◌++◌, append-nil, map}
use mathlib.Core.Option
use mathlib.Core.Option.{Option, some, none}
use native.Mathlib.Omega.{arith}
use lib.ListN.{length}
use Rattle.rules.specs.Lists.{all, first, pick, if_some, is_some, cons_some}
use Rattle.rules.specs.Layout.{whole}
use Rattle.rules.specs.Book.{Record, Row, as_row}
use Rattle.rules.specs.BookLayout.{kinded}
use Rattle.rules.specs.Placed.{Placed, holding}
use Rattle.rules.proofs.StandLaws.{Stand, stand_behind}
use Rattle.file_rules.specs.PriceLine.{line_text}
use Rattle.file_rules.specs.PriceFile.{fits_line, first_unfit, file_text}
use Rattle.layout.specs.Reads.{part}
use Rattle.layout.specs.Records.{record_stop, RecordHere, StopIs}
use Rattle.price_text.specs.Line.{brings, line_of}
use Rattle.write_prices.specs.Written.{rows_among, lines_among}

-- ---- the first of the records that are left

pub record Next (b : List ℕ) (at e : ℕ) (left : List (Placed Record)) : Type 0 where
  pub here : Record
  pub behind : List (Placed Record)
  pub is : left ≡ record { start = at; stop = e; held = here } ∷ behind
  pub read : whole kinded (part b (at + 2) e) ≡ some here
  pub stand : Stand b e behind

module _ {b : List ℕ} {at : ℕ} where
  pub none_left : (left : List (Placed Record)) → Stand b at left → length b ≤ at → left ≡ []
  none_left [] s h = refl
  none_left (p ∷ ps) s h = absurd (omega (arith, s.chain.0, s.chain.1, s.each.0.within))

  pub here_stands : (left : List (Placed Record)) → Stand b at left → at < length b → RecordHere b at
  here_stands [] s h = absurd (omega (arith, s.chain))
  here_stands (p ∷ ps) s h =
      let e : p.start ≡ at = s.chain.0 in
      let f : p.stop ≡ record_stop b at = s.each.0.stops ∙ ap (record_stop b) e in
      record {
        fits = omega (arith, s.each.0.within, f);
        ok = ap is_some (sym (ap₂ (λ (i j : ℕ). whole kinded (part b (i + 2) j)) e f) ∙ s.each.0.body);
      }

  pub next_is : (left : List (Placed Record)) → Stand b at left → at < length b → {e : ℕ} → StopIs b at e → Next b at e left
  next_is [] s h q = absurd (omega (arith, s.chain))
  next_is (p ∷ ps) s h {e} q =
      let i : p.start ≡ at = s.chain.0 in
      let j : p.stop ≡ e = s.each.0.stops ∙ (ap (record_stop b) i ∙ sym q.is) in
      record {
        here = p.held;
        behind = ps;
        is = λ k. record { start = i k; stop = j k; held = p.held } ∷ ps;
        read = sym (ap₂ (λ (m n : ℕ). whole kinded (part b (m + 2) n)) i j) ∙ s.each.0.body;
        stand = subst (λ (n : ℕ). Stand b n ps) j (stand_behind b at p ps s);
      }

-- ---- what it brings

module _ {b : List ℕ} {at e : ℕ} {left : List (Placed Record)} (n : Next b at e left) where
  abbrev here : Placed Record
  here = record { start = at; stop = e; held = n.here }

  pub lines_on : lines_among left ≡ line_of (part b (at + 2) e) ++ lines_among n.behind
  unfolding lines_among line_of file_text
  lines_on =
      ap lines_among n.is ∙ (by (as_row n.here) ∙ sym (ap (λ (o : Option Record). file_text (brings o) ++ lines_among n.behind) n.read))
    where
      by : (o : Option Row)
          → file_text (map (λ p. p.held) (cons_some (Option.map (holding here) o) (rows_among n.behind)))
          ≡ file_text (cons_some o []) ++ lines_among n.behind
      by none = refl
      by (some x) = ap (λ (s : List ℕ). s ++ lines_among n.behind) (sym (append-nil (line_text x ++ (10 ∷ []))))

  abbrev fit : Bool
  fit = all fits_line (brings (whole kinded (part b (at + 2) e)))

  as_read : fit ≡ all fits_line (cons_some (as_row n.here) [])
  as_read = ap (λ (o : Option Record). all fits_line (brings o)) n.read

  -- the place of the first that no line can hold, if the test of this row says so
  abbrev found : Row → Bool → Option ℕ
  found x t = if_some (pick (not t) (holding here x) (first (λ p. not (fits_line p.held)) (rows_among n.behind))) none (λ p. some (p.start + 1))

  pub fit_on : fit ≡ true → first_unfit (rows_among left) ≡ first_unfit (rows_among n.behind)
  fit_on f = ap (λ (l : List (Placed Record)). first_unfit (rows_among l)) n.is ∙ by (as_row n.here) (sym as_read ∙ f)
    where
      by : (o : Option Row) → all fits_line (cons_some o []) ≡ true
          → first_unfit (cons_some (Option.map (holding here) o) (rows_among n.behind)) ≡ first_unfit (rows_among n.behind)
      by none g = refl
      by (some x) g = ap (found x) (sym (and-true (fits_line x)) ∙ g)

  pub unfit_here : fit ≡ false → first_unfit (rows_among left) ≡ some (at + 1)
  unfit_here f = ap (λ (l : List (Placed Record)). first_unfit (rows_among l)) n.is ∙ by (as_row n.here) (sym as_read ∙ f)
    where
      by : (o : Option Row) → all fits_line (cons_some o []) ≡ false
          → first_unfit (cons_some (Option.map (holding here) o) (rows_among n.behind)) ≡ some (at + 1)
      by none g = absurd (false≢true (sym g))
      by (some x) g = ap (found x) (sym (and-true (fits_line x)) ∙ g)
