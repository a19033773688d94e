-- The call: what is refused, and what is written.
use Prim.Native.Nat.{ℕ, ◌≤◌, ◌<◌}
use mathlib.Core.Path.{◌≡◌, refl, sym, ◌∙◌, ap, subst}
use mathlib.Core.Bool.{Bool, true, false, false≢true}
use mathlib.Core.List.{List, map}
use mathlib.Core.Option
use mathlib.Core.Option.{Option, some, none}
use native.Mathlib.Omega.{arith}
use lib.Dec.{leb}
use lib.ListN.{length}
use borrow.Author.Tests.{le-leb, lt-leb}
use Rattle.rules.specs.Lists.{is_some}
use Rattle.rules.specs.Book.{Record, Row, as_row}
use Rattle.rules.specs.BookLayout.{records}
use Rattle.rules.specs.Placed.{Placed, placed_records, placed_as}
use Rattle.rules.specs.PlacedRefusals.{ResultAt, Done, RefusedAt, ◌>>=◌, or_refuse_at, unless_at, unless_so, lent_after_at}
use Rattle.rules.proofs.PlacedLaws.{held_in, placed_held}
use Rattle.file_rules.specs.PriceFile.{first_unfit, file_text, written_of, write_file, shown_write, lent_after_write}
use Rattle.file_rules.specs.Calls.{WriteIs}
use Rattle.layout.specs.Ensures.{PutsTo}
use Rattle.layout.proofs.StoreLaws.{puts_front}
use Rattle.std.specs.Prelude.{Ok, Err}
use Rattle.rules.specs.Reasons.{number_for}
use Rattle.rules.specs.declared.Refusal.TheVariants.{BrokenBook, ShortOutput}
use Rattle.write_prices.specs.declared.Refused.{Refused}
use Rattle.write_prices.specs.Written.{rows_of, file_of, blameless}
use Rattle.write_prices.specs.Ends.{LinesHold, FirstUnfit, WrittenIs}
use Rattle.write_prices.proofs.WalkLaws.{these_placed, these_rows}

module _ (b old : List ℕ) where
  abbrev result : ResultAt (List Row)
  result = write_file b (length old)

  refused : {n p : ℕ} → result ≡ RefusedAt n p → WriteIs b old (record { length = 0; place = p; number = n }) old
  unfolding shown_write lent_after_at
  refused e = record { answer = sym (ap shown_write e); output = sym (ap (λ (x : ResultAt (List Row)). lent_after_write x old) e) }

  pub no_book : {t : Bool} → t ≡ is_some (records b) → t ≡ false → WrittenIs b old old (Err (blameless BrokenBook))
  unfolding write_file
  no_book {t} s e =
      refused
      (ap (λ (o : Option (List (Placed Record))). or_refuse_at 1 0 o >>= λ ps. written_of (length old) (placed_as as_row ps))
      (by (placed_records b) refl))
    where
      by : (o : Option (List (Placed Record))) → placed_records b ≡ o → placed_records b ≡ none
      by none i = i
      by (some ps) i = absurd (false≢true (sym e ∙ (s ∙ ap is_some (placed_held b ∙ ap (Option.map held_in) i))))

  module _ {t : Bool} (s : t ≡ is_some (records b)) (e : t ≡ true) where
    ok : is_some (records b) ≡ true
    ok = sym s ∙ e

    written : result ≡ written_of (length old) (rows_of b)
    unfolding write_file
    written =
        ap (λ (o : Option (List (Placed Record))). or_refuse_at 1 0 o >>= λ ps. written_of (length old) (placed_as as_row ps)) (these_placed b ok)
        ∙ sym (ap (written_of (length old)) (these_rows b ok))

    abbrev rows : List Row
    rows = map (λ p. p.held) (rows_of b)

    abbrev last : ResultAt (List Row)
    last = unless_so 7 (leb (length (file_text rows)) (length old)) >>= λ _. Done rows

    judged : (o : Option ℕ) → first_unfit (rows_of b) ≡ o → result ≡ (unless_at 13 o >>= λ _. last)
    judged o i = written ∙ ap (λ (o : Option ℕ). unless_at 13 o >>= λ _. last) i

    pub unfit : {r : Refused} → FirstUnfit b r → WrittenIs b old old (Err r)
    unfit {r} q =
        let e : number_for r.reason ≡ 13 = ap number_for q.reason in
        subst (λ (n : ℕ). WriteIs b old (record { length = 0; place = r.place; number = n }) old) (sym e) (refused (judged (some r.place) q.bad))

    module _ {size : ℕ} (q : LinesHold b size) where
      pub no_room : length old < size → WrittenIs b old old (Err (blameless ShortOutput))
      unfolding file_of
      no_room g =
          refused
          (judged none q.good
          ∙ ap (λ (t : Bool). unless_so 7 t >>= λ _. Done rows) (lt-leb (length (file_text rows)) (length old) (omega (arith, q.is))))

      pub all_written : {new : List ℕ} {r : ℕ} → size ≤ length old → PutsTo old 0 (file_of b) new r → WrittenIs b old new (Ok r)
      unfolding file_of shown_write lent_after_at
      all_written {new} {r} g w =
          record {
            answer = ap (λ (n : ℕ). record { length = n; place = 0; number = 0 }) long ∙ sym (ap shown_write done);
            output = puts_front w.puts ∙ sym (ap (λ (x : ResultAt (List Row)). lent_after_write x old) done);
          }
        where
          long : r ≡ length (file_text rows)
          long = omega (arith, w.ends)

          done : result ≡ Done rows
          done =
              judged none q.good
              ∙ ap (λ (t : Bool). unless_so 7 t >>= λ _. Done rows) (le-leb (length (file_text rows)) (length old) (omega (arith, q.is)))
