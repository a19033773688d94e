-- The two walks: from each record on, what is left decides; and what is left goes behind what was written.
use Prim.Native.Nat.{ℕ, ◌+◌, ◌*◌, ◌-◌, ◌≤◌, ◌<◌}
use mathlib.Core.Path.{◌≡◌, refl, sym, ◌∙◌, ap, subst}
use mathlib.Core.Bool.{true, false}
use mathlib.Core.List.{List, [], ◌++◌, map, append_assoc, append-nil}
use mathlib.Core.Option.{Option, some}
use native.Mathlib.Omega.{arith}
use lib.ListN.{length, length-append}
use Rattle.rules.specs.Lists.{if_some, is_some}
use Rattle.rules.specs.Book.{Record, Row}
use Rattle.rules.specs.BookLayout.{records}
use Rattle.rules.specs.Placed.{Placed, placed_records}
use Rattle.rules.proofs.PlacedLaws.{held_in, placed_some}
use Rattle.rules.proofs.StandLaws.{Stand, placed_stand}
use Rattle.file_rules.specs.PriceFile.{first_unfit, file_text}
use Rattle.layout.specs.Reads.{part}
use Rattle.layout.specs.Ensures.{PutsTo}
use Rattle.layout.specs.Records.{records_of, RecordHere, StopIs}
use Rattle.layout.proofs.StoreLaws.{to_nothing, to_then}
use Rattle.book.proofs.WalkLaws.{book_records, book_size}
use Rattle.records.specs.Asks.{Accepted}
use Rattle.decimals.specs.Texts.{RoomFor}
use Rattle.price_text.specs.Line.{line_of}
use Rattle.price_text.specs.Size.{fits, LineHolds, NoLineHolds}
use Rattle.rules.specs.declared.Refusal.TheVariants.{BadRow}
use Rattle.write_prices.specs.Written.{rows_among, rows_of, lines_among, file_of}
use Rattle.write_prices.specs.Ends.{LinesHold, FirstUnfit}
use Rattle.write_prices.proofs.StepLaws.{Next, none_left, here_stands, next_is, lines_on, fit_on, unfit_here}

-- ---- the start

module _ (b : List ℕ) (ok : is_some (records b) ≡ true) where
  all_placed : (ps : List (Placed Record)) × (placed_records b ≡ some ps) × (held_in ps ≡ records_of b)
  all_placed = placed_some b (records_of b) (book_records b ok)

  pub these : List (Placed Record)
  these = all_placed.0

  pub these_placed : placed_records b ≡ some these
  unfolding these
  these_placed = all_placed.1

  pub these_stand : Stand b 5 these
  these_stand = placed_stand b these these_placed

  pub these_rows : rows_of b ≡ rows_among these
  these_rows = ap (λ (o : Option (List (Placed Record))). rows_among (if_some o [] (λ ps. ps))) these_placed

  pub these_lines : file_of b ≡ lines_among these
  unfolding file_of lines_among
  these_lines = ap (λ (rs : List (Placed Row)). file_text (map (λ p. p.held) rs)) these_rows

pub stop_accepted : {b : List ℕ} {at e : ℕ} → StopIs b at e → Accepted (part b (at + 2) e)
stop_accepted s = record { ok = s.ok }

pub stop_less : {b : List ℕ} {at e : ℕ} → StopIs b at e → at < length b → length b - e < length b - at
stop_less s h = omega (arith, s.low, s.fits)

-- ---- the first walk

-- all records passed can be held by lines, which have so many bytes
pub record Judging (b : List ℕ) (size at : ℕ) : Type 0 where
  pub left : List (Placed Record)
  pub stand : Stand b at left
  pub unfit : first_unfit (rows_of b) ≡ first_unfit (rows_among left)
  pub sized : length (file_of b) ≡ size + length (lines_among left)
  pub few : size ≤ 1300 * at
  pub small : length b ≤ 4194304

module _ (b : List ℕ) where
  pub judge_start : is_some (records b) ≡ true → Judging b 0 5
  judge_start ok = record {
    left = these b ok;
    stand = these_stand b ok;
    unfit = ap first_unfit (these_rows b ok);
    sized = omega (arith, ap length (these_lines b ok));
    few = omega arith;
    small = book_size b ok;
  }

  module _ {size at : ℕ} (p : Judging b size at) where
    pub judge_end : length b ≤ at → LinesHold b size
    unfolding lines_among file_text
    judge_end h =
        let e : p.left ≡ [] = none_left p.left p.stand h in
        record {
          good = p.unfit ∙ ap (λ (l : List (Placed Record)). first_unfit (rows_among l)) e;
          is = omega (arith, p.sized, ap (λ (l : List (Placed Record)). length (lines_among l)) e);
        }

    module _ (h : at < length b) where
      pub judge_here : RecordHere b at
      judge_here = here_stands p.left p.stand h

      module _ {e : ℕ} (s : StopIs b at e) where
        next : Next b at e p.left
        next = next_is p.left p.stand h s

        module _ {n : ℕ} (i : LineHolds (part b (at + 2) e) n) where
          pub judge_add : size + n < 18446744073709551616
          judge_add = omega (arith, p.few, p.small, i.few)

          pub judge_on : Judging b (size + n) e
          judge_on = record {
            left = next.behind;
            stand = next.stand;
            unfit = p.unfit ∙ fit_on next i.fit;
            sized = omega
                (arith, p.sized, ap length (lines_on next), length-append (line_of (part b (at + 2) e)) (lines_among next.behind), i.is);
            few = omega (arith, p.few, i.few, s.low);
            small = p.small;
          }

        pub judge_bad : {n : ℕ} → NoLineHolds (part b (at + 2) e) n → FirstUnfit b (record { reason = BadRow; place = at + 1 })
        judge_bad f = record { bad = p.unfit ∙ unfit_here next f.unfit; reason = refl }

-- ---- the second walk

-- the lines of the records passed stand in front of `to`
pub record Writing (old b out : List ℕ) (to at : ℕ) : Type 0 where
  pub left : List (Placed Record)
  pub stand : Stand b at left
  pub done : List ℕ
  pub whole : file_of b ≡ done ++ lines_among left
  pub puts : PutsTo old 0 done out to
  pub room : length (file_of b) ≤ length old

module _ {old b : List ℕ} where
  pub write_start : is_some (records b) ≡ true → length (file_of b) ≤ length old → Writing old b old 0 5
  write_start ok r = record {
    left = these b ok;
    stand = these_stand b ok;
    done = [];
    whole = these_lines b ok;
    puts = to_nothing (omega arith);
    room = r;
  }

  module _ {out : List ℕ} {to at : ℕ} (p : Writing old b out to at) where
    pub write_end : length b ≤ at → PutsTo old 0 (file_of b) out to
    unfolding lines_among file_text
    write_end h =
        let e : p.left ≡ [] = none_left p.left p.stand h in
        subst (λ (s : List ℕ). PutsTo old 0 s out to)
        (sym (p.whole ∙ (ap (λ (l : List (Placed Record)). p.done ++ lines_among l) e ∙ append-nil p.done))) p.puts

    module _ (h : at < length b) where
      pub write_here : RecordHere b at
      write_here = here_stands p.left p.stand h

      module _ {e : ℕ} (s : StopIs b at e) where
        next_line : Next b at e p.left
        next_line = next_is p.left p.stand h s

        abbrev line : List ℕ
        line = line_of (part b (at + 2) e)

        one_more : file_of b ≡ (p.done ++ line) ++ lines_among next_line.behind
        one_more =
            p.whole
            ∙ (ap (λ (u : List ℕ). p.done ++ u) (lines_on next_line) ∙ sym (append_assoc p.done line (lines_among next_line.behind)))

        pub write_room : RoomFor out to (line_of (part b (at + 2) e))
        write_room = record {
          room = omega (
            arith,
            p.room,
            p.puts.ends,
            p.puts.puts.long,
            ap length one_more,
            length-append (p.done ++ line) (lines_among next_line.behind),
            length-append p.done line,
          );
        }

        pub write_on : {new : List ℕ} {r : ℕ} → PutsTo out to (line_of (part b (at + 2) e)) new r → Writing old b new r e
        write_on q = record {
          left = next_line.behind;
          stand = next_line.stand;
          done = p.done ++ line;
          whole = one_more;
          puts = to_then p.puts q;
          room = p.room;
        }
