-- The first pass: from each line on, what is left of the room decides.
use Prim.Native.Nat.{ℕ, suc, ◌+◌, ◌-◌, ◌≤◌, ◌<◌}
use mathlib.Core.Path.{◌≡◌, refl, sym, ◌∙◌, ap, ap₂}
use mathlib.Core.Bool.{Bool, true, false, ◌&&◌, ◌||◌}
use mathlib.Core.List.{List, [], ◌∷◌, ◌++◌}
use mathlib.Core.Option.{Option, some, none}
use native.Mathlib.Omega.{arith}
use native.Mathlib.Numerals.{add-one}
use lib.Dec.{leb}
use lib.ListN.{length, drop, drop_of_length-le}
use borrow.Author.Tests.{le-leb, lt-leb, leb-true, leb-false}
use Rattle.rules.specs.RowBytes.{rows_bytes}
use Rattle.file_rules.specs.Fields.{is_blank, is_remark, lines_of}
use Rattle.rules.specs.PlacedRefusals.{ResultAt, Done, RefusedAt, ◌>>=◌, or_refuse_at, unless_so, place_at, number_at, or_zero_at}
use Rattle.file_rules.specs.PriceLine.{NamedRow, alone, brought_by, brought, price_line}
use Rattle.file_rules.specs.PriceFile.{lines_from, numbered, read_file, shown_read}
use Rattle.rules.specs.declared.PlacedAnswer.{PlacedAnswer}
use Rattle.layout.specs.Reads.{part}
use Rattle.layout.specs.Ensures.{Says}
use Rattle.std.specs.Prelude.{Some, None, is_some}
use Rattle.std.specs.declared.option.Option.{Option as Returned}
use Rattle.std.specs.Option.{unwrap_or}
use Rattle.rules.specs.Layout.{whole}
use Rattle.rules.specs.declared.Refusal.TheVariants.{BadRow, ShortOutput}
use Rattle.fields.specs.Given.{GivesNone}
use Rattle.fields.specs.Field.{CutAt}
use Rattle.fields.proofs.LineLaws.{line_at}
use Rattle.price_line.specs.declared.PriceLine.{PriceLine}
use Rattle.price_line.specs.Line.{row_on, LineIs}
use Rattle.judging.specs.Judge.{sizes, BroughtIs, Less, refused, judged, Judging, AnswerIs}
use Rattle.judging.proofs.SizeLaws.{numbered_length, sizes_none, sizes_one, sizes_append}

-- ---- a line

module _ (line : List ℕ) {t : Bool} (s : Says (is_blank line || is_remark line) t) where
  pub brings_none : t ≡ true → BroughtIs line 0
  unfolding brought
  brings_none e = record { rows = []; is = ap (λ (b : Bool). brought_by b line) (s.is ∙ e); long = sizes_none }

  by_row : t ≡ false → brought line ≡ alone (whole price_line line)
  unfolding brought
  by_row e = ap (λ (b : Bool). brought_by b line) (s.is ∙ e)

  pub brings_bad : t ≡ false → GivesNone (whole price_line line) → GivesNone (brought line)
  brings_bad e p = record { is = by_row e ∙ ap alone p.is }

  pub brings_row : {r : PriceLine} {n : ℕ} → t ≡ false → LineIs line r → n ≡ 34 + r.article.count + r.condition.count → BroughtIs line n
  unfolding row_on
  brings_row {r} {n} e p q =
      record {
        rows = row_on line r ∷ [];
        is = by_row e ∙ ap alone p.is;
        long = sizes_one (row_on line r) ∙ omega (arith, p.article.count, p.condition.count);
      }

-- ---- line by line

room_for : (fits : Bool) (a b left : ℕ) → (fits && leb (a + b) left) ≡ ((fits && leb a left) && leb b (left - a))
room_for false a b left = refl
room_for true a b left = by (leb a left) (leb b (left - a)) refl refl
  where
    by : (x y : Bool) → leb a left ≡ x → leb b (left - a) ≡ y → leb (a + b) left ≡ (x && y)
    by true true e f = le-leb (a + b) left (omega (arith, leb-true a left e, leb-true b (left - a) f))
    by true false e f = lt-leb (a + b) left (omega (arith, leb-true a left e, leb-false b (left - a) f))
    by false y e f = lt-leb (a + b) left (omega (arith, leb-false a left e))

judged_on : (fits : Bool) (left n : ℕ) (s : List ℕ) (ss : List (List ℕ)) (here : List NamedRow) → brought s ≡ some here
    → judged fits left (lines_from n (s ∷ ss)) ≡ judged (fits && leb (sizes here) left) (left - sizes here) (lines_from (suc n) ss)
unfolding lines_from
judged_on fits left n s ss here e =
    ap (λ (o : Option (List NamedRow)). judged fits left (or_refuse_at 13 n o >>= λ h. lines_from (suc n) ss >>= λ behind. Done (h ++ behind))) e
    ∙ by (lines_from (suc n) ss)
  where
    by : (o : ResultAt (List NamedRow))
        → judged fits left (o >>= λ behind. Done (here ++ behind)) ≡ judged (fits && leb (sizes here) left) (left - sizes here) o
    by (RefusedAt m p) = refl
    by (Done ls) = rest (sizes (here ++ ls)) (sizes_append here ls)
      where
        rest : (k : ℕ) → k ≡ sizes here + sizes ls
            → (unless_so 7 (fits && leb k left) >>= λ _. Done (left - k))
            ≡ (unless_so 7 ((fits && leb (sizes here) left) && leb (sizes ls) (left - sizes here)) >>= λ _. Done (left - sizes here - sizes ls))
        rest k f =
            let d : left - k ≡ left - sizes here - sizes ls = omega arith in
            ap₂ (λ (b : Bool) (m : ℕ). unless_so 7 b >>= λ _. Done m) (ap (λ (m : ℕ). fits && leb m left) f
            ∙ room_for fits (sizes here) (sizes ls) left) d

judged_bad : (fits : Bool) (left n : ℕ) (s : List ℕ) (ss : List (List ℕ)) → brought s ≡ none
    → judged fits left (lines_from n (s ∷ ss)) ≡ RefusedAt 13 n
unfolding lines_from
judged_bad fits left n s ss e =
    ap (λ (o : Option (List NamedRow)). judged fits left (or_refuse_at 13 n o >>= λ h. lines_from (suc n) ss >>= λ behind. Done (h ++ behind))) e

-- ---- the answer

shown : ℕ → ResultAt ℕ → PlacedAnswer
shown room r = record { length = or_zero_at 0 (λ left. room - left) r; place = place_at r; number = number_at r }

answer_of : (file : List ℕ) (room : ℕ) → shown_read (read_file file room) ≡ shown room (judged true room (lines_from 1 (lines_of file)))
unfolding read_file shown_read shown
answer_of file room = by (lines_from 1 (lines_of file))
  where
    by : (o : ResultAt (List NamedRow))
        → shown_read (o >>= λ ls. unless_so 7 (leb (length (rows_bytes (numbered ls))) room) >>= λ _. Done (numbered ls))
        ≡ shown room (judged true room o)
    by (RefusedAt m p) = refl
    by (Done ls) = some_rows (leb (length (rows_bytes (numbered ls))) room) refl
      where
        some_rows : (x : Bool) → leb (length (rows_bytes (numbered ls))) room ≡ x
            → shown_read (unless_so 7 x >>= λ _. Done (numbered ls)) ≡ shown room (unless_so 7 (leb (sizes ls) room) >>= λ _. Done (room - sizes ls))
        some_rows false e =
            sym (ap (λ (b : Bool). shown room (unless_so 7 b >>= λ _. Done (room - sizes ls))) (sym (ap (λ (k : ℕ). leb k room) (numbered_length ls))
            ∙ e))
        some_rows true e =
            let h : length (rows_bytes (numbered ls)) ≤ room = leb-true (length (rows_bytes (numbered ls))) room e in
            let d : length (rows_bytes (numbered ls)) ≡ room - (room - sizes ls) = omega (arith, numbered_length ls) in
            ap (λ (k : ℕ). record { length = k; place = 0; number = 0 }) d
            ∙ sym (ap (λ (b : Bool). shown room (unless_so 7 b >>= λ _. Done (room - sizes ls)))
            (sym (ap (λ (k : ℕ). leb k room) (numbered_length ls)) ∙ e))

module _ {file : List ℕ} {room : ℕ} where
  pub judge_start : Judging file room 0 0 (Some room)
  judge_start = record { is = refl; low = omega arith; within = omega arith; few = omega arith }

  module _ {at n : ℕ} {left : Returned ℕ} (p : Judging file room at n left) where
    abbrev fits : Bool
    fits = is_some left

    abbrev rest : ℕ
    rest = unwrap_or left 0

    module _ (l : at < length file) {end : ℕ} (c : CutAt 10 file at end) where
      lines : judged fits rest (lines_from (suc n) (lines_of (drop at file)))
          ≡ judged fits rest (lines_from (suc n) (part file at end ∷ lines_of (drop (end + 1) file)))
      lines = ap (λ (ss : List (List ℕ)). judged fits rest (lines_from (suc n) ss)) (line_at c l)

      pub judge_on : {size : ℕ} → BroughtIs (part file at end) size → {r : Returned ℕ} → Less left size r → Judging file room (end + 1) (n + 1) r
      judge_on {size = size} q {r = r} k = record {
        is =
            p.is
            ∙ (lines
            ∙ (judged_on fits rest (suc n) (part file at end) (lines_of (drop (end + 1) file)) q.rows q.is
            ∙ (ap (λ (m : ℕ). judged (fits && leb m rest) (rest - m) (lines_from (suc (suc n)) (lines_of (drop (end + 1) file)))) q.long
            ∙ (ap₂ (λ (b : Bool) (x : ℕ). judged b x (lines_from (suc (suc n)) (lines_of (drop (end + 1) file)))) (sym k.fits) (sym k.is)
            ∙ ap (λ (m : ℕ). judged (is_some r) (unwrap_or r 0) (lines_from (suc m) (lines_of (drop (end + 1) file)))) (sym (add-one n))))));
        low = omega (arith, p.low, c.low);
        within = omega (arith, c.fits);
        few = omega (arith, p.few, k.is);
      }

      pub judge_bad : GivesNone (brought (part file at end)) → {r : PlacedAnswer} → r ≡ refused BadRow (n + 1) → AnswerIs file room r
      unfolding shown
      judge_bad q e = record {
        is =
            e
            ∙ (ap (refused BadRow) (add-one n)
            ∙ sym (answer_of file room
            ∙ ap (shown room) (p.is
            ∙ (lines
            ∙ judged_bad fits rest (suc n) (part file at end) (lines_of (drop (end + 1) file)) q.is))));
      }

    ends : length file ≤ at → shown_read (read_file file room) ≡ shown room (judged fits rest (Done []))
    unfolding lines_from lines_of
    ends h =
        answer_of file room
        ∙ ap (shown room) (p.is ∙ ap (λ (s : List ℕ). judged fits rest (lines_from (suc n) (lines_of s))) (drop_of_length-le file {i = at} h))

    pub judge_fits : {k : ℕ} → left ≡ Some k → length file ≤ at → AnswerIs file room (record { length = room - k; place = 0; number = 0 })
    unfolding shown
    judge_fits {k = k} e h =
        record {
          is = sym (ends h
              ∙ (ap (λ (o : Returned ℕ). shown room (judged (is_some o) (unwrap_or o 0) (Done []))) e
              ∙ ap₂ (λ (b : Bool) (m : ℕ). shown room (unless_so 7 b >>= λ _. Done m)) (le-leb (sizes []) k (omega (arith, sizes_none)))
              (omega (arith, sizes_none))));
        }

    pub judge_short : left ≡ None → length file ≤ at → {r : PlacedAnswer} → r ≡ refused ShortOutput 0 → AnswerIs file room r
    unfolding shown
    judge_short e h f =
        record {
          is = f ∙ sym (ends h ∙ ap (λ (o : Returned ℕ). shown room (judged (is_some o) (unwrap_or o 0) (Done []))) e);
        }
