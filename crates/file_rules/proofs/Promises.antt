-- What the price file's two calls promise, each under a name and in plain words. The proofs stand in the files of laws beside this one.
use Prim.Native.Nat.{ℕ, suc, ◌+◌, ◌≤◌, ◌<◌}
use mathlib.Core.Path.{◌≡◌, refl, sym, ◌∙◌, ap, subst}
use mathlib.Core.Bool.{Bool, true, false, ◌||◌, cond, false≢true}
use mathlib.Core.List.{List, [], ◌∷◌, ◌++◌, map}
use mathlib.Core.Option.{some, none, some-injective}
use mathlib.Core.Logic.{◌⊎◌, inl, inr}
use native.Mathlib.Omega.{arith}
use lib.ListN.{length, take, drop}
use Rattle.rules.specs.Book.{Record, PriceRecord, Row, rows}
use Rattle.rules.specs.BookLayout.{one_record, records, most_bytes}
use Rattle.rules.specs.RowBytes.{row_bytes, rows_bytes, book_with}
use Rattle.rules.specs.PlacedRefusals.{Done, RefusedAt, lent_after_at}
use Rattle.rules.specs.declared.PlacedAnswer.{PlacedAnswer}
use Rattle.rules.proofs.PlacedRefusalLaws.{done_is}
use Rattle.file_rules.specs.Fields.{semicolon, lines_of, field, is_remark, is_blank, needs_quotes}
use Rattle.file_rules.specs.PriceLine.{NamedRow, is_empty, brought_by, brought}
use Rattle.file_rules.specs.PriceFile.{place_in, text_names, text_number, texts_run, read_file, shown_read, lent_after_read, fits_line, file_text, write_file, shown_write, lent_after_write}
use Rattle.file_rules.specs.Calls.{ReadIs, WriteIs}
use Rattle.rules.proofs.ListLaws.{All}
use Rattle.file_rules.proofs.FieldLaws.{Ends, plain_read, quotes_needed}
use Rattle.file_rules.proofs.PriceLineLaws.{SoundRow}
use Rattle.file_rules.proofs.NumberingLaws.{seen, seen_distinct, seen_named, one_name}
use Rattle.file_rules.proofs.PriceFileLaws.{same_rows}
use Rattle.file_rules.proofs.FirstBadLaws.{FirstBad, here, there, NoRoom, read_13, read_refused}
use Rattle.file_rules.proofs.RowBytesLaws.{book_of_rows}
use Rattle.file_rules.proofs.BookSoundLaws.{AreBytes, book_sound}
use Rattle.file_rules.proofs.ExactLaws.{record_exact, book_exact}
use Rattle.file_rules.proofs.ReadLaws.{numbers_run, rows_sound}
use Rattle.file_rules.proofs.UnfitLaws.{UnfitAt}
use Rattle.file_rules.proofs.WriteLaws.{WrittenFrom, done_from, refused_by_lem, rows_all, write_rows}
use Rattle.file_rules.proofs.CallLaws.{read_out, read_not, write_out, write_not}

-- ---- what is read

-- The numbers of the texts that are read run 1, 2, 3 and on by first appearance.
pub read_runs : (file : List ℕ) (room : ℕ) (rs : List Row) → read_file file room ≡ Done rs → texts_run rs ≡ true
read_runs = numbers_run

-- Two text names of a file have one number only if they are one name; with `read_runs` this says which numbers they are.
pub one_text_one_name : (ls : List NamedRow) (x y : List ℕ) → is_empty x ≡ false → is_empty y ≡ false → seen (map (λ l. l.name) ls) x ≡ true
    → seen (map (λ l. l.name) ls) y ≡ true
    → text_number (text_names ls) x ≡ text_number (text_names ls) y → x ≡ y
unfolding text_names
one_text_one_name ls x y n m h k e =
    one_name (text_names ls) x y (seen_distinct _ x (seen_named (map (λ l. l.name) ls) x n h))
    (seen_distinct _ y (seen_named (map (λ l. l.name) ls) y m k))
    (sym (ap (λ b. cond b 0 (place_in (text_names ls) x)) n) ∙ (e ∙ ap (λ b. cond b 0 (place_in (text_names ls) y)) m))

-- Every row that is read is as a book may hold it, and the writer can write it: it names no rounding, and its dates have eight digits.
pub read_sound : (file : List ℕ) (room : ℕ) (rs : List Row) → read_file file room ≡ Done rs → length (rows_bytes rs) < 4_294_967_296
    → All SoundRow rs × All (λ r. fits_line r ≡ true) rs
read_sound = rows_sound

-- What the reader writes are price records of a book: with a book's head in front of them they are an accepted book of just these rows, unless
-- it is too long.
pub read_accepted : (file : List ℕ) (room : ℕ) (rs : List Row) → read_file file room ≡ Done rs → 5 + length (rows_bytes rs) ≤ most_bytes
    → records (book_with (rows_bytes rs)) ≡ some (map PriceRecord rs)
read_accepted file room rs e h = book_of_rows rs (read_sound file room rs e (omega arith)).0 h

-- ---- the first bad line

-- Refusal 13 names the first bad line: every line before it brings a row, or is blank or a remark; and where there is a bad line, the first one
-- is named, whatever the room.
-- Any other refusal is 7, without a place, of a file without a bad line.
pub read_first_bad : (file : List ℕ) (room p : ℕ) → read_file file room ≡ RefusedAt 13 p → FirstBad 1 (lines_of file) p
read_first_bad file room p e = go (read_refused file room e)
  where
    go : ((◌≡◌ {A = ℕ} 13 13) × FirstBad 1 (lines_of file) p) ⊎ NoRoom file room 13 p → FirstBad 1 (lines_of file) p
    go (inl x) = x.1
    go (inr x) = absurd (omega (arith, x.number))

pub bad_line_named : (file : List ℕ) (room p : ℕ) → FirstBad 1 (lines_of file) p → read_file file room ≡ RefusedAt 13 p
bad_line_named file room p b = read_13 file room b

bad_within : {n p : ℕ} {ss : List (List ℕ)} → FirstBad n ss p → (n ≤ p) × (p < n + length ss)
bad_within (here e) = (omega arith, omega arith)
bad_within (there {n = n} {p = p} {ss = ss} e b) = let x : (suc n ≤ p) × (p < suc n + length ss) = bad_within b in (omega arith, omega arith)

-- It is the number of a line of the file, from 1.
pub bad_line_there : (file : List ℕ) (room p : ℕ) → read_file file room ≡ RefusedAt 13 p → (1 ≤ p) × (p ≤ length (lines_of file))
bad_line_there file room p e = let x = bad_within (read_first_bad file room p e) in (x.0, omega (arith, x.1))

pub read_numbers : (file : List ℕ) (room n p : ℕ) → read_file file room ≡ RefusedAt n p → (13 ≡ n) ⊎ ((7 ≡ n) × (0 ≡ p))
read_numbers file room n p e = go (read_refused file room e)
  where
    go : ((13 ≡ n) × FirstBad 1 (lines_of file) p) ⊎ NoRoom file room n p → (13 ≡ n) ⊎ ((7 ≡ n) × (0 ≡ p))
    go (inl x) = inl x.0
    go (inr x) = inr (x.number, x.place)

-- ---- what is written

-- What is written are the price rows of an accepted book, in its order, and each fits a line.
pub write_done : (book : List ℕ) (room : ℕ) (rs : List Row) → write_file book room ≡ Done rs → WrittenFrom book room rs
write_done = done_from

-- The writer refuses with 1 what is no book; with 13 at the place of the first price record that no line can hold; and with 7 for want of room.
-- A place stands beside 13 only.
pub write_refused : (book : List ℕ) (room n p : ℕ) → write_file book room ≡ RefusedAt n p
    → ((1 ≡ n) × (0 ≡ p) × (records book ≡ none)) ⊎ (((13 ≡ n) × UnfitAt book p) ⊎ ((7 ≡ n) × (0 ≡ p)))
write_refused = refused_by_lem

-- Reading the file that was written gives the same rows exactly where the text numbers of the book's price records run 1, 2, 3 and on by first
-- appearance.
pub same_again : (book : List ℕ) (room room' : ℕ) (rs : List Row) → AreBytes book → write_file book room ≡ Done rs → length (rows_bytes rs) ≤ room'
    → (texts_run rs ≡ true → read_file (file_text rs) room' ≡ Done rs) × (read_file (file_text rs) room' ≡ Done rs → texts_run rs ≡ true)
same_again book room room' rs b e h =
    let x = write_done book room rs e in
    let s : All SoundRow rs = subst (λ (rs : List Row). All SoundRow rs) x.is (book_sound book x.content b x.good) in
    (λ r. same_rows rs s x.fit room' r h, read_runs (file_text rs) room' rs)

-- A file that is read can be written again from the book of what was read, and read once more: the rows stay.
pub read_write_read : (file : List ℕ) (room room₂ room₃ : ℕ) (rs : List Row) → read_file file room ≡ Done rs → 5 + length (rows_bytes rs) ≤ most_bytes
    → length (file_text rs) ≤ room₂ → length (rows_bytes rs) ≤ room₃
    → (write_file (book_with (rows_bytes rs)) room₂ ≡ Done rs) × (read_file (file_text rs) room₃ ≡ Done rs)
read_write_read file room room₂ room₃ rs e h h₂ h₃ =
    let s = read_sound file room rs e (omega arith) in (
      write_rows (book_with (rows_bytes rs)) room₂ rs (read_accepted file room rs e h) s.1 h₂,
      same_rows rs s.0 s.1 room₃ (read_runs file room rs e) h₃,
    )

-- The same rows are the same bytes: a price record that is read off the front of bytes is the bytes of its row,
pub same_record : (s : List ℕ) (r : Row) (t : List ℕ) → AreBytes s → one_record s ≡ some (PriceRecord r, t) → s ≡ row_bytes r ++ t
same_record s r t b e = (record_exact s r t b e).0

-- and a book of price records alone is what a head and the bytes of its rows make.
pub same_book : (book : List ℕ) (rs : List Row) → AreBytes book → records book ≡ some (map PriceRecord rs) → book ≡ book_with (rows_bytes rs)
same_book = book_exact

-- ---- quotes

-- A field that is written without quotes is read as it stands; one that is written in quotes would not be.
pub quotes_only_where_needed : (s rest : List ℕ) → Ends semicolon rest
    → (needs_quotes s ≡ false → field (s ++ rest) ≡ some (s, rest)) × (needs_quotes s ≡ true → field (s ++ rest) ≡ some (s, rest) → ⊥)
quotes_only_where_needed s rest h = ((λ e. plain_read s rest e h), quotes_needed s rest)

-- A line whose article starts with # would be lost without them.
pub remark_lost : (s rest : List ℕ) → is_remark s ≡ true → brought (s ++ rest) ≡ some []
unfolding brought
remark_lost [] rest e = absurd (false≢true e)
remark_lost (b ∷ s) rest e = ap (λ t. brought_by (is_blank (b ∷ (s ++ rest)) || t) (b ∷ (s ++ rest))) e ∙ go (is_blank (b ∷ (s ++ rest)))
  where
    go : (t : Bool) → brought_by (t || true) (b ∷ (s ++ rest)) ≡ some []
    go true = refl
    go false = refl

-- ---- refusals

-- Beside a refusal's number stands its place and else zero, and no lent byte changes: for the reader, and for the writer.
pub refused_file : (n p : ℕ) (lent : List ℕ)
    → (shown_read (RefusedAt n p) ≡ record { length = 0; place = p; number = n }) × (lent_after_read (RefusedAt n p) lent ≡ lent)
    × (shown_write (RefusedAt n p) ≡ record { length = 0; place = p; number = n }) × (lent_after_write (RefusedAt n p) lent ≡ lent)
unfolding shown_read shown_write lent_after_at
refused_file n p lent = (refl, refl, refl, refl)

-- ---- over the calls

-- What the reader hands out are price records: with a book's head in front they are an accepted book, unless it is too long, and of the lent
-- output only they have changed.
pub handed_records : {file lent : List ℕ} {r : PlacedAnswer} {after : List ℕ} → ReadIs file lent r after → r.number ≡ 0 → 5 + r.length ≤ most_bytes
    → (rs : List Row) × (records (book_with (take r.length after)) ≡ some (map PriceRecord rs)) × (drop r.length after ≡ drop r.length lent)
handed_records {file} {lent} call z h =
    let x = read_out call z in
    let good = read_accepted file (length lent) x.0 x.1 (omega (arith, x.2.long)) in
    (x.0, ap (λ (l : List ℕ). records (book_with l)) x.2.front ∙ good, x.2.rest)

-- The line that 13 names is the first that makes no record, and wherever there is such a line, the first one is named.
pub handed_bad_line : {file lent : List ℕ} {r : PlacedAnswer} {after : List ℕ} → ReadIs file lent r after
    → (r.number ≡ 13 → FirstBad 1 (lines_of file) r.place) × ((p : ℕ) → FirstBad 1 (lines_of file) p → (r.number ≡ 13) × (r.place ≡ p))
unfolding shown_read
handed_bad_line {file} {lent} {r} call = (named, λ p b. there_is p (call.answer ∙ ap shown_read (bad_line_named file (length lent) p b)))
  where
    named : r.number ≡ 13 → FirstBad 1 (lines_of file) r.place
    named e =
        let x = read_not call (λ z. omega (arith, sym e ∙ z)) in
        read_first_bad file (length lent) r.place (x.0 ∙ ap (λ (n : ℕ). RefusedAt n r.place) e)

    there_is : (p : ℕ) → r ≡ shown_read (RefusedAt 13 p) → (r.number ≡ 13) × (r.place ≡ p)
    there_is p e = (ap (λ (y : PlacedAnswer). y.number) e, ap (λ (y : PlacedAnswer). y.place) e)

-- What the writer hands out, the reader reads back to the same price records exactly where their text numbers run 1, 2, 3 and on by first
-- appearance: here the one direction,
pub round_trip : {book lent : List ℕ} {r : PlacedAnswer} {after : List ℕ} → WriteIs book lent r after → AreBytes book → r.number ≡ 0
    → {content : List Record} → records book ≡ some content → texts_run (rows content) ≡ true
    → {lent₂ : List ℕ} {r₂ : PlacedAnswer} {after₂ : List ℕ} → ReadIs (take r.length after) lent₂ r₂ after₂ → length (rows_bytes (rows content)) ≤ length lent₂
    → (r₂.number ≡ 0) × (take r₂.length after₂ ≡ rows_bytes (rows content))
unfolding shown_read lent_after_at
round_trip {book} {lent} {r} {after} call b z {content} good runs {lent₂} {r₂} {after₂} back room =
    let x = write_out call z in
    let w = write_done book (length lent) x.0 x.1 in
    let same : x.0 ≡ rows content = sym w.is ∙ ap rows (some-injective w.content content (sym w.good ∙ good)) in
    let read : read_file (file_text x.0) (length lent₂) ≡ Done x.0 =
    (same_again book (length lent) (length lent₂) x.0 b x.1 (omega (arith, room, ap (λ (l : List Row). length (rows_bytes l)) same))).0
    (ap texts_run same ∙ runs) in
    let all : read_file (take r.length after) (length lent₂) ≡ Done x.0 = ap (λ (l : List ℕ). read_file l (length lent₂)) x.2.front ∙ read in
    let zero : r₂.number ≡ 0 = ap (λ (y : PlacedAnswer). y.number) (back.answer ∙ ap shown_read all) in
    let y = read_out back zero in
    (zero, y.2.front ∙ ap rows_bytes (done_is y.0 x.0 (sym y.1 ∙ all) ∙ same))

-- and here the other.
pub round_trip_only : {book lent : List ℕ} {r : PlacedAnswer} {after : List ℕ} → WriteIs book lent r after → AreBytes book → r.number ≡ 0
    → {content : List Record} → records book ≡ some content → 5 + length (rows_bytes (rows content)) ≤ most_bytes
    → {lent₂ : List ℕ} {r₂ : PlacedAnswer} {after₂ : List ℕ} → ReadIs (take r.length after) lent₂ r₂ after₂
    → r₂.number ≡ 0 → take r₂.length after₂ ≡ rows_bytes (rows content) → texts_run (rows content) ≡ true
round_trip_only {book} {lent} call b z {content} good few {lent₂} back zero e =
    let y = read_out back zero in
    let bytes : rows_bytes y.0 ≡ rows_bytes (rows content) = sym y.2.front ∙ e in
    let short = ap length bytes in
    let own = read_accepted _ (length lent₂) y.0 y.1 (omega (arith, short)) in
    let others = book_of_rows (rows content) (book_sound book content b good) few in
    let same : y.0 ≡ rows content =
    sym (rows_all y.0)
    ∙ (ap rows (some-injective (map PriceRecord y.0) (map PriceRecord (rows content)) (sym own ∙ (ap (λ (l : List ℕ). records (book_with l)) bytes ∙ others)))
    ∙ rows_all (rows content)) in
    sym (ap texts_run same) ∙ read_runs _ (length lent₂) y.0 y.1

-- A refused call hands out its number, a place only beside 13, and nothing else.
pub refused_call : {file lent : List ℕ} {r : PlacedAnswer} {after : List ℕ} → ReadIs file lent r after → (r.number ≡ 0 → ⊥) → (r.length ≡ 0) × (after ≡ lent)
refused_call call z = let x = read_not call z in (x.1, x.2)

pub refused_writing : {book lent : List ℕ} {r : PlacedAnswer} {after : List ℕ} → WriteIs book lent r after → (r.number ≡ 0 → ⊥) → (r.length ≡ 0) × (after ≡ lent)
refused_writing call z = let x = write_not call z in (x.1, x.2)

-- Two results that a contract allows are one.
pub one_reading : {file lent : List ℕ} {r s : PlacedAnswer} {a b : List ℕ} → ReadIs file lent r a → ReadIs file lent s b → (r ≡ s) × (a ≡ b)
one_reading p q = (p.answer ∙ sym q.answer, p.output ∙ sym q.output)

pub one_writing : {book lent : List ℕ} {r s : PlacedAnswer} {a b : List ℕ} → WriteIs book lent r a → WriteIs book lent s b → (r ≡ s) × (a ≡ b)
one_writing p q = (p.answer ∙ sym q.answer, p.output ∙ sym q.output)
