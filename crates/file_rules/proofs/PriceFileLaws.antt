-- The price file: a file that was written is read line by line as it was written, and with the same text numbers exactly where they run by
-- first appearance.
use Prim.Native.Nat.{ℕ, zero, suc, ◌^◌, ◌≤◌, ◌<◌}
use mathlib.Core.Path.{◌≡◌, refl, sym, ◌∙◌, ap}
use mathlib.Core.Bool.{Bool, true, false, ◌&&◌, ◌||◌, not, false≢true}
use mathlib.Core.List.{List, [], ◌∷◌, ◌++◌, map, append_assoc}
use mathlib.Core.Option.{Option, some}
use native.Mathlib.Omega.{arith}
use lib.Dec.{eqb, leb}
use lib.IntN.{ℤ, pos, negsuc}
use lib.ListN.{length}
use borrow.Author.Tests.{eqb-true, le-leb}
use Rattle.rules.specs.Lists.{all, any, between, keep, join_with}
use Rattle.rules.specs.Letters.{text}
use Rattle.rules.specs.Bytes.{name_byte, capitals}
use Rattle.rules.specs.Book.{Row, sale, purchase, base, surcharge, discount}
use Rattle.rules.specs.Program.{decimal, digits}
use Rattle.rules.specs.RowBytes.{flag_of, hundredths_of, rows_bytes}
use Rattle.rules.specs.PlacedRefusals.{ResultAt, Done, ◌>>=◌, or_refuse_at, unless_so}
use Rattle.file_rules.specs.Fields.{line_end, quote, lines_of, onto_first, twice_if, doubled, in_quotes, needs_quotes, is_remark, field_text, first_field_text}
use Rattle.file_rules.specs.Decimals.{is_digit, date_text, text_text, value_text, cents_text, digits_of}
use Rattle.file_rules.specs.PriceLine.{NamedRow, is_empty, brought, field_texts, line_text}
use Rattle.file_rules.specs.PriceFile.{distinct, text_names, text_number, with_text, numbered_by, numbered, run_from, texts, texts_run, lines_from, read_file, fits_line, file_text}
use Rattle.rules.proofs.TestLaws.{and_left, and_right, both, not_so, is_between, between_low, between_high}
use Rattle.rules.proofs.ListLaws.{All, all_append}
use Rattle.file_rules.proofs.DecimalLaws.{all_weaken, name_digit, all_digits, all_digits_of, text_name}
use Rattle.file_rules.proofs.PriceLineLaws.{SoundRow, one_of_such, unnumbered, line_brought}
use Rattle.file_rules.proofs.NumberingLaws.{walk, one_walk, walk_runs, numbers_back}

-- ---- all that is written is printable, but for the line ends

doubled_name : (s : List ℕ) → all name_byte s ≡ true → all name_byte (doubled s) ≡ true
unfolding doubled
doubled_name [] e = refl
doubled_name (b ∷ s) e = go (eqb b quote) (doubled_name s (and_right (name_byte b) (all name_byte s) e))
  where
    n : name_byte b ≡ true
    n = and_left (name_byte b) (all name_byte s) e

    go : (q : Bool) → all name_byte (doubled s) ≡ true → all name_byte (twice_if q b (doubled s)) ≡ true
    go true h = both (name_byte b) (name_byte b && all name_byte (doubled s)) n (both (name_byte b) (all name_byte (doubled s)) n h)
    go false h = both (name_byte b) (all name_byte (doubled s)) n h

quotes_name : (q : Bool) (s : List ℕ) → all name_byte s ≡ true → all name_byte (in_quotes q s) ≡ true
quotes_name true s e = all_append name_byte (doubled s) (quote ∷ []) ∙ both (all name_byte (doubled s)) true (doubled_name s e) refl
quotes_name false s e = e

cents_name : (n : ℕ) → all name_byte (cents_text n) ≡ true
cents_name n =
    all_append name_byte (digits 20 _) (46 ∷ digits_of 2 _)
    ∙ both (all name_byte (digits 20 _)) (all name_byte (digits_of 2 _)) (all_weaken is_digit name_byte name_digit (digits 20 _) (all_digits 20 _))
    (all_weaken is_digit name_byte name_digit (digits_of 2 _) (all_digits_of 2 _))

value_name : (z : ℤ) → all name_byte (value_text z) ≡ true
unfolding value_text
value_name (pos n) = cents_name n
value_name (negsuc n) = cents_name (suc n)

date_name : (n : ℕ) → all name_byte (date_text n) ≡ true
unfolding date_text
date_name zero = refl
date_name (suc n) = all_weaken is_digit name_byte name_digit (digits_of 8 (suc n)) (all_digits_of 8 (suc n))

number_name : (n : ℕ) → all name_byte (decimal n) ≡ true
number_name n = all_weaken is_digit name_byte name_digit (decimal n) (all_digits 20 n)

capital_name : (b : ℕ) → between 65 90 b ≡ true → name_byte b ≡ true
capital_name b e =
    let l : 65 ≤ b = between_low 65 90 b e in
    let h : b ≤ 90 = between_high 65 90 b e in
    ap (λ t. t || between 160 255 b) (is_between 32 126 b (omega arith) (omega arith))

letter_name : (b : ℕ) (few : List ℕ) → all name_byte few ≡ true → any (eqb b) few ≡ true → all name_byte (b ∷ []) ≡ true
letter_name b few e h = both (name_byte b) true (one_of_such name_byte b few e h) refl

all_joined : (p : ℕ → Bool) (sep : List ℕ) (xs : List (List ℕ)) → all p sep ≡ true → All (λ x. all p x ≡ true) xs → all p (join_with sep xs) ≡ true
all_joined p sep [] e hs = refl
all_joined p sep (x ∷ []) e hs = hs.0
all_joined p sep (x ∷ (y ∷ ys)) e hs =
    all_append p x (sep ++ join_with sep (y ∷ ys))
    ∙ both (all p x) (all p (sep ++ join_with sep (y ∷ ys))) hs.0
    (all_append p sep (join_with sep (y ∷ ys)) ∙ both (all p sep) (all p (join_with sep (y ∷ ys))) e (all_joined p sep (y ∷ ys) e hs.1))

pub line_name : (r : Row) → SoundRow r → all name_byte (line_text r) ≡ true
unfolding line_text first_field_text field_text
line_name r s =
    all_joined name_byte (text ";") (field_texts r) refl (
      quotes_name (is_remark r.article || needs_quotes r.article) r.article
          (and_right (between 1 40 (length r.article)) (all name_byte r.article) s.article),
      (
        quotes_name (needs_quotes r.condition) r.condition
            (and_right (between 0 20 (length r.condition)) (all name_byte r.condition) s.condition),
        (
          letter_name r.sort (sale ∷ purchase ∷ []) refl s.sort,
          (
            letter_name r.level (base ∷ surcharge ∷ discount ∷ []) refl s.level,
            (
              number_name r.rule,
              (
                text_name r.text,
                (
                  value_name (hundredths_of r.value),
                  (
                    number_name (flag_of r.value),
                    (
                      all_weaken (between 65 90) name_byte capital_name r.currency
                          (and_right (eqb (length r.currency) 3) (capitals r.currency) s.currency),
                      (
                        date_name r.from,
                        (
                          date_name r.to,
                          (
                            number_name r.up_to,
                            (refl, tt),
                          ),
                        ),
                      ),
                    ),
                  ),
                ),
              ),
            ),
          ),
        ),
      ),
    )

-- ---- lines

module _ (b : ℕ) (s : List ℕ) where
  pub lines_on : eqb b line_end ≡ false → lines_of (b ∷ s) ≡ onto_first b (lines_of s)
  unfolding lines_of
  lines_on e = rw (lines_of, e)

  pub lines_end : eqb b line_end ≡ true → lines_of (b ∷ s) ≡ [] ∷ lines_of s
  unfolding lines_of
  lines_end e = rw (lines_of, e)

-- a line and its line end, and then the others
pub lines_cut : (l s : List ℕ) → all (λ b. not (eqb b line_end)) l ≡ true → lines_of (l ++ (line_end ∷ s)) ≡ l ∷ lines_of s
lines_cut [] s e = lines_end line_end s refl
lines_cut (b ∷ l) s e =
    lines_on b (l ++ (line_end ∷ s)) (not_so (eqb b line_end) (and_left (not (eqb b line_end)) (all (λ b. not (eqb b line_end)) l) e))
    ∙ ap (onto_first b) (lines_cut l s (and_right (not (eqb b line_end)) (all (λ b. not (eqb b line_end)) l) e))

no_end : (b : ℕ) → name_byte b ≡ true → not (eqb b line_end) ≡ true
no_end b e = go (eqb b line_end) refl
  where
    go : (q : Bool) → eqb b line_end ≡ q → not (eqb b line_end) ≡ true
    go true i = absurd (false≢true (ap name_byte (sym (eqb-true b line_end i)) ∙ e))
    go false i = ap not i

pub lines_written : (rs : List Row) → All SoundRow rs → lines_of (file_text rs) ≡ map line_text rs
unfolding file_text lines_of
lines_written [] hs = refl
lines_written (r ∷ rs) hs =
    ap lines_of (append_assoc (line_text r) (text "\n") (file_text rs))
    ∙ (lines_cut (line_text r) (file_text rs) (all_weaken name_byte (λ b. not (eqb b line_end)) no_end (line_text r) (line_name r hs.0))
    ∙ ap (λ (ls : List (List ℕ)). line_text r ∷ ls) (lines_written rs hs.1))

-- ---- each line brings its row

step_lines : (n : ℕ) (s : List ℕ) (ss : List (List ℕ)) (here behind : List NamedRow) → brought s ≡ some here → lines_from (suc n) ss ≡ Done behind
    → lines_from n (s ∷ ss) ≡ Done (here ++ behind)
unfolding lines_from
step_lines n s ss here behind e f =
    ap (λ (o : Option (List NamedRow)). or_refuse_at 13 n o >>= λ here. lines_from (suc n) ss >>= λ behind. Done (here ++ behind)) e
    ∙ ap (λ (o : ResultAt (List NamedRow)). o >>= λ behind. Done (here ++ behind)) f

pub lines_brought : (n : ℕ) (rs : List Row) → All SoundRow rs → All (λ r. fits_line r ≡ true) rs
    → lines_from n (map line_text rs) ≡ Done (map unnumbered rs)
unfolding lines_from
lines_brought n [] hs fs = refl
lines_brought n (r ∷ rs) hs fs =
    step_lines n (line_text r) (map line_text rs) (unnumbered r ∷ []) (map unnumbered rs) (line_brought r hs.0 fs.0)
    (lines_brought (suc n) rs hs.1 fs.1)

-- ---- the text numbers of what is read

keep_all : {A : Type 0} (xs : List A) → keep (λ x. true) xs ≡ xs
keep_all [] = refl
keep_all (x ∷ xs) = ap (λ ys. x ∷ ys) (keep_all xs)

abbrev names : List NamedRow → List (List ℕ)
names ls = map (λ l. l.name) ls

texts_numbered : (ns : List (List ℕ)) (ls : List NamedRow) → texts (map (numbered_by ns) ls) ≡ map (text_number ns) (names ls)
texts_numbered ns [] = refl
texts_numbered ns (l ∷ ls) = ap (λ (ts : List ℕ). text_number ns l.name ∷ ts) (texts_numbered ns ls)

-- The numbers are those of one walk over the lines.
pub numbered_walk : (ls : List NamedRow) → texts (numbered ls) ≡ walk [] (names ls)
unfolding numbered text_names
numbered_walk ls =
    texts_numbered (text_names ls) ls
    ∙ (ap (λ (ns : List (List ℕ)). map (text_number ns) (names ls)) (sym (keep_all (distinct (keep (λ x. not (is_empty x)) (names ls)))))
    ∙ one_walk [] (names ls))

pub numbered_runs : (ls : List NamedRow) → texts_run (numbered ls) ≡ true
numbered_runs ls = ap (run_from 0) (numbered_walk ls) ∙ walk_runs [] (names ls)

-- ---- and of what was written

names_written : (rs : List Row) → names (map unnumbered rs) ≡ map text_text (texts rs)
names_written [] = refl
names_written (r ∷ rs) = ap (λ (ns : List (List ℕ)). text_text r.text ∷ ns) (names_written rs)

abbrev first_of : ℕ → List ℕ → ℕ
first_of d [] = d
first_of d (x ∷ xs) = x

abbrev behind_first : List ℕ → List ℕ
behind_first [] = []
behind_first (x ∷ xs) = xs

-- rows whose numbers stay are the rows
same_texts : (ns : List (List ℕ)) (rs : List Row) → texts (map (numbered_by ns) (map unnumbered rs)) ≡ texts rs
    → map (numbered_by ns) (map unnumbered rs) ≡ rs
same_texts ns [] e = refl
same_texts ns (r ∷ rs) e = λ i. with_text (first_of 0 (e i)) r ∷ same_texts ns rs (ap behind_first e) i

small : (rs : List Row) → All SoundRow rs → All (λ t. t < 10 ^ 20) (texts rs)
small [] hs = tt
small (r ∷ rs) hs = (omega (arith, hs.0.text), small rs hs.1)

pub numbered_back : (rs : List Row) → All SoundRow rs → texts_run rs ≡ true → numbered (map unnumbered rs) ≡ rs
unfolding numbered
numbered_back rs hs e =
    same_texts (text_names (map unnumbered rs)) rs
    (numbered_walk (map unnumbered rs) ∙ (ap (walk []) (names_written rs) ∙ numbers_back 0 (texts rs) (omega arith) (small rs hs) e))

-- ---- the reader on what was written

abbrev given : ℕ → List Row → ResultAt (List Row)
given room rs = unless_so 7 (leb (length (rows_bytes rs)) room) >>= λ _. Done rs

pub read_lines : (file : List ℕ) (room : ℕ) (ls : List NamedRow) → lines_from 1 (lines_of file) ≡ Done ls
    → read_file file room ≡ given room (numbered ls)
unfolding read_file
read_lines file room ls e = ap (λ (o : ResultAt (List NamedRow)). o >>= λ ls. given room (numbered ls)) e

module _ (rs : List Row) (hs : All SoundRow rs) (fs : All (λ r. fits_line r ≡ true) rs) (room : ℕ) where
  pub read_written : read_file (file_text rs) room ≡ given room (numbered (map unnumbered rs))
  read_written = read_lines (file_text rs) room (map unnumbered rs) (ap (lines_from 1) (lines_written rs hs) ∙ lines_brought 1 rs hs fs)

  -- Where the text numbers run by first appearance, reading gives the same rows.
  pub same_rows : texts_run rs ≡ true → length (rows_bytes rs) ≤ room → read_file (file_text rs) room ≡ Done rs
  same_rows e h =
      read_written
      ∙ (ap (given room) (numbered_back rs hs e) ∙ ap (λ (b : Bool). unless_so 7 b >>= λ _. Done rs) (le-leb (length (rows_bytes rs)) room h))
