-- The price of a question by its picks: refusals 4, 5 and 6 as the functions find them, and what is then answered.
use Prim.Native.Nat.{ℕ, ◌*◌, ◌≤◌, ◌<◌}
use mathlib.Core.Path.{◌≡◌, refl, sym, ap, ◌∙◌}
use mathlib.Core.Bool.{Bool, true, false}
use mathlib.Core.List.{List, map}
use mathlib.Core.Option
use mathlib.Core.Option.{Option, some, none}
use lib.IntN.{pos}
use lib.ListN.{length, get_or, length-map}
use borrow.Author.Tests.{lt-ltb, le-ltb}
use Rattle.rules.specs.Lists.{first}
use Rattle.rules.specs.Book.{Record, rows, roundings}
use Rattle.rules.specs.Question.{Question, letters_of}
use Rattle.rules.specs.Lines.{chosen, Line, amounts, total, of_base, lines_of, total_of, line_size, lines_bytes}
use Rattle.rules.specs.Refusals.{Result, done, refused, ◌>>=◌, or_refuse, refuse_unless}
use Rattle.rules.specs.Price.{Priced, priced, in_one_currency, in_range}
use Rattle.rules.specs.declared.Cents.{Cents}
use Rattle.rules.specs.declared.Total.{Total}
use Rattle.rules.specs.declared.Total.TheVariants.{InRange, OutOfRange}
use Rattle.rules.proofs.LinesLaws.{lines_run}
use Rattle.layout.specs.Ensures.{Says}
use Rattle.amounts.proofs.TotalLaws.{total_is_sum}
use Rattle.lines.specs.declared.Pick.{Pick}
use Rattle.lines.specs.declared.Listed.{Listed}
use Rattle.lines.specs.Views.{View, view_of, view_in, views_in, no_pick, is_base, one_currency, amounts_of, amounts_in, views_bytes}
use Rattle.lines.specs.Ensures.{StandFor, FirstBase, ListedIs}
use Rattle.lines.proofs.WalkLaws.{views_count}
use Rattle.lines.proofs.ViewLaws.{run_amounts, run_base, run_currency, run_places, run_bytes}
use Rattle.lines.proofs.ByteLaws.{lines_length}

-- the definition's steps over a currency, a test and a total
abbrev pub priced_as : List Line → Bool → Total → List ℕ → Result Priced
priced_as ls one t currency = refuse_unless 5 one >>= λ _. in_range t >>= λ _. done (record { lines = ls; currency = currency })

by_currency : (o : Option Line) (f : List ℕ → Result Priced) → (or_refuse 4 o >>= λ l. f l.row.currency) ≡ (or_refuse 4 (Option.map (λ l. l.row.currency) o) >>= f)
by_currency none f = refl
by_currency (some l) f = refl

by_view : (o : Option View) (f : List ℕ → Result Priced) → (or_refuse 4 (Option.map (λ v. v.currency) o) >>= f) ≡ (or_refuse 4 o >>= λ v. f v.currency)
by_view none f = refl
by_view (some v) f = refl

module _ (book : List Record) (q : Question) (picks : List Pick) (n : ℕ) (stand : StandFor book q picks n) where
  -- ---- the lines

  pub line_amounts : amounts (lines_of book q) ≡ amounts_of (views_in picks n)
  line_amounts = ap amounts (lines_run book q) ∙ run_amounts (roundings book) (pos 0) (pos 0) (chosen (rows book) q) ∙ ap amounts_of (sym stand.is)

  line_base : Option.map (λ l. l.row.currency) (first of_base (lines_of book q)) ≡ Option.map (λ v. v.currency) (first is_base (views_in picks n))
  line_base =
      ap (λ ls. Option.map (λ l. l.row.currency) (first of_base ls)) (lines_run book q)
      ∙ run_base (roundings book) (pos 0) (pos 0) (chosen (rows book) q)
      ∙ ap (λ vs. Option.map (λ v. v.currency) (first is_base vs)) (sym stand.is)

  line_currency : (c : List ℕ) → in_one_currency c (lines_of book q) ≡ one_currency c (views_in picks n)
  line_currency c = ap (in_one_currency c) (lines_run book q) ∙ run_currency (roundings book) c (pos 0) (pos 0) (chosen (rows book) q) ∙ ap (one_currency c) (sym stand.is)

  -- the places of the granted names that brought lines
  pub line_places : map (λ l. l.place) (lines_of book q) ≡ map (λ v. v.place) (views_in picks n)
  line_places =
      ap (map (λ l. l.place)) (lines_run book q)
      ∙ run_places (roundings book) (pos 0) (pos 0) (chosen (rows book) q)
      ∙ ap (map (λ v. v.place)) (sym stand.is)

  pub line_count : n ≤ length picks → length (lines_of book q) ≡ n
  line_count k =
      sym (length-map (lines_of book q) (λ l. l.place))
      ∙ ap length line_places
      ∙ length-map (views_in picks n) (λ v. v.place)
      ∙ views_count picks n k

  pub line_bytes : lines_bytes (lines_of book q) ≡ views_bytes (views_in picks n) (amounts_of (views_in picks n))
  line_bytes =
      ap lines_bytes (lines_run book q)
      ∙ run_bytes (roundings book) (pos 0) (pos 0) (chosen (rows book) q)
      ∙ ap (λ zs. views_bytes (map (view_of (roundings book)) (chosen (rows book) q)) zs) (sym (ap amounts (lines_run book q)) ∙ line_amounts)
      ∙ ap (λ vs. views_bytes vs (amounts_of (views_in picks n))) (sym stand.is)

  -- The lines of n picks are written in 16 n bytes.
  pub bytes_count : n ≤ length picks → length (lines_bytes (lines_of book q)) ≡ line_size * n
  bytes_count k =
      ap length line_bytes
      ∙ lines_length (views_in picks n) (amounts_of (views_in picks n)) (ap length (sym line_amounts) ∙ (length-map (lines_of book q) (λ l. l.amount) ∙ (line_count k ∙ sym (views_count picks n k))))
      ∙ ap (λ (m : ℕ). line_size * m) (views_count picks n k)

  -- ---- refusals 4, 5 and 6

  -- The definition of a price, over the views alone.
  pub priced_views : priced book q
      ≡ (or_refuse 4 (first is_base (views_in picks n)) >>= λ v. priced_as (lines_of book q) (one_currency v.currency (views_in picks n)) (total_of (amounts_of (views_in picks n))) v.currency)
  unfolding priced
  priced_views =
      by_currency (first of_base ls) (λ c. priced_as ls (in_one_currency c ls) (total_of (amounts ls)) c)
      ∙ (λ i. or_refuse 4 (line_base i) >>= λ c. priced_as ls (line_currency c i) (total_of (line_amounts i)) c)
      ∙ by_view (first is_base (views_in picks n)) (λ c. priced_as ls (one_currency c (views_in picks n)) (total_of (amounts_of (views_in picks n))) c)
    where
      ls : List Line
      ls = lines_of book q

  module _ (r : ℕ) (b : FirstBase picks n r) where
    pub price_4 : n ≤ r → priced book q ≡ refused 4
    price_4 h =
        let e : first is_base (views_in picks n) ≡ none = b.is ∙ rw (le-ltb r n h) in
        priced_views ∙ rw e

    module _ (h : r < n) where
      -- the base currency is that of row r
      from_base : priced book q
          ≡ priced_as (lines_of book q) (one_currency (letters_of (get_or picks r no_pick).currency) (views_in picks n)) (total_of (amounts_of (views_in picks n))) (letters_of (get_or picks r no_pick).currency)
      from_base =
          let e : first is_base (views_in picks n) ≡ some (view_in (get_or picks r no_pick)) = b.is ∙ rw (lt-ltb r n h) in
          priced_views ∙ rw e

      module _ (one : Bool) (c : Says (one_currency (letters_of (get_or picks r no_pick).currency) (views_in picks n)) one) where
        pub price_5 : one ≡ false → priced book q ≡ refused 5
        price_5 f = from_base ∙ rw (c.is, f)

        module _ (t : one ≡ true) (l : Listed) (is : ListedIs picks n l) where
          pub price_6 : l.total ≡ OutOfRange → priced book q ≡ refused 6
          price_6 o = from_base ∙ rw (c.is, t, ← is.total, o)

          module _ (unit : Cents) (u : l.total ≡ InRange unit) where
            pub price_done : priced book q ≡ done (record { lines = lines_of book q; currency = letters_of (get_or picks r no_pick).currency })
            price_done = from_base ∙ rw (c.is, t, ← is.total, u)

  -- what the listed amounts come to, and the bytes with them
  module _ (l : Listed) (is : ListedIs picks n l) (unit : Cents) (u : l.total ≡ InRange unit) where
    pub unit_is : total (lines_of book q) ≡ unit.0
    unfolding total
    unit_is = total_is_sum (amounts (lines_of book q)) unit (ap total_of line_amounts ∙ (sym is.total ∙ u))

    pub bytes_are : lines_bytes (lines_of book q) ≡ views_bytes (views_in picks n) (amounts_in l.amounts n)
    bytes_are = line_bytes ∙ ap (views_bytes (views_in picks n)) (sym (is.amounts unit u))
