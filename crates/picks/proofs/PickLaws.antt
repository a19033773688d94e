-- A chosen row by value is the definition's, and its line can be worked out.
use Prim.Native.Nat.{ℕ, zero, suc, ◌+◌, ◌≤◌, ◌<◌}
use mathlib.Core.Path.{◌≡◌, refl, sym, ◌∙◌, ap, subst}
use mathlib.Core.List.{List, [], ◌∷◌, ◌++◌, map}
use native.Mathlib.Omega.{arith}
use native.Mathlib.Decide.{dec_lt}
use lib.ListN.{length, take, get_or, set, length-set}
use lib.Seq.{length-take-le, take-length, take-suc, get_or-set_same, get_or-set_other}
use Rattle.rules.specs.Book.{Row, rows, roundings, rounding_for, letter_of, rule_number}
use Rattle.rules.specs.Question.{Granted, Question, most_factor}
use Rattle.rules.specs.Lines.{Chosen, chosen}
use Rattle.rules.proofs.ListLaws.{All}
use Rattle.rules.specs.declared.PriceRow.{PriceRow}
use Rattle.rules.specs.declared.Rounding.{Rounding}
use Rattle.layout.specs.Records.{records_left, Between}
use Rattle.records.specs.Ensures.{row_in}
use Rattle.lookup.specs.Roundings.{SpotHeld, RoundingAt, Found, SpotsFound, SpotsNoted}
use Rattle.lookup.proofs.LookupLaws.{found_used}
use Rattle.grants.specs.Table.{table_size, GrantsAre}
use Rattle.grants.specs.Places.{factor_of, Granting, FactorAt}
use Rattle.grants.specs.declared.terms.Terms.{Terms}
use Rattle.grants.specs.Asks.{Asks, Asked}
use Rattle.survey.specs.Window.{Windows}
use Rattle.survey.proofs.WindowLaws.{window_as}
use Rattle.survey.specs.declared.window.Window.{Window}
use Rattle.choice.specs.Hands.{RowStands, RowRead}
use Rattle.choice.specs.Walk.{SlotsHold, SlotsFor}
use Rattle.choice.specs.declared.hands.Seen.{Seen}
use Rattle.choice.proofs.SlotLaws.{chosen_factors}
use Rattle.choice.proofs.ChosenLaws.{there_same}
use Rattle.lines.specs.declared.Pick.{Pick}
use Rattle.lines.specs.Views.{View, view_of, view_in, views_in, no_pick, base_first}
use Rattle.lines.specs.Ensures.{StandFor, Sound, Listable}
use Rattle.lines.proofs.ChosenLaws.{chosen_base_first}
use Rattle.picks.specs.declared.chosen.Picks.{Picks}
use Rattle.picks.specs.Held.{Stands, HeldAre, HeldIn}
use Rattle.picks.specs.Picks.{RoundingsIn, RowFound, RowPicked, PlacePicked, PicksSoFar, Filled, PickedAre, PicksFrom, PickedFor}
use Rattle.picks.proofs.WithinLaws.{walk_within, spots_within}

-- ---- the spots of the roundings

module _ {b : List ℕ} {w : Window} (told : RoundingsIn b w) where
  pub window_long : length (take w.spans.roundings.last b) ≡ w.spans.roundings.last
  window_long = length-take-le w.spans.roundings.last b told.window.rounding_fits

  pub roundings_between : Between (take w.spans.roundings.last b) w.spans.roundings.first
  roundings_between = told.window.rounding_between

  pub few_noted : w.noted.count < 17 → SpotsNoted b 5 w.noted.spots w.noted.count
  few_noted h = told.window.noted.are (omega arith)

  pub many_walked : {numbers : List ℕ} {n : ℕ} {spots : List ℕ} → SpotsFound (take w.spans.roundings.last b) w.spans.roundings.first numbers n spots → SpotsFound b 5 numbers n spots
  many_walked = spots_within told.window

module _ {b : List ℕ} {at found : ℕ} (held : RowStands b at) (row-found : RowFound b at found) where
  pub found_held : SpotHeld b found
  found_held = (row-found.is held.row held.there).held

  pub row_picked : {row : PriceRow} → RowRead b at row → {rounding : Rounding} → RoundingAt b found rounding
      → (place : ℕ) {factor : ℕ} → factor ≤ most_factor → RowPicked b at place factor (record {
        rounding = rounding;
        value = row.value;
        text = row.text;
        factor = factor;
        place = place;
        level = row.level;
        rule = row.rule;
        currency = row.currency;
      })
  unfolding row_in
  row_picked {row} read {rounding} stands place {factor} most =
      record {
        is = λ r there.
            let e : row_in read.body row ≡ r = read.of r there in
            let used : rounding ≡ rounding_for row.rounding (roundings (records_left b 5)) =
            (found_used (row-found.is r there) stands).is ∙ ap (λ (x : Row). rounding_for x.rounding (roundings (records_left b 5))) (sym e) in
            subst (λ (x : Row). ◌≡◌ {A = View} (record {
              place = place;
              factor = factor;
              level = letter_of row.level;
              rule = rule_number row.rule;
              text = row.text;
              value = row.value;
              currency = row.currency.0 ∷ row.currency.1 ∷ row.currency.2 ∷ [];
              rounding = rounding;
            })
            (view_of (roundings (records_left b 5)) (record { place = place; factor = factor; row = x }))) e
            (λ i. record {
              place = place;
              factor = factor;
              level = letter_of row.level;
              rule = rule_number row.rule;
              text = row.text;
              value = row.value;
              currency = row.currency.0 ∷ row.currency.1 ∷ row.currency.2 ∷ [];
              rounding = used i;
            });
        sound = record { value_in = read.is.value_in; factor_in = most; rounding_in = stands.sound };
      }

-- ---- the rows, one by one

module _ {b table ats places : List ℕ} where
  pub picks_start : (picks : List Pick) → length picks ≡ 99 → PicksSoFar b table ats places picks 0
  picks_start picks l = record { long = l; each = λ k m. absurd (omega arith) }

  pub picks_turn : {picks : List Pick} {i : ℕ} → PicksSoFar b table ats places picks i → i < 99 → {p : Pick} {factor : ℕ} → FactorAt table (get_or places i 0) factor
      → RowPicked b (get_or ats i 0) (get_or places i 0) factor p → PicksSoFar b table ats places (set picks i p) (i + 1)
  picks_turn {picks} {i} inv l {p} {factor} of new = record { long = length-set picks i p ∙ inv.long; each = λ k m. go k m (dec_lt k i) }
    where
      go : (k : ℕ) → k < i + 1 → Dec (k < i) → PlacePicked b table (get_or ats k 0) (get_or places k 0) (get_or (set picks i p) k no_pick)
      go k m (yes y) = subst (PlacePicked b table (get_or ats k 0) (get_or places k 0)) (sym (get_or-set_other picks i k p no_pick (λ e. omega arith))) (inv.each k y)
      go k m (no y) =
          let e : i ≡ k = omega arith in
          subst (λ (j : ℕ). PlacePicked b table (get_or ats j 0) (get_or places j 0) (get_or (set picks i p) j no_pick)) e
          (subst (PlacePicked b table (get_or ats i 0) (get_or places i 0)) (sym (get_or-set_same picks i p no_pick (omega (arith, inv.long))))
          (record { factor = factor; of_place = of; picked = new }))

all_at : {A : Type 0} (P : A → Type 0) (xs : List A) → All P xs → (k : ℕ) (d : A) → k < length xs → P (get_or xs k d)
all_at P [] hs k d l = absurd (omega arith)
all_at P (x ∷ xs) hs zero d l = hs.0
all_at P (x ∷ xs) hs (suc k) d l = all_at P xs hs.1 k d (omega arith)

all_append : {A : Type 0} (P : A → Type 0) (xs : List A) (y : A) → All P xs → P y → All P (xs ++ (y ∷ []))
all_append P [] y h k = (k, tt)
all_append P (x ∷ xs) y h k = (h.0, all_append P xs y h.1 k)

map_append : {A B : Type 0} (f : A → B) (xs : List A) (y : A) → map f (xs ++ (y ∷ [])) ≡ map f xs ++ (f y ∷ [])
map_append f [] y = refl
map_append f (x ∷ xs) y = ap (λ zs. f x ∷ zs) (map_append f xs y)

-- rows that stand there and are picked are those of the definition
module _ {b : List ℕ} {names : List Granted} {table : List ℕ} (granted : GrantsAre names table)
    {cs : List Chosen} (factors : All (λ c. c.factor ≡ factor_of names c.place) cs)
    {ats places numbers : List ℕ} {n : ℕ} (are : HeldAre b cs ats places numbers n) (few : n ≤ 99)
    {picks : List Pick} {i : ℕ} (inv : PicksSoFar b table ats places picks i) (done : n ≤ i) where
  abbrev viewed : Chosen → View
  viewed = view_of (roundings (records_left b 5))

  views_next : (k : ℕ) → k < n → views_in picks (suc k) ≡ views_in picks k ++ (view_in (get_or picks k no_pick) ∷ [])
  views_next k l = ap (map view_in) (take-suc picks k no_pick (omega (arith, inv.long))) ∙ map_append view_in (take k picks) (get_or picks k no_pick)

  views_are : (k : ℕ) → k ≤ n → views_in picks k ≡ map viewed (take k cs)
  views_are zero l = refl
  views_are (suc k) l =
      let s = are.each k (omega arith) in
      let own = inv.each k (omega arith) in
      let f : own.factor ≡ s.one.factor =
      own.of_place.of names granted ∙ ap (factor_of names) s.place_is
      ∙ sym (subst (λ (c : Chosen). c.factor ≡ factor_of names c.place) s.is (all_at (λ c. c.factor ≡ factor_of names c.place) cs factors k s.one (omega (arith, are.count)))) in
      let v : view_in (get_or picks k no_pick) ≡ viewed s.one =
      own.picked.is s.one.row s.there ∙ (λ j. viewed (record { place = s.place_is j; factor = f j; row = s.one.row })) in
      views_next k (omega arith)
      ∙ (λ j. views_are k (omega arith) j ++ (v j ∷ []))
      ∙ sym (map_append viewed (take k cs) s.one)
      ∙ ap (λ (c : Chosen). map viewed (take k cs ++ (c ∷ []))) (sym s.is)
      ∙ ap (map viewed) (sym (take-suc cs k s.one (omega (arith, are.count))))

  views_sound : (k : ℕ) → k ≤ n → All Sound (views_in picks k)
  views_sound zero l = tt
  views_sound (suc k) l =
      subst (All Sound) (sym (views_next k (omega arith)))
      (all_append Sound (views_in picks k) (view_in (get_or picks k no_pick)) (views_sound k (omega arith)) (inv.each k (omega arith)).picked.sound)

  all_views : views_in picks n ≡ map viewed cs
  all_views = views_are n (omega arith) ∙ ap (λ (k : ℕ). map viewed (take k cs)) (sym are.count) ∙ ap (map viewed) (take-length cs)

  all_sound : All Sound (views_in picks n)
  all_sound = views_sound n (omega arith)

pub picks_end : {b table : List ℕ} {slots : List Seen} {names : ℕ} {ats places numbers : List ℕ} {n : ℕ} → HeldIn slots names ats places numbers n
    → {picks : List Pick} {i : ℕ} → PicksSoFar b table ats places picks i → n ≤ i → {few : n ≤ 99} → PicksFrom b slots names table (record { rows = picks; n = n; few = few })
picks_end {b} held inv done = record {
  each = λ q holds c g.
      let are = held.each q holds c g in
      let factors = chosen_factors q g (rows (records_left b 5)) in
      record {
        few = held.few;
        long = inv.long;
        is = all_views g factors are held.few inv done;
        sound = all_sound g factors are held.few inv done;
      };
}

-- ---- the slots that a walk has filled

module _ {b : List ℕ} {slots : List Seen} {names : ℕ} {table : List ℕ} {w : Window} (filled : Filled b slots names table w) where
  pub filled_roundings : RoundingsIn b w
  filled_roundings = record { article = filled.asked.article; sort = filled.asked.sort; window = filled.window }

  pub filled_few : names ≤ 32
  filled_few = filled.few

  pub filled_table : length table ≡ table_size
  filled_table = filled.long

  pub filled_granting : Granting table
  filled_granting = record { names = filled.asked.granted; are = filled.granted }

  module _ {ats places numbers : List ℕ} {n : ℕ} (held : HeldIn slots names ats places numbers n) {i : ℕ} (l : i < n) where
    stands : Stands b (chosen (rows (records_left b 5)) filled.asked) i (get_or ats i 0) (get_or places i 0) (get_or numbers i 0)
    stands = (held.each filled.asked filled.holds filled.count filled.granted).each i l

    pub place_in : get_or places i 0 ≤ 32
    place_in = stands.place_in

    pub held_at : RowStands b (get_or ats i 0)
    held_at = record { row = stands.one.row; there = stands.there }

    -- the spot that was found for the number that a row names
    pub found_at : {spots : List ℕ} → SpotsFound b 5 numbers n spots → RowFound b (get_or ats i 0) (get_or spots i 0)
    found_at {spots} f = record {
      is = λ r there.
          subst (λ (j : ℕ). Found b 5 j (get_or spots i 0))
          (stands.number_is ∙ ap (λ (x : Row). x.rounding) (there_same stands.there there)) (f.each i l);
    }

-- ---- by a walk over a window of the book

module _ {b number table : List ℕ} {terms : Terms} {w : Window} (window : Windows b 5 number terms.sort w)
    {slots : List Seen} (holds : SlotsFor (take w.spans.rows.last b) (rows (records_left (take w.spans.rows.last b) w.spans.rows.first)) number table terms slots) where
  -- the window is that of every question that asks so
  within_window : (q : Question) → Asks q number table terms → Windows b 5 q.article q.sort w
  within_window q a = window_as (sym a.article) (sym a.sort) window

  -- the slots hold what a walk over the whole book leaves in them
  within_holds : (q : Question) → Asks q number table terms → SlotsHold b (rows (records_left b 5)) q slots
  within_holds q a = walk_within (within_window q a) (holds.of q a)

  pub within_filled : Asked number table terms → Filled b slots terms.names table w
  within_filled x = record {
    asked = x.question;
    holds = within_holds x.question x.asks;
    few = x.tabled.few;
    count = x.asks.count;
    long = x.tabled.long;
    granted = x.asks.granted;
    window = within_window x.question x.asks;
  }

  pub within_picks : {r : Picks} → PicksFrom b slots terms.names table r → PickedFor b number table terms r
  within_picks p = record { of = λ q a. p.each q (within_holds q a) a.count a.granted }

-- ---- the rows that stand for a question

module _ {b : List ℕ} {q : Question} {picks : List Pick} {n : ℕ} (picked : PickedAre b q picks n) where
  pub stand : StandFor (records_left b 5) q picks n
  stand = record { is = picked.is }

  pub can_judge : Listable picks n
  can_judge = record {
    few = picked.few;
    sound = picked.sound;
    base_first_lem = ap base_first picked.is ∙ chosen_base_first (roundings (records_left b 5)) (rows (records_left b 5)) q;
  }

pub asked_judge : {b number table : List ℕ} {terms : Terms} → Asked number table terms → {r : Picks} → PickedFor b number table terms r → Listable r.rows r.n
asked_judge a p = can_judge (p.of a.question a.asks)
