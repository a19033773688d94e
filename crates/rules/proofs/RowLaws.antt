-- Whose row a line is of: one that the book has, of the asked article and sort, that holds that day, under the granted name at the line's place.
use Prim.Native.Nat.{ℕ, zero, suc, ◌-◌, ◌≤◌, ◌<◌}
use mathlib.Core.Path.{◌≡◌, refl, sym, ◌∙◌, ap, subst}
use mathlib.Core.Bool.{Bool, true, false, ◌&&◌, not, cond}
use mathlib.Core.List.{List, [], ◌∷◌, ◌++◌, map}
use mathlib.Core.Option
use mathlib.Core.Option.{Option, some, none}
use native.Mathlib.Omega.{arith}
use lib.Dec.{eqb}
use lib.IntN.{ℤ, pos}
use lib.ListN.{length, get_or}
use borrow.Author.Tests.{eqb-true}
use Rattle.rules.specs.Lists.{same, between, keep, any, first, gather, cons_some}
use Rattle.rules.specs.Bytes.{raise}
use Rattle.rules.specs.Days.{is_day}
use Rattle.rules.specs.Book.{Record, ArticleRecord, PriceRecord, RoundingRecord, PackagingRecord, SchemeRecord, Row, base, surcharge, discount, rows, roundings}
use Rattle.rules.specs.Question.{Granted, Question, Grant, placed, firsts, grants, plain_factor}
use Rattle.rules.specs.Choice.{component, holds_on, is_in, reaches, better, step₁, step₂, step₃, step₄, step₅, surviving, choose}
use Rattle.rules.specs.Lines.{Slot, named_slot, slots_at, slots, Chosen, chosen_in, rows_at, chosen_at, chosen, lines_of}
use Rattle.rules.specs.declared.Rounding.{Rounding}
use Rattle.rules.proofs.TestLaws.{and_left, and_right, between_low, between_high}
use Rattle.rules.proofs.ListLaws.{All, Holds, all_keep, kept, same_eq, first_holds}
use Rattle.rules.proofs.NoPriceLaws.{survivors}
use Rattle.rules.proofs.LinesLaws.{run, lines_run}

-- ---- what is to be shown

-- one of these
pub data Among {A : Type 0} (x : A) : List A → Type 0 where
  here : {xs : List A} → Among x (x ∷ xs)
  there : {y : A} {xs : List A} → Among x xs → Among x (y ∷ xs)

-- what is read behind the last granted name
abbrev pub no_name : Granted
no_name = record { name = []; factor = plain_factor }

-- a condition and a factor at a place: none and 1,000 at 0, and from 1 on those of the granted name that stands there, which is raised
abbrev pub Under : Question → ℕ → List ℕ → ℕ → Type 0
Under q zero condition factor = (condition ≡ []) × (factor ≡ plain_factor)
Under q (suc i) condition factor =
    (i < length q.granted) × (condition ≡ map raise (get_or q.granted i no_name).name) × (factor ≡ (get_or q.granted i no_name).factor)

-- a row that may stand behind a line with this place and factor
pub record RowFor (book : List Record) (q : Question) (place factor : ℕ) (row : Row) : Type 0 where
  pub in_book : Among (PriceRecord row) book
  pub article : row.article ≡ q.article
  pub sort : row.sort ≡ q.sort
  pub from_day : is_day row.from ≡ true
  pub to_day : is_day row.to ≡ true
  pub begun : row.from ≤ q.date
  pub not_over : q.date ≤ row.to
  pub condition : Under q place row.condition factor

-- ---- lists

module _ {A : Type 0} where
  -- it has what all of them have
  pub among_has : (P : A → Type 0) {x : A} {xs : List A} → Among x xs → All P xs → P x
  among_has P here hs = hs.0
  among_has P (there m) hs = among_has P m hs.1

  pub all_imply : {P Q : A → Type 0} → ((x : A) → P x → Q x) → (xs : List A) → All P xs → All Q xs
  all_imply f [] hs = tt
  all_imply f (x ∷ xs) hs = (f x hs.0, all_imply f xs hs.1)

  all_both : (P Q : A → Type 0) (xs : List A) → All P xs → All Q xs → All (λ x. P x × Q x) xs
  all_both P Q [] hs ks = tt
  all_both P Q (x ∷ xs) hs ks = ((hs.0, ks.0), all_both P Q xs hs.1 ks.1)

  pub all_append : (P : A → Type 0) (xs ys : List A) → All P xs → All P ys → All P (xs ++ ys)
  all_append P [] ys hs ks = ks
  all_append P (x ∷ xs) ys hs ks = (hs.0, all_append P xs ys hs.1 ks)

pub all_gather : {A B : Type 0} {P : A → Type 0} (Q : B → Type 0) (f : A → Option B) → ((x : A) → P x → Holds Q (f x)) → (xs : List A) → All P xs → All Q (gather f xs)
all_gather Q f h [] ps = tt
all_gather Q f h (x ∷ xs) ps = go (f x) (h x ps.0) (all_gather Q f h xs ps.1)
  where
    go : (o : Option _) → Holds Q o → All Q (gather f xs) → All Q (cons_some o (gather f xs))
    go none q qs = qs
    go (some y) q qs = (q, qs)

rows_among : (rs : List Record) → All (λ r. Among (PriceRecord r) rs) (rows rs)
rows_among [] = tt
rows_among (ArticleRecord a ∷ rs) = all_imply (λ r m. there m) (rows rs) (rows_among rs)
rows_among (PriceRecord r ∷ rs) = (here, all_imply (λ r m. there m) (rows rs) (rows_among rs))
rows_among (RoundingRecord r ∷ rs) = all_imply (λ r m. there m) (rows rs) (rows_among rs)
rows_among (PackagingRecord p ∷ rs) = all_imply (λ r m. there m) (rows rs) (rows_among rs)
rows_among (SchemeRecord s ∷ rs) = all_imply (λ r m. there m) (rows rs) (rows_among rs)

-- ---- granted names and their places

-- the names from the one at place k + 1 on
record Placed (k : ℕ) (names : List Granted) (g : Grant) : Type 0 where
  above : k < g.place
  within : g.place - suc k < length names
  name : g.name ≡ map raise (get_or names (g.place - suc k) no_name).name
  factor : g.factor ≡ (get_or names (g.place - suc k) no_name).factor

placed_later : (k : ℕ) (c : Granted) (cs : List Granted) (g : Grant) → Placed (suc k) cs g → Placed k (c ∷ cs) g
placed_later k c cs g p =
    let e : g.place - suc k ≡ suc (g.place - suc (suc k)) = omega (arith, p.above) in
    record {
      above = omega (arith, p.above);
      within = omega (arith, p.within);
      name = p.name ∙ sym (ap (λ (i : ℕ). map raise (get_or (c ∷ cs) i no_name).name) e);
      factor = p.factor ∙ sym (ap (λ (i : ℕ). (get_or (c ∷ cs) i no_name).factor) e);
    }

placed_all : (k : ℕ) (names : List Granted) → All (Placed k names) (placed (suc k) names)
placed_all k [] = tt
placed_all k (c ∷ cs) =
    let e : suc k - suc k ≡ 0 = omega arith in (
      record {
        above = omega arith;
        within = omega arith;
        name = sym (ap (λ (i : ℕ). map raise (get_or (c ∷ cs) i no_name).name) e);
        factor = sym (ap (λ (i : ℕ). (get_or (c ∷ cs) i no_name).factor) e);
      },
      all_imply (placed_later k c cs) (placed (suc (suc k)) cs) (placed_all (suc k) cs),
    )

pub firsts_all : (P : Grant → Type 0) (gs : List Grant) → All P gs → All P (firsts gs)
firsts_all P [] hs = tt
firsts_all P (g ∷ gs) hs = (hs.0, all_keep P _ (firsts gs) (firsts_all P gs hs.1))

module _ (q : Question) where
  abbrev GrantFor : Grant → Type 0
  GrantFor g = Under q g.place g.name g.factor

  under : (g : Grant) → Placed 0 q.granted g → GrantFor g
  under g p = go g.place g.name g.factor p.above p.within p.name p.factor
    where
      go : (n : ℕ) (c : List ℕ) (f : ℕ) → 0 < n → n - 1 < length q.granted → c ≡ map raise (get_or q.granted (n - 1) no_name).name
          → f ≡ (get_or q.granted (n - 1) no_name).factor → Under q n c f
      go zero c f a w e h = absurd (omega arith)
      go (suc i) c f a w e h =
          let k : suc i - 1 ≡ i = omega arith in
          (omega arith, e ∙ ap (λ (j : ℕ). map raise (get_or q.granted j no_name).name) k, h ∙ ap (λ (j : ℕ). (get_or q.granted j no_name).factor) k)

  abbrev SlotFor : Slot → Type 0
  SlotFor s = Under q s.place s.condition s.factor

  slots_at_lem : (gs : List Grant) → All GrantFor gs → (level : ℕ) → All SlotFor (slots_at gs level)
  slots_at_lem gs hs level = ((refl, refl), each gs hs)
    where
      each : (gs : List Grant) → All GrantFor gs → All SlotFor (map (named_slot level) gs)
      each [] hs = tt
      each (g ∷ gs) hs = (hs.0, each gs hs.1)

  slots_all : All SlotFor (slots (grants q.granted))
  unfolding slots grants
  slots_all =
      let gs : List Grant = grants q.granted in
      let hs = firsts_all GrantFor (placed 1 q.granted) (all_imply under (placed 1 q.granted) (placed_all 0 q.granted)) in
      all_append SlotFor (slots_at gs base) (slots_at gs surcharge ++ slots_at gs discount) (slots_at_lem gs hs base)
      (all_append SlotFor (slots_at gs surcharge) (slots_at gs discount) (slots_at_lem gs hs surcharge) (slots_at_lem gs hs discount))

-- ---- the chosen row of a slot

-- what survives the first four steps holds on the day
survivors_hold : (date quantity : ℕ) (c : Option (List ℕ)) (rs : List Row) → All (λ r. holds_on date r ≡ true) (surviving date quantity c rs)
unfolding surviving step₁ step₂ step₄
survivors_hold date quantity c rs =
    all_keep (λ r. holds_on date r ≡ true) (reaches quantity) (step₃ c (step₂ date (step₁ rs))) (third c (step₂ date (step₁ rs)) (kept (holds_on date) (step₁ rs)))
  where
    either : (b : Bool) (xs ys : List Row) → All (λ r. holds_on date r ≡ true) xs → All (λ r. holds_on date r ≡ true) ys → All (λ r. holds_on date r ≡ true) (cond b xs ys)
    either true xs ys h k = h
    either false xs ys h k = k

    third : (c : Option (List ℕ)) (xs : List Row) → All (λ r. holds_on date r ≡ true) xs → All (λ r. holds_on date r ≡ true) (step₃ c xs)
    third none xs h = unfold step₃ in h
    third (some c) xs h = unfold step₃ in either (any (is_in c) xs) (keep (is_in c) xs) xs (all_keep (λ r. holds_on date r ≡ true) (is_in c) xs h) h

module _ (book : List Record) (q : Question) where
  -- the test by which a component's rows are taken
  abbrev of_slot : Slot → Row → Bool
  of_slot s r = same r.article q.article && (eqb r.sort q.sort && (eqb r.level s.level && same r.condition s.condition))

  row_for : (s : Slot) → SlotFor q s → (r : Row) → (Among (PriceRecord r) book × (of_slot s r ≡ true)) × (holds_on q.date r ≡ true) → RowFor book q s.place s.factor r
  row_for s u r h =
      let sort = eqb r.sort q.sort in
      let level = eqb r.level s.level in
      let condition = same r.condition s.condition in
      let t = and_right (same r.article q.article) (sort && (level && condition)) h.0.1 in
      let days = and_right (is_day r.from) (is_day r.to && between r.from r.to q.date) h.1 in
      let inside = and_right (is_day r.to) (between r.from r.to q.date) days in
      record {
        in_book = h.0.0;
        article = same_eq r.article q.article (and_left (same r.article q.article) (sort && (level && condition)) h.0.1);
        sort = eqb-true r.sort q.sort (and_left sort (level && condition) t);
        from_day = and_left (is_day r.from) (is_day r.to && between r.from r.to q.date) h.1;
        to_day = and_left (is_day r.to) (between r.from r.to q.date) days;
        begun = between_low r.from r.to q.date inside;
        not_over = between_high r.from r.to q.date inside;
        condition =
            subst (λ (c : List ℕ). Under q s.place c s.factor)
            (sym (same_eq r.condition s.condition (and_right level condition (and_right sort (level && condition) t)))) u;
      }

  left_for : (s : Slot) → SlotFor q s → All (RowFor book q s.place s.factor) (surviving q.date q.quantity q.currency (rows_at (rows book) q s))
  unfolding rows_at component
  left_for s u =
      let taken : List Row = keep (of_slot s) (rows book) in
      let of_book : All (λ r. Among (PriceRecord r) book × (of_slot s r ≡ true)) taken = all_both (λ r. Among (PriceRecord r) book) (λ r. of_slot s r ≡ true) taken (all_keep _ (of_slot s) (rows book) (rows_among book)) (kept (of_slot s) (rows book)) in
      let left : List Row = surviving q.date q.quantity q.currency taken in
      all_imply (row_for s u) left (all_both (λ r. Among (PriceRecord r) book × (of_slot s r ≡ true)) (λ r. holds_on q.date r ≡ true) left (survivors _ q.date q.quantity q.currency taken of_book) (survivors_hold q.date q.quantity q.currency taken))

  chosen_for : (s : Slot) → SlotFor q s → Holds (λ c. RowFor book q c.place c.factor c.row) (chosen_at (rows book) q s)
  unfolding chosen_at choose step₅
  chosen_for s u = go (first (λ r. not (any (λ t. better t r) left)) left) (first_holds (RowFor book q s.place s.factor) (λ r. not (any (λ t. better t r) left)) left (left_for s u))
    where
      left : List Row
      left = surviving q.date q.quantity q.currency (rows_at (rows book) q s)

      go : (o : Option Row) → Holds (RowFor book q s.place s.factor) o → Holds (λ (c : Chosen). RowFor book q c.place c.factor c.row) (Option.map (chosen_in s) o)
      go none h = tt
      go (some r) h = h

  -- ---- the lines

  run_for : (rs : List Rounding) (cs : List Chosen) (base running : ℤ) → All (λ c. RowFor book q c.place c.factor c.row) cs → All (λ l. RowFor book q l.place l.factor l.row) (run rs base running cs)
  run_for rs [] base running hs = tt
  run_for rs (c ∷ cs) base running hs = (hs.0, run_for rs cs _ _ hs.1)

  -- each line is of such a row
  pub lines_for : All (λ l. RowFor book q l.place l.factor l.row) (lines_of book q)
  unfolding chosen
  lines_for =
      subst (All (λ l. RowFor book q l.place l.factor l.row)) (sym (lines_run book q))
      (run_for (roundings book) (chosen (rows book) q) (pos 0) (pos 0) (all_gather (λ c. RowFor book q c.place c.factor c.row) (chosen_at (rows book) q) chosen_for (slots (grants q.granted)) (slots_all q)))
