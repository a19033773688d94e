-- Round by round to the end: where every number is given, the records are those of the numbered rows.
use Prim.Native.Nat.{ℕ, ◌+◌, ◌-◌, ◌≤◌, ◌<◌}
use mathlib.Core.Path.{◌≡◌, refl, sym, ◌∙◌, ap, ap₂}
use mathlib.Core.Bool.{Bool, true, false}
use mathlib.Core.List.{List, [], ◌∷◌, ◌++◌, map}
use native.Mathlib.Omega.{arith}
use native.Mathlib.Decide.{dec_lt}
use lib.Dec.{ltb}
use lib.ListN.{length, take, drop, length-append, take-append-drop}
use lib.Seq.{take_at, drop_at, length-take-le}
use borrow.Author.Tests.{le-ltb, ltb-true, ltb-false}
use Rattle.rules.specs.Refusals.{over}
use Rattle.rules.specs.RowBytes.{row_bytes, rows_bytes}
use Rattle.file_rules.specs.PriceLine.{NamedRow, is_empty}
use Rattle.file_rules.specs.PriceFile.{text_number, text_names, with_text, numbered, texts}
use Rattle.file_rules.proofs.NumberingLaws.{seen, after, walk, place_within}
use Rattle.file_rules.proofs.PriceFileLaws.{numbered_walk}
use Rattle.text_names.specs.declared.Names.{Names}
use Rattle.text_names.specs.Names.{Empty}
use Rattle.text_names.proofs.EnterLaws.{no_names}
use Rattle.reading.specs.declared.rounds.Walk.{Walk}
use Rattle.reading.specs.Rows.{rows_in, number_of, records_at, met_after, ToFill}
use Rattle.reading.specs.Rounds.{Round, Moves, Ready, Holds, Rounded, Numbering, AllNumbered}
use Rattle.reading.proofs.RecordLaws.{same_sizes, given_is}
use Rattle.reading.proofs.FillLaws.{fill_end, fill_long, no_rows, over_long}
use Rattle.reading.proofs.MetLaws.{number_blank, number_seen, number_new}
use Rattle.reading.proofs.CountLaws.{met_grows, few_names}

-- ---- a round

pub round_start : {file out : List ℕ} {c : ℕ} {names : Names} → Holds c file out → Empty names
    → Round file (over (records_at (c + 65535) [] (rows_in file)) out) c out 0 (record { names = names; to = 0; more = false })
round_start {file} {out} {c} h n =
    let same : length (records_at c [] (rows_in file)) ≡ length (records_at (c + 65535) [] (rows_in file)) = same_sizes c (c + 65535) [] (rows_in file) in
    record {
      met = [];
      known = record {
        table = no_names n;
        low = omega (arith, n.none);
        most = omega (arith, n.none);
        all_in = λ _. omega arith;
        named = λ i l. absurd (omega (arith, n.none));
        firsts = λ i l. absurd (omega arith);
        starts_long = n.starts_long;
        before_long = n.before_long;
      };
      under = h.under;
      stands = h.stands;
      fill = record {
        done = [];
        tail = h.tail;
        good = h.good;
        is = h.is;
        place = refl;
        long = h.long ∙ same;
        rest = ap (λ (s : List ℕ). records_at (c + 65535) [] (rows_in file) ++ s)
            (sym (ap (drop (length (records_at (c + 65535) [] (rows_in file)))) h.is
            ∙ drop_at h.under h.tail (length (records_at (c + 65535) [] (rows_in file))) (h.long ∙ same)));
        within = omega arith;
      };
      told = sym (le-ltb (c + 65535) 0 (omega arith));
      last_met = refl;
      small = h.small;
    }

module _ {file wanted : List ℕ} {c : ℕ} {out : List ℕ} {at : ℕ} {walk : Walk} (R : Round file wanted c out at walk) where
  pub round_ready : at < length file → Ready file c out walk at
  round_ready l = record { wanted = wanted; round = R; here = l }

  pub round_on : {next : ℕ} {out' : List ℕ} {walk' : Walk} → Moves file c out walk at next out' walk' → Round file wanted c out' next walk'
  round_on m = m.on wanted R

module _ {file old : List ℕ} {c : ℕ} {out : List ℕ} {at : ℕ} {walk : Walk}
    (R : Round file (over (records_at (c + 65535) [] (rows_in file)) old) c out at walk) where
  pub round_end : length file ≤ at → Rounded c file old out walk.more
  unfolding met_after
  round_end h =
      record {
        is = fill_end R.fill h;
        more = R.told ∙ ap (λ (m : List (List ℕ)). ltb (c + 65535) (length m)) (sym (ap (met_after R.met) (no_rows file at h)) ∙ R.last_met);
        small = R.small;
      }

  pub round_long : Holds c file old → length out ≡ length old
  round_long h =
      fill_long R.fill
      ∙ over_long (records_at (c + 65535) [] (rows_in file)) old
      (omega (arith, same_sizes c (c + 65535) [] (rows_in file), ap length h.is, h.long, length-append h.under h.tail))

-- ---- round by round

pub over_over : (as' bs old : List ℕ) → length as' ≡ length bs → over bs (over as' old) ≡ over bs old
over_over as' bs old e =
    ap (λ (s : List ℕ). bs ++ s) (drop_at as' (drop (length as') old) (length bs) e ∙ ap (λ (n : ℕ). drop n old) e)

pub numbering_start : {file out : List ℕ} → ToFill file out → Numbering file out out 0
numbering_start t = record { good = t.good; room = t.room; first = λ _. refl; is = λ l. absurd (omega arith); some_left = omega arith }

module _ {file old out : List ℕ} {c : ℕ} (p : Numbering file old out c) where
  -- what comes over all records comes over what stood there first
  same_over : (bs : List ℕ) → length (records_at c [] (rows_in file)) ≡ length bs → over bs out ≡ over bs old
  same_over bs e = by (dec_lt 0 c)
    where
      by : Dec (0 < c) → over bs out ≡ over bs old
      by (yes l) = ap (over bs) (p.is l) ∙ over_over (records_at c [] (rows_in file)) bs old e
      by (no l) = ap (over bs) (p.first (omega arith))

  pub numbering_long : length out ≡ length old
  numbering_long = by (dec_lt 0 c)
    where
      by : Dec (0 < c) → length out ≡ length old
      by (yes l) =
          ap length (p.is l) ∙ over_long (records_at c [] (rows_in file)) old (omega (arith, p.room, same_sizes 0 c [] (rows_in file)))
      by (no l) = ap length (p.first (omega arith))

  pub numbering_here : Holds c file out
  numbering_here =
      let n : ℕ = length (records_at c [] (rows_in file)) in
      record {
        good = p.good;
        small = omega (arith, p.some_left, few_names file p.good);
        under = take n out;
        tail = drop n out;
        is = sym (take-append-drop n out);
        long = length-take-le n out (omega (arith, p.room, same_sizes 0 c [] (rows_in file), numbering_long));
        stands = λ l. ap (take n) (p.is l) ∙ take_at (records_at c [] (rows_in file)) (drop n old) n refl;
      }

  pub numbering_less : length (met_after [] (rows_in file)) + 1 - (c + 65535) < length (met_after [] (rows_in file)) + 1 - c
  numbering_less = omega (arith, p.some_left)

  module _ {new : List ℕ} {r : Bool} (q : Rounded c file out new r) where
    all_over : new ≡ over (records_at (c + 65535) [] (rows_in file)) old
    all_over = q.is ∙ same_over (records_at (c + 65535) [] (rows_in file)) (same_sizes c (c + 65535) [] (rows_in file))

    pub numbering_on : r ≡ true → Numbering file old new (c + 65535)
    numbering_on e =
        let h : c + 65535 < length (met_after [] (rows_in file)) =
        ltb-true (c + 65535) (length (met_after [] (rows_in file))) (sym q.more ∙ e) in
        record { good = p.good; room = p.room; first = λ l. absurd (omega arith); is = λ _. all_over; some_left = omega arith }

-- ---- every number is given

number_small : (met : List (List ℕ)) (x : List ℕ) → number_of met x ≤ length (after met x)
number_small met x = by (is_empty x) (seen met x) refl refl
  where
    by : (y z : Bool) → is_empty x ≡ y → seen met x ≡ z → number_of met x ≤ length (after met x)
    by true z e f = omega (arith, (number_blank met x e).0)
    by false true e f =
        let n = number_seen met x e f in omega (arith, n.0, place_within met x f, ap length n.1)
    by false false e f =
        let n = number_new met x e f in omega (arith, n.0, ap length n.1, length-append met (x ∷ []))

first_of : ℕ → List ℕ → ℕ
first_of d [] = d
first_of d (x ∷ xs) = x

behind_first : List ℕ → List ℕ
behind_first [] = []
behind_first (x ∷ xs) = xs

all_given : (g : NamedRow → ℕ) (c : ℕ) (met : List (List ℕ)) (ls : List NamedRow) → length (met_after met ls) ≤ c
    → texts (map (λ l. with_text (g l) l.row) ls) ≡ walk met (map (λ l. l.name) ls)
    → records_at c met ls ≡ rows_bytes (map (λ l. with_text (g l) l.row) ls)
unfolding records_at met_after walk rows_bytes first_of behind_first
all_given g c met [] h e = refl
all_given g c met (l ∷ ls) h e =
    let t : g l ≡ number_of met l.name = ap (first_of 0) e in
    let m : number_of met l.name ≤ c = omega (arith, number_small met l.name, (met_grows (after met l.name) ls).0) in
    ap₂ (λ (s u : List ℕ). s ++ u) (given_is c (number_of met l.name) l.row m ∙ ap (λ (n : ℕ). row_bytes (with_text n l.row)) (sym t))
    (all_given g c (after met l.name) ls h (ap behind_first e))

pub numbered_all : (c : ℕ) (ls : List NamedRow) → length (met_after [] ls) ≤ c → records_at c [] ls ≡ rows_bytes (numbered ls)
unfolding numbered
numbered_all c ls h = all_given (λ l. text_number (text_names ls) l.name) c [] ls h (numbered_walk ls)

pub numbering_end : {file old out new : List ℕ} {c : ℕ} {r : Bool} → Numbering file old out c → Rounded c file out new r → r ≡ false
    → AllNumbered file old new
numbering_end {file} {old} {c = c} p q e =
    let h : length (met_after [] (rows_in file)) ≤ c + 65535 = ltb-false (c + 65535) (length (met_after [] (rows_in file))) (sym q.more ∙ e) in
    record { is = all_over p q ∙ ap (λ (s : List ℕ). over s old) (numbered_all (c + 65535) (rows_in file) h) }
