-- A line in a round: a row that has its number stays, and one that is due gets it where the table knows its name or has a place for it.
use Prim.Native.Nat.{ℕ, zero, suc, ◌+◌, ◌-◌, ◌%◌, ◌≤◌, ◌<◌}
use mathlib.Core.Path.{◌≡◌, refl, sym, ◌∙◌, ap, ap₂, subst}
use mathlib.Core.Bool.{Bool, true, false}
use mathlib.Core.List.{List, [], ◌∷◌, ◌++◌}
use mathlib.Core.Logic.{◌⊎◌, inl, inr}
use mathlib.Core.Option.{Option, some}
use native.Mathlib.Omega.{arith}
use native.Mathlib.Decide.{dec_lt}
use lib.Dec.{ltb}
use lib.ListN.{length, take, drop, get_or, set, length-append, length-set, take-append-drop}
use lib.Seq.{take_at, drop_at, drop-drop, length-take-le, get_or-append-add, get_or-set_same, get_or-set_other, get_or_at}
use borrow.Author.Tests.{le-ltb, lt-ltb}
use Rattle.rules.specs.Lists.{is_some, if_some}
use Rattle.rules.specs.Book.{Row}
use Rattle.rules.specs.RowBytes.{row_bytes}
use Rattle.file_rules.specs.Fields.{semicolon, field}
use Rattle.file_rules.specs.PriceLine.{is_empty}
use Rattle.file_rules.specs.PriceFile.{place_in, with_text}
use Rattle.file_rules.proofs.NumberingLaws.{seen, after, place_within}
use Rattle.layout.specs.Reads.{part}
use Rattle.layout.proofs.PartLaws.{part_length}
use Rattle.layout.specs.Ensures.{Number, PutsTo}
use Rattle.fields.specs.Field.{text_of, CutAt}
use Rattle.price_line.specs.declared.PriceLine.{PriceLine}
use Rattle.fields.proofs.EndLaws.{field_more}
use Rattle.price_line.specs.Line.{row_on, NameStarts, LineIs}
use Rattle.text_names.specs.declared.Names.{Names}
use Rattle.text_names.specs.Hashes.{name_from, hash_of, StartsName}
use Rattle.text_names.specs.Names.{Found, Unmet, EnteredIs}
use Rattle.text_names.proofs.EnterLaws.{entered}
use Rattle.reading.specs.Rows.{rows_in, number_of, record_at, records_at, met_after, Brings, Filling}
use Rattle.reading.specs.declared.rounds.Walk.{Walk}
use Rattle.reading.specs.Rounds.{Known, Round}
use Rattle.reading.proofs.RecordLaws.{line_size, given_is, low_text}
use Rattle.reading.proofs.FillLaws.{fill_on, fill_same}
use Rattle.reading.proofs.MetLaws.{get_d_left, seen_at, place_at, firsts_more, one_longer, number_blank, number_seen, number_new, not_blank}

-- ---- what the table knows with one name more

module _ {file : List ℕ} {c : ℕ} {met : List (List ℕ)} {names : Names} (n : Known file c met names) (x : List ℕ) (h : seen met x ≡ false) where
  -- one that needs no place in it
  known_past : (length (met ++ (x ∷ [])) ≤ c) ⊎ (names.count ≡ 65535) → Known file c (met ++ (x ∷ [])) names
  known_past f =
      record {
        table = n.table;
        low = omega (arith, n.low, one_longer met x);
        most = n.most;
        all_in = λ l. by f l;
        named = λ i l. n.named i l ∙ sym (get_d_left met (x ∷ []) (c + i) [] (omega (arith, n.low)));
        firsts = firsts_more met x n.firsts h;
        starts_long = n.starts_long;
        before_long = n.before_long;
      }
    where
      by : (length (met ++ (x ∷ [])) ≤ c) ⊎ (names.count ≡ 65535) → names.count < 65535 → length (met ++ (x ∷ [])) - c ≤ names.count
      by (inl l) g = omega arith
      by (inr e) g = absurd (omega arith)

  -- one that is entered
  pub known_more : {at hash : ℕ} {names' : Names} → c ≤ length met → names.count < 65535 → StartsName file at → name_from file at ≡ x
      → hash ≡ hash_of x → hash < 65536 → EnteredIs names at hash names' → Known file c (met ++ (x ∷ [])) names'
  known_more {at} {hash} {names'} g l s e d m w =
      let full : length met ≡ c + names.count = omega (arith, n.low, n.all_in l) in
      record {
        table = entered n.table s (d ∙ sym (ap hash_of e)) m (omega (arith, n.starts_long)) (omega (arith, n.before_long)) w;
        low = omega (arith, one_longer met x, w.count_is);
        most = omega (arith, w.count_is);
        all_in = λ _. omega (arith, one_longer met x, w.count_is);
        named = λ i m. by full i (omega (arith, w.count_is)) (dec_lt i names.count);
        firsts = firsts_more met x n.firsts h;
        starts_long = ap length w.starts_is ∙ (length-set names.starts names.count at ∙ n.starts_long);
        before_long = ap length w.before_is ∙ (length-set names.before names.count (get_or names.last hash 0) ∙ n.before_long);
      }
    where
      by : length met ≡ c + names.count → (i : ℕ) → i < names.count + 1 → Dec (i < names.count)
          → name_from file (get_or names'.starts i 0) ≡ get_or (met ++ (x ∷ [])) (c + i) []
      by full i m (yes y) =
          ap (λ (s : List ℕ). name_from file (get_or s i 0)) w.starts_is
          ∙ (ap (name_from file) (get_or-set_other names.starts names.count i at 0 (omega arith))
          ∙ (n.named i y ∙ sym (get_d_left met (x ∷ []) (c + i) [] (omega arith))))
      by full i m (no y) =
          let j : i ≡ names.count = omega arith in
          ap (λ (s : List ℕ). name_from file (get_or s i 0)) w.starts_is
          ∙ (ap (λ (i : ℕ). name_from file (get_or (set names.starts names.count at) i 0)) j
          ∙ (ap (name_from file) (get_or-set_same names.starts names.count at 0 (omega (arith, n.starts_long)))
          ∙ (e ∙ sym (get_or_at met x [] [] (c + i) (omega arith)))))

-- ---- a row in a round

drop_left : (s u : List ℕ) (n : ℕ) → n ≤ length s → drop n (s ++ u) ≡ drop n s ++ u
drop_left s u zero h = refl
drop_left [] u (suc n) h = absurd (omega arith)
drop_left (b ∷ s) u (suc n) h = drop_left s u n (omega arith)

module _ {file : List ℕ} {at end : ℕ} {row : PriceLine} (cut : CutAt 10 file at end) (line : LineIs (part file at end) row)
    (b : Brings file at (end + 1) (part file at end) row) where
  abbrev pub x : List ℕ
  x = (row_on (part file at end) row).name

  abbrev pub r : Row
  r = (row_on (part file at end) row).row

  starts : NameStarts (part file at end) row
  starts = line.starts

  line_long : length (part file at end) ≡ end - at
  line_long = part_length file at end cut.fits

  -- from there on stand the rest of the line and the lines behind it
  rest_is : drop (at + row.start) file ≡ drop row.start (part file at end) ++ drop end file
  rest_is =
      let e : at + (end - at) ≡ end = omega (arith, cut.low) in
      sym (drop-drop row.start at file)
      ∙ (ap (drop row.start) (sym (take-append-drop (end - at) (drop at file)))
      ∙ (drop_left (part file at end) (drop (end - at) (drop at file)) row.start starts.fits
      ∙ ap (λ (s : List ℕ). drop row.start (part file at end) ++ s) (drop-drop (end - at) at file
      ∙ ap (λ (n : ℕ). drop n file) e)))

  name_field : field (drop (at + row.start) file) ≡ some (text_of (part file at end) row.name, semicolon ∷ (starts.rest ++ drop end file))
  name_field = ap field rest_is ∙ field_more (drop row.start (part file at end)) (drop end file) starts.reads (omega arith)

  pub name_within : at + row.start ≤ length file
  name_within = omega (arith, starts.fits, line_long, cut.low, cut.fits)

  pub starts_name : StartsName file (at + row.start)
  starts_name = record { fits = name_within; good = ap is_some name_field }

  pub name_text : text_of (part file at end) row.name ≡ x
  unfolding row_on
  name_text = refl

  pub name_here : name_from file (at + row.start) ≡ x
  unfolding name_from
  name_here = ap (λ (o : Option (List ℕ × List ℕ)). if_some o [] (λ p. p.0)) name_field ∙ name_text

  module _ {wanted : List ℕ} {c : ℕ} {out : List ℕ} {walk : Walk} (R : Round file wanted c out at walk) where
    abbrev pub met : List (List ℕ)
    met = R.met

    abbrev pub t : ℕ
    t = number_of met x

    rows_are : (d : ℕ) → records_at d met (rows_in (drop at file)) ≡ record_at d t r ++ records_at d (after met x) (rows_in (drop (end + 1) file))
    unfolding records_at
    rows_are d = ap (records_at d R.met) b.is

    abbrev pub size : ℕ
    size = 34 + row.article.count + row.condition.count

    abbrev pub piece : List ℕ
    piece = take size R.under

    abbrev pub under : List ℕ
    under = drop size R.under

    abbrev pub behind : ℕ → List ℕ
    behind d = records_at d (after met x) (rows_in (drop (end + 1) file))

    enough : size ≤ length R.under
    enough =
        omega (
          arith,
          R.fill.long,
          ap length (rows_are (c + 65535)),
          length-append (record_at (c + 65535) t r) (behind (c + 65535)),
          line_size line (c + 65535) t,
        )

    fill : Filling file wanted (c + 65535) out at walk.to met (piece ++ under)
    fill = subst (Filling file wanted (c + 65535) out at walk.to R.met) (sym (take-append-drop size R.under)) R.fill

    later : met_after (after met x) (rows_in (drop (end + 1) file)) ≡ met_after [] (rows_in file)
    unfolding met_after
    later = sym (ap (met_after R.met) b.is) ∙ R.last_met

    long : length piece ≡ 34 + row.article.count + row.condition.count
    long = length-take-le size R.under enough

    -- in a later round its record stands there
    module _ (l : 1 ≤ c) where
      pub piece_is : piece ≡ record_at c t r
      piece_is = ap (take size) (R.stands l ∙ rows_are c) ∙ take_at (record_at c t r) (behind c) size (line_size line c t)

      under_is : under ≡ behind c
      under_is = ap (drop size) (R.stands l ∙ rows_are c) ∙ drop_at (record_at c t r) (behind c) size (line_size line c t)

    pub kind_here : get_or out (walk.to + 2) 0 ≡ get_or piece 2 0
    kind_here =
        ap₂ (λ (s : List ℕ) (i : ℕ). get_or s (i + 2) 0) fill.is (sym fill.place)
        ∙ (get_or-append-add fill.done ((piece ++ under) ++ fill.tail) 2 0
        ∙ (get_d_left (piece ++ under) fill.tail 2 0 (omega (arith, length-append piece under, long))
        ∙ get_d_left piece under 2 0 (omega (arith, long))))

    pub room : walk.to + 34 + row.article.count + row.condition.count ≤ length out
    room =
        omega (
          arith,
          ap length fill.is,
          fill.place,
          length-append fill.done ((piece ++ under) ++ fill.tail),
          length-append (piece ++ under) fill.tail,
          length-append piece under,
          long,
        )

    -- its record stays as it is, or another comes there
    pub stays : record_at (c + 65535) t r ≡ piece → {e : ℕ} → e ≡ walk.to + 34 + row.article.count + row.condition.count
        → Filling file wanted (c + 65535) out (end + 1) e (after met x) under
    stays i f =
        fill_same piece under fill (after met x) b.good (omega (arith, cut.fits))
        (rows_are (c + 65535)
        ∙ ap (λ (s : List ℕ). s ++ records_at (c + 65535) (after met x) (rows_in (drop (end + 1) file))) i) (omega (arith, f, long))

    pub comes : {bs new : List ℕ} {e : ℕ} → bs ≡ record_at (c + 65535) t r → PutsTo out walk.to bs new e
        → Filling file wanted (c + 65535) new (end + 1) e (after met x) under
    comes {bs} {new} {e} i p =
        fill_on piece under fill (after met x) b.good (omega (arith, cut.fits)) (rows_are (c + 65535)) (long ∙ sym (line_size line (c + 65535) t))
        (subst (λ (bs : List ℕ). PutsTo out walk.to bs new e) i p)

    pub numbered_is : {n : ℕ} → t ≤ c + 65535 → Number (t % 4294967296) 4294967296 n → row_bytes (with_text n r) ≡ record_at (c + 65535) t r
    numbered_is l m = ap (λ (k : ℕ). row_bytes (with_text k r)) m.is ∙ (low_text t r ∙ sym (given_is (c + 65535) t r l))

    pub goes_on : {names' : Names} {out' : List ℕ} {e : ℕ} {more' : Bool} → Known file c (after met x) names'
        → Filling file wanted (c + 65535) out' (end + 1) e (after met x) under → more' ≡ ltb (c + 65535) (length (after met x))
        → Round file wanted c out' (end + 1) (record { names = names'; to = e; more = more' })
    goes_on n f m = record { met = after met x; known = n; under = under; fill = f; stands = under_is; told = m; last_met = later; small = R.small }

    -- ---- what becomes of the names

    abbrev pub Kept : Type 0
    Kept = Known file c (after met x) walk.names × (walk.more ≡ ltb (c + 65535) (length (after met x)))

    pub none_new : after met x ≡ met → Kept
    none_new e = (
      subst (λ (m : List (List ℕ)). Known file c m walk.names) (sym e) R.known,
      R.told ∙ ap (λ (m : List (List ℕ)). ltb (c + 65535) (length m)) (sym e),
    )

    -- a row that has its number
    pub had : t ≤ c → Kept
    had l = by (is_empty x) (seen met x) refl refl
      where
        by : (y z : Bool) → is_empty x ≡ y → seen met x ≡ z → Kept
        by true z e f = none_new (number_blank met x e).1
        by false true e f = none_new (number_seen met x e f).1
        by false false e f =
            let i = number_new met x e f in
            let m : length (met ++ (x ∷ [])) ≤ c = omega (arith, one_longer met x, i.0) in (
              subst (λ (m : List (List ℕ)). Known file c m walk.names) (sym i.1) (known_past R.known x f (inl m)),
              R.told
                  ∙ (le-ltb (c + 65535) (length met) (omega (arith, one_longer met x))
                  ∙ sym (ap (λ (m : List (List ℕ)). ltb (c + 65535) (length m)) i.1
                  ∙ le-ltb (c + 65535) (length (met ++ (x ∷ []))) (omega arith))),
            )

    module _ (w : c < t) where
      pub named : is_empty x ≡ false
      named = not_blank met x (omega arith)

      -- one that the table has
      pub found : {j : ℕ} → Found file walk.names.starts walk.names.count x j → (t ≡ c + j) × (after met x ≡ met)
      found {j} f =
          let i : c + (j - 1) < length met = omega (arith, f.some, f.low, R.known.low) in
          let e : get_or met (c + (j - 1)) [] ≡ x = sym (R.known.named (j - 1) (omega (arith, f.some, f.low))) ∙ f.is in
          let p : place_in met x ≡ suc (c + (j - 1)) = sym (ap (place_in met) e) ∙ R.known.firsts (c + (j - 1)) i in
          let n = number_seen met x named (seen_at met (c + (j - 1)) x i e) in
          (omega (arith, n.0, f.some), n.1)

      module _ (f : Unmet file walk.names.starts walk.names.count x) where
        -- where it was met, it stands behind those of the table
        past : seen met x ≡ true → c + walk.names.count < t
        past s =
            let n = number_seen met x named s in
            let p : place_in met x ≤ length met = place_within met x s in
            by n p (dec_lt (place_in met x - 1 - c) walk.names.count)
          where
            by : (number_of met x ≡ place_in met x) × (after met x ≡ met) → place_in met x ≤ length met
                → Dec (place_in met x - 1 - c < walk.names.count) → c + walk.names.count < t
            by n p (no d) = omega (arith, n.0)
            by n p (yes d) =
                let i : c + (place_in met x - 1 - c) ≡ place_in met x - 1 = omega (arith, n.0) in
                absurd (f.none (place_in met x - 1 - c) d (R.known.named (place_in met x - 1 - c) d
                ∙ (ap (λ (m : ℕ). get_or met m []) i ∙ place_at met x s)))

        pub unseen : walk.names.count < 65535 → seen met x ≡ false
        unseen g = by (seen met x) refl
          where
            by : (z : Bool) → seen met x ≡ z → seen met x ≡ false
            by true s = absurd (omega (arith, past s, (number_seen met x named s).0, place_within met x s, R.known.all_in g))
            by false s = s

        -- one for which the table has no place
        abbrev Left : Type 0
        Left = (c + 65535 < t) × Known file c (after met x) walk.names × (true ≡ ltb (c + 65535) (length (after met x)))

        pub no_place : 65535 ≤ walk.names.count → Left
        no_place g = by (seen met x) refl
          where
            by : (z : Bool) → seen met x ≡ z → Left
            by true s =
                let n = number_seen met x named s in
                let q : c + walk.names.count < t = past s in (
                  omega arith,
                  subst (λ (m : List (List ℕ)). Known file c m walk.names) (sym n.1) R.known,
                  sym (ap (λ (m : List (List ℕ)). ltb (c + 65535) (length m)) n.1
                      ∙ lt-ltb (c + 65535) (length met) (omega (arith, n.0, place_within met x s))),
                )
            by false s =
                let n = number_new met x named s in (
                  omega (arith, n.0, R.known.low),
                  subst (λ (m : List (List ℕ)). Known file c m walk.names) (sym n.1) (known_past R.known x s (inr (omega (arith, R.known.most)))),
                  sym (ap (λ (m : List (List ℕ)). ltb (c + 65535) (length m)) n.1
                      ∙ lt-ltb (c + 65535) (length (met ++ (x ∷ []))) (omega (arith, one_longer met x, R.known.low))),
                )
