-- What a line leaves of a round, by each way out of the functions that number it.
use Prim.Native.Nat.{ℕ, ◌+◌, ◌%◌, ◌≤◌, ◌<◌}
use mathlib.Core.Path.{◌≡◌, sym, ◌∙◌, ap, subst}
use mathlib.Core.Bool.{Bool, true, false, ◌||◌, false≢true}
use mathlib.Core.List.{List, [], ◌∷◌, ◌++◌}
use native.Mathlib.Omega.{arith}
use native.Mathlib.Decide.{dec_lt}
use lib.Dec.{eqb, ltb}
use lib.ListN.{length, get_or}
use borrow.Author.Tests.{le-ltb, ltb-false, eqb-true, eq-eqb, ne_eqb}
use Rattle.rules.specs.RowBytes.{row_bytes}
use Rattle.rules.specs.Layout.{whole}
use Rattle.file_rules.specs.Fields.{is_blank, is_remark}
use Rattle.file_rules.specs.PriceLine.{price_line}
use Rattle.fields.specs.Given.{GivesNone}
use Rattle.file_rules.specs.PriceFile.{with_text}
use Rattle.file_rules.proofs.FieldLaws.{or_left, or_right}
use Rattle.layout.specs.Reads.{part}
use Rattle.layout.specs.Ensures.{Says, Number, PutsTo}
use Rattle.fields.specs.Field.{text_of, TextIs, CutAt}
use Rattle.price_line.specs.declared.PriceLine.{PriceLine}
use Rattle.price_line.specs.Line.{row_on, LineIs}
use Rattle.price_record.specs.Put.{ToPut}
use Rattle.text_names.specs.declared.Names.{Names}
use Rattle.text_names.specs.Hashes.{hash_of}
use Rattle.text_names.specs.Names.{Table, Found, Unmet, EnteredIs}
use Rattle.reading.specs.Rows.{waiting, number_of, records_at, met_after, Skips, Brings}
use Rattle.reading.specs.declared.rounds.Walk.{Walk}
use Rattle.reading.specs.Rounds.{Known, Round, Moves, Ready, Due, NameAt, Behind}
use Rattle.reading.proofs.LineLaws.{skips, row_there, brings}
use Rattle.reading.proofs.RecordLaws.{given_is, waits_is, kind_told, kind_given, some_number}
use Rattle.reading.proofs.MetLaws.{number_blank, number_new, one_longer}
use Rattle.reading.proofs.RoundLaws.{known_more, name_within, starts_name, name_text, name_here, piece_is, kind_here, room, stays, comes, numbered_is, goes_on, none_new, had, named, found, unseen, no_place}

-- ---- a line that brings nothing

module _ {file : List ℕ} {c : ℕ} {out : List ℕ} {walk : Walk} {at end : ℕ} (cut : CutAt 10 file at end) (q : Ready file c out walk at) {t : Bool}
    (s : Says (is_blank (part file at end) || is_remark (part file at end)) t) where
  pub move_skip : t ≡ true → Moves file c out walk at (end + 1) out walk
  move_skip e = record { on = λ wanted R. by wanted R (skips q.round.fill.good q.here cut s e) }
    where
      by : (wanted : List ℕ) → Round file wanted c out at walk → Skips file at (end + 1) → Round file wanted c out (end + 1) walk
      by wanted R z =
          record {
            met = R.met;
            known = R.known;
            under = R.under;
            stands = λ l. R.stands l ∙ ap (records_at c R.met) z.is;
            fill = record {
              done = R.fill.done;
              tail = R.fill.tail;
              good = z.good;
              is = R.fill.is;
              place = R.fill.place;
              long = R.fill.long ∙ ap (λ ls. length (records_at (c + 65535) R.met ls)) z.is;
              rest = sym (ap (λ ls. R.fill.done ++ (records_at (c + 65535) R.met ls ++ R.fill.tail)) z.is) ∙ R.fill.rest;
              within = omega (arith, cut.fits);
            };
            told = R.told;
            last_met = sym (ap (met_after R.met) z.is) ∙ R.last_met;
            small = R.small;
          }

  -- ---- a row

  module _ (e : t ≡ false) where
    pub some_row : GivesNone (whole price_line (part file at end)) → ⊥
    some_row n = row_there q.round.fill.good q.here cut s e n

    module _ {row : PriceLine} (line : LineIs (part file at end) row) where
      b : Brings file at (end + 1) (part file at end) row
      b = brings q.round.fill.good q.here cut s e line

      pub row_room : walk.to + 34 + row.article.count + row.condition.count ≤ length out
      row_room = room cut line b q.round

      abbrev kind : ℕ
      kind = get_or out (walk.to + 2) 0

      pub row_due : {w : Bool} → Says (ltb c 1 || eqb kind 0) w → w ≡ true → Due file c out walk at end row
      row_due p i =
          record {
            ready = q;
            cut = cut;
            line = line;
            brings = b;
            waits = λ l. eqb-true kind 0 (sym (ap (λ (a : Bool). a || eqb kind 0) (le-ltb c 1 l)) ∙ (p.is ∙ i));
          }

      pub move_had : {w : Bool} → Says (ltb c 1 || eqb kind 0) w → w ≡ false → {r : ℕ} → Behind walk.to row r
          → Moves file c out walk at (end + 1) out (record { names = walk.names; to = r; more = walk.more })
      move_had p i {r} f = record { on = λ wanted R. by wanted R }
        where
          later : 1 ≤ c
          later = ltb-false c 1 (or_left (ltb c 1) (eqb kind 0) (p.is ∙ i))

          n : kind ≡ 0 → ⊥
          n h = false≢true (sym (or_right (ltb c 1) (eqb kind 0) (p.is ∙ i)) ∙ eq-eqb kind 0 h)

          by : (wanted : List ℕ) → Round file wanted c out at walk
              → Round file wanted c out (end + 1) (record { names = walk.names; to = r; more = walk.more })
          by wanted R =
              let x : List ℕ = (row_on (part file at end) row).name in
              let l : number_of R.met x ≤ c =
              kind_given c (number_of R.met x) (row_on (part file at end) row).row
              (λ i. n (kind_here cut line b R ∙ (ap (λ (s : List ℕ). get_or s 2 0) (piece_is cut line b R later) ∙ i))) in
              let h = had cut line b R l in
              goes_on cut line b R h.0
              (stays cut line b R
              (given_is (c + 65535) (number_of R.met x) (row_on (part file at end) row).row (omega arith)
              ∙ sym (piece_is cut line b R later ∙ given_is c (number_of R.met x) (row_on (part file at end) row).row l)) f.is) h.1

-- ---- a row whose record is to be written

module _ {file : List ℕ} {c : ℕ} {out : List ℕ} {walk : Walk} {at end : ℕ} {row : PriceLine} (w : Due file c out walk at end row) where
  abbrev R₀ : Round file w.ready.wanted c out at walk
  R₀ = w.ready.round

  pub due_text : TextIs (part file at end) row.name
  due_text = w.line.name

  pub due_start : at + row.start ≤ length file
  due_start = name_within w.cut w.line w.brings

  pub due_table : Table file walk.names
  due_table = R₀.known.table

  pub due_room : walk.to + 34 + row.article.count + row.condition.count ≤ length out
  due_room = room w.cut w.line w.brings R₀

  pub due_put : ToPut (part file at end) row out walk.to
  due_put =
      record {
        article = w.line.article;
        condition = w.line.condition;
        short = w.line.short.0;
        narrow = w.line.short.1;
        room = due_room;
      }

  pub due_small : c ≤ length file
  due_small = R₀.small

  abbrev x : List ℕ
  x = (row_on (part file at end) row).name

  x_long : length x ≡ row.name.count
  x_long = sym (ap length (name_text w.cut w.line w.brings)) ∙ w.line.name.count

  pub move_blank : row.name.count ≡ 0 → {r : ℕ} {new : List ℕ} → PutsTo out walk.to (row_bytes (with_text 0 (row_on (part file at end) row).row)) new r
      → Moves file c out walk at (end + 1) new (record { names = walk.names; to = r; more = walk.more })
  move_blank h {r} {new} p = record { on = λ wanted R. by wanted R }
    where
      by : (wanted : List ℕ) → Round file wanted c out at walk
          → Round file wanted c new (end + 1) (record { names = walk.names; to = r; more = walk.more })
      by wanted R =
          let i = number_blank R.met x (eq-eqb (length x) 0 (omega (arith, x_long))) in
          let m : Number (number_of R.met x % 4294967296) 4294967296 0 = record { is = omega (arith, i.0); below = omega arith } in
          let e = none_new w.cut w.line w.brings R i.1 in
          goes_on w.cut w.line w.brings R e.0
          (comes w.cut w.line w.brings R (numbered_is w.cut w.line w.brings R (omega (arith, i.0)) m) p) e.1

  module _ (h₁ : 1 ≤ row.name.count) where
    waits_for : {wanted : List ℕ} (R : Round file wanted c out at walk) → c < number_of R.met x
    waits_for R = by (dec_lt 0 c)
      where
        by : Dec (0 < c) → c < number_of R.met x
        by (yes l) =
            kind_told c (number_of R.met x) (row_on (part file at end) row).row
            (sym (ap (λ (s : List ℕ). get_or s 2 0) (piece_is w.cut w.line w.brings R l))
            ∙ (sym (kind_here w.cut w.line w.brings R) ∙ w.waits l))
        by (no l) = omega (arith, some_number R.met x (ne_eqb (length x) 0 (λ i. absurd (omega (arith, x_long)))))

    pub move_found : {j : ℕ} → Found file walk.names.starts walk.names.count (text_of (part file at end) row.name) j
        → {n r : ℕ} {new : List ℕ} → Number ((c + j) % 4294967296) 4294967296 n
        → PutsTo out walk.to (row_bytes (with_text n (row_on (part file at end) row).row)) new r
        → Moves file c out walk at (end + 1) new (record { names = walk.names; to = r; more = walk.more })
    move_found {j} f {n} {r} {new} m p = record { on = λ wanted R. by wanted R }
      where
        f' : Found file walk.names.starts walk.names.count x j
        f' = subst (λ (y : List ℕ). Found file walk.names.starts walk.names.count y j) (name_text w.cut w.line w.brings) f

        by : (wanted : List ℕ) → Round file wanted c out at walk
            → Round file wanted c new (end + 1) (record { names = walk.names; to = r; more = walk.more })
        by wanted R =
            let i = found w.cut w.line w.brings R (waits_for R) f' in
            goes_on w.cut w.line w.brings R
            (subst (λ (m : List (List ℕ)). Known file c m walk.names) (sym i.1) R.known)
            (comes w.cut w.line w.brings R
            (numbered_is w.cut w.line w.brings R (omega (arith, i.0, f.low, R.known.most))
            (subst (λ (m : ℕ). Number (m % 4294967296) 4294967296 n) (sym i.0) m)) p)
            (R.told ∙ ap (λ (m : List (List ℕ)). ltb (c + 65535) (length m)) (sym i.1))

    module _ (f : Unmet file walk.names.starts walk.names.count (text_of (part file at end) row.name)) where
      f' : Unmet file walk.names.starts walk.names.count x
      f' = subst (λ (y : List ℕ). Unmet file walk.names.starts walk.names.count y) (name_text w.cut w.line w.brings) f

      pub move_new : walk.names.count < 65535 → {h : ℕ} → h ≡ hash_of (text_of (part file at end) row.name) → h < 65536
          → {n r start : ℕ} {new : List ℕ} {names : Names} → NameAt at row start → EnteredIs walk.names start h names
          → Number ((c + names.count) % 4294967296) 4294967296 n
          → PutsTo out walk.to (row_bytes (with_text n (row_on (part file at end) row).row)) new r
          → Moves file c out walk at (end + 1) new (record { names = names; to = r; more = walk.more })
      move_new g {h} d b {n} {r} {start} {new} {names} a u m p = record { on = λ wanted R. by wanted R }
        where
          by : (wanted : List ℕ) → Round file wanted c out at walk
              → Round file wanted c new (end + 1) (record { names = names; to = r; more = walk.more })
          by wanted R =
              let v : EnteredIs walk.names (at + row.start) h names = subst (λ (n : ℕ). EnteredIs walk.names n h names) a.is u in
              let z = unseen w.cut w.line w.brings R (waits_for R) f' g in
              let i = number_new R.met x (named w.cut w.line w.brings R (waits_for R)) z in
              let met_long : c ≤ length R.met = omega (arith, i.0, waits_for R) in
              let full : length R.met ≡ c + walk.names.count = omega (arith, R.known.low, R.known.all_in g) in
              let t_is : c + names.count ≡ number_of R.met x = omega (arith, i.0, u.count_is) in
              goes_on w.cut w.line w.brings R
              (subst (λ (m : List (List ℕ)). Known file c m names) (sym i.1)
              (known_more R.known x z met_long g (starts_name w.cut w.line w.brings) (name_here w.cut w.line w.brings)
              (d ∙ ap hash_of (name_text w.cut w.line w.brings)) b v))
              (comes w.cut w.line w.brings R
              (numbered_is w.cut w.line w.brings R (omega (arith, t_is, u.count_is)) (subst (λ (m : ℕ). Number (m % 4294967296) 4294967296 n) t_is m)) p)
              (R.told
              ∙ (le-ltb (c + 65535) (length R.met) (omega arith)
              ∙ sym (ap (λ (m : List (List ℕ)). ltb (c + 65535) (length m)) i.1
              ∙ le-ltb (c + 65535) (length (R.met ++ (x ∷ []))) (omega (arith, one_longer R.met x)))))

      pub move_past : 65535 ≤ walk.names.count → {r : ℕ} {new : List ℕ} → PutsTo out walk.to (waiting (row_on (part file at end) row).row) new r
          → Moves file c out walk at (end + 1) new (record { names = walk.names; to = r; more = true })
      move_past g {r} {new} p = record { on = λ wanted R. by wanted R }
        where
          by : (wanted : List ℕ) → Round file wanted c out at walk
              → Round file wanted c new (end + 1) (record { names = walk.names; to = r; more = true })
          by wanted R =
              let i = no_place w.cut w.line w.brings R (waits_for R) f' g in
              goes_on w.cut w.line w.brings R i.1
              (comes w.cut w.line w.brings R
              (sym (waits_is (c + 65535) (number_of R.met x) (row_on (part file at end) row).row i.0)) p) i.2
