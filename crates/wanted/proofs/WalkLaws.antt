-- The walk: the entry at an article's rank holds what was seen of the article so far; and in the end each name on the list has its entry.
use Prim.Native.Nat.{ℕ, ◌+◌, ◌-◌, ◌*◌, ◌^◌, ◌≤◌, ◌<◌}
use mathlib.Core.Path.{◌≡◌, refl, sym, ◌∙◌, ap, subst}
use mathlib.Core.Bool.{Bool, true, false, ◌&&◌, ◌||◌, not, cond, false≢true}
use mathlib.Core.List.{List, [], ◌∷◌}
use mathlib.Core.Option.{Option, some, none, none-ne-some}
use native.Mathlib.Omega.{arith}
use native.Mathlib.Decide.{ℕ_discrete}
use lib.Dec.{eqb}
use lib.ListN.{length, take, drop, get_or, set, replicate, length-set, length-replicate, get_or-replicate}
use lib.Seq.{get_or-set_same, get_or-set_other}
use borrow.Author.Count.{below_more}
use borrow.Author.Tests.{ne_eqb, eqb-true, eqb-false}
use Rattle.std.specs.Prelude.{Some, None, IfSome}
use Rattle.std.specs.Prelude as Std
use Rattle.rules.specs.Lists.{same, is_some, cons_if}
use Rattle.rules.specs.Layout.{whole}
use Rattle.rules.specs.Book.{Record, ArticleRecord, PriceRecord, RoundingRecord, PackagingRecord, SchemeRecord, article_of, rows_of, roundings, sale}
use Rattle.rules.specs.BookLayout.{kinded, records}
use Rattle.rules.proofs.ListLaws.{same_eq, same_refl}
use Rattle.rules.proofs.TestLaws.{or_false, or_assoc, and_false}
use Rattle.layout.specs.Reads.{part}
use Rattle.questions.specs.declared.Name.{Name}
use Rattle.questions.specs.Questions.{no_name, name_at, Listed}
use Rattle.layout.specs.Records.{records_left, Between, RecordHere, StopIs}
use Rattle.book.proofs.WalkLaws.{pass_start, pass_here, pass_less, pass_next, pass_record, pass_end}
use Rattle.records.specs.Asks.{Accepted}
use Rattle.records.specs.Tests as Tests
use Rattle.records.proofs.TestLaws.{article_turn}
use Rattle.survey.specs.declared.Sighted.{Sighted}
use Rattle.survey.specs.declared.window.Noted.{Noted}
use Rattle.survey.specs.declared.window.Span.{Span}
use Rattle.survey.specs.Window.{SpanAfter, SpotNoted}
use Rattle.survey.specs.Survey.{found_in, FoundIs}
use Rattle.survey.specs.Survey as Survey
use Rattle.survey.proofs.WindowLaws.{Spanning, span_kept, rows_gather, roundings_gather, roundings_outside, span_start, span_turn, span_end, windows}
use Rattle.survey.proofs.SpotLaws.{Noting, noting_start, noting_turn, noting_end}
use Rattle.wanted.specs.declared.entries.Entry.{Entry}
use Rattle.wanted.specs.Table.{FoundAt, FoundOr}
use Rattle.wanted.specs.Entries.{of_article, is_article, is_row, EntryAfter, EntriesAfter, rows_for, sight_in, ToldIs, no_entry, no_sight}
use Rattle.wanted.specs.Entries.{SeenAll, ToldAt, ToldAll, FoundAll}
use Rattle.wanted.specs.declared.last.Last.{Last}
use Rattle.wanted.specs.Last.{RecordAt, LastIs, LastAfter}

-- ---- a record, and a question

module _ (article : List ℕ) (sort : ℕ) where
  -- of the asked article: an article record is the asked one, and a row that is not of the asked sort is none of the asked rows
  its_article : (o : Option Record) → of_article o ≡ some article → Tests.article_of article o ≡ is_article o
  unfolding of_article is_article Tests.starts_with
  its_article none e = refl
  its_article (some (ArticleRecord a)) e = go e
    where
      go : some a.number ≡ some article → same a.number article ≡ true
      go e = ap (λ (o : Option (List ℕ)). same (held o) article) e ∙ same_refl article
        where
          held : Option (List ℕ) → List ℕ
          held none = []
          held (some x) = x
  its_article (some (PriceRecord r)) e = refl
  its_article (some (RoundingRecord r)) e = refl
  its_article (some (PackagingRecord r)) e = refl
  its_article (some (SchemeRecord r)) e = refl

  no_article : (o : Option Record) → of_article o ≡ none → Tests.article_of article o ≡ is_article o
  unfolding of_article is_article Tests.starts_with
  no_article none e = refl
  no_article (some (ArticleRecord a)) e = absurd (none-ne-some a.number (sym e))
  no_article (some (PriceRecord r)) e = refl
  no_article (some (RoundingRecord r)) e = refl
  no_article (some (PackagingRecord r)) e = refl
  no_article (some (SchemeRecord r)) e = refl

  its_rows : (sold : Bool) → eqb sort sale ≡ sold → (o : Option Record) → is_row sold o ≡ false → (r : Record) → o ≡ some r
      → rows_of article sort (r ∷ []) ≡ []
  unfolding is_row rows_of
  its_rows sold s o f (ArticleRecord a) e = refl
  its_rows sold s o f (PriceRecord r) e =
      ap (λ (b : Bool). cons_if (same r.article article && b) r []) (other sold s (sym (ap (is_row sold) e) ∙ f))
      ∙ ap (λ (b : Bool). cons_if b r []) (and_false (same r.article article))
    where
      other : (b : Bool) → eqb sort sale ≡ b → cond b (eqb r.sort sale) (not (eqb r.sort sale)) ≡ false → eqb r.sort sort ≡ false
      other true g h = ne_eqb r.sort sort (λ i. eqb-false r.sort sale h (i ∙ eqb-true sort sale g))
      other false g h = ne_eqb r.sort sort (λ i. false≢true (sym h ∙ ap (λ (k : ℕ). not (eqb k sale)) i ∙ ap not g))
  its_rows sold s o f (RoundingRecord r) e = refl
  its_rows sold s o f (PackagingRecord r) e = refl
  its_rows sold s o f (SchemeRecord r) e = refl

  -- of another article, or of none
  other_article : (o : Option Record) → (of_article o ≡ some article → ⊥) → Tests.article_of article o ≡ false
  unfolding of_article Tests.starts_with
  other_article none n = refl
  other_article (some (ArticleRecord a)) n = go (same a.number article) refl
    where
      go : (b : Bool) → same a.number article ≡ b → same a.number article ≡ false
      go true e = absurd (n (ap some (same_eq a.number article e)))
      go false e = e
  other_article (some (PriceRecord r)) n = refl
  other_article (some (RoundingRecord r)) n = refl
  other_article (some (PackagingRecord r)) n = refl
  other_article (some (SchemeRecord r)) n = refl

  other_rows : (o : Option Record) → (of_article o ≡ some article → ⊥) → (r : Record) → o ≡ some r → rows_of article sort (r ∷ []) ≡ []
  unfolding of_article rows_of
  other_rows o n (ArticleRecord a) e = refl
  other_rows o n (PriceRecord r) e = go (same r.article article) refl
    where
      go : (b : Bool) → same r.article article ≡ b → cons_if (same r.article article && eqb r.sort sort) r [] ≡ []
      go true f = absurd (n (ap of_article e ∙ ap some (same_eq r.article article f)))
      go false f = rw f
  other_rows o n (RoundingRecord r) e = refl
  other_rows o n (PackagingRecord r) e = refl
  other_rows o n (SchemeRecord r) e = refl

-- ---- what is kept of an asked article

-- in the entry, of the records before `at`
pub record Kept (b : List ℕ) (article : List ℕ) (sort : ℕ) (e : Entry) (at : ℕ) : Type 0 where
  pub rows : Spanning (rows_of article sort) b 5 (rows_for e sort) at
  pub there : (e.found || is_some (article_of (records_left b at) article)) ≡ is_some (article_of (records_left b 5) article)

-- an entry that saw nothing yet
abbrev start : Span
start = record { first = 5; last = 5 }

abbrev unseen : Entry
unseen = record { found = false; sale = start; purchase = start }

module _ {b : List ℕ} (article : List ℕ) (sort : ℕ) where
  kept_start : Kept b article sort unseen 5
  kept_start = record { rows = go (eqb sort sale); there = refl }
    where
      go : (t : Bool) → Spanning (rows_of article sort) b 5 (cond t start start) 5
      go true = span_start (rows_gather article sort) (omega arith)
      go false = span_start (rows_gather article sort) (omega arith)

  module _ {e : Entry} {at : ℕ} (k : Kept b article sort e at) (w : Between b at) (h : at < length b) {end : ℕ} (stop : StopIs b at end) where
    abbrev here : Option Record
    here = whole kinded (part b (at + 2) end)

    article_next : {found hit : Bool} → found ≡ (e.found || hit) → Tests.article_of article here ≡ hit
        → (found || is_some (article_of (records_left b end) article)) ≡ is_some (article_of (records_left b 5) article)
    article_next {found} {hit} f i =
        ap (λ (x : Bool). x || is_some (article_of (records_left b end) article)) f
        ∙ or_assoc e.found hit (is_some (article_of (records_left b end) article))
        ∙ ap (λ (x : Bool). e.found || (x || is_some (article_of (records_left b end) article))) (sym i)
        ∙ ap (λ (x : Bool). e.found || x)
        (sym (ap (λ (rs : List Record). is_some (article_of rs article)) (pass_record w h stop) ∙ article_turn here (records_left b end) article))
        ∙ k.there

    -- a record of the article, or of none
    kept_its : Tests.article_of article here ≡ is_article here → {new : Entry} → EntryAfter e here at end new → Kept b article sort new end
    kept_its own {new} after = record { rows = go (eqb sort sale) refl; there = article_next after.found own }
      where
        go : (t : Bool) → eqb sort sale ≡ t → Spanning (rows_of article sort) b 5 (rows_for new sort) end
        go true t =
            rw t (span_turn (rows_gather article sort) (rw t at k.rows) w stop (pass_record w h stop)
            (its_rows article sort true t here) after.sale)
        go false t =
            rw t (span_turn (rows_gather article sort) (rw t at k.rows) w stop (pass_record w h stop)
            (its_rows article sort false t here) after.purchase)

    -- any other
    kept_other : (of_article here ≡ some article → ⊥) → Kept b article sort e end
    kept_other n = record {
      rows =
          span_turn (rows_gather article sort) k.rows w stop (pass_record w h stop) (λ f. other_rows article sort here n)
          (span_kept (rows_for e sort) at end {counts = false} refl);
      there = article_next (sym (or_false e.found)) (other_article article sort here n);
    }

-- ---- the walk

-- an article has one rank
one_rank : {bs : List ℕ} {names : List Name} {n : ℕ} {x : List ℕ} {i r : ℕ} → FoundAt bs names n x i → FoundAt bs names n x r → r ≡ i
one_rank {i = i} {r} f g = omega (arith, f.last r g.fits g.alike, g.last i f.fits f.alike)

pub record Walking (b bs : List ℕ) (names : List Name) (n : ℕ) (entries : List Entry) (rounded : Span) (noted : Noted) (last : Last) (at : ℕ) : Type 0 where
  pub few : n ≤ 500
  pub between : Between b at
  pub long : length entries ≡ 500
  pub rounding : Spanning roundings b 5 rounded at
  pub noting : Noting b 5 noted at
  pub name : LastIs b bs names n last
  pub each : (article : List ℕ) (sort : ℕ) (r : ℕ) → FoundAt bs names n article r → Kept b article sort (get_or entries r no_entry) at

module _ (b bs : List ℕ) (names : List Name) (n : ℕ) where
  pub walking_start : is_some (records b) ≡ true → Listed bs names n → {last : Last} → LastIs b bs names n last
      → Walking b bs names n (replicate 500 unseen) start Survey.none_noted last 5
  walking_start ok list name = record {
    name = name;
    few = list.few;
    between = pass_start b ok;
    long = length-replicate 500 unseen;
    rounding = span_start roundings_gather (omega arith);
    noting = noting_start;
    each = λ article sort r f. rw (get_or-replicate 500 r unseen no_entry (omega (arith, list.few, f.fits))) (kept_start article sort);
  }

  module _ {entries : List Entry} {rounded : Span} {noted : Noted} {last : Last} {at : ℕ} (inv : Walking b bs names n entries rounded noted last at) where
    pub walking_end : length b ≤ at → SeenAll b bs names n entries rounded noted
    unfolding article_of
    walking_end h =
        let none_left = pass_end inv.between h in
        record {
          each = λ article sort r f.
              let k = inv.each article sort r f in
              let found = (get_or entries r no_entry).found in
              record {
                there = sym (or_false found) ∙ ap (λ (rs : List Record). found || is_some (article_of rs article)) (sym none_left) ∙ k.there;
                window =
                    windows (span_end (rows_gather article sort) k.rows inv.between.fits none_left)
                    (span_end roundings_gather inv.rounding inv.between.fits none_left) (noting_end inv.noting none_left);
              };
        }

    pub walking_long : length noted.spots ≡ 16
    walking_long = inv.noting.long

    module _ (h : at < length b) where
      pub walking_here : RecordHere b at
      walking_here = pass_here inv.between h

      module _ {end : ℕ} (stop : StopIs b at end) where
        pub walking_record : RecordAt b (at + 2) end
        walking_record = record { low = omega (arith, stop.low); fits = stop.fits; accepted = record { ok = stop.ok } }

        pub walking_accepted : Accepted (take (end - (at + 2)) (drop (at + 2) b))
        walking_accepted = record { ok = stop.ok }

        pub walking_less : length b - end < length b - at
        walking_less = pass_less inv.between h stop

        abbrev record_here : Option Record
        record_here = whole kinded (part b (at + 2) end)

        module _ {next : Last} (name : LastAfter b bs names n (whole kinded (part b (at + 2) end)) next) where
          pub walking_rank : IfSome next.rank (λ i. i < 500)
          walking_rank = go next.rank name.is.found
            where
              go : (k : Std.Option ℕ) → FoundOr bs names n (part b next.from next.to) k → IfSome k (λ i. i < 500)
              go None f = tt
              go (Some i) f = omega (arith, f.fits, inv.few)

          placed : (x : List ℕ) → of_article record_here ≡ some x → FoundOr bs names n x next.rank
          placed x e = subst (λ (y : List ℕ). FoundOr bs names n y next.rank) (name.own x e) name.is.found

          kept : (k : Std.Option ℕ) → ((x : List ℕ) → of_article record_here ≡ some x → FoundOr bs names n x k) → (after : List Entry) → EntriesAfter entries k record_here at end after
              → (length after ≡ 500) × ((article : List ℕ) (sort : ℕ) (r : ℕ) → FoundAt bs names n article r → Kept b article sort (get_or after r no_entry) end)
          kept None found after e = (
            ap length e ∙ inv.long,
            λ article sort r f. rw e (kept_other article sort (inv.each article sort r f) inv.between h stop (λ i. (found article i).none r f.fits f.alike)),
          )
          kept (Some i) found after (e, seen, is) = (ap length is ∙ length-set entries i e ∙ inv.long, λ article sort r f. rw is (go article sort r f (ℕ_discrete r i)))
            where
              -- at its rank: the record is of that article, or of none
              own : (article : List ℕ) (sort : ℕ) → FoundAt bs names n article i → (x : Option (List ℕ)) → of_article record_here ≡ x
                  → Tests.article_of article record_here ≡ is_article record_here
              own article sort f none z = no_article article sort record_here z
              own article sort f (some x) z = its_article article sort record_here (z ∙ ap some (sym (found x z).alike ∙ f.alike))

              go : (article : List ℕ) (sort : ℕ) (r : ℕ) → FoundAt bs names n article r → Dec (r ≡ i) → Kept b article sort (get_or (set entries i e) r no_entry) end
              go article sort r f (yes z) =
                  let g : FoundAt bs names n article i = subst (FoundAt bs names n article) z f in
                  let k : i < length entries = omega (arith, inv.long, inv.few, g.fits) in
                  subst (λ (j : ℕ). Kept b article sort (get_or (set entries i e) j no_entry) end) (sym z)
                  (rw (get_or-set_same entries i e no_entry k) (kept_its article sort (inv.each article sort i g) inv.between h stop
                  (own article sort g (of_article record_here) refl) seen))
              go article sort r f (no d) =
                  rw (get_or-set_other entries i r e no_entry d)
                  (kept_other article sort (inv.each article sort r f) inv.between h stop (λ z. d (one_rank (found article z) f)))

          pub walking_turn : {after : List Entry} {span : Span}
              → EntriesAfter entries next.rank (whole kinded (take (end - (at + 2)) (drop (at + 2) b))) at end after
              → SpanAfter rounded (Tests.is_rounding (whole kinded (take (end - (at + 2)) (drop (at + 2) b)))) at end span
              → {more : Noted} → SpotNoted noted (Tests.is_rounding (whole kinded (take (end - (at + 2)) (drop (at + 2) b)))) at more
              → Walking b bs names n after span more next end
          walking_turn {after} seen rounds spot =
              let all = kept next.rank placed after seen in
              record {
                name = name.is;
                few = inv.few;
                between = pass_next inv.between h stop;
                long = all.0;
                rounding =
                    span_turn roundings_gather inv.rounding inv.between stop (pass_record inv.between h stop)
                    (roundings_outside (whole kinded (part b (at + 2) end))) rounds;
                noting = noting_turn inv.between stop (pass_record inv.between h stop) inv.noting spot;
                each = all.1;
              }

-- ---- what is told of each name

-- of those before j
pub record Telling (bs : List ℕ) (names : List Name) (n : ℕ) (entries : List Entry) (rounded : Span) (all : List Sighted) (j : ℕ) : Type 0 where
  pub long : length all ≡ 500
  pub done : (i : ℕ) → i < j → ToldAt bs names n entries rounded i (get_or all i no_sight)

module _ {bs : List ℕ} {names : List Name} {n : ℕ} {entries : List Entry} {rounded : Span} {all : List Sighted} {j : ℕ}
    (inv : Telling bs names n entries rounded all j) (list : Listed bs names n) (h : j < n) where
  pub telling_again : {r : ℕ} → FoundAt bs names n (name_at bs names j) r → {l : Sighted} → ToldIs (get_or entries r no_entry) (get_or names j no_name).sort rounded l
      → Telling bs names n entries rounded (set all j l) (j + 1)
  telling_again {r} found {l} told = record { long = length-set all j l ∙ inv.long; done = below_more _ _ before its }
    where
      before : (i : ℕ) → i < j → ToldAt bs names n entries rounded i (get_or (set all j l) i no_sight)
      before i k = subst (ToldAt bs names n entries rounded i) (sym (get_or-set_other all j i l no_sight (λ e. omega arith))) (inv.done i k)

      its : ToldAt bs names n entries rounded j (get_or (set all j l) j no_sight)
      its = subst (ToldAt bs names n entries rounded j) (sym (get_or-set_same all j l no_sight (omega (arith, inv.long, list.few)))) (record { rank = r; found = found; is = told.is })

-- what was seen and told is what is found of each
pub found_all : {b bs : List ℕ} {names : List Name} {entries : List Entry} {rounded : Span} {noted : Noted} → SeenAll b bs names (length names) entries rounded noted
    → {all : List Sighted} → ToldAll bs names (length names) entries rounded all → FoundAll b bs names (record { all = all; noted = noted })
found_all {b} {bs} {names} {entries} {rounded} {noted} seen {all} told = record {
  each = λ j h.
      let t = told.each j h in
      subst (λ (s : Sighted). FoundIs b (name_at bs names j) (get_or names j no_name).sort (found_in s noted)) (sym t.is)
      (seen.each (name_at bs names j) (get_or names j no_name).sort t.rank t.found);
}
