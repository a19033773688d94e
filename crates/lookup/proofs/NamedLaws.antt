-- The first record of a kind with a name, by spots: each turn, the hit, and the end; and what is found is what the definitions find.
use Prim.Native.Nat.{ℕ, ◌+◌, ◌-◌, ◌≤◌, ◌<◌}
use mathlib.Core.Path.{◌≡◌, refl, sym, ◌∙◌, ap, subst}
use mathlib.Core.Bool.{Bool, true, false, false≢true}
use mathlib.Core.List.{List, [], ◌∷◌}
use mathlib.Core.Option.{Option, some, none}
use Rattle.std.specs.Prelude.{Option as Maybe, Some, None}
use native.Mathlib.Omega.{arith}
use lib.ListN.{length}
use Rattle.rules.specs.Lists.{same, pick, first, cons_some, is_some, if_some}
use Rattle.rules.specs.Layout.{whole}
use Rattle.rules.specs.Book.{Record, Scheme, as_article, as_scheme, article_of, scheme_of}
use Rattle.rules.specs.BookLayout.{kinded, records}
use Rattle.rules.specs.declared.Part.{Part}
use Rattle.rules.proofs.ListLaws.{All}
use Rattle.rules.proofs.KindLaws.{Kind, list_of, article_kind, scheme_kind, read_only}
use Rattle.layout.specs.Reads.{part}
use Rattle.layout.specs.Ensures.{Says}
use Rattle.layout.specs.Records.{listed, records_of, records_left, RecordHere, StopIs}
use Rattle.book.proofs.WalkLaws.{book_records, all_left, pass_start, pass_end, pass_here, pass_less, pass_next, pass_record}
use Rattle.records.specs.Asks.{Accepted}
use Rattle.records.specs.Ensures.{Bounded}
use Rattle.records.specs.Tests.{starts_with}
use Rattle.records.proofs.FieldLaws.{starts_kind}
use Rattle.records.proofs.BoundLaws.{book_bounds}
use Rattle.records.proofs.TestLaws.{article_read, scheme_read}
use Rattle.lookup.specs.Ensures.{is_named, FirstNamed, Seeking, article_held, scheme_held}

-- ---- the walk

module _ (kind : ℕ) (name : List ℕ) where
  passed : (o : Option Record) (rs : List Record) → starts_with kind name o ≡ false → first (is_named kind name) (cons_some o rs) ≡ first (is_named kind name) rs
  passed none rs e = refl
  passed (some r) rs e = rw e

  hit : (o : Option Record) (rs : List Record) → starts_with kind name o ≡ true → first (is_named kind name) (cons_some o rs) ≡ o
  unfolding starts_with
  hit none rs e = absurd (false≢true e)
  hit (some r) rs e = rw e

module _ {b : List ℕ} {kind : ℕ} {name : List ℕ} where
  pub seek_start : is_some (records b) ≡ true → Seeking b kind name 5
  seek_start ok = record { between = pass_start b ok; rest = ap (λ o. first (is_named kind name) (listed o)) (all_left b ok) }

  module _ {at : ℕ} (l : Seeking b kind name at) where
    pub seek_none : length b ≤ at → FirstNamed b kind name None
    seek_none h = record { is = sym l.rest ∙ ap (first (is_named kind name)) (pass_end l.between h); stands = tt }

    module _ (h : at < length b) where
      pub seek_here : RecordHere b at
      seek_here = pass_here l.between h

      module _ {e : ℕ} (s : StopIs b at e) where
        pub seek_less : length b - e < length b - at
        seek_less = pass_less l.between h s

        pub seek_accepted : Accepted (part b (at + 2) e)
        seek_accepted = record { ok = s.ok }

        module _ {r : Bool} (t : Says (starts_with kind name (whole kinded (part b (at + 2) e))) r) where
          pub seek_next : r ≡ false → Seeking b kind name e
          seek_next f =
              record {
                between = pass_next l.between h s;
                rest = sym (passed kind name (whole kinded (part b (at + 2) e)) (records_left b e) (t.is ∙ f)) ∙ ap (first (is_named kind name)) (sym (pass_record l.between h s)) ∙ l.rest;
              }

          pub seek_found : r ≡ true → FirstNamed b kind name (Some (record { at = at + 2; size = e - (at + 2) }))
          seek_found f =
              record {
                is = sym l.rest ∙ ap (first (is_named kind name)) (pass_record l.between h s) ∙ hit kind name (whole kinded (part b (at + 2) e)) (records_left b e) (t.is ∙ f);
                stands = record { fits = omega (arith, s.low, s.fits); kind_is = starts_kind name seek_accepted t f };
              }

-- ---- what is found

-- of records of any kind that are told by a name, the first that the list has is the first that the walk meets
module _ {X : Type 0} (k : Kind X) (kind : ℕ) (name : List ℕ) (name_of : X → List ℕ)
    (told : (r : Record) → is_named kind name r ≡ if_some (k.read r) false λ x. same (name_of x) name) where
  abbrev named : X → Bool
  named x = same (name_of x) name

  in_front : (b : Bool) (r : Record) (x : X) (o : Option X) (p : Option Record) → k.read r ≡ some x → o ≡ if_some p none k.read
      → pick b x o ≡ if_some (pick b r p) none k.read
  in_front true r x o p e h = sym e
  in_front false r x o p e h = h

  first_read : (rs : List Record) → first named (list_of k rs) ≡ if_some (first (is_named kind name) rs) none k.read
  first_read [] = refl
  first_read (r ∷ rs) = go (k.read r) refl (first_read rs)
    where
      go : (o : Option X) → k.read r ≡ o → first named (list_of k rs) ≡ if_some (first (is_named kind name) rs) none k.read
          → first named (cons_some o (list_of k rs)) ≡ if_some (pick (is_named kind name r) r (first (is_named kind name) rs)) none k.read
      go none e h = rw (told r, e) h
      go (some x) e h = rw (told r, e) (in_front (named x) r x (first named (list_of k rs)) (first (is_named kind name) rs) e h)

article_first : (number : List ℕ) (rs : List Record) → article_of rs number ≡ if_some (first (is_named 1 number) rs) none as_article
unfolding article_of
article_first number rs = first_read article_kind 1 number (λ a. a.number) (article_read number) rs

scheme_first : (id : List ℕ) (rs : List Record) → scheme_of rs id ≡ if_some (first (is_named 5 id) rs) none as_scheme
unfolding scheme_of
scheme_first id rs = first_read scheme_kind 5 id (λ s. s.id) (scheme_read id) rs

pub article_found : {b number : List ℕ} {r : Maybe Part} → FirstNamed b 1 number r → article_of (records_of b) number ≡ article_held b r
article_found {b} {number} p = article_first number (records_of b) ∙ ap (λ o. if_some o none as_article) p.is

pub scheme_found : {b id : List ℕ} {r : Maybe Part} → FirstNamed b 5 id r → scheme_of (records_of b) id ≡ scheme_held b r
scheme_found {b} {id} p = scheme_first id (records_of b) ∙ ap (λ o. if_some o none as_scheme) p.is

-- ---- an empty id

-- no scheme has one
unnamed : (r : Record) → Bounded r → is_named 5 [] r ≡ false
unnamed r h = scheme_read [] r ∙ go (as_scheme r) refl
  where
    not_empty : (xs : List ℕ) → 1 ≤ length xs → same xs [] ≡ false
    not_empty [] h = absurd (omega arith)
    not_empty (x ∷ xs) h = refl

    go : (o : Option Scheme) → as_scheme r ≡ o → if_some o false (λ s. same s.id []) ≡ false
    go none e = refl
    go (some s) e = not_empty s.id (subst Bounded (read_only scheme_kind r s e) h).named

none_unnamed : (rs : List Record) → All Bounded rs → first (is_named 5 []) rs ≡ none
none_unnamed [] hs = refl
none_unnamed (r ∷ rs) hs = rw (unnamed r hs.0) (none_unnamed rs hs.1)

pub empty_named : (b : List ℕ) → is_some (records b) ≡ true → FirstNamed b 5 [] None
empty_named b ok = record { is = none_unnamed (records_of b) (book_bounds b (book_records b ok)); stands = tt }
