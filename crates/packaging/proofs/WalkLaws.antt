-- The walk over the records: the spot of each place keeps the first record that belongs there.
use Prim.Native.Nat.{ℕ, ◌+◌, ◌-◌, ◌≤◌, ◌<◌}
use mathlib.Core.Path.{◌≡◌, refl, sym, ◌∙◌, ap, subst}
use mathlib.Core.Bool.{Bool, true, false, ◌||◌}
use mathlib.Core.List.{List, []}
use mathlib.Core.Option.{Option, some, none}
use Rattle.std.specs.Prelude.{Option as Maybe, Some, None, Ok, Err}
use Rattle.std.specs.Option.{option_or}
use native.Mathlib.Omega.{arith}
use lib.Dec.{eqb}
use lib.ListN.{length, get_or, set, replicate, length-set, length-replicate, get_or-replicate}
use lib.Seq.{get_or-set_same, get_or-set_other}
use borrow.Author.Tests.{eqb-true, eqb-false}
use Rattle.rules.specs.Question.{Granted}
use Rattle.rules.specs.Lists.{is_some, cons_some}
use Rattle.rules.specs.Layout.{whole}
use Rattle.rules.specs.Book.{Record, Pack, article_of}
use Rattle.rules.specs.BookLayout.{kinded, star}
use Rattle.rules.specs.declared.Part.{Part}
use Rattle.rules.specs.declared.Refusal.TheVariants.{NoArticle}
use Rattle.records.specs.Asks.{Accepted}
use Rattle.records.specs.Ensures.{bytes_in}
use Rattle.rules.proofs.TestLaws.{or_false, or_assoc}
use Rattle.layout.specs.Reads.{part}
use Rattle.layout.specs.Ensures.{Says}
use Rattle.layout.specs.Records.{records_left, Between, RecordHere, StopIs}
use Rattle.book.proofs.WalkLaws.{pass_here, pass_next, pass_record, pass_end}
use Rattle.records.specs.Tests as Tests
use Rattle.records.proofs.TestLaws.{article_turn}
use Rattle.grants.specs.Table.{GrantsAre}
use Rattle.packaging.specs.Spots.{place_for, PlaceFor, first_at, PackThere, SpotIs, NoPack, OnePack, Keeps, FoundIs, Known, Unknown}
use Rattle.packaging.proofs.SpotLaws.{first_passed, first_here}

-- ---- a spot

-- with the first of the records left, if nothing is kept yet, the spot will have the first of all
pub data Keeping (b : List ℕ) : Maybe Part → (all left : Option Pack) → Type 0 where
  Open : {all left : Option Pack} → left ≡ all → Keeping b None all left
  Shut : {all left : Option Pack} (p : Part) (x : Pack) → PackThere b p x → all ≡ some x → Keeping b (Some p) all left

-- a record that belongs elsewhere
keeping_past : {b : List ℕ} {p : Maybe Part} {all left left' : Option Pack} → left ≡ left' → Keeping b p all left → Keeping b p all left'
keeping_past e (Open f) = Open (sym e ∙ f)
keeping_past e (Shut p x t f) = Shut p x t f

-- one that belongs here
keeping_here : {b : List ℕ} {old : Maybe Part} {here : Part} {all left left' : Option Pack} (x : Pack) → PackThere b here x → left ≡ some x → Keeping b old all left
    → Keeping b (option_or old (Some here)) all left'
keeping_here {here = here} x there e (Open f) = Shut here x there (sym f ∙ e)
keeping_here x there e (Shut p y t f) = Shut p y t f

keeping_end : {b : List ℕ} {p : Maybe Part} {all left : Option Pack} → left ≡ none → Keeping b p all left → SpotIs b p all
keeping_end {b} e (Open f) = subst (SpotIs b None) (sym e ∙ f) NoPack
keeping_end {b} e (Shut p x t f) = subst (SpotIs b (Some p)) (sym f) (OnePack p x t)

-- ---- all spots of an article

-- the spot of place i, with these records left
abbrev pub KeepingAt : List ℕ → List Granted → List ℕ → Maybe Part → List Record → ℕ → Type 0
KeepingAt b names article p rs i = Keeping b p (first_at names article (records_left b 5) i) (first_at names article rs i)

pub record KeepingAll (b : List ℕ) (names : List Granted) (article : List ℕ) (ps : List (Maybe Part)) (at : ℕ) : Type 0 where
  pub long : length ps ≡ 34
  pub each : (i : ℕ) → i < 33 → KeepingAt b names article (get_or ps i None) (records_left b at) i

module _ {b : List ℕ} {names : List Granted} {article : List ℕ} where
  keep_start : KeepingAll b names article (replicate 34 None) 5
  keep_start =
      record {
        long = length-replicate {A = Maybe Part} 34 None;
        each = λ i l.
            let k : i < 34 = omega arith in
            rw (get_or-replicate {A = Maybe Part} 34 i None None k) (Open refl);
      }

  module _ {ps : List (Maybe Part)} {at : ℕ} (inv : KeepingAll b names article ps at) where
    module _ {end : ℕ} (stop : StopIs b at end) (step : records_left b at ≡ cons_some (whole kinded (part b (at + 2) end)) (records_left b end)) where
      keep_turn : {k : ℕ} → k < 34 → k ≡ place_for names article (whole kinded (part b (at + 2) end))
          → KeepingAll b names article (set ps k (option_or (get_or ps k None) (Some (record { at = at + 2; size = end - (at + 2) })))) end
      keep_turn {k} below n =
          record { long = length-set ps k new ∙ inv.long; each = λ i l. go i l (eqb k i) refl }
        where
          here : Part
          here = record { at = at + 2; size = end - (at + 2) }

          new : Maybe Part
          new = option_or (get_or ps k None) (Some here)

          o : Option Record
          o = whole kinded (part b (at + 2) end)

          before : (i : ℕ) → i < 33 → KeepingAt b names article (get_or ps i None) (cons_some o (records_left b end)) i
          before i l = subst (λ (rs : List Record). KeepingAt b names article (get_or ps i None) rs i) step (inv.each i l)

          go : (i : ℕ) → i < 33 → (t : Bool) → eqb k i ≡ t → KeepingAt b names article (get_or (set ps k new) i None) (records_left b end) i
          go i l true e =
              let f : k ≡ i = eqb-true k i e in
              let x = first_here names article (records_left b end) i l o (sym n ∙ f) in
              let inside : k < length ps = omega (arith, below, inv.long) in
              let now : get_or (set ps k new) i None ≡ option_or (get_or ps i None) (Some here) =
              ap (λ (j : ℕ). get_or (set ps k new) j None) (sym f) ∙ get_or-set_same ps k new None inside ∙ ap (λ (j : ℕ). option_or (get_or ps j None) (Some here)) f in
              let there : PackThere b here x.0 = record { fits = omega (arith, stop.low, stop.fits); is = x.1 } in
              rw now (keeping_here x.0 there x.2 (before i l))
          go i l false e =
              let f : k ≡ i → ⊥ = eqb-false k i e in
              let past = first_passed names article (records_left b end) i o (λ g. f (n ∙ g)) in
              rw (get_or-set_other ps k i new None (λ g. f (sym g))) (keeping_past past (before i l))

    keep_end : records_left b at ≡ [] → Keeps b ps (first_at names article (records_left b 5))
    unfolding first_at
    keep_end e = record { long = inv.long; each = λ i l. keeping_end (ap (λ (rs : List Record). first_at names article rs i) e) (inv.each i l) }

-- ---- the loop

-- for the names that the table is of, of which there are n
abbrev Keeper : (b table : List ℕ) (n : ℕ) (article : List ℕ) (ss : List (Maybe Part)) (at : ℕ) → Type 0
Keeper b table n article ss at = (names : List Granted) → GrantsAre names table → length names ≡ n → KeepingAll b names article ss at

pub record Walking (b article table : List ℕ) (n : ℕ) (own any : List (Maybe Part)) (known : Bool) (at : ℕ) : Type 0 where
  pub between : Between b at
  pub of_own : Keeper b table n article own at
  pub of_any : Keeper b table n star any at
  pub found : (known || is_some (article_of (records_left b at) article)) ≡ is_some (article_of (records_left b 5) article)

module _ (b article table : List ℕ) (n : ℕ) where
  pub walk_start : Between b 5 → Walking b article table n (replicate 34 None) (replicate 34 None) false 5
  walk_start w = record {
    between = w;
    of_own = λ names g c. keep_start;
    of_any = λ names g c. keep_start;
    found = refl;
  }

  module _ {own any : List (Maybe Part)} {known : Bool} {at : ℕ} (inv : Walking b article table n own any known at) where
    pub walk_here : at < length b → RecordHere b at
    walk_here h = pass_here inv.between h

    module _ (h : at < length b) {end : ℕ} (stop : StopIs b at end) {t : List ℕ} (e : t ≡ bytes_in b (record { at = at + 2; size = end - (at + 2) })) where
      pub walk_accepted : Accepted t
      walk_accepted = rw e (record { ok = stop.ok })

      pub walk_turn : {i j : ℕ} {r : Bool} → PlaceFor table n article (whole kinded t) i → PlaceFor table n star (whole kinded t) j
          → Says (Tests.article_of article (whole kinded t)) r
          → Walking b article table n (set own i (option_or (get_or own i None) (Some (record { at = at + 2; size = end - (at + 2) }))))
          (set any j (option_or (get_or any j None) (Some (record { at = at + 2; size = end - (at + 2) })))) (known || r) end
      walk_turn {i} {j} {r} p m s =
          let step = pass_record inv.between h stop in
          let o = whole kinded (part b (at + 2) end) in
          let same : whole kinded t ≡ o = ap (whole kinded) e in
          record {
            between = pass_next inv.between h stop;
            of_own = λ names g l. keep_turn (inv.of_own names g l) stop step p.below ((p.of names g l) ∙ ap (place_for names article) same);
            of_any = λ names g l. keep_turn (inv.of_any names g l) stop step m.below ((m.of names g l) ∙ ap (place_for names star) same);
            found =
                or_assoc known r (is_some (article_of (records_left b end) article))
                ∙ ap (λ x. known || (x || is_some (article_of (records_left b end) article))) (sym s.is ∙ ap (Tests.article_of article) same)
                ∙ ap (λ x. known || x) (sym (ap (λ rs. is_some (article_of rs article)) step ∙ article_turn o (records_left b end) article))
                ∙ inv.found;
          }

    module _ (h : length b ≤ at) where
      known_is : is_some (article_of (records_left b 5) article) ≡ known
      unfolding article_of
      known_is = sym (sym (or_false known) ∙ ap (λ (rs : List Record). known || is_some (article_of rs article)) (sym (pass_end inv.between h)) ∙ inv.found)

      pub walk_end : known ≡ true → FoundIs b article table n (Ok (record { own = own; any = any }))
      walk_end k =
          Known (record {
            own = λ names g c. keep_end (inv.of_own names g c) (pass_end inv.between h);
            any = λ names g c. keep_end (inv.of_any names g c) (pass_end inv.between h);
            known = known_is ∙ k;
          })

      pub walk_unknown : known ≡ false → FoundIs b article table n (Err NoArticle)
      walk_unknown k = Unknown (known_is ∙ k)
