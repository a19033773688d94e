-- The spots of the roundings that have gone by: while they are few, they are all noted, in their order.
use Prim.Native.Nat.{ℕ, suc, ◌+◌, ◌≤◌, ◌<◌}
use mathlib.Core.Path.{◌≡◌, refl, sym, ◌∙◌, ap, subst}
use mathlib.Core.Bool.{Bool, true, false, cond, not, false≢true}
use mathlib.Core.List.{List, [], ◌∷◌, ◌++◌, map, append-nil, append_assoc}
use mathlib.Core.Option.{Option, some, none}
use native.Mathlib.Omega.{arith}
use lib.ListN.{length, take, set, replicate, length-set, length-replicate}
use lib.Seq.{take-suc-set}
use borrow.Author.Tests.{eqb-true}
use Rattle.rules.specs.Lists.{is_some, cons_some}
use Rattle.rules.specs.Layout.{whole}
use Rattle.rules.specs.Book.{Record, as_rounding, roundings}
use Rattle.rules.specs.BookLayout.{kinded}
use Rattle.rules.specs.declared.Rounding.{Rounding}
use Rattle.rules.proofs.ListLaws.{All}
use Rattle.rules.proofs.TestLaws.{so, not_so}
use Rattle.layout.specs.Reads.{part}
use Rattle.layout.specs.Ensures.{Says}
use Rattle.layout.specs.Records.{records_left, Between, StopIs}
use Rattle.records.specs.Tests.{is_rounding}
use Rattle.records.proofs.RoundingLaws.{rounding_told}
use Rattle.lookup.specs.Roundings.{rounding_held, rounding_there, RoundingSpot}
use Rattle.lookup.proofs.LookupLaws.{there_rounding}
use Rattle.survey.specs.declared.window.Noted.{Noted}
use Rattle.survey.specs.Window.{SpotNoted, NotedIn}
use Rattle.survey.specs.Survey.{none_noted}

-- ---- what the function computes

module _ (k : Noted) (o : Option Record) (at : ℕ) (long : length k.spots ≡ 16) {r : Bool} (said : Says (is_rounding o) r) where
  pub note_other : not r ≡ true → SpotNoted k (is_rounding o) at k
  note_other f = record { long = long; few = λ h. h; is = λ h. rw (said.is, not_so r f) }

  module _ (t : not r ≡ false) where
    pub note_one : k.count < 16 → SpotNoted k (is_rounding o) at (record { count = k.count + 1; spots = set k.spots k.count at })
    note_one l = record {
      long = length-set k.spots k.count at ∙ long;
      few = λ h. omega arith;
      is = λ h.
          let e : k.count + 1 ≡ suc k.count = omega arith in
          ap (λ (n : ℕ). take n (set k.spots k.count at)) e
          ∙ take-suc-set k.spots k.count at (omega (arith, long))
          ∙ ap (λ (b : Bool). cond b (take k.count k.spots ++ (at ∷ [])) (take k.count k.spots)) (sym (said.is ∙ so r t));
    }

    pub note_many : 16 ≤ k.count → SpotNoted k (is_rounding o) at (record { count = 17; spots = k.spots })
    note_many l = record { long = long; few = λ h. absurd (omega arith); is = λ h. absurd (omega arith) }

-- ---- the loop

-- at these spots stand the roundings before `at`, and with those that are left they are all
pub record SpotsSoFar (b : List ℕ) (from : ℕ) (spots : List ℕ) (at : ℕ) : Type 0 where
  pub there : All (RoundingSpot b) spots
  pub rest : map (rounding_there b) spots ++ roundings (records_left b at) ≡ roundings (records_left b from)

pub record Noting (b : List ℕ) (from : ℕ) (k : Noted) (at : ℕ) : Type 0 where
  pub long : length k.spots ≡ 16
  pub are : k.count ≤ 16 → SpotsSoFar b from (take k.count k.spots) at

map_append : {A B : Type 0} (f : A → B) (xs ys : List A) → map f (xs ++ ys) ≡ map f xs ++ map f ys
map_append f [] ys = refl
map_append f (x ∷ xs) ys = ap (λ zs. f x ∷ zs) (map_append f xs ys)

all_append : {A : Type 0} (P : A → Type 0) (xs : List A) (y : A) → All P xs → P y → All P (xs ++ (y ∷ []))
all_append P [] y h k = (k, tt)
all_append P (x ∷ xs) y h k = (h.0, all_append P xs y h.1 k)

abbrev record_at : List ℕ → ℕ → ℕ → Option Record
record_at b at end = whole kinded (part b (at + 2) end)

module _ {b : List ℕ} {at end : ℕ} (between : Between b at) (stop : StopIs b at end) where
  spot_here : is_rounding (record_at b at end) ≡ true → RoundingSpot b at
  spot_here t = record {
    low = omega (arith, between.low);
    here = there_rounding stop (record {
      kind = eqb-true _ 3 (sym (rounding_told (part b (at + 2) end) (record { ok = stop.ok })).is ∙ t);
      ok = stop.ok;
    });
  }

module _ {b : List ℕ} {from : ℕ} where
  pub noting_start : Noting b from none_noted from
  noting_start = record { long = length-replicate {A = ℕ} 16 0; are = λ h. record { there = tt; rest = refl } }

  module _ {at end : ℕ} (between : Between b at) (stop : StopIs b at end) (step : records_left b at ≡ cons_some (whole kinded (part b (at + 2) end)) (records_left b end)) where
    -- one record more
    module _ {spots : List ℕ} (inv : SpotsSoFar b from spots at) where
      past : roundings (records_left b at) ≡ roundings (records_left b end) → SpotsSoFar b from spots end
      past e = record { there = inv.there; rest = ap (λ xs. map (rounding_there b) spots ++ xs) (sym e) ∙ inv.rest }

      one : is_rounding (record_at b at end) ≡ true → roundings (records_left b at) ≡ rounding_there b at ∷ roundings (records_left b end) → SpotsSoFar b from (spots ++ (at ∷ [])) end
      one t e = record {
        there = all_append (RoundingSpot b) spots at inv.there (spot_here between stop t);
        rest =
            ap (λ xs. xs ++ roundings (records_left b end)) (map_append (rounding_there b) spots (at ∷ []))
            ∙ append_assoc (map (rounding_there b) spots) (rounding_there b at ∷ []) (roundings (records_left b end))
            ∙ ap (λ xs. map (rounding_there b) spots ++ xs) (sym e)
            ∙ inv.rest;
      }

      gone : SpotsSoFar b from (cond (is_rounding (record_at b at end)) (spots ++ (at ∷ [])) spots) end
      unfolding is_rounding rounding_held
      gone = go (record_at b at end) refl
        where
          kind : (r : Record) → record_at b at end ≡ some r → (x : Option Rounding) → as_rounding r ≡ x → SpotsSoFar b from (cond (is_rounding (record_at b at end)) (spots ++ (at ∷ [])) spots) end
          kind r e none f =
              let no : is_rounding (record_at b at end) ≡ false = ap is_rounding e ∙ ap is_some f in
              rw no (past (ap roundings (step ∙ ap (λ o. cons_some o (records_left b end)) e) ∙ ap (λ x. cons_some x (roundings (records_left b end))) f))
          kind r e (some x) f =
              let yes : is_rounding (record_at b at end) ≡ true = ap is_rounding e ∙ ap is_some f in
              let there : rounding_there b at ≡ x =
              ap (λ (k : ℕ). rounding_held (whole kinded (part b (at + 2) k))) (sym stop.is) ∙ ap rounding_held e ∙ rw f in
              rw yes (one yes (ap roundings (step ∙ ap (λ o. cons_some o (records_left b end)) e) ∙ ap (λ x. cons_some x (roundings (records_left b end))) f
              ∙ ap (λ x. x ∷ roundings (records_left b end)) (sym there)))

          go : (o : Option Record) → record_at b at end ≡ o → SpotsSoFar b from (cond (is_rounding (record_at b at end)) (spots ++ (at ∷ [])) spots) end
          go none e = absurd (false≢true (sym (ap is_some e) ∙ stop.ok))
          go (some r) e = kind r e (as_rounding r) refl

    pub noting_turn : {k : Noted} → Noting b from k at → {r : Noted} → SpotNoted k (is_rounding (record_at b at end)) at r → Noting b from r end
    noting_turn inv note = record {
      long = note.long;
      are = λ h. subst (λ xs. SpotsSoFar b from xs end) (sym (note.is h)) (gone (inv.are (note.few h)));
    }

  pub noting_end : {k : Noted} {at : ℕ} → Noting b from k at → records_left b at ≡ [] → NotedIn b from k
  noting_end {k} inv e = record {
    are = λ h.
        let f = inv.are h in
        record {
          fits = omega (arith, inv.long);
          there = f.there;
          are = sym (append-nil (map (rounding_there b) (take k.count k.spots))) ∙ ap (λ rs. map (rounding_there b) (take k.count k.spots) ++ roundings rs) (sym e) ∙ f.rest;
        };
  }
