-- The days that have gone by and those still to come make up the stretches of the period.
use Prim.Native.Nat.{ℕ, ◌+◌, ◌-◌, ◌≤◌, ◌<◌}
use mathlib.Core.Path.{◌≡◌, refl, sym, ◌∙◌, ap, subst}
use mathlib.Core.Bool.{Bool, true, false, not, cond, or-true}
use mathlib.Core.List.{List, [], ◌∷◌, ◌++◌, map, append_assoc}
use native.Mathlib.Omega.{arith}
use native.Mathlib.Numerals.{add-one}
use lib.Dec.{eqb}
use lib.ListN.{length, take, drop, get_or, set, replicate, length-set, length-replicate, drop_of_length-le}
use lib.Seq.{take-suc, drop-cons, take-set-le, get_or-set_same}
use Rattle.rules.specs.Lists.{cons_if}
use Rattle.rules.specs.Calendar.{Outcome, as_outcome, Stretch, same_outcome, stretches, most_days}
use Rattle.rules.specs.declared.Outcome as Coded
use Rattle.rules.proofs.WalkLaws as Walk
use Rattle.layout.proofs.StoreLaws.{all_same, behind_store}
use Rattle.outcomes.specs.Outcomes.{no_outcome}
use Rattle.stretches.specs.declared.Stretch as Declared
use Rattle.stretches.specs.declared.turns.Turning.{Turning}
use Rattle.stretches.specs.declared.turns.Turning.TheVariants.{Grown, Begun}
use Rattle.stretches.specs.Stretches.{as_stretch, no_stretch, in_hand, fresh, Opened, Told, Turned, TurnedBy, Marked, Known, Lists, Going, ListsBy, GoingBy}

fresh_most : (t : Turning) → fresh t ≤ 1
fresh_most (Grown r) = omega arith
fresh_most (Begun r) = omega arith

map_snoc : (xs : List Declared.Stretch) (r : Declared.Stretch) → map as_stretch (xs ++ (r ∷ [])) ≡ map as_stretch xs ++ (as_stretch r ∷ [])
map_snoc [] r = refl
map_snoc (x ∷ xs) r = ap (λ ss. as_stretch x ∷ ss) (map_snoc xs r)

-- one more of the list counts
front_more : (list : List Declared.Stretch) (n : ℕ) → n < length list → map as_stretch (take (n + 1) list) ≡ map as_stretch (take n list) ++ (as_stretch (get_or list n no_stretch) ∷ [])
front_more list n h = ap (λ (k : ℕ). map as_stretch (take k list)) (add-one n) ∙ ap (map as_stretch) (take-suc list n no_stretch h) ∙ map_snoc (take n list) (get_or list n no_stretch)

module _ {f : ℕ → Outcome} {dates : List ℕ} {marks : List Bool} where
  go_start : {r : Declared.Stretch} → Marked f dates marks → as_stretch r ≡ Walk.opened (get_or dates 0 0) (f (get_or dates 0 0)) → Going f dates marks (set (replicate 1096 no_stretch) 0 r) 0 1
  go_start {r} m o =
      let list : List Declared.Stretch = replicate 1096 no_stretch in
      let l : length list ≡ most_days = length-replicate 1096 no_stretch in
      let here : get_or (set list 0 r) 0 no_stretch ≡ r = get_or-set_same list 0 r no_stretch (omega arith) in
      let begun : as_stretch (get_or (set list 0 r) 0 no_stretch) ≡ Walk.opened (get_or dates 0 0) (f (get_or dates 0 0)) = ap as_stretch here ∙ o in
      record {
        marked = m;
        low = omega arith;
        place = omega arith;
        most = m.some_day;
        long = length-set list 0 r ∙ l;
        behind = behind_store list 0 r no_stretch (λ i k. all_same 1096 i no_stretch);
        hand = ap (λ s. s.outcome) begun;
        goes =
            ap (λ s. Walk.walked f s (drop 1 dates)) begun
            ∙ Walk.walk_is f (get_or dates 0 0) (drop 1 dates)
            ∙ ap (stretches f) (sym (drop-cons dates 0 0 m.some_day));
      }

  module _ {list : List Declared.Stretch} {n i : ℕ} (g : Going f dates marks list n i) where
    abbrev hand : Declared.Stretch
    hand = get_or list n no_stretch

    module _ (h : i < length dates) where
      abbrev d : ℕ
      d = get_or dates i 0

      go_stays : get_or marks i false ≡ false → as_outcome hand.outcome ≡ f d
      go_stays e =
          let k : i - 1 + 1 ≡ i = omega (arith, g.low) in
          g.hand
          ∙ g.marked.stays (i - 1) (omega (arith, g.low)) (ap (λ (j : ℕ). get_or marks j false) k ∙ e)
          ∙ ap (λ (j : ℕ). f (get_or dates j 0)) k

      walked_on : Walk.walked f (as_stretch hand) (drop i dates)
          ≡ cons_if (not (same_outcome (as_outcome hand.outcome) (f d))) (as_stretch hand) (Walk.walked f (Walk.turned (as_stretch hand) d (f d)) (drop (i + 1) dates))
      unfolding Walk.walked
      walked_on = ap (Walk.walked f (as_stretch hand)) (drop-cons dates i 0 h ∙ ap (λ (j : ℕ). d ∷ drop j dates) (sym (add-one i)))

      module _ {t : Turning} (w : Turned f hand d t) where
        abbrev list' : List Declared.Stretch
        list' = set list (n + fresh t) (in_hand t)

        in_list : n + fresh t < length list
        in_list = omega (arith, fresh_most t, g.place, g.long, g.marked.few)

        here : get_or list' (n + fresh t) no_stretch ≡ in_hand t
        here = get_or-set_same list (n + fresh t) (in_hand t) no_stretch in_list

        closed : (s : Bool) → same_outcome (as_outcome hand.outcome) (f d) ≡ s → (ss : List Stretch)
            → map as_stretch (take (n + fresh t) list) ++ ss ≡ map as_stretch (take n list) ++ cons_if (not s) (as_stretch hand) ss
        closed true e ss =
            let y : fresh t ≡ 0 = w.fresh_is ∙ ap (λ (x : Bool). cond x 0 1) e in
            let z : n + fresh t ≡ n = omega arith in
            ap (λ (k : ℕ). map as_stretch (take k list) ++ ss) z
        closed false e ss =
            let y : fresh t ≡ 1 = w.fresh_is ∙ ap (λ (x : Bool). cond x 0 1) e in
            let z : n + fresh t ≡ n + 1 = omega arith in
            ap (λ (k : ℕ). map as_stretch (take k list) ++ ss) z
            ∙ ap (λ l. l ++ ss) (front_more list n (omega (arith, g.place, g.long, g.marked.few)))
            ∙ append_assoc (map as_stretch (take n list)) (as_stretch hand ∷ []) ss

        go_turn : Going f dates marks list' (n + fresh t) (i + 1)
        go_turn = record {
          marked = g.marked;
          low = omega arith;
          place = omega (arith, fresh_most t, g.place);
          most = omega arith;
          long = length-set list (n + fresh t) (in_hand t) ∙ g.long;
          behind = behind_store list (n + fresh t) (in_hand t) no_stretch (λ i k. g.behind i (omega arith));
          hand =
              let k : i + 1 - 1 ≡ i = omega arith in
              ap (λ (r : Declared.Stretch). as_outcome r.outcome) here ∙ ap (λ s. s.outcome) w.is ∙ turned_outcome ∙ ap (λ (j : ℕ). f (get_or dates j 0)) (sym k);
          goes =
              ap (λ l. map as_stretch l ++ Walk.walked f (as_stretch (get_or list' (n + fresh t) no_stretch)) (drop (i + 1) dates)) (take-set-le (n + fresh t) list (n + fresh t) (in_hand t) (omega arith))
              ∙ ap (λ s. map as_stretch (take (n + fresh t) list) ++ Walk.walked f s (drop (i + 1) dates)) (ap as_stretch here ∙ w.is)
              ∙ closed (same_outcome (as_outcome hand.outcome) (f d)) refl (Walk.walked f (Walk.turned (as_stretch hand) d (f d)) (drop (i + 1) dates))
              ∙ ap (λ ss. map as_stretch (take n list) ++ ss) (sym walked_on)
              ∙ g.goes;
        }
          where
            turned_outcome : (Walk.turned (as_stretch hand) d (f d)).outcome ≡ f d
            turned_outcome = unfold Walk.turned in refl

    go_end : length dates ≤ i → Lists (stretches f dates) (record { list = list; n = n + 1 })
    unfolding Walk.walked
    go_end h = record {
      long = g.long;
      few = omega (arith, g.place, g.most, g.marked.few);
      is =
          front_more list n (omega (arith, g.place, g.most, g.long, g.marked.few))
          ∙ ap (λ ds. map as_stretch (take n list) ++ Walk.walked f (as_stretch hand) ds) (sym (drop_of_length-le dates h))
          ∙ g.goes;
      behind = λ i k. g.behind i (omega arith);
    }

-- ---- whatever the outcomes of days are, as long as they are known

module _ (dates : List ℕ) (marks : List Bool) (outcomes : List Coded.Outcome) where
  pub by_start : 0 < length dates → length dates ≤ most_days → {r : Declared.Stretch} → Opened (get_or outcomes 0 no_outcome) (get_or dates 0 0) r
      → GoingBy dates marks outcomes (set (replicate 1096 no_stretch) 0 r) 0 1
  by_start some_day few {r} o = record {
    few = few;
    low = omega arith;
    place = omega arith;
    most = some_day;
    long = length-set (replicate 1096 no_stretch) 0 r ∙ length-replicate 1096 no_stretch;
    of = λ f k. go_start k.marked (o.is ∙ ap (Walk.opened (get_or dates 0 0)) (k.priced.each 0 some_day refl));
  }

  module _ {list : List Declared.Stretch} {n i : ℕ} (g : GoingBy dates marks outcomes list n i) where
    module _ (h : i < length dates) where
      told : (f : ℕ → Outcome) → Known f dates marks outcomes → Told f (get_or list n no_stretch) (get_or dates i 0) (get_or marks i false) (get_or outcomes i no_outcome)
      told f k = record {
        stays = go_stays (g.of f k) h;
        priced = λ e. k.priced.each i h (rw (e, or-true (eqb i 0)));
      }

      by_turn : {t : Turning} → TurnedBy (get_or list n no_stretch) (get_or dates i 0) (get_or marks i false) (get_or outcomes i no_outcome) t
          → GoingBy dates marks outcomes (set list (n + fresh t) (in_hand t)) (n + fresh t) (i + 1)
      by_turn {t} w = record {
        few = g.few;
        low = omega arith;
        place = omega (arith, fresh_most t, g.place);
        most = omega arith;
        long = length-set list (n + fresh t) (in_hand t) ∙ g.long;
        of = λ f k. go_turn (g.of f k) h (w.of f (told f k));
      }

      pub by_grown : {r : Declared.Stretch} → TurnedBy (get_or list n no_stretch) (get_or dates i 0) (get_or marks i false) (get_or outcomes i no_outcome) (Grown r)
          → GoingBy dates marks outcomes (set list n r) n (i + 1)
      by_grown {r} w =
          let e : n + 0 ≡ n = omega arith in
          subst (λ (k : ℕ). GoingBy dates marks outcomes (set list k r) k (i + 1)) e (by_turn w)

      pub by_begun : {r : Declared.Stretch} → TurnedBy (get_or list n no_stretch) (get_or dates i 0) (get_or marks i false) (get_or outcomes i no_outcome) (Begun r)
          → GoingBy dates marks outcomes (set list (n + 1) r) (n + 1) (i + 1)
      by_begun w = by_turn w

    pub by_end : length dates ≤ i → ListsBy dates marks outcomes (record { list = list; n = n + 1 })
    by_end h = record { few = omega (arith, g.few, g.place, g.most); of = λ f k. go_end (g.of f k) h }
