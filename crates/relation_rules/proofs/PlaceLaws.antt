-- The place of a refusal: what stands before it is the beginning of a text of the grammar, and with the byte at it, it is not.
use Prim.Native.Nat.{ℕ, suc, ◌≤◌}
use mathlib.Core.Path.{◌≡◌, refl, sym, ◌∙◌, ap, subst}
use mathlib.Core.Bool.{Bool, true, false, not, false≢true}
use mathlib.Core.List.{List, [], ◌∷◌, ◌++◌}
use mathlib.Core.Option.{Option, some, none}
use Rattle.rules.specs.Letters.{text}
use Rattle.relation_rules.specs.Grammar.{Chain, Assignment, OrChain, AndChain, token_of, goes_on, past, is_blank, in_quotes, reserved}
use Rattle.rules.specs.PlacedRefusals.{Done, RefusedAt}
use Rattle.relation_rules.specs.Reader.{Part, State, Start, AtVariable, AtBecomes, AtValue, AtCondition, AtSpecified, AtOperand, AtSign, AtIn, AtOpen, AtListed, AtComma, AtSingle, next, complete, take, viable, Spot, Between, Inside, Step, Go, Stop, Deep, too_deep, beginning, begin, behind, begin_in, going, step, final, or_cut, onward, run}
use Rattle.relation_rules.proofs.TokenEnds.{viable_ended, ends_at_blank}
use Rattle.relation_rules.proofs.SoundLaws.{refused_fine, number_of, place_of}
use Rattle.relation_rules.proofs.DepthLaws.{step_more}
use Rattle.relation_rules.proofs.ReadLaws.{blank_read, token_read_on, token_ended, is_behind}

-- ---- steps and refusals apart

spot_or : Spot → Step → Spot
spot_or a (Go b) = b
spot_or a Stop = a
spot_or a Deep = a

went : (a b : Spot) → Go a ≡ Go b → a ≡ b
unfolding spot_or
went a b e = ap (spot_or a) e

abbrev goes : Step → Bool
goes (Go a) = true
goes Stop = false
goes Deep = false

pub stop_go : (a : Spot) → Stop ≡ Go a → ⊥
stop_go a e = false≢true (ap goes e)

pub deep_go : (a : Spot) → Deep ≡ Go a → ⊥
deep_go a e = false≢true (ap goes e)

-- the bytes of a token so far may go on
abbrev pub Good : Spot → Type 0
Good (Between q) = Unit {0}
Good (Inside q from []) = ⊥
Good (Inside q from (b ∷ x)) = viable q (b ∷ x) ≡ true

-- ---- from any state between two tokens the text can be ended

-- what closes the open parentheses
abbrev closings : List Part → List ℕ
closings [] = []
closings (p ∷ ps) = text ") " ++ closings ps

abbrev finish : State → List ℕ
finish (Start d) = text "$VARCOND='A'"
finish (AtVariable d p) = text "='A'"
finish (AtBecomes d p) = text "'A'"
finish (AtValue d p v) = []
finish (AtCondition w p) = text "1=1 " ++ closings w.outer
finish (AtSpecified w p) = text "A " ++ closings w.outer
finish (AtOperand w p x) = text "=1 " ++ closings w.outer
finish (AtSign w p x s) = text "1 " ++ closings w.outer
finish (AtIn w p n) = text "(1) " ++ closings w.outer
finish (AtOpen w p n) = text "1) " ++ closings w.outer
finish (AtListed w p n cs) = text ") " ++ closings w.outer
finish (AtComma w p n cs) = text "1) " ++ closings w.outer
finish (AtSingle w os a) = closings w.outer

module _ (limit : ℕ) where
  record Ends (n : ℕ) (at : Spot) (s : List ℕ) : Type 0 where
    tree : Chain Assignment
    read : run limit n at s ≡ Done tree

  closes : (d : Option (Chain Assignment)) (p : ℕ) (v : List ℕ) (ps : List Part) (os : Option OrChain) (a : AndChain) (n : ℕ)
      → Ends n (Between (AtSingle (record { done = d; place = p; value = v; outer = ps }) os a)) (closings ps)
  unfolding run step begin viable next take behind token_of goes_on final complete
  closes d p v [] os a n = record { tree = _; read = refl }
  closes d p v (q ∷ qs) os a n = let r = closes d p v qs q.ors _ (suc (suc n)) in record { tree = r.tree; read = r.read }

  finishes : (q : State) (n : ℕ) → Ends n (Between q) (finish q)
  unfolding run step begin viable next take behind token_of goes_on final complete reserved in_quotes
  finishes (Start d) n = record { tree = _; read = refl }
  finishes (AtVariable d p) n = record { tree = _; read = refl }
  finishes (AtBecomes d p) n = record { tree = _; read = refl }
  finishes (AtValue d p v) n = record { tree = _; read = refl }
  finishes (AtCondition w p) n = let r = closes w.done w.place w.value w.outer p.ors _ (suc (suc (suc (suc n)))) in record { tree = r.tree; read = r.read }
  finishes (AtSpecified w p) n = let r = closes w.done w.place w.value w.outer p.ors _ (suc (suc n)) in record { tree = r.tree; read = r.read }
  finishes (AtOperand w p x) n = let r = closes w.done w.place w.value w.outer p.ors _ (suc (suc (suc n))) in record { tree = r.tree; read = r.read }
  finishes (AtSign w p x s) n = let r = closes w.done w.place w.value w.outer p.ors _ (suc (suc n)) in record { tree = r.tree; read = r.read }
  finishes (AtIn w p x) n = let r = closes w.done w.place w.value w.outer p.ors _ (suc (suc (suc (suc n)))) in record { tree = r.tree; read = r.read }
  finishes (AtOpen w p x) n = let r = closes w.done w.place w.value w.outer p.ors _ (suc (suc (suc n))) in record { tree = r.tree; read = r.read }
  finishes (AtListed w p x cs) n = let r = closes w.done w.place w.value w.outer p.ors _ (suc (suc n)) in record { tree = r.tree; read = r.read }
  finishes (AtComma w p x cs) n = let r = closes w.done w.place w.value w.outer p.ors _ (suc (suc (suc n))) in record { tree = r.tree; read = r.read }
  finishes (AtSingle w os a) n = closes w.done w.place w.value w.outer os a n

  -- ---- a spot that has been reached can be ended

  begin_good : (n : ℕ) (q : State) (b : ℕ) (to : Spot) → begin limit n q b ≡ Go to → Good to
  unfolding begin
  begin_good n q b to e = go (is_blank b) (too_deep limit q b) (viable q (b ∷ [])) refl e
    where
      go : (x y z : Bool) → viable q (b ∷ []) ≡ z → beginning x y z n q b ≡ Go to → Good to
      go true y z f g = subst Good (went (Between q) to g) tt
      go false true z f g = absurd (deep_go to g)
      go false false true f g = subst Good (went (Inside q n (b ∷ [])) to g) f
      go false false false f g = absurd (stop_go to g)

  grown_good : (q : State) (from : ℕ) (l : List ℕ) (b : ℕ) → viable q (l ++ (b ∷ [])) ≡ true → Good (Inside q from (l ++ (b ∷ [])))
  grown_good q from [] b e = e
  grown_good q from (a ∷ l) b e = e

  pub step_good : (n : ℕ) (at : Spot) (b : ℕ) (to : Spot) → step limit n at b ≡ Go to → Good to
  unfolding step
  step_good n (Between q) b to e = begin_good n q b to e
  step_good n (Inside q from l) b to e = go (goes_on l b) (viable q (l ++ (b ∷ []))) refl e
    where
      over : (o : Option State) → begin_in limit n o b ≡ Go to → Good to
      over none g = absurd (stop_go to g)
      over (some q') g = begin_good n q' b to g

      go : (x y : Bool) → viable q (l ++ (b ∷ [])) ≡ y → going x y limit n q from l b ≡ Go to → Good to
      go true true f g = subst Good (went (Inside q from (l ++ (b ∷ []))) to g) (grown_good q from l b f)
      go true false f g = absurd (stop_go to g)
      go false y f g = over (behind q from l) g

  pub record Completes (n : ℕ) (at : Spot) : Type 0 where
    pub rest : List ℕ
    pub tree : Chain Assignment
    pub read : run limit n at rest ≡ Done tree

  pub completes : (n : ℕ) (at : Spot) → Good at → Completes n at
  completes n (Between q) h = let r = finishes q n in record { rest = finish q; tree = r.tree; read = r.read }
  completes n (Inside q from []) h = absurd h
  completes n (Inside q from (b ∷ x)) h =
      let e = viable_ended q from b x h in
      let m = past e.rest n in
      let r = finishes e.state (suc m) in
      record {
        rest = e.rest ++ (32 ∷ finish e.state);
        tree = r.tree;
        read =
            token_read_on limit n q e.state from b x e.rest (32 ∷ finish e.state) e.token e.is e.taken
            ∙ token_ended limit m q e.state from (b ∷ (x ++ e.rest)) (32 ∷ finish e.state) (is_behind limit q e.state from (b ∷ (x ++ e.rest)) e.token e.is e.taken)
            (ap not (ends_at_blank from b (x ++ e.rest) e.token e.is))
            ∙ blank_read limit m e.state 32 (finish e.state) refl
            ∙ r.read;
      }

  -- ---- where the reader stops

  pub data Halt (p : ℕ) (at : Spot) (k : ℕ) : List ℕ → Type 0 where
    cut : 14 ≡ k → final at ≡ none → Halt p at k []
    wrong : {b : ℕ} {y : List ℕ} → 14 ≡ k → step limit p at b ≡ Stop → Halt p at k (b ∷ y)
    deep : {b : ℕ} {y : List ℕ} → 15 ≡ k → step limit p at b ≡ Deep → Halt p at k (b ∷ y)

  pub record Stuck (n : ℕ) (at : Spot) (s : List ℕ) (k p : ℕ) : Type 0 where
    pub before : List ℕ
    pub behind_it : List ℕ
    pub spot : Spot
    pub whole : s ≡ before ++ behind_it
    pub place : past before n ≡ p
    pub good : Good spot
    pub reached : (more : ℕ) → limit ≤ more → (y : List ℕ) → run more n at (before ++ y) ≡ run more p spot y
    pub halt : Halt p spot k behind_it

  pub stuck : (s : List ℕ) (n : ℕ) (at : Spot) (k p : ℕ) → Good at → run limit n at s ≡ RefusedAt k p → Stuck n at s k p
  unfolding run
  stuck [] n at k p h e = go (final at) refl e
    where
      go : (o : Option (Chain Assignment)) → final at ≡ o → or_cut n o ≡ RefusedAt k p → Stuck n at [] k p
      go none f g =
          subst (λ j. Stuck n at [] j p) (number_of 14 k n p g)
          (subst (Stuck n at [] 14) (place_of 14 k n p g)
          (record { before = []; behind_it = []; spot = at; whole = refl; place = refl; good = h; reached = λ more l y. refl; halt = cut refl f }))
      go (some t) f g = absurd (refused_fine k p t (sym g))
  stuck (b ∷ s) n at k p h e = go (λ to. stuck s (suc n) to k p) (step limit n at b) refl e
    where
      go : ((to : Spot) → Good to → run limit (suc n) to s ≡ RefusedAt k p → Stuck (suc n) to s k p) → (st : Step) → step limit n at b ≡ st
          → onward n st (λ to. run limit (suc n) to s) ≡ RefusedAt k p → Stuck n at (b ∷ s) k p
      go ih (Go to) f g =
          let r = ih to (step_good n at b to f) g in
          record {
            before = b ∷ r.before;
            behind_it = r.behind_it;
            spot = r.spot;
            whole = ap (λ z. b ∷ z) r.whole;
            place = r.place;
            good = r.good;
            reached =
                λ more l y.
                ap (λ z. onward n z (λ to'. run more (suc n) to' (r.before ++ y))) (step_more limit more l n at b (rw f tt) ∙ f) ∙ r.reached more l y;
            halt = r.halt;
          }
      go ih Stop f g =
          subst (λ j. Stuck n at (b ∷ s) j p) (number_of 14 k n p g)
          (subst (Stuck n at (b ∷ s) 14) (place_of 14 k n p g)
          (record { before = []; behind_it = b ∷ s; spot = at; whole = refl; place = refl; good = h; reached = λ more l y. refl; halt = wrong refl f }))
      go ih Deep f g =
          subst (λ j. Stuck n at (b ∷ s) j p) (number_of 15 k n p g)
          (subst (Stuck n at (b ∷ s) 15) (place_of 15 k n p g)
          (record { before = []; behind_it = b ∷ s; spot = at; whole = refl; place = refl; good = h; reached = λ more l y. refl; halt = deep refl f }))
