-- And-chains and or-chains, part by part.
use Prim.Native.Nat.{ℕ, suc, ◌≤◌, ◌<◌}
use mathlib.Core.Path.{◌≡◌, sym, subst}
use mathlib.Core.List.{List}
use native.Mathlib.Omega.{arith}
use lib.ListN.{length, drop}
use Rattle.rules.specs.Reasons.{number_for}
use Rattle.relation_rules.specs.Grammar.{deepest}
use Rattle.relation_rules.specs.Parts.{StopsSingle, StopsAnd, StopsOr, SingleTrue, AndTrue, OrTrue}
use Rattle.relation_rules.specs.Truth as Truths
use Rattle.relation_rules.specs.Truth.{Held, Truth, either, together}
use Rattle.relation_rules.proofs.MoveLaws.{true_single, true_and, true_first, true_or, stops_single, stops_and, stops_first, stops_or, stops_behind_and}
use Rattle.relation_truth.specs.declared.Truth.{Truth as TruthTold}
use Rattle.relation_truth.specs.Told.{truth_in, TruthIs}
use Rattle.relations.specs.declared.conditions.Next.{Next}
use Rattle.relations.specs.declared.conditions.Next.TheVariants.{And, Or}
use Rattle.relations.specs.declared.conditions.Chain.{Chain}
use Rattle.relations.specs.declared.told.Read.{Read}
use Rattle.relations.specs.declared.told.Refused.{Refused}
use Rattle.relations.specs.Reading.{SingleOver, SingleStop, Joined, JoinStop, AndOver, AndStop, OrOver, OrStop, DepthAt}
use Rattle.relations.proofs.ExpectedLaws.{through}

-- ---- and-chains: what is read from here on belongs to the chain

pub record AndSo (ps : List Held) (d : ℕ) (s : List ℕ) (at from : ℕ) (v : Truth) : Type 0 where
  pub on : at ≤ from
  pub most : from ≤ length s
  pub over : (to : ℕ) (u : Truth) → SingleTrue deepest ps d (suc from) (drop from s) u (suc to) (drop to s)
      → AndTrue deepest ps d (suc at) (drop at s) (together v u) (suc to) (drop to s)
  pub stops : (k p : ℕ) → StopsSingle deepest d (suc from) (drop from s) k p → StopsAnd deepest d (suc at) (drop at s) k p

pub and_start : {ps : List Held} {d : ℕ} {s : List ℕ} {at depth : ℕ} → DepthAt s at depth → AndSo ps d s at at Truths.True
unfolding together
and_start p =
    record {
      on = omega arith;
      most = p.there;
      over = λ to v c. true_single deepest c;
      stops = λ k q c. stops_single deepest c;
    }

module _ {ps : List Held} {d : ℕ} {s : List ℕ} {at from : ℕ} {v : Truth} (a : AndSo ps d s at from v) where
  pub and_wrong : {e : Refused} → SingleStop d s from e → AndStop d s at e
  and_wrong {e} r = record { on = through a.on r.on; most = r.most; stops = a.stops (number_for e.refusal) (suc e.at) r.stops }

  module _ {one : Read} (r : SingleOver ps d s from one) {u : TruthTold} (b : TruthIs (together v (truth_in one.truth)) u) where
    so_far : AndTrue deepest ps d (suc at) (drop at s) (truth_in u) (suc one.to) (drop one.to s)
    so_far = subst (λ w. AndTrue deepest ps d (suc at) (drop at s) w (suc one.to) (drop one.to s)) (sym b.is) (a.over one.to (truth_in one.truth) r.is)

    pub and_unjoined : {e : Refused} → JoinStop d s one.to e → AndStop d s at e
    and_unjoined j =
        let o = so_far in
        record { on = through (through a.on r.on) j.on; most = j.most; stops = stops_behind_and deepest o.over (λ w os k. j.wrong w os o.tree k) }

    module _ {next : Next} {after : ℕ} (j : Joined d s one.to next after) where
      pub and_done : (next ≡ And → ⊥) → AndOver ps d s at (record { to = one.to; truth = u; next = next; after = after })
      and_done n = record { on = through a.on r.on; most = r.most; is = so_far; behind = j; no_and = n }

      pub and_on : next ≡ And → AndSo ps d s at after (truth_in u)
      and_on f =
          record {
            on = through (through a.on r.on) j.on;
            most = j.most;
            over = λ end w c. true_and deepest so_far (j.and f) c;
            stops = λ k p c. stops_and deepest so_far.over (j.and f) c;
          }

pub and_further : {ps : List Held} {d : ℕ} {s : List ℕ} {from : ℕ} {one : Read} → SingleOver ps d s from one → {next : Next} {after : ℕ} → Joined d s one.to next after → next ≡ And
    → from < after
and_further {from = from} {one = one} r {after = after} j f = let b : from ≤ one.to = r.on in let c : one.to < after = j.further (λ e. cc) in omega arith

-- ---- or-chains

pub record OrSo (ps : List Held) (d : ℕ) (s : List ℕ) (at from : ℕ) (v : Truth) : Type 0 where
  pub on : at ≤ from
  pub most : from ≤ length s
  pub over : (to : ℕ) (u : Truth) → AndTrue deepest ps d (suc from) (drop from s) u (suc to) (drop to s)
      → OrTrue deepest ps d (suc at) (drop at s) (either v u) (suc to) (drop to s)
  pub stops : (k p : ℕ) → StopsAnd deepest d (suc from) (drop from s) k p → StopsOr deepest d (suc at) (drop at s) k p

pub or_start : {ps : List Held} {d : ℕ} {s : List ℕ} {at depth : ℕ} → DepthAt s at depth → OrSo ps d s at at Truths.False
unfolding either
or_start p =
    record {
      on = omega arith;
      most = p.there;
      over = λ to v c. true_first deepest c;
      stops = λ k q c. stops_first deepest c;
    }

module _ {ps : List Held} {d : ℕ} {s : List ℕ} {at from : ℕ} {v : Truth} (a : OrSo ps d s at from v) where
  pub or_wrong : {e : Refused} → AndStop d s from e → OrStop d s at e
  or_wrong {e} r = record { on = through a.on r.on; most = r.most; stops = a.stops (number_for e.refusal) (suc e.at) r.stops }

  module _ {chain : Chain} (r : AndOver ps d s from chain) {u : TruthTold} (b : TruthIs (either v (truth_in chain.truth)) u) where
    or_far : OrTrue deepest ps d (suc at) (drop at s) (truth_in u) (suc chain.to) (drop chain.to s)
    or_far = subst (λ w. OrTrue deepest ps d (suc at) (drop at s) w (suc chain.to) (drop chain.to s)) (sym b.is) (a.over chain.to (truth_in chain.truth) r.is)

    pub or_done : (chain.next ≡ Or → ⊥) → OrOver ps d s at (record { to = chain.to; truth = u; next = chain.next; after = chain.after })
    or_done n = record { on = through a.on r.on; most = r.most; is = or_far; behind = r.behind; no_and = r.no_and; no_or = n }

    pub or_on : chain.next ≡ Or → OrSo ps d s at chain.after (truth_in u)
    or_on f =
        let j = r.behind in
        record {
          on = through (through a.on r.on) j.on;
          most = j.most;
          over = λ end w c. true_or deepest or_far (j.or f) c;
          stops = λ k p c. stops_or deepest or_far.over (j.or f) c;
        }

pub or_further : {ps : List Held} {d : ℕ} {s : List ℕ} {from : ℕ} {chain : Chain} → AndOver ps d s from chain → chain.next ≡ Or → from < chain.after
or_further {from = from} {chain = chain} r f = let b : from ≤ chain.to = r.on in let c : chain.to < chain.after = r.behind.further (λ e. cc) in omega arith

-- ---- positions for the next call

pub depth_same : {ps : List Held} {d : ℕ} {s : List ℕ} {at from depth : ℕ} {v : Truth} → DepthAt s at depth → AndSo ps d s at from v → DepthAt s from depth
depth_same p a = record { there = a.most; left = p.left }

pub depth_chain : {ps : List Held} {d : ℕ} {s : List ℕ} {at from depth : ℕ} {v : Truth} → DepthAt s at depth → OrSo ps d s at from v → DepthAt s from depth
depth_chain p a = record { there = a.most; left = p.left }

pub depth_behind : {ps : List Held} {d : ℕ} {s : List ℕ} {at from depth : ℕ} {one : Read} → DepthAt s at depth → SingleOver ps d s from one → DepthAt s one.to depth
depth_behind p r = record { there = r.most; left = p.left }
