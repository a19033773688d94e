-- Single conditions without a NOT: cut off, in a parenthesis, or by their first token.
use Prim.Native.Nat.{ℕ, suc, ◌+◌, ◌-◌, ◌≤◌, ◌<◌}
use mathlib.Core.Path.{◌≡◌, refl, sym, ◌∙◌, ap, subst}
use mathlib.Core.Bool.{true, false}
use mathlib.Core.List.{List, [], ◌∷◌, ◌++◌}
use mathlib.Core.Option.{none}
use native.Mathlib.Omega.{arith}
use native.Mathlib.Numerals.{add-one}
use lib.Dec.{leb}
use lib.ListN.{length, drop, get_or, drop_of_length-le}
use lib.Seq.{drop-cons}
use borrow.Author.Tests.{lt-leb, le-leb}
use Rattle.rules.specs.Letters.{text}
use Rattle.relation_rules.specs.Grammar.{Fixed, OrChain, FirstAnd, Or, token_of, goes_on, apart, deepest, past}
use Rattle.relation_rules.specs.Reader.{Part, Around, AtCondition, next, complete, Between, run}
use Rattle.relation_rules.specs.Parts.{TokenAt, behind_or, StopsSingle}
use Rattle.relation_rules.specs.Truth.{Held}
use Rattle.relation_rules.proofs.MoveLaws.{stops_cut, stops_too_deep, true_group, stops_group, stops_unclosed}
use Rattle.layout.specs.Reads.{part}
use Rattle.relation_words.specs.Words.{Gap}
use Rattle.relation_words.proofs.PartLaws.{part_rest, past_part}
use Rattle.relation_words.proofs.StretchLaws.{one_part}
use Rattle.relation_words.proofs.TokenLaws.{gap_moves, gap_token}
use Rattle.relations.specs.declared.conditions.Next.{Next}
use Rattle.relations.specs.declared.conditions.Next.TheVariants.{And, Closed, End}
use Rattle.relations.specs.declared.conditions.Next.TheVariants as nexts
use Rattle.relations.specs.declared.conditions.Chain.{Chain}
use Rattle.relations.specs.declared.told.Read.{Read}
use Rattle.relations.specs.declared.told.Refused.{Refused}
use Rattle.relations.specs.Told.{bad_relation, deep_relation}
use Rattle.relations.specs.Reading.{SingleOver, SingleStop, OrOver, OrStop, Closes, Unclosed}
use Rattle.relations.proofs.ExpectedLaws.{through}

pub single_cut : {d : ℕ} {s : List ℕ} {at i : ℕ} → Gap s at i → length s ≤ i → SingleStop d s at (bad_relation i)
unfolding complete
single_cut {s = s} {at = at} {i = i} g l = record {
  on = g.on;
  most = g.most;
  stops = record {
    stops =
        λ w p k.
        gap_moves g deepest (AtCondition w p) ∙ ap (run deepest (suc i) (Between (AtCondition w p))) (drop_of_length-le s l) ∙ stops_cut deepest (suc i) (AtCondition w p) refl;
  };
}

pub single_deep : {s : List ℕ} {at i : ℕ} (depth : ℕ) → Gap s at i → i < length s → get_or s i 0 ≡ 40 → depth ≡ 0 → SingleStop (16 - depth) s at (deep_relation i)
single_deep {s} {at} {i} depth g l e z =
    let k : 16 ≤ 16 - depth = omega arith in
    record {
      on = g.on;
      most = g.most;
      stops =
          subst (λ m. StopsSingle deepest (16 - depth) (suc at) (drop at s) 15 m) (past_part s at i g.on g.most)
          (subst (λ z. StopsSingle deepest (16 - depth) (suc at) z 15 (past (part s at i) (suc at))) (sym (part_rest s at i g.on ∙ ap (λ z. part s at i ++ z) (drop-cons s i 0 l ∙ ap (λ b. b ∷ drop (suc i) s) e)))
          (stops_too_deep deepest (16 - depth) (suc at) (part s at i) (drop (suc i) s) (le-leb 16 (16 - depth) k) g.blanks));
    }

-- the parenthesis at i, behind blanks
open_token : {s : List ℕ} {at i : ℕ} → Gap s at i → i < length s → get_or s i 0 ≡ 40 → TokenAt (suc at) (drop at s) (Fixed (text "(")) (suc (suc i)) (drop (suc i) s)
unfolding token_of goes_on
open_token {s} {at} {i} g l e =
    let is : part s i (suc i) ≡ 40 ∷ [] = one_part s i l ∙ ap (λ b. b ∷ []) e in
    gap_token g
    (record {
      on = omega arith;
      most = l;
      is = ap (token_of (suc i)) is;
      alone = ap (λ z. apart z (drop (suc i) s)) is ∙ go (drop (suc i) s);
    })
  where
    go : (t : List ℕ) → apart (40 ∷ []) t ≡ true
    go [] = refl
    go (c ∷ t) = refl

unclosed : (d : ℕ) (w : Around) (o : OrChain) → length w.outer ≡ suc d → complete (behind_or w o) ≡ none
unfolding complete
unclosed d w (FirstAnd a) e = go w.outer e
  where
    go : (ps : List Part) → length ps ≡ suc d → Rattle.relation_rules.specs.Reader.at_end w.done w.place w.value ps (FirstAnd a) ≡ none
    go [] f = absurd (omega arith)
    go (p ∷ ps) f = refl
unclosed d w (Or o a) e = go w.outer e
  where
    go : (ps : List Part) → length ps ≡ suc d → Rattle.relation_rules.specs.Reader.at_end w.done w.place w.value ps (Or o a) ≡ none
    go [] f = absurd (omega arith)
    go (p ∷ ps) f = refl

module _ {s : List ℕ} {at i : ℕ} (depth : ℕ) (left : depth ≤ 16) (g : Gap s at i) (l : i < length s) (e : get_or s i 0 ≡ 40) (z : depth ≡ 0 → ⊥) where
  one_deeper : 16 - (depth - 1) ≡ suc (16 - depth)
  one_deeper = omega arith

  token : TokenAt (suc at) (drop at s) (Fixed (text "(")) (suc (suc i)) (drop (suc i) s)
  token = open_token g l e

  room : leb deepest (16 - depth) ≡ false
  room = lt-leb 16 (16 - depth) (omega arith)

  behind : {to : ℕ} → suc i ≤ to → at ≤ to
  behind {to} h = let a : at ≤ i = g.on in omega arith

  pub group_refused : {m : Refused} → OrStop (16 - (depth - 1)) s (i + 1) m → SingleStop (16 - depth) s at m
  group_refused {m} r' =
      let r = subst (λ k. OrStop (suc (16 - depth)) s k m) (add-one i) (subst (λ k. OrStop k s (i + 1) m) one_deeper r') in
      record { on = behind r.on; most = r.most; stops = stops_group deepest room token r.stops }

  module _ {ps : List Held} {inside : Chain} (r' : OrOver ps (16 - (depth - 1)) s (i + 1) inside) where
    r : OrOver ps (suc (16 - depth)) s (suc i) inside
    r = subst (λ k. OrOver ps (suc (16 - depth)) s k inside) (add-one i) (subst (λ k. OrOver ps k s (i + 1) inside) one_deeper r')

    pub group_closed : {x : Read} → Closes inside x → SingleOver ps (16 - depth) s at x
    group_closed {x} c =
        let j = r.behind in
        let made : SingleOver ps (16 - depth) s at (record { to = inside.after; truth = inside.truth }) =
        record { on = behind (through r.on j.on); most = j.most; is = true_group deepest room token r.is (j.close c.next_is) } in
        subst (λ k. SingleOver ps (16 - depth) s at (record { to = k; truth = x.truth })) (sym c.to_is)
        (subst (λ k. SingleOver ps (16 - depth) s at (record { to = inside.after; truth = k })) (sym c.truth_is) made)

    ends : (inside.next ≡ Closed → ⊥) → inside.next ≡ End
    ends n = go inside.next refl
      where
        go : (k : Next) → inside.next ≡ k → inside.next ≡ End
        go And e = absurd (r.no_and e)
        go nexts.Or e = absurd (r.no_or e)
        go Closed e = absurd (n e)
        go End e = e

    pub group_unclosed : {m : Refused} → Unclosed inside m → SingleStop (16 - depth) s at m
    group_unclosed {m} u =
        let j = r.behind in
        let four = ends u.no_close in
        let o = r.is in
        subst (SingleStop (16 - depth) s at) (sym u.is)
        (record {
          on = behind (through r.on j.on);
          most = j.most;
          stops =
              stops_unclosed deepest room token o.over
              (λ w q.
              gap_moves (j.end four) deepest (behind_or w o.tree)
              ∙ ap (run deepest (suc inside.after) (Between (behind_or w o.tree))) (drop_of_length-le s (at_end_lem (j.over four)))
              ∙ stops_cut deepest (suc inside.after) (behind_or w o.tree) (unclosed (16 - depth) w o.tree q));
        })
      where
        at_end_lem : inside.after ≡ length s → length s ≤ inside.after
        at_end_lem m = omega arith
