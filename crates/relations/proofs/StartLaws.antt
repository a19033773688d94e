-- The NOTs in front of a single condition: where it starts behind them, and what is read there from the first of them on.
use Prim.Native.Nat.{ℕ, suc, ◌+◌, ◌-◌, ◌≤◌, ◌<◌}
use mathlib.Core.Path.{◌≡◌, refl, sym, ◌∙◌, ap, subst}
use mathlib.Core.Bool.{Bool, true, false, not}
use mathlib.Core.List.{List}
use native.Mathlib.Omega.{arith}
use lib.Dec.{leb}
use lib.ListN.{length, drop, get_or}
use borrow.Author.Tests.{ne_eqb}
use mathlib.Core.Bool.{◌&&◌}
use Rattle.rules.specs.Letters.{text}
use Rattle.rules.specs.Reasons.{number_for}
use Rattle.relation_rules.specs.Grammar.{Fixed, token_of, reserved, deepest}
use Rattle.relation_rules.specs.Reader.{AtCondition, next}
use Rattle.relation_rules.specs.Parts.{TokenAt, SingleTrue}
use Rattle.relation_rules.specs.Truth.{Held, Truth, opposite}
use Rattle.relation_rules.proofs.TruthLaws.{opposite_twice}
use Rattle.relation_rules.proofs.MoveLaws.{true_not, stops_not}
use Rattle.relation_words.specs.declared.tokens.Token.{Token as Found}
use Rattle.relation_words.specs.declared.tokens.Stop.{Stop}
use Rattle.relation_words.specs.declared.tokens.Kind.{Kind}
use Rattle.relation_words.specs.declared.tokens.Kind.TheVariants.{Word, Name as AName, Quoted as AString, Figure}
use Rattle.relation_words.specs.Words.{Gap}
use Rattle.relation_words.specs.Wanted.{wanted_by}
use Rattle.relation_words.specs.Heard.{TokenHeard, NothingHeard}
use Rattle.relation_words.proofs.TokenLaws.{gap_token, gap_moves}
use Rattle.relation_truth.specs.Told.{truth_in, TruthIs}
use Rattle.relations.specs.declared.starts.First.TheVariants.{Parenthesis, Token}
use Rattle.relations.specs.declared.starts.Start.{Start}
use Rattle.relations.specs.declared.conditions.Chain.{Chain}
use Rattle.relations.specs.declared.told.Read.{Read}
use Rattle.relations.specs.declared.told.Refused.{Refused}
use Rattle.relations.specs.Told.{bad_relation, deep_relation}
use Rattle.relations.specs.Expected.{wants_condition, word_in}
use Rattle.relations.specs.Reading.{turned_by, TurnedAs, FirstAt, SingleOver, SingleStop, SimpleRead, OrOver, OrStop, Closes, Unclosed, DepthAt}
use Rattle.relations.specs.Starts.{NotsOver, OpenAt, FirstIs, StartOver, StartStop}
use Rattle.relations.proofs.ExpectedLaws.{through}
use Rattle.relations.proofs.ConditionLaws.{single_cut, single_deep, group_refused, group_closed, group_unclosed}

-- ---- NOTs

pub nots_none : {s : List ℕ} {at : ℕ} → at ≤ length s → NotsOver s at at false
unfolding turned_by
nots_none h = record { on = omega arith; most = h; over = λ ps d to v c. c; stops = λ d k p c. c }

turned_more : (turned : Bool) (v : Truth) → turned_by turned (opposite v) ≡ turned_by (not turned) v
unfolding turned_by
turned_more true v = opposite_twice v
turned_more false v = refl

-- a word by its number
word_is : (k : Kind) (n : ℕ) → word_in k ≡ suc n → k ≡ Word (suc n)
word_is (Word j) n e = ap Word e
word_is AName n e = absurd (omega arith)
word_is AString n e = absurd (omega arith)
word_is (Figure below size) n e = absurd (omega arith)

-- what is read behind them, or refused
behind_nots : {ps : List Held} {d : ℕ} {s : List ℕ} {at behind : ℕ} {turned : Bool} {x r : Read} → NotsOver s at behind turned → SingleOver ps d s behind x → TurnedAs turned x r
    → SingleOver ps d s at r
behind_nots {ps} {d} {s} {at} {behind} {turned} {x} {r} o q c =
    subst (λ k. SingleOver ps d s at (record { to = k; truth = r.truth })) (sym c.to_is)
    (record {
      on = through o.on q.on;
      most = q.most;
      is = subst (λ v. SingleTrue deepest ps d (suc at) (drop at s) v (suc x.to) (drop x.to s)) (sym c.truth_is) (o.over ps d x.to (truth_in x.truth) q.is);
    })

refused_behind : {d : ℕ} {s : List ℕ} {at behind : ℕ} {turned : Bool} {e : Refused} → NotsOver s at behind turned → SingleStop d s behind e → SingleStop d s at e
refused_behind {d} {e = e} o r = record { on = through o.on r.on; most = r.most; stops = o.stops d (number_for e.refusal) (suc e.at) r.stops }

module _ {s : List ℕ} {at behind i : ℕ} {turned : Bool} (n : NotsOver s at behind turned) (g : Gap s behind i) where
  pub start_cut : length s ≤ i → StartStop s at (bad_relation i)
  start_cut l = record { stop = λ d. refused_behind n (single_cut {d = d} g l) }

  pub start_open : i < length s → get_or s i 0 ≡ 40 → StartOver s at (record { at = behind; from = i; turned = turned; first = Parenthesis })
  start_open l o = record { nots = n; first = record { gap = g; there = l; opens = o } }

  pub start_wrong : {e : Stop} → (get_or s i 0 ≡ 40 → ⊥) → NothingHeard wants_condition s i e → StartStop s at (bad_relation e.at)
  unfolding wanted_by next
  start_wrong {e} o h = record {
    stop = λ d.
        refused_behind n
        (record {
          on = through g.on h.on;
          most = h.most;
          stops = record {
            stops =
                λ w p k.
                gap_moves g deepest (AtCondition w p)
                ∙ (h.wrong refl).stops deepest (AtCondition w p) refl (ap (λ z. z && leb deepest (length w.outer)) (ne_eqb (get_or s i 0) 40 o));
          };
        });
  }

  module _ {t : Found} (h : TokenHeard wants_condition s i t) {k : ℕ} (told : k ≡ word_in t.kind) where
    -- what is neither a parenthesis nor NOT
    pub start_token : (get_or s i 0 ≡ 40 → ⊥) → (k ≡ 1 → ⊥) → StartOver s at (record { at = behind; from = i; turned = turned; first = Token t })
    start_token o m = record {
      nots = n;
      first = record {
        gap = subst (Gap s behind) (sym h.starts) g;
        no_open = subst (λ j. get_or s j 0 ≡ 40 → ⊥) (sym h.starts) o;
        no_not = λ e. m (told ∙ ap word_in e);
        heard = subst (λ j. TokenHeard wants_condition s j t) (sym h.starts) h;
      };
    }

    module _ (e : k ≡ 1) where
      is_not : TokenAt (suc behind) (drop behind s) (Fixed (text "NOT")) (suc t.to) (drop t.to s)
      unfolding token_of reserved
      is_not = gap_token g (h.word 1 (word_is t.kind 0 (sym told ∙ e)) (Fixed (text "NOT")) refl)

      pub nots_further : behind < t.to
      nots_further = let a : behind ≤ i = g.on in let b : i < t.to = h.further in omega arith

      pub nots_more : NotsOver s at t.to (not turned)
      nots_more =
          record {
            on = let a : at ≤ behind = n.on in let b : behind < t.to = nots_further in omega arith;
            most = h.most;
            over =
                λ ps d end v c.
                subst (λ w. SingleTrue deepest ps d (suc at) (drop at s) w (suc end) (drop end s)) (turned_more turned v)
                (n.over ps d end (opposite v) (true_not deepest is_not c));
            stops = λ d k p c. n.stops d k p (stops_not deepest is_not c);
          }

-- ---- what is read behind them

module _ {s : List ℕ} {at : ℕ} {r : Start} (b : StartOver s at r) where
  pub start_simple_wrong : {d : ℕ} {ps : List Held} {m : Refused} → SimpleRead ps s r.at (Rattle.std.specs.Prelude.Err m) → SingleStop d s at m
  start_simple_wrong {d} q = refused_behind b.nots (q.read d)

  pub start_simple : {d : ℕ} {ps : List Held} {x y : Read} → SimpleRead ps s r.at (Rattle.std.specs.Prelude.Ok x) → TurnedAs r.turned x y → SingleOver ps d s at y
  start_simple {d} q u = behind_nots b.nots (q.read d) u

  pub start_first : {t : Found} → r.first ≡ Token t → FirstAt s r.at t
  start_first e = subst (FirstIs s r.at r.from) e b.first

  module _ (e : r.first ≡ Parenthesis) where
    opens : OpenAt s r.at r.from
    opens = subst (FirstIs s r.at r.from) e b.first

    pub start_deep : (depth : ℕ) → depth ≡ 0 → SingleStop (16 - depth) s at (deep_relation r.from)
    start_deep depth z = refused_behind b.nots (single_deep depth opens.gap opens.there opens.opens z)

    -- the position behind a parenthesis
    pub start_inside : {depth : ℕ} → DepthAt s at depth → DepthAt s (r.from + 1) (depth - 1)
    start_inside {depth} p =
        let l : r.from < length s = opens.there in
        let a : depth ≤ 16 = p.left in
        record { there = omega arith; left = omega arith }

    module _ {depth : ℕ} (p : DepthAt s at depth) (z : depth ≡ 0 → ⊥) where
      pub start_group_wrong : {m : Refused} → OrStop (16 - (depth - 1)) s (r.from + 1) m → SingleStop (16 - depth) s at m
      start_group_wrong o = refused_behind b.nots (group_refused depth p.left opens.gap opens.there opens.opens z o)

      module _ {ps : List Held} {inside : Chain} (o : OrOver ps (16 - (depth - 1)) s (r.from + 1) inside) where
        pub start_unclosed : {m : Refused} → Unclosed inside m → SingleStop (16 - depth) s at m
        start_unclosed u = refused_behind b.nots (group_unclosed depth p.left opens.gap opens.there opens.opens z o u)

        pub start_group : {x y : Read} → Closes inside x → TurnedAs r.turned x y → SingleOver ps (16 - depth) s at y
        start_group c u = behind_nots b.nots (group_closed depth p.left opens.gap opens.there opens.opens z o c) u

-- ---- NOTs turn a truth, or do not

module _ {turned : Bool} {behind : Read} where
  pub turned_not : turned ≡ false → TurnedAs turned behind behind
  unfolding turned_by
  turned_not e = record { to_is = refl; truth_is = ap (λ t. turned_by t (truth_in behind.truth)) (sym e) }

  pub turned_so : {x : Rattle.relation_truth.specs.declared.Truth.Truth} → turned ≡ true → TruthIs (opposite (truth_in behind.truth)) x
      → TurnedAs turned behind (record { to = behind.to; truth = x })
  unfolding turned_by
  turned_so e o = record { to_is = refl; truth_is = o.is ∙ ap (λ t. turned_by t (truth_in behind.truth)) (sym e) }
