-- The constants behind IN, one by one, and the parenthesis around them.
use Prim.Native.Nat.{ℕ, suc, ◌+◌, ◌-◌, ◌≤◌, ◌<◌}
use mathlib.Core.Path.{◌≡◌, refl, sym, ◌∙◌, ap, subst}
use mathlib.Core.Bool.{Bool, true, false, false≢true}
use mathlib.Core.List.{List}
use mathlib.Core.Option.{Option, some}
use native.Mathlib.Omega.{arith}
use native.Mathlib.Numerals.{add-one}
use lib.ListN.{length, drop}
use Rattle.rules.specs.Letters.{text}
use Rattle.layout.specs.Reads.{part}
use Rattle.relation_rules.specs.Grammar.{Fixed, Equal, Constant, Text, Number, constant_token, Operand, One, More, token_of}
use Rattle.rules.specs.PlacedRefusals.{RefusedAt}
use Rattle.relation_rules.specs.Reader.{Part, Around, AtIn, AtOpen, AtListed, AtComma, next, take, Between, run}
use Rattle.relation_rules.specs.Parts.{TokenAt}
use Rattle.relation_rules.specs.Truth as Truths
use Rattle.relation_rules.specs.Truth.{Held, Truth, either, operand_value, compared}
use Rattle.relation_rules.proofs.MoveLaws.{token_moves, over_value, over_next_value}
use Rattle.std.specs.Prelude.{Ok, Err}
use Rattle.std.specs.declared.option.Option.{Option as Maybe}
use Rattle.std.specs.declared.result.Result.{Result}
use Rattle.relation_words.specs.declared.tokens.Kind.TheVariants.{Quoted as AString, Figure}
use Rattle.relation_words.specs.declared.tokens.Token.{Token as Found}
use Rattle.relation_words.specs.declared.tokens.Stop.{Stop}
use Rattle.relation_words.specs.Heard.{TokenHeardOn, NothingHeardOn, may_hear, whole_of}
use Rattle.relation_truth.specs.declared.Truth.{Truth as TruthTold}
use Rattle.relation_truth.specs.declared.values.Constant.{Constant as ConstantTold}
use Rattle.relation_truth.specs.Told.{truth_in, TruthIs}
use Rattle.relation_truth.specs.Values.{held_in, operand_by, value_in, ValueIs}
use Rattle.relations.specs.declared.told.Read.{Read}
use Rattle.relations.specs.declared.told.Refused.{Refused}
use Rattle.relations.specs.declared.expected.Mark.{Mark}
use Rattle.relations.specs.Told.{bad_relation}
use Rattle.relations.specs.Expected.{wants_constant, wants_open, wants_mark, word_in, MarkOver}
use Rattle.relations.specs.Reading.{NoName, among_of, EqualTo, ValuesTo, ValuesOver, ValuesStop, ValuesRead, AmongStop, AmongRead}
use Rattle.relations.proofs.ExpectedLaws.{through, heard_ahead, open_stops, first_stops, comma_stops, mark_stops, word_least, word_last, word_token, is_constant}

-- ---- one constant

module _ {o : Option Constant} {ps : List Held} {s : List ℕ} {t : Found} {r : TruthTold} where
  pub equal_string : t.kind ≡ AString → TruthIs (compared true Equal o (some (Text (part s (t.from + 1) (t.to - 1))))) r → EqualTo o ps s t r
  equal_string e q = record {
    is = q.is
        ∙ ap (λ (k : ℕ). compared true Equal o (some (Text (part s k (t.to - 1))))) (add-one t.from)
        ∙ ap (λ k. compared true Equal o (operand_value ps (operand_by s k t.from t.to))) (sym e);
  }

  pub equal_number : {below : Bool} {size : ℕ} → t.kind ≡ Figure below size → TruthIs (compared true Equal o (some (Number (whole_of below size)))) r → EqualTo o ps s t r
  equal_number e q = record { is = q.is ∙ ap (λ k. compared true Equal o (operand_value ps (operand_by s k t.from t.to))) (sym e) }

pub constant_no_name : {s : List ℕ} {at : ℕ} {t : Found} → TokenHeardOn wants_constant s at t → NoName t
constant_no_name h = record { is = λ e. false≢true (ap (may_hear wants_constant) (sym e) ∙ h.asked) }

-- ---- the list behind IN

-- the next constant belongs to the list
pub record ValuesSo (o : Option Constant) (s : List ℕ) (at from : ℕ) (v : Truth) : Type 0 where
  pub on : at ≤ from
  pub most : from ≤ length s
  pub over : (to : ℕ) (u : Truth) (c : Constant) → TokenAt (suc from) (drop from s) (constant_token c) (suc to) (drop to s)
      → u ≡ either v (compared true Equal o (some c)) → ValuesTo o s at to u
  pub stops : {e : Stop} → NothingHeardOn wants_constant s from e
      → (limit : ℕ) (w : Around) (p : Part) (x : List ℕ) → run limit (suc at) (Between (AtOpen w p x)) (drop at s) ≡ RefusedAt 14 (suc e.at)

pub values_start : {o : Option Constant} {s : List ℕ} {at : ℕ} → at ≤ length s → ValuesSo o s at at Truths.False
unfolding among_of either
values_start {o} {s} {at} l =
    record {
      on = omega arith;
      most = l;
      over = λ to u c k e. record { values = One c; over = λ limit. over_value limit c k; is = sym e };
      stops = λ h limit w p x. first_stops h limit w p x;
    }

module _ {o : Option Constant} {s : List ℕ} {at from : ℕ} (v : TruthTold) (a : ValuesSo o s at from (truth_in v)) where
  pub values_none : {e : Stop} → NothingHeardOn wants_constant s from e → ValuesStop s at (bad_relation e.at)
  values_none h = record { on = through a.on h.on; most = h.most; wrong = a.stops h }

  module _ {t : Found} (h : TokenHeardOn wants_constant s from t) {ps : List Held} {r u : TruthTold} (q : EqualTo o ps s t r) (j : TruthIs (either (truth_in v) (truth_in r)) u) where
    so_far : at ≤ t.to
    so_far = through a.on (heard_ahead h)

    values_to : ValuesTo o s at t.to (truth_in u)
    values_to =
        let c = is_constant h in
        a.over t.to (truth_in u) c.constant c.token
        (j.is ∙ ap (either (truth_in v)) (q.is ∙ ap (λ z. compared true Equal o (operand_value ps z)) c.is))

    pub values_wrong : {e : Stop} → NothingHeardOn wants_mark s t.to e → ValuesStop s at (bad_relation e.at)
    values_wrong i = record {
      on = through so_far i.on;
      most = i.most;
      wrong = λ limit w p x. (values_to.over limit).moves w p x ∙ mark_stops i limit w p x values_to.values;
    }

    module _ {m : Mark} (i : MarkOver s t.to m) where
      further_on : at ≤ m.to
      further_on = let b : at ≤ t.to = so_far in let c : t.to < m.to = i.further in omega arith

      pub values_done : m.closes ≡ true → ValuesOver o s at (record { to = m.to; truth = u })
      values_done e = record { on = further_on; most = i.most; last = t.to; values = values_to; close = i.closing e }

      pub values_on : m.closes ≡ false → ValuesSo o s at m.to (truth_in u)
      unfolding among_of take next
      values_on e =
          let v' = values_to in
          record {
            on = further_on;
            most = i.most;
            over =
                λ end y c k f.
                record {
                  values = More v'.values c;
                  over = λ limit. over_next_value limit c (v'.over limit) (i.comma e) k;
                  is = ap (λ z. either z (compared true Equal o (some c))) v'.is ∙ sym f;
                };
            stops =
                λ g limit w p x.
                (v'.over limit).moves w p x
                ∙ token_moves limit (i.comma e) (AtListed w p x v'.values) (AtComma w p x v'.values) refl refl
                ∙ comma_stops g limit w p x v'.values;
          }

-- ---- IN

module _ {s : List ℕ} {at : ℕ} where
  pub among_none : {e : Stop} → NothingHeardOn wants_open s at e → AmongStop s at (bad_relation e.at)
  among_none h = record { on = h.on; most = h.most; wrong = open_stops h }

  module _ {t : Found} (h : TokenHeardOn wants_open s at t) where
    opened : TokenAt (suc at) (drop at s) (Fixed (text "(")) (suc t.to) (drop t.to s)
    unfolding token_of
    opened =
        let a : 1 ≤ word_in t.kind = word_least h in
        let b : word_in t.kind ≤ 1 = word_last h in
        word_token h 1 (omega arith) (Fixed (text "(")) refl

    among_rest : (o : Option Constant) (r : Result Read Refused) → ValuesRead o s t.to r → AmongRead o s at r
    unfolding take next
    among_rest o (Ok r) v = record { first = t.to; on = heard_ahead h; opening = opened; rest = v }
    among_rest o (Err e) v = record {
      on = through (heard_ahead h) v.on;
      most = v.most;
      wrong = λ limit w q y. token_moves limit opened (AtIn w q y) (AtOpen w q y) refl refl ∙ v.wrong limit w q y;
    }

    pub among_all : (p : List ℕ) (x : Operand) {v : Maybe ConstantTold} (r : Result Read Refused) → ValueIs p x v → ValuesRead (value_in v) s t.to r
        → AmongRead (operand_value (held_in p) x) s at r
    among_all p x r i k = subst (λ o. AmongRead o s at r) i.is (among_rest _ r k)
