-- SPECIFIED and comparisons, read token by token.
use Prim.Native.Nat.{ℕ, suc, ◌-◌, ◌≤◌, ◌<◌}
use mathlib.Core.Path.{◌≡◌, refl, sym, ◌∙◌, ap, subst}
use mathlib.Core.Bool.{Bool, true, ◌||◌}
use mathlib.Core.List.{List, [], ◌∷◌, ◌++◌, map}
use mathlib.Core.Option.{Option, some, none}
use native.Mathlib.Omega.{arith}
use lib.ListN.{length, drop}
use Rattle.rules.specs.Letters.{text}
use Rattle.relation_rules.specs.Grammar.{Fixed, Name, Sign, Equal, sign_text, Constant, Text, Number, Operand, Property, Given, operand_token, Chain, One, More, Among, token_of, deepest}
use Rattle.relation_rules.specs.Reader.{Part, Around, AtOperand, AtSign, AtIn, AtCondition, all_signs, next, take, Between, run}
use Rattle.relation_rules.specs.Parts.{TokenAt, SingleTrue}
use Rattle.relation_rules.specs.Truth.{Held, is_property, either, truth_of, has_value, value_in, operand_value, compared, comparison, among, or_truth}
use Rattle.relation_rules.proofs.MoveLaws.{token_moves, over_among, true_comparison, operand_taken, operand_admitted, sign_taken, sign_admitted}
use Rattle.std.specs.Prelude.{Ok, Err}
use Rattle.std.specs.declared.result.Result.{Result}
use Rattle.relation_words.specs.declared.tokens.Token.{Token as Found}
use Rattle.relation_words.specs.declared.tokens.Stop.{Stop}
use Rattle.std.specs.Prelude.{None, Some, is_some}
use Rattle.std.specs.declared.option.Option.{Option as Maybe}
use Rattle.relation_words.specs.Words.{word_of}
use Rattle.relation_words.specs.Heard.{TokenHeardOn, NothingHeardOn}
use Rattle.relation_truth.specs.declared.Truth.{Truth as TruthTold}
use Rattle.relation_truth.specs.declared.comparing.Sign.{Sign as SignTold}
use Rattle.relation_truth.specs.declared.values.Constant.{Constant as ConstantTold}
use Rattle.relation_truth.specs.Told.{sign_told, TruthIs}
use Rattle.relation_truth.specs.Values.{held_in, operand_of, sign_in, sign_no, SignIs, NoSign, ValueIs}
use Rattle.relation_truth.specs.Values.{value_in as value_told}
use Rattle.relations.specs.declared.told.Read.{Read}
use Rattle.relations.specs.declared.told.Refused.{Refused}
use Rattle.relations.specs.Told.{bad_relation, refused_as}
use Rattle.relations.specs.Expected.{wants_name, wants_operand, wants_sign, word_in, is_named}
use Rattle.relations.specs.Reading.{OperandAt, ComparedAs, among_of, AmongRead, NameOver, NameStop, SimpleRead}
use Rattle.relations.proofs.ExpectedLaws.{through, heard_ahead, name_stops, second_stops, sign_stops, word_least, word_last, word_token, is_operand, is_name, property_kind, sign_token, listed_sign}

-- ---- values that are compared

same_sign : (raised : Bool) (k : ℕ) (g : SignTold) (x y : Option Constant) → SignIs k g → compared raised (sign_no k) x y ≡ compared raised (sign_told g) x y
same_sign raised k g none y q = refl
same_sign raised k g (some x) none q = refl
same_sign raised k g (some (Text v)) (some (Text w)) q = ap truth_of (q.is _)
same_sign raised k g (some (Text v)) (some (Number z)) q = refl
same_sign raised k g (some (Number y)) (some (Text w)) q = refl
same_sign raised k g (some (Number y)) (some (Number z)) q = ap truth_of (q.is _)

pub compared_is : (s : List ℕ) {p : List ℕ} (x y : Found) {m n : Bool} {g : SignTold} {a b : Maybe ConstantTold} {r : TruthTold} → m ≡ is_named x.kind → n ≡ is_named y.kind
    → ValueIs p (operand_of s x) a → ValueIs p (operand_of s y) b → TruthIs (compared (m || n) (sign_told g) (value_told a) (value_told b)) r
    → ComparedAs (held_in p) (operand_of s x) g (operand_of s y) r
unfolding comparison
compared_is s x y {g = g} e f h i t = record {
  is = λ k q. record {
    is = t.is
        ∙ (λ j. compared ((e ∙ sym (property_kind s x)) j || (f ∙ sym (property_kind s y)) j) (sign_told g) (h.is j) (i.is j))
        ∙ sym (same_sign _ k g _ _ q);
  };
}

-- ---- SPECIFIED

has_value_lem : (v : Maybe ConstantTold) → has_value (value_told v) ≡ is_some v
has_value_lem None = refl
has_value_lem (Some c) = refl

module _ {s : List ℕ} {at : ℕ} where
  pub no_name : {e : Stop} → NothingHeardOn wants_name s at e → NameStop s at (bad_relation e.at)
  no_name h = record { on = h.on; most = h.most; wrong = name_stops h }

  pub name_told : {t : Found} → TokenHeardOn wants_name s at t → {p : List ℕ} {v : Maybe ConstantTold} → ValueIs p (operand_of s t) v → {x : Bool} → x ≡ is_some v
      → {r : TruthTold} → TruthIs (truth_of x) r → NameOver (held_in p) s at (record { to = t.to; truth = r })
  name_told h {p} {v} i e q =
      let x = is_name h in
      record {
        on = heard_ahead h;
        most = h.most;
        name = x.name;
        token = x.token;
        is = ap (λ z. truth_of (has_value (operand_value (held_in p) z))) (sym x.is)
            ∙ ap (λ z. truth_of (has_value z)) (sym i.is)
            ∙ ap truth_of (has_value_lem v ∙ sym e)
            ∙ sym q.is;
      }

-- ---- comparisons

simple_refused : {ps : List Held} {s : List ℕ} {at : ℕ} {e : Refused} → at ≤ e.at → e.at ≤ length s
    → ((limit : ℕ) (w : Around) (p : Part) → run limit (suc at) (Between (AtCondition w p)) (drop at s) ≡ refused_as e) → SimpleRead ps s at (Err e)
simple_refused a b f = record { read = λ d. record { on = a; most = b; stops = record { stops = λ w p k. f deepest w p } } }

-- the sign that was heard
sign_of : (x : Operand) {s : List ℕ} {at k : ℕ} {g : SignTold} {t : Found} → TokenHeardOn (wants_sign (is_property x)) s at t → k ≡ word_in t.kind → SignIs k g
    → TokenAt (suc at) (drop at s) (Fixed (sign_text (sign_no k))) (suc t.to) (drop t.to s)
sign_of x {s} {at} {k} {g} {t} h e q = go x h
  where
    told : (ws : List (List ℕ)) → token_of (suc t.from) (word_of (map sign_text all_signs ++ ws) k) ≡ some (Fixed (sign_text (sign_no k)))
    told ws =
        let l : 1 ≤ k = q.least in
        let m : k ≤ 13 = q.most in
        let u : k - 1 < 13 = omega arith in
        let f : suc (k - 1) ≡ k = omega arith in
        subst (λ j. token_of (suc t.from) (word_of (map sign_text all_signs ++ ws) j) ≡ some (Fixed (sign_text (sign_no j)))) f
        (ap (token_of (suc t.from)) (listed_sign all_signs ws (k - 1) u) ∙ sign_token (suc t.from) (sign_in all_signs (suc (k - 1))))

    go : (x : Operand) → TokenHeardOn (wants_sign (is_property x)) s at t → TokenAt (suc at) (drop at s) (Fixed (sign_text (sign_no k))) (suc t.to) (drop t.to s)
    go (Property y) h = word_token h k (sym e) (Fixed (sign_text (sign_no k))) (told (text "IN" ∷ []))
    go (Given y) h = word_token h k (sym e) (Fixed (sign_text (sign_no k))) (told [])

-- only behind a name
in_of : (x : Operand) {s : List ℕ} {at k : ℕ} {t : Found} → TokenHeardOn (wants_sign (is_property x)) s at t → k ≡ word_in t.kind → NoSign k
    → (y : List ℕ) × (x ≡ Property y) × TokenAt (suc at) (drop at s) (Fixed (text "IN")) (suc t.to) (drop t.to s)
unfolding token_of Rattle.relation_rules.specs.Grammar.reserved
in_of (Property y) {k = k} {t = t} h e n =
    let a : 1 ≤ word_in t.kind = word_least h in
    let b : word_in t.kind ≤ 14 = word_last h in
    let c : 14 ≤ k = n.beyond (omega arith) in
    (y, refl, word_token h 14 (omega arith) (Fixed (text "IN")) refl)
in_of (Given y) {k = k} {t = t} h e n =
    let a : 1 ≤ word_in t.kind = word_least h in
    let b : word_in t.kind ≤ 13 = word_last h in
    let c : 14 ≤ k = n.beyond (omega arith) in
    absurd (omega arith)

-- IN by the value of its property
among_is : (ps : List Held) (y : List ℕ) (cs : Chain Constant) → among ps y cs ≡ among_of (value_in ps y) cs
unfolding among comparison among_of
among_is ps y (One c) = refl
among_is ps y (More cs c) = ap (λ z. either z (compared true Equal (value_in ps y) (some c))) (among_is ps y cs)

module _ {s : List ℕ} {at : ℕ} {t : Found} (x : OperandAt s at t) {named : Bool} (f : named ≡ is_named t.kind) where
  first_moves : (limit : ℕ) (w : Around) (p : Part)
      → run limit (suc at) (Between (AtCondition w p)) (drop at s) ≡ run limit (suc t.to) (Between (AtOperand w p (operand_of s t))) (drop t.to s)
  first_moves limit w p =
      let o = operand_of s t in
      token_moves limit x.token (AtCondition w p) (AtOperand w p o) (operand_taken limit w p o) (operand_admitted limit (AtCondition w p) o)

  first_ahead : at ≤ t.to
  first_ahead = let c : at ≤ t.from = x.begins in let d : t.from < t.to = x.inside.on in omega arith

  pub no_sign : {e : Stop} → NothingHeardOn (wants_sign named) s t.to e → {ps : List Held} → SimpleRead ps s at (Err (bad_relation e.at))
  no_sign {e} h =
      let heard = subst (λ b. NothingHeardOn (wants_sign b) s t.to e) (f ∙ sym (property_kind s t)) h in
      simple_refused (through first_ahead h.on) h.most (λ limit w p. first_moves limit w p ∙ sign_stops (operand_of s t) heard limit w p)

  module _ {sign : Found} (h : TokenHeardOn (wants_sign named) s t.to sign) {k : ℕ} (e : k ≡ word_in sign.kind) where
    heard : TokenHeardOn (wants_sign (is_property (operand_of s t))) s t.to sign
    heard = subst (λ b. TokenHeardOn (wants_sign b) s t.to sign) (f ∙ sym (property_kind s t)) h

    sign_ahead : at ≤ sign.to
    sign_ahead = through first_ahead (heard_ahead h)

    pub with_in : NoSign k → {ps : List Held} (r : Result Read Refused) → AmongRead (operand_value ps (operand_of s t)) s sign.to r → SimpleRead ps s at r
    unfolding take next or_truth
    with_in n {ps} r v = go r v
      where
        y : (y : List ℕ) × (operand_of s t ≡ Property y) × TokenAt (suc t.to) (drop t.to s) (Fixed (text "IN")) (suc sign.to) (drop sign.to s)
        y = in_of (operand_of s t) heard e n

        token : TokenAt (suc at) (drop at s) (Name y.0) (suc t.to) (drop t.to s)
        token = subst (λ o. TokenAt (suc at) (drop at s) (operand_token o) (suc t.to) (drop t.to s)) y.1 x.token

        go : (r : Result Read Refused) → AmongRead (operand_value ps (operand_of s t)) s sign.to r → SimpleRead ps s at r
        go (Ok r) o =
            let cs = o.rest.values.values in
            record {
              read = λ d. record {
                on = through sign_ahead (through o.on o.rest.on);
                most = o.rest.most;
                is = record {
                  tree = Among y.0 cs;
                  truth = among_is ps y.0 cs ∙ ap (λ q. among_of (operand_value ps q) cs) (sym y.1) ∙ o.rest.values.is;
                  over = over_among deepest token y.2 o.opening (o.rest.values.over deepest) o.rest.close;
                };
              };
            }
        go (Err m) v = record {
          read = λ d. record {
            on = through sign_ahead v.on;
            most = v.most;
            stops = record {
              stops =
                  λ w p k.
                  token_moves deepest token (AtCondition w p) (AtOperand w p (Property y.0)) refl refl
                  ∙ token_moves deepest y.2 (AtOperand w p (Property y.0)) (AtIn w p y.0) refl refl
                  ∙ v.wrong deepest w p y.0;
            };
          };
        }

    module _ {g : SignTold} (m : SignIs k g) where
      pub no_second : {e : Stop} → NothingHeardOn wants_operand s sign.to e → {ps : List Held} → SimpleRead ps s at (Err (bad_relation e.at))
      no_second i =
          let o = operand_of s t in
          simple_refused (through sign_ahead i.on) i.most
          (λ limit w p.
          first_moves limit w p
          ∙ token_moves limit (sign_of o heard e m) (AtOperand w p o) (AtSign w p o (sign_no k)) (sign_taken limit w p o (sign_no k)) (sign_admitted limit (AtOperand w p o) (sign_no k))
          ∙ second_stops i limit w p o (sign_no k))

      pub compared_both : {other : Found} → TokenHeardOn wants_operand s sign.to other → {ps : List Held} {r : TruthTold} → ComparedAs ps (operand_of s t) g (operand_of s other) r
          → SimpleRead ps s at (Ok (record { to = other.to; truth = r }))
      compared_both {other} i {ps} q =
          let o = operand_of s t in
          let y = operand_of s other in
          record {
            read = λ d. record {
              on = through sign_ahead (heard_ahead i);
              most = i.most;
              is = subst (λ v. SingleTrue deepest ps d (suc at) (drop at s) v (suc other.to) (drop other.to s)) (sym (q.is k m).is)
                  (true_comparison deepest ps o (sign_no k) y x.token (sign_of o heard e m) (is_operand i).token);
            };
          }
