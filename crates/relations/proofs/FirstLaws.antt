-- Conditions that begin neither with a parenthesis nor with NOT, by their first token.
use Prim.Native.Nat.{ℕ, suc, ◌≤◌, ◌<◌}
use mathlib.Core.Path.{◌≡◌, refl, sym, ◌∙◌, ap, subst}
use mathlib.Core.Bool.{Bool, true, false}
use mathlib.Core.List.{List, [], ◌∷◌}
use native.Mathlib.Omega.{arith}
use lib.Dec.{eqb}
use lib.ListN.{drop, get_or}
use borrow.Author.Tests.{eqb-true, eqb-false}
use Rattle.rules.specs.Letters.{text}
use Rattle.relation_rules.specs.Grammar.{Fixed, operand_token, token_of, reserved, deepest}
use Rattle.relation_rules.specs.Reader.{AtCondition, AtSpecified, next, take}
use Rattle.relation_rules.specs.Parts.{TokenAt, SingleTrue}
use Rattle.relation_rules.specs.Truth.{Held}
use Rattle.relation_rules.proofs.TokenLaws.{open_first}
use Rattle.relation_rules.proofs.MoveLaws.{token_moves, true_specified}
use Rattle.layout.specs.Reads.{part}
use Rattle.std.specs.Prelude.{Ok, Err}
use Rattle.std.specs.declared.result.Result.{Result}
use Rattle.relation_words.specs.declared.tokens.Token.{Token as Found}
use Rattle.relation_words.specs.declared.tokens.Kind.{Kind}
use Rattle.relation_words.specs.declared.tokens.Kind.TheVariants.{Word, Name as AName, Quoted as AString, Figure}
use Rattle.relation_words.specs.Words.{word_of}
use Rattle.relation_words.proofs.PartLaws.{part_cons}
use Rattle.relation_words.proofs.TokenLaws.{gap_token}
use Rattle.relation_truth.specs.Values.{operand_of}
use Rattle.relations.specs.declared.told.Read.{Read}
use Rattle.relations.specs.declared.told.Refused.{Refused}
use Rattle.relations.specs.Reading.{OperandAt, SimpleRead, FirstAt, NameRead}
use Rattle.relations.proofs.ExpectedLaws.{through, operand_at_lem}

module _ {s : List ℕ} {at : ℕ} {t : Found} (f : FirstAt s at t) where
  ahead : at ≤ t.to
  ahead = let a : at ≤ t.from = f.gap.on in let b : t.from < t.to = f.heard.further in omega arith

  -- it is neither NOT nor a parenthesis, and so it is SPECIFIED
  second : (k : ℕ) → t.kind ≡ Word k → k ≡ 2
  unfolding token_of
  second k e = go (eqb k 3) refl
    where
      no_first : k ≡ 1 → ⊥
      no_first g = f.no_not (e ∙ ap Word g)

      go : (x : Bool) → eqb k 3 ≡ x → k ≡ 2
      go true g =
          let three : k ≡ 3 = eqb-true k 3 g in
          let h = f.heard.word k e (Fixed (text "(")) (ap (λ j. token_of (suc t.from) (word_of (text "NOT" ∷ text "SPECIFIED" ∷ text "(" ∷ []) j)) three) in
          absurd (f.no_open (eqb-true (get_or s t.from 0) 40
          (open_first (suc t.from) (get_or s t.from 0) (part s (suc t.from) t.to) (Fixed (text "(")) (ap (token_of (suc t.from)) (sym (part_cons s t.from t.to h.on h.most)) ∙ h.is) refl)))
      go false g =
          let a : 1 ≤ k = f.heard.least k e in
          let b : k ≤ 3 = f.heard.last k e in
          let c : k ≡ 3 → ⊥ = eqb-false k 3 g in
          let d : k ≡ 1 → ⊥ = no_first in
          omega arith

  pub first_specified : {ps : List Held} {k : ℕ} (r : Result Read Refused) → t.kind ≡ Word k → NameRead ps s t.to r → SimpleRead ps s at r
  unfolding token_of reserved take next
  first_specified {ps} {k} r e v = go r v
    where
      token : TokenAt (suc at) (drop at s) (Fixed (text "SPECIFIED")) (suc t.to) (drop t.to s)
      token = gap_token f.gap (f.heard.word k e (Fixed (text "SPECIFIED")) (ap (λ j. token_of (suc t.from) (word_of (text "NOT" ∷ text "SPECIFIED" ∷ text "(" ∷ []) j)) (second k e)))

      go : (r : Result Read Refused) → NameRead ps s t.to r → SimpleRead ps s at r
      go (Ok r) v = record {
        read = λ d. record {
          on = through ahead v.on;
          most = v.most;
          is = subst (λ z. SingleTrue deepest ps d (suc at) (drop at s) z (suc r.to) (drop r.to s)) v.is (true_specified deepest ps token v.token);
        };
      }
      go (Err m) v = record {
        read = λ d. record {
          on = through ahead v.on;
          most = v.most;
          stops = record { stops = λ w p k. token_moves deepest token (AtCondition w p) (AtSpecified w p) refl refl ∙ v.wrong deepest w p };
        };
      }

  pub first_operand : ((k : ℕ) → t.kind ≡ Word k → ⊥) → OperandAt s at t
  first_operand n =
      record {
        token = token t.kind refl;
        begins = f.gap.on;
        inside = record { on = f.heard.further; most = f.heard.most; closed = f.heard.closed; small = f.heard.small };
      }
    where
      token : (k : Kind) → t.kind ≡ k → TokenAt (suc at) (drop at s) (operand_token (operand_of s t)) (suc t.to) (drop t.to s)
      token (Word k) e = absurd (n k e)
      token AName e = operand_at_lem s t AName e (gap_token f.gap (f.heard.name e))
      token AString e = operand_at_lem s t AString e (gap_token f.gap (f.heard.quoted e))
      token (Figure below size) e = operand_at_lem s t (Figure below size) e (gap_token f.gap (f.heard.whole below size e))
