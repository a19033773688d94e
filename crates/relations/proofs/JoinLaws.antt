-- What comes behind a single condition or an assignment.
use Prim.Native.Nat.{ℕ, zero, suc, ◌≤◌, ◌<◌}
use mathlib.Core.Path.{◌≡◌, refl, ◌∙◌}
use mathlib.Core.Bool.{true}
use mathlib.Core.List.{List, [], ◌∷◌, map}
use mathlib.Core.Option.{Option, some}
use native.Mathlib.Omega.{arith}
use lib.Dec.{eqb}
use lib.ListN.{length, get_or}
use Rattle.rules.specs.Letters.{text, letter}
use Rattle.relation_rules.specs.Grammar.{Fixed, OrChain, AndChain, token_of, reserved, deepest}
use Rattle.relation_rules.specs.Reader.{Part, Around, AtSingle, next}
use Rattle.rules.proofs.TestLaws.{and_false}
use Rattle.relation_words.specs.declared.tokens.Token.{Token as Found}
use Rattle.relation_words.specs.declared.tokens.Stop.{Stop}
use Rattle.relation_words.specs.Words.{Gap}
use Rattle.relation_words.specs.Wanted.{Wanted, wanted_by, plain_words}
use Rattle.relation_words.specs.Heard.{ByteAt, TokenHeard, NothingHeard}
use Rattle.relation_words.proofs.TokenLaws.{gap_moves, gap_token}
use Rattle.relations.specs.declared.conditions.Next.TheVariants.{And, Or, Closed, End}
use Rattle.relations.specs.Told.{bad_relation}
use Rattle.relations.specs.Expected.{only_words, closes, wants_join, word_in}
use Rattle.relations.specs.Reading.{Joined, JoinRefused}
use Rattle.relations.proofs.ExpectedLaws.{through, here_least, here_last, here_token}

pub byte_behind : {s : List ℕ} {at i : ℕ} → Gap s at i → i < length s → ByteAt s i
byte_behind g l = record { there = l; no_blank = g.next l }

pub join_end : {d : ℕ} {s : List ℕ} {at i : ℕ} → Gap s at i → length s ≤ i → Joined d s at End i
join_end {d} {s} {at} {i} g l =
    let m : i ≤ length s = g.most in
    record {
      on = g.on;
      most = g.most;
      and = λ e. cc;
      or = λ e. cc;
      close = λ e. cc;
      end = λ _. g;
      over = λ _. omega arith;
      further = λ n. absurd (n refl);
    }

join_wants : (w : Around) (os : Option OrChain) (a : AndChain) (d : ℕ) → length w.outer ≡ d → wanted_by (AtSingle w os a) ≡ wants_join d
unfolding wanted_by next
join_wants w os a d e = go w.outer d e
  where
    go : (ps : List Part) (d : ℕ) → length ps ≡ d
        → ◌≡◌ {A = Wanted} (only_words (text "AND" ∷ text "OR" ∷ map (λ m. m.0) (Rattle.relation_rules.specs.Reader.closing w.done w.place w.value ps (Rattle.relation_rules.specs.Reader.or_of os a)))) (wants_join d)
    go [] zero f = refl
    go [] (suc d) f = absurd (omega arith)
    go (p ∷ ps) zero f = absurd (omega arith)
    go (p ∷ ps) (suc d) f = refl

plain_join : (d : ℕ) → plain_words (wants_join d).words ≡ true
plain_join zero = refl
plain_join (suc d) = refl

closes_token : (d : ℕ) (n : ℕ) → token_of n (closes d) ≡ some (Fixed (closes d))
unfolding token_of
closes_token zero n = refl
closes_token (suc d) n = refl

module _ (d : ℕ) {s : List ℕ} {at i : ℕ} (g : Gap s at i) where
  pub join_none : {e : Stop} → NothingHeard (wants_join d) s i e → JoinRefused d s at (bad_relation e.at)
  unfolding next
  join_none h =
      record {
        stop = record {
          on = through g.on h.on;
          most = h.most;
          wrong =
              λ w os a k.
              gap_moves g deepest (AtSingle w os a)
              ∙ (h.wrong (plain_join d)).stops deepest (AtSingle w os a) (join_wants w os a d k) (and_false (eqb (get_or s i 0) (letter "(")));
        };
        reason = refl;
      }

  module _ {t : Found} (h : TokenHeard (wants_join d) s i t) {k : ℕ} (told : k ≡ word_in t.kind) where
    further : at < t.to
    further = let a : at ≤ i = g.on in let b : i < t.to = h.further in omega arith

    ahead : at ≤ t.to
    ahead = let a : at < t.to = further in omega arith

    pub join_and : k ≡ 1 → Joined d s at And t.to
    unfolding token_of reserved
    join_and e = record {
      on = ahead;
      most = h.most;
      and = λ _. gap_token g (here_token h 1 (omega arith) (Fixed (text "AND")) refl);
      or = λ f. cc;
      close = λ f. cc;
      end = λ f. cc;
      over = λ f. cc;
      further = λ _. further;
    }

    pub join_or : k ≡ 2 → Joined d s at Or t.to
    unfolding token_of reserved
    join_or e = record {
      on = ahead;
      most = h.most;
      and = λ f. cc;
      or = λ _. gap_token g (here_token h 2 (omega arith) (Fixed (text "OR")) refl);
      close = λ f. cc;
      end = λ f. cc;
      over = λ f. cc;
      further = λ _. further;
    }

    pub join_closed : (k ≡ 1 → ⊥) → (k ≡ 2 → ⊥) → Joined d s at Closed t.to
    join_closed m n =
        let a : 1 ≤ word_in t.kind = here_least h in
        let b : word_in t.kind ≤ 3 = here_last h in
        record {
          on = ahead;
          most = h.most;
          and = λ f. cc;
          or = λ f. cc;
          close = λ _. gap_token g (here_token h 3 (omega arith) (Fixed (closes d)) (closes_token d (suc i)));
          end = λ f. cc;
          over = λ f. cc;
          further = λ _. further;
        }
