-- Assignments, read part by part.
use Prim.Native.Nat.{ℕ, suc, ◌+◌, ◌-◌, ◌≤◌, ◌<◌}
use mathlib.Core.Path.{◌≡◌, refl, sym, ◌∙◌, ap, subst}
use mathlib.Core.Bool.{Bool, true, false≢true}
use mathlib.Core.List.{List, []}
use mathlib.Core.Option.{Option, some, none}
use native.Mathlib.Omega.{arith}
use native.Mathlib.Numerals.{add-one}
use lib.Dec.{eqb}
use lib.ListN.{length, drop, get_or}
use Rattle.rules.specs.Letters.{text, letter}
use Rattle.relation_rules.specs.Grammar.{Variable, Fixed, Chain, Assignment, token_of, reserved, deepest}
use Rattle.relation_rules.specs.Reader.{fresh, Start, AtVariable, AtBecomes, AtValue, AtCondition, next, complete, take, Between, run}
use Rattle.relation_rules.specs.Parts.{TokenAt}
use Rattle.relation_rules.specs.Truth.{Held, plainly, granted_by}
use Rattle.layout.specs.Reads.{part}
use Rattle.rules.proofs.TestLaws.{and_false}
use Rattle.relation_rules.proofs.MoveLaws.{token_moves}
use Rattle.relation_words.specs.declared.tokens.Token.{Token as Found}
use Rattle.relation_words.specs.declared.tokens.Stop.{Stop}
use Rattle.relation_words.specs.declared.tokens.Kind.{Kind}
use Rattle.relation_words.specs.declared.tokens.Kind.TheVariants.{Word, Name as AName, Quoted as AString, Figure}
use Rattle.relation_words.specs.Words.{Gap}
use Rattle.relation_words.specs.Wanted.{wanted_by}
use Rattle.relation_words.specs.Heard.{may_hear, TokenHeard, NothingHeard, TokenHeardOn, NothingHeardOn}
use Rattle.relation_words.proofs.TokenLaws.{gap_moves, gap_token}
use Rattle.relation_truth.specs.Told.{truth_in}
use Rattle.relations.specs.declared.conditions.Next.TheVariants.{Closed, End}
use Rattle.relations.specs.declared.conditions.Join.{Join as Joining}
use Rattle.relations.specs.declared.conditions.Chain.{Chain as ChainTold}
use Rattle.relations.specs.declared.assignments.Head.{Head}
use Rattle.relations.specs.declared.assignments.Behind.{Behind}
use Rattle.relations.specs.declared.assignments.Behind.TheVariants.{If, Join}
use Rattle.relations.specs.declared.told.Refused.{Refused}
use Rattle.relations.specs.Told.{bad_relation}
use Rattle.relations.specs.Expected.{wants_variable, wants_becomes, wants_string, wants_if, word_in}
use Rattle.relations.specs.Reading.{OrOver, OrStop, DepthAt}
use Rattle.relations.specs.Assignments.{part_in, AssignmentStop, HeadOver, BehindIs, BehindOver, IfOver, IfStop, IfRefused, AssignmentOver}
use Rattle.relations.proofs.ExpectedLaws.{through, heard_ahead, word_least, word_last, word_token, here_least, here_last, here_token}
use Rattle.relations.proofs.JoinLaws.{join_end}

-- ---- the variable and its string

-- where only a string may come, a string came
is_string : {s : List ℕ} {at : ℕ} {t : Found} → TokenHeardOn wants_string s at t → t.kind ≡ AString
is_string {t = t} h = go t.kind refl
  where
    go : (k : Kind) → t.kind ≡ k → t.kind ≡ AString
    go (Word j) e = absurd (false≢true (ap (may_hear wants_string) (sym e) ∙ h.asked))
    go AName e = absurd (false≢true (ap (may_hear wants_string) (sym e) ∙ h.asked))
    go AString e = e
    go (Figure below size) e = absurd (false≢true (ap (may_hear wants_string) (sym e) ∙ h.asked))

-- a string has two quotes
pub string_long : {s : List ℕ} {at : ℕ} {t : Found} → TokenHeardOn wants_string s at t → t.from + 2 ≤ t.to
string_long h = h.closed (is_string h)

module _ {s : List ℕ} {at : ℕ} where
  pub no_variable : {e : Stop} → NothingHeardOn wants_variable s at e → AssignmentStop s at (bad_relation e.at)
  unfolding wanted_by next complete
  no_variable h = record { on = h.on; most = h.most; wrong = λ d. (h.wrong refl).stops deepest (Start d) refl refl refl }

  module _ {t : Found} (h : TokenHeardOn wants_variable s at t) where
    variable : TokenAt (suc at) (drop at s) (Variable (suc t.from)) (suc t.to) (drop t.to s)
    unfolding token_of
    variable =
        let a : 1 ≤ word_in t.kind = word_least h in
        let b : word_in t.kind ≤ 1 = word_last h in
        word_token h 1 (omega arith) (Variable (suc t.from)) refl

    first_moves : (d : Option (Chain Assignment)) → run deepest (suc at) (Between (Start d)) (drop at s) ≡ run deepest (suc t.to) (Between (AtVariable d (suc t.from))) (drop t.to s)
    unfolding take next
    first_moves d = token_moves deepest variable (Start d) (AtVariable d (suc t.from)) refl refl

    pub no_equals : {e : Stop} → NothingHeardOn wants_becomes s t.to e → AssignmentStop s at (bad_relation e.at)
    unfolding wanted_by next complete
    no_equals i = record {
      on = through (heard_ahead h) i.on;
      most = i.most;
      wrong = λ d. first_moves d ∙ (i.wrong refl).stops deepest (AtVariable d (suc t.from)) refl refl refl;
    }

    module _ {u : Found} (i : TokenHeardOn wants_becomes s t.to u) where
      equals : TokenAt (suc t.to) (drop t.to s) (Fixed (text "=")) (suc u.to) (drop u.to s)
      unfolding token_of
      equals =
          let a : 1 ≤ word_in u.kind = word_least i in
          let b : word_in u.kind ≤ 1 = word_last i in
          word_token i 1 (omega arith) (Fixed (text "=")) refl

      second_moves : (d : Option (Chain Assignment)) → run deepest (suc at) (Between (Start d)) (drop at s) ≡ run deepest (suc u.to) (Between (AtBecomes d (suc t.from))) (drop u.to s)
      unfolding take next
      second_moves d = first_moves d ∙ token_moves deepest equals (AtVariable d (suc t.from)) (AtBecomes d (suc t.from)) refl refl

      pub no_string : {e : Stop} → NothingHeardOn wants_string s u.to e → AssignmentStop s at (bad_relation e.at)
      unfolding wanted_by next complete
      no_string j = record {
        on = through (through (heard_ahead h) (heard_ahead i)) j.on;
        most = j.most;
        wrong = λ d. second_moves d ∙ (j.wrong refl).stops deepest (AtBecomes d (suc t.from)) refl refl refl;
      }

      pub head_there : {v : Found} → TokenHeardOn wants_string s u.to v
          → HeadOver s at (record { to = v.to; variable = t.from; name = record { at = v.from + 1; size = v.to - v.from - 2 } })
      unfolding take next
      head_there {v} j =
          let far : v.from + 2 ≤ v.to = string_long j in
          let most : v.to ≤ length s = j.most in
          let ends : v.to - 1 ≡ v.from + 1 + (v.to - v.from - 2) = omega arith in
          record {
            on = through (through (heard_ahead h) (heard_ahead i)) (heard_ahead j);
            most = j.most;
            stands = let a : t.from < t.to = h.further in let b : t.to ≤ length s = h.most in omega arith;
            within = record { most = omega arith };
            moves =
                λ d.
                second_moves d
                ∙ token_moves deepest (j.quoted (is_string j)) (AtBecomes d (suc t.from)) (AtValue d (suc t.from) (part s (suc v.from) (v.to - 1))) refl refl
                ∙ (λ k. run deepest (suc v.to) (Between (AtValue d (suc t.from) (part s (sym (add-one v.from) k) (ends k)))) (drop v.to s));
          }

-- ---- IF, a comma or the end

pub if_end : {s : List ℕ} {at i : ℕ} → Gap s at i → length s ≤ i → BehindOver s at (Join (record { next = End; after = i }))
if_end g l = record { is = record { joined = join_end g l; no_and = λ e. cc; no_or = λ e. cc } }

module _ {s : List ℕ} {at i : ℕ} (g : Gap s at i) where
  pub if_none : {e : Stop} → NothingHeard wants_if s i e → IfRefused s at (bad_relation e.at)
  unfolding wanted_by next
  if_none h =
      record {
        stop = record {
          on = through g.on h.on;
          most = h.most;
          wrong = λ d p v. gap_moves g deepest (AtValue d p v) ∙ (h.wrong refl).stops deepest (AtValue d p v) refl (and_false (eqb (get_or s i 0) (letter "(")));
        };
        reason = refl;
      }

  module _ {t : Found} (h : TokenHeard wants_if s i t) {k : ℕ} (told : k ≡ word_in t.kind) where
    further : at < t.to
    further = let a : at ≤ i = g.on in let b : i < t.to = h.further in omega arith

    ahead : at ≤ t.to
    ahead = let a : at < t.to = further in omega arith

    pub if_condition : k ≡ 1 → BehindOver s at (If t.to)
    unfolding token_of reserved
    if_condition e = record { is = record { on = ahead; most = h.most; condition = gap_token g (here_token h 1 (omega arith) (Fixed (text "IF")) refl) } }

    pub if_comma : (k ≡ 1 → ⊥) → BehindOver s at (Join (record { next = Closed; after = t.to }))
    unfolding token_of
    if_comma m =
        let a : 1 ≤ word_in t.kind = here_least h in
        let b : word_in t.kind ≤ 2 = here_last h in
        record {
          is = record {
            joined = record {
              on = ahead;
              most = h.most;
              and = λ f. cc;
              or = λ f. cc;
              close = λ _. gap_token g (here_token h 2 (omega arith) (Fixed (text ",")) refl);
              end = λ f. cc;
              over = λ f. cc;
              further = λ _. further;
            };
            no_and = λ f. cc;
            no_or = λ f. cc;
          };
        }

-- ---- an assignment

module _ {s : List ℕ} {at : ℕ} {head : Head} (v : HeadOver s at head) where
  pub assignment_cut : {m : Refused} → IfStop s head.to m → AssignmentStop s at m
  assignment_cut f = record {
    on = through v.on f.on;
    most = f.most;
    wrong = λ d. v.moves d ∙ f.wrong d (suc head.variable) (part_in s head.name);
  }

  module _ {b : Behind} (f : BehindOver s head.to b) where
    pub assignment_plain : {j : Joining} → b ≡ Join j → {ps : List Held}
        → AssignmentOver ps s at (record { to = head.to; join = j; variable = head.variable; name = head.name; granted = true })
    unfolding granted_by
    assignment_plain {j} e = record {
      on = v.on;
      most = v.most;
      condition = none;
      grants = refl;
      stands = v.stands;
      within = v.within;
      moves = v.moves;
      follows = subst (BehindIs s head.to) e f.is;
    }

    module _ {after : ℕ} (z : b ≡ If after) where
      over : IfOver s head.to after
      over = subst (BehindIs s head.to) z f.is

      -- the position behind IF
      pub depth_all : DepthAt s after 16
      depth_all = record { there = over.most; left = omega arith }

      if_moves : (d : Option (Chain Assignment))
          → run deepest (suc at) (Between (Start d)) (drop at s)
          ≡ run deepest (suc after) (Between (AtCondition (record { done = d; place = suc head.variable; value = part_in s head.name; outer = [] }) fresh)) (drop after s)
      unfolding take next
      if_moves d =
          v.moves d
          ∙ token_moves deepest over.condition (AtValue d (suc head.variable) (part_in s head.name))
          (AtCondition (record { done = d; place = suc head.variable; value = part_in s head.name; outer = [] }) fresh) refl refl

      pub assignment_wrong : {m : Refused} → OrStop 0 s after m → AssignmentStop s at m
      assignment_wrong r = record {
        on = through (through v.on over.on) r.on;
        most = r.most;
        wrong = λ d. if_moves d ∙ r.stops.stops (record { done = d; place = suc head.variable; value = part_in s head.name; outer = [] }) refl;
      }

      pub assignment_if : {c : ChainTold} {ps : List Held} → OrOver ps 0 s after c → {granted : Bool} → granted ≡ plainly (truth_in c.truth)
          → AssignmentOver ps s at (record { to = c.to; join = record { next = c.next; after = c.after }; variable = head.variable; name = head.name; granted = granted })
      unfolding granted_by
      assignment_if r e = record {
        on = through (through v.on over.on) r.on;
        most = r.most;
        condition = some r.is.tree;
        grants = ap plainly r.is.truth ∙ sym e;
        stands = v.stands;
        within = v.within;
        moves = λ d. if_moves d ∙ r.is.over.moves (record { done = d; place = suc head.variable; value = part_in s head.name; outer = [] }) refl;
        follows = record { joined = r.behind; no_and = r.no_and; no_or = r.no_or };
      }
