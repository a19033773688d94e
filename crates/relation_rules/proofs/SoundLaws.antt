-- What the reader of relation texts reads is spelled by the text: byte by byte, from any spot.
use Prim.Native.Nat.{ℕ, suc}
use mathlib.Core.Path.{◌≡◌, refl, sym, ◌∙◌, ap, subst}
use mathlib.Core.Bool.{Bool, true, false, not, false≢true}
use mathlib.Core.List.{List, [], ◌∷◌, ◌++◌}
use mathlib.Core.Option.{Option, some, none, none-ne-some}
use Rattle.relation_rules.specs.Grammar.{Token, Chain, Assignment, token_of, goes_on, apart, past, Spelled, end, blank, token, is_blank, ReadsAs, within}
use Rattle.rules.specs.PlacedRefusals.{ResultAt, Done, RefusedAt}
use Rattle.relation_rules.specs.Reader.{State, Start, take, viable, Spot, Between, Inside, too_deep, beginning, begin, then_take, behind, begin_in, going, step, complete_in, final, or_cut, onward, run}
use Rattle.relation_rules.proofs.ReaderLaws.{tokens_of, Accepts, stop, go, admits, accepts_tokens, accepted_within}
use Rattle.relation_rules.proofs.TokenLaws.{admitted_of}

-- ---- places

pub past_end : (l : List ℕ) (b n : ℕ) → past (l ++ (b ∷ [])) n ≡ suc (past l n)
past_end [] b n = refl
past_end (a ∷ l) b n = past_end l b (suc n)

pub past_append : (l m : List ℕ) (n : ℕ) → past (l ++ m) n ≡ past m (past l n)
past_append [] m n = refl
past_append (a ∷ l) m n = past_append l m (suc n)

pub append_one : (l : List ℕ) (b : ℕ) (s : List ℕ) → (l ++ (b ∷ [])) ++ s ≡ l ++ (b ∷ s)
append_one [] b s = refl
append_one (a ∷ l) b s = ap (λ x. a ∷ x) (append_one l b s)

-- ---- answers

abbrev is_fine : {A : Type 0} → ResultAt A → Bool
is_fine (Done a) = true
is_fine (RefusedAt n p) = false

pub refused_fine : {A : Type 0} (n p : ℕ) (a : A) → RefusedAt n p ≡ Done a → ⊥
refused_fine n p a e = false≢true (ap is_fine e)

fine_or : Chain Assignment → ResultAt (Chain Assignment) → Chain Assignment
fine_or t (Done a) = a
fine_or t (RefusedAt n p) = t

pub fine_injective : (t u : Chain Assignment) → Done t ≡ Done u → t ≡ u
unfolding fine_or
fine_injective t u e = ap (fine_or t) e

pub cut_fine : (n : ℕ) (o : Option (Chain Assignment)) (tree : Chain Assignment) → or_cut n o ≡ Done tree → o ≡ some tree
cut_fine n none tree e = absurd (refused_fine 14 n tree e)
cut_fine n (some t) tree e = ap some (fine_injective t tree e)

number_in : ResultAt (Chain Assignment) → ℕ
number_in (Done a) = 0
number_in (RefusedAt k p) = k

place_in : ResultAt (Chain Assignment) → ℕ
place_in (Done a) = 0
place_in (RefusedAt k p) = p

pub number_of : (j k m p : ℕ) → ◌≡◌ {A = ResultAt (Chain Assignment)} (RefusedAt j m) (RefusedAt k p) → j ≡ k
unfolding number_in
number_of j k m p e = ap number_in e

pub place_of : (j k m p : ℕ) → ◌≡◌ {A = ResultAt (Chain Assignment)} (RefusedAt j m) (RefusedAt k p) → m ≡ p
unfolding place_in
place_of j k m p e = ap place_in e

-- ---- what is behind a token

-- the token, and the state behind it
pub record Taken (q : State) (from : ℕ) (l : List ℕ) (q' : State) : Type 0 where
  pub token : Token
  pub is : token_of from l ≡ some token
  pub next : take q token ≡ some q'

pub taken_by : (q : State) (from : ℕ) (l : List ℕ) (q' : State) → behind q from l ≡ some q' → Taken q from l q'
unfolding behind
taken_by q from l q' e = go (token_of from l) refl e
  where
    go : (o : Option Token) → token_of from l ≡ o → then_take q o ≡ some q' → Taken q from l q'
    go none f g = absurd (none-ne-some _ g)
    go (some t) f g = record { token = t; is = f; next = g }

-- ---- what is read is spelled

-- the bytes are tokens that are read from the state to the end of the text
pub record Rest (limit : ℕ) (q : State) (n : ℕ) (s : List ℕ) (tree : Chain Assignment) : Type 0 where
  pub tokens : List Token
  pub spelled : Spelled n s tokens
  pub accepts : Accepts limit q tokens tree

-- a token began no deeper than the limit
abbrev pub Shallow : ℕ → State → List ℕ → Type 0
Shallow limit q [] = ⊥
Shallow limit q (b ∷ l) = too_deep limit q b ≡ false

pub shallow_on : (limit : ℕ) (q : State) (l : List ℕ) (c : ℕ) → Shallow limit q l → Shallow limit q (l ++ (c ∷ []))
shallow_on limit q [] c h = absurd h
shallow_on limit q (b ∷ l) c h = h

shallow_admitted : (limit : ℕ) (q : State) (n : ℕ) (l : List ℕ) (t : Token) → Shallow limit q l → token_of n l ≡ some t → admits limit q t ≡ true
shallow_admitted limit q n [] t h e = absurd h
shallow_admitted limit q n (b ∷ l) t h e = admitted_of limit n b l t q e h

abbrev RestAt : ℕ → Spot → ℕ → List ℕ → Chain Assignment → Type 0
RestAt limit (Between q) n s tree = Rest limit q n s tree
RestAt limit (Inside q from l) n s tree = past l from ≡ n → Shallow limit q l → Rest limit q from (l ++ s) tree

module _ (limit : ℕ) (tree : Chain Assignment) where
  begun : (n : ℕ) (q : State) (b : ℕ) (s : List ℕ)
      → ((at : Spot) → run limit (suc n) at s ≡ Done tree → RestAt limit at (suc n) s tree)
      → onward n (begin limit n q b) (λ to. run limit (suc n) to s) ≡ Done tree
      → Rest limit q n (b ∷ s) tree
  unfolding begin
  begun n q b s ih e = go' (is_blank b) (too_deep limit q b) (viable q (b ∷ [])) refl refl e
    where
      go' : (x y z : Bool) → is_blank b ≡ x → too_deep limit q b ≡ y → onward n (beginning x y z n q b) (λ to. run limit (suc n) to s) ≡ Done tree
          → Rest limit q n (b ∷ s) tree
      go' true y z f d g = let r = ih (Between q) g in record { tokens = r.tokens; spelled = blank f r.spelled; accepts = r.accepts }
      go' false true z f d g = absurd (refused_fine 15 n tree g)
      go' false false true f d g = ih (Inside q n (b ∷ [])) g refl d
      go' false false false f d g = absurd (refused_fine 14 n tree g)

  behind_token : (n : ℕ) (q q' : State) (from : ℕ) (l s : List ℕ) → past l from ≡ n → Shallow limit q l → apart l s ≡ true → Taken q from l q'
      → Rest limit q' n s tree → Rest limit q from (l ++ s) tree
  behind_token n q q' from l s p d a t r =
      record {
        tokens = t.token ∷ r.tokens;
        spelled = token l s t.is a (subst (λ m. Spelled m s r.tokens) (sym p) r.spelled);
        accepts = go q' t.next (shallow_admitted limit q from l t.token d t.is) r.accepts;
      }

  ended_text : (n : ℕ) (at : Spot) → final at ≡ some tree → RestAt limit at n [] tree
  unfolding final
  ended_text n (Between q) e = record { tokens = []; spelled = end; accepts = stop e }
  ended_text n (Inside q from l) e = λ p d. go' p d (behind q from l) refl e
    where
      go' : past l from ≡ n → Shallow limit q l → (o : Option State) → behind q from l ≡ o → complete_in o ≡ some tree → Rest limit q from (l ++ []) tree
      go' p d none f g = absurd (none-ne-some _ g)
      go' p d (some q') f g =
          behind_token n q q' from l [] p d refl (taken_by q from l q' f) (record { tokens = []; spelled = end; accepts = stop g })

  pub sound : (s : List ℕ) (n : ℕ) (at : Spot) → run limit n at s ≡ Done tree → RestAt limit at n s tree
  unfolding run step
  sound [] n at e = ended_text n at (cut_fine n (final at) tree e)
  sound (b ∷ s) n (Between q) e = begun n q b s (sound s (suc n)) e
  sound (b ∷ s) n (Inside q from l) e = λ p d. go' p d (sound s (suc n)) (goes_on l b) (viable q (l ++ (b ∷ []))) refl e
    where
      go' : past l from ≡ n → Shallow limit q l → ((at : Spot) → run limit (suc n) at s ≡ Done tree → RestAt limit at (suc n) s tree)
          → (x y : Bool) → goes_on l b ≡ x → onward n (going x y limit n q from l b) (λ to. run limit (suc n) to s) ≡ Done tree → Rest limit q from (l ++ (b ∷ s)) tree
      go' p d ih true true f g =
          subst (λ x. Rest limit q from x tree) (append_one l b s) (ih (Inside q from (l ++ (b ∷ []))) g (past_end l b from ∙ ap suc p) (shallow_on limit q l b d))
      go' p d ih true false f g = absurd (refused_fine 14 n tree g)
      go' p d ih false y f g = over (behind q from l) refl g
        where
          over : (o : Option State) → behind q from l ≡ o → onward n (begin_in limit n o b) (λ to. run limit (suc n) to s) ≡ Done tree
              → Rest limit q from (l ++ (b ∷ s)) tree
          over none h k = absurd (refused_fine 14 n tree k)
          over (some q') h k = behind_token n q q' from l (b ∷ s) p d (ap not f) (taken_by q from l q' h) (begun n q' b s ih k)

module _ (limit : ℕ) (s : List ℕ) (tree : Chain Assignment) where
  -- what the reader reads, the text reads as
  pub read_spelled : run limit 1 (Between (Start none)) s ≡ Done tree → ReadsAs s tree
  unfolding tokens_of
  read_spelled e =
      let r = sound limit tree s 1 (Between (Start none)) e in
      subst (λ ts. Spelled 1 s ts) (sym (accepts_tokens r.accepts)) r.spelled

  -- and nothing in it is deeper than the limit
  pub read_within : run limit 1 (Between (Start none)) s ≡ Done tree → within limit tree ≡ true
  unfolding tokens_of
  read_within e =
      let r = sound limit tree s 1 (Between (Start none)) e in
      accepted_within limit tree (subst (λ ts. Accepts limit (Start none) ts tree) (sym (accepts_tokens r.accepts)) r.accepts)
