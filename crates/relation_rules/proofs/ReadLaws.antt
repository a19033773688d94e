-- Every text of the grammar is read as its tree: blank by blank and token by token.
use Prim.Native.Nat.{ℕ, suc}
use mathlib.Core.Path.{◌≡◌, sym, ◌∙◌, ap}
use mathlib.Core.Bool.{true, false}
use mathlib.Core.List.{List, [], ◌∷◌, ◌++◌}
use mathlib.Core.Option.{some, none, none-ne-some}
use Rattle.relation_rules.specs.Grammar.{Token, Chain, Assignment, token_of, goes_on, apart, past, Spelled, end, blank, token, is_blank, ReadsAs, Reads, deepest, within}
use Rattle.rules.specs.PlacedRefusals.{Done}
use Rattle.relation_rules.specs.Reader.{State, Start, complete, take, viable, Between, Inside, too_deep, begin, then_take, behind, step, final, or_cut, run, relation_of}
use Rattle.rules.proofs.TestLaws.{not_so}
use Rattle.relation_rules.proofs.ReaderLaws.{Accepts, stop, go, accepted, admits}
use Rattle.relation_rules.proofs.SoundLaws.{append_one, fine_injective}
use Rattle.relation_rules.proofs.TokenLaws.{not_blank, not_deep, goes_on_lem, viable_part, append_nil}

module _ (limit : ℕ) where
  -- a blank is passed over
  pub blank_read : (n : ℕ) (q : State) (b : ℕ) (s : List ℕ) → is_blank b ≡ true → run limit n (Between q) (b ∷ s) ≡ run limit (suc n) (Between q) s
  unfolding run step begin
  blank_read n q b s e = rw e

  -- a token begins
  token_begun : (n : ℕ) (q : State) (b : ℕ) (s : List ℕ) → is_blank b ≡ false → too_deep limit q b ≡ false → viable q (b ∷ []) ≡ true
      → run limit n (Between q) (b ∷ s) ≡ run limit (suc n) (Inside q n (b ∷ [])) s
  unfolding run step begin
  token_begun n q b s e f g = rw (e, f, g)

  -- a byte of a token
  byte_read : (n : ℕ) (q : State) (from : ℕ) (l : List ℕ) (c : ℕ) (s : List ℕ) → goes_on l c ≡ true → viable q (l ++ (c ∷ [])) ≡ true
      → run limit n (Inside q from l) (c ∷ s) ≡ run limit (suc n) (Inside q from (l ++ (c ∷ []))) s
  unfolding run step
  byte_read n q from l c s e f = rw (e, f)

  -- the rest of a token
  pub token_read_on : (n : ℕ) (q q' : State) (from b : ℕ) (x y s : List ℕ) (t : Token) → token_of from (b ∷ (x ++ y)) ≡ some t → take q t ≡ some q'
      → run limit n (Inside q from (b ∷ x)) (y ++ s) ≡ run limit (past y n) (Inside q from (b ∷ (x ++ y))) s
  token_read_on n q q' from b x [] s t e f = ap (λ z. run limit n (Inside q from (b ∷ z)) s) (sym (append_nil x))
  token_read_on n q q' from b x (c ∷ y) s t e f =
      let e' : token_of from (b ∷ ((x ++ (c ∷ [])) ++ y)) ≡ some t = ap (λ z. token_of from (b ∷ z)) (append_one x c y) ∙ e in
      byte_read n q from (b ∷ x) c (y ++ s) (goes_on_lem from b x c y t e) (viable_part q q' from b (x ++ (c ∷ [])) y t e' f)
      ∙ token_read_on (suc n) q q' from b (x ++ (c ∷ [])) y s t e' f
      ∙ ap (λ z. run limit (past y (suc n)) (Inside q from (b ∷ z)) s) (append_one x c y)

  pub is_behind : (q q' : State) (from : ℕ) (l : List ℕ) (t : Token) → token_of from l ≡ some t → take q t ≡ some q' → behind q from l ≡ some q'
  unfolding behind
  is_behind q q' from l t e f = ap (then_take q) e ∙ f

  -- a token ends
  pub token_ended : (n : ℕ) (q q' : State) (from : ℕ) (l s : List ℕ) → behind q from l ≡ some q' → apart l s ≡ true
      → run limit n (Inside q from l) s ≡ run limit n (Between q') s
  unfolding run step final
  token_ended n q q' from l [] e a = rw e
  token_ended n q q' from l (c ∷ s) e a = rw (not_so (goes_on l c) a, e)

  -- a token, from its first byte to its last
  pub token_read : (n : ℕ) (q q' : State) (l s : List ℕ) (t : Token) → token_of n l ≡ some t → take q t ≡ some q' → admits limit q t ≡ true → apart l s ≡ true
      → run limit n (Between q) (l ++ s) ≡ run limit (past l n) (Between q') s
  unfolding token_of
  token_read n q q' [] s t e f g a = absurd (none-ne-some _ e)
  token_read n q q' (b ∷ l) s t e f g a =
      token_begun n q b (l ++ s) (not_blank n b l t e) (not_deep limit n b l t q e g) (viable_part q q' n b [] l t e f)
      ∙ token_read_on (suc n) q q' n b [] l s t e f
      ∙ token_ended (past l (suc n)) q q' n (b ∷ l) s (is_behind q q' n (b ∷ l) t e f) a

  accept_end : {q : State} {tree : Chain Assignment} → Accepts limit q [] tree → complete q ≡ some tree
  accept_end (stop e) = e

  record Onward (q : State) (t : Token) (ts : List Token) (tree : Chain Assignment) : Type 0 where
    state : State
    taken : take q t ≡ some state
    admitted : admits limit q t ≡ true
    rest : Accepts limit state ts tree

  accept_next : {q : State} {t : Token} {ts : List Token} {tree : Chain Assignment} → Accepts limit q (t ∷ ts) tree → Onward q t ts tree
  accept_next (go q' e a h) = record { state = q'; taken = e; admitted = a; rest = h }

  pub spelled_read : {n : ℕ} {s : List ℕ} {ts : List Token} → Spelled n s ts → (q : State) (tree : Chain Assignment) → Accepts limit q ts tree
      → run limit n (Between q) s ≡ Done tree
  unfolding run final
  spelled_read (end {n = n}) q tree h = ap (or_cut n) (accept_end h)
  spelled_read (blank {n = n} {b = b} {s = s} e r) q tree h = blank_read n q b s e ∙ spelled_read r q tree h
  spelled_read (token {n = n} {t = t} l s e a r) q tree h =
      let o = accept_next h in
      token_read n q o.state l s t e o.taken o.admitted a ∙ spelled_read r o.state tree o.rest

  pub within_read : (s : List ℕ) (tree : Chain Assignment) → ReadsAs s tree → within limit tree ≡ true → run limit 1 (Between (Start none)) s ≡ Done tree
  within_read s tree r e = spelled_read r (Start none) tree (accepted limit tree e)

-- a text of the grammar is read as its tree
pub read : (s : List ℕ) (tree : Chain Assignment) → Reads s tree → relation_of s ≡ Done tree
unfolding relation_of
read s tree r = within_read deepest s tree r.0 r.1

-- so it has one tree only
pub one_reading : (s : List ℕ) (t u : Chain Assignment) → Reads s t → Reads s u → t ≡ u
one_reading s t u r o = fine_injective t u (sym (read s t r) ∙ read s u o)
