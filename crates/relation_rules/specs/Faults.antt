-- "Derive conditions in the plugin": what is meant by the place of refusal 14, and by that of refusal 15.
use Rattle.std.specs.Prelude.{ℕ, ◌+◌, ◌≡◌, List, [], ◌∷◌, ◌++◌, length}
use Rattle.rules.specs.Letters.{letter}
use Rattle.relation_rules.specs.Grammar.{Chain, Assignment, Reads, ReadsAs}

-- no text of the grammar, of any depth, has the byte after those before it; or there is no byte, and those before it are no text
abbrev pub NoText : List ℕ → List ℕ → Type 0
NoText before [] = (tree : Chain Assignment) → ReadsAs before tree → ⊥
NoText before (b ∷ behind) = (rest : List ℕ) (tree : Chain Assignment) → ReadsAs (before ++ (b ∷ rest)) tree → ⊥

-- what stands before the place begins a text of the grammar, and the byte there, or the end, is the first that none has
pub record WrongAt (s : List ℕ) (p : ℕ) : Type 0 where
  pub before : List ℕ
  pub behind : List ℕ
  pub whole : s ≡ before ++ behind
  pub place : p ≡ 1 + length before
  pub rest : List ℕ
  pub tree : Chain Assignment
  pub text : Reads (before ++ rest) tree
  pub none_has : NoText before behind

-- at the place stands a parenthesis; what stands before it begins a text of the grammar, and with it begins a deeper one, but none that is sixteen deep at most
pub record DeepAt (s : List ℕ) (p : ℕ) : Type 0 where
  pub before : List ℕ
  pub behind : List ℕ
  pub whole : s ≡ before ++ (letter "(" ∷ behind)
  pub place : p ≡ 1 + length before
  pub rest : List ℕ
  pub tree : Chain Assignment
  pub text : Reads (before ++ rest) tree
  pub deeper_rest : List ℕ
  pub deeper_tree : Chain Assignment
  pub deeper_text : ReadsAs (before ++ (letter "(" ∷ deeper_rest)) deeper_tree
  pub none_has : (rest' : List ℕ) (tree' : Chain Assignment) → Reads (before ++ (letter "(" ∷ rest')) tree' → ⊥

-- the numbers of the reader's refusals
pub data Number : ℕ → Type 0 where
  fourteen : Number 14
  fifteen : Number 15
