-- "Derive conditions in the plugin", for code that keeps no tree: what it has read, from one place of the text to another.
-- Such code says that there is a tree, that the reader moves over it from the one place to the other, and what its truth is.
use Rattle.std.specs.Prelude.{ℕ, ◌≡◌, true, List, [], ◌++◌, length}
use Rattle.std.proofs.Math.Option.{Option, some, none}
use Rattle.rules.specs.Lists.{all}
use Rattle.relation_rules.specs.Grammar.{Token, Chain, Constant, OrChain, FirstAnd, Or, AndChain, Single, Assignment, token_of, apart, past, is_blank}
use Rattle.rules.specs.PlacedRefusals.{RefusedAt}
use Rattle.relation_rules.specs.Reader.{Part, fresh, Around, State, Start, AtValue, AtCondition, AtOpen, AtListed, AtSingle, ended, Between, run}
use Rattle.relation_rules.specs.Truth.{Held, Truth, or_truth, and_truth, single_truth}

-- ---- tokens

-- from place n the bytes are blanks, a token, and behind it s' at place n'
pub record TokenAt (n : ℕ) (s : List ℕ) (t : Token) (n' : ℕ) (s' : List ℕ) : Type 0 where
  pub gap : List ℕ
  pub bytes : List ℕ
  pub whole : s ≡ gap ++ (bytes ++ s')
  pub blanks : all is_blank gap ≡ true
  pub is : token_of (past gap n) bytes ≡ some t
  pub alone : apart bytes s' ≡ true
  pub place : past bytes (past gap n) ≡ n'

-- ---- states behind a whole part

-- the state behind a whole or-chain
abbrev pub behind_or : Around → OrChain → State
behind_or w (FirstAnd a) = AtSingle w none a
behind_or w (Or o a) = AtSingle w (some o) a

-- or behind an assignment, where a comma or the end has to come
abbrev pub behind_assignment : Option (Chain Assignment) → ℕ → List ℕ → Option OrChain → State
behind_assignment d p v none = AtValue d p v
behind_assignment d p v (some o) = behind_or (record { done = d; place = p; value = v; outer = [] }) o

-- ---- conditions

module _ (limit : ℕ) where
  -- with d parentheses open, the reader moves over the tree, or stops, whatever was read before
  pub record OverSingle (d n : ℕ) (s : List ℕ) (c : Single) (n' : ℕ) (s' : List ℕ) : Type 0 where
    pub moves : (w : Around) (p : Part) → length w.outer ≡ d → run limit n (Between (AtCondition w p)) s ≡ run limit n' (Between (ended w p c)) s'

  pub record OverAnd (d n : ℕ) (s : List ℕ) (a : AndChain) (n' : ℕ) (s' : List ℕ) : Type 0 where
    pub moves : (w : Around) (os : Option OrChain) → length w.outer ≡ d
        → run limit n (Between (AtCondition w (record { ors = os; ands = none; nots = 0 }))) s ≡ run limit n' (Between (AtSingle w os a)) s'

  pub record OverOr (d n : ℕ) (s : List ℕ) (o : OrChain) (n' : ℕ) (s' : List ℕ) : Type 0 where
    pub moves : (w : Around) → length w.outer ≡ d → run limit n (Between (AtCondition w fresh)) s ≡ run limit n' (Between (behind_or w o)) s'

  pub record StopsSingle (d n : ℕ) (s : List ℕ) (k at : ℕ) : Type 0 where
    pub stops : (w : Around) (p : Part) → length w.outer ≡ d → run limit n (Between (AtCondition w p)) s ≡ RefusedAt k at

  pub record StopsAnd (d n : ℕ) (s : List ℕ) (k at : ℕ) : Type 0 where
    pub stops : (w : Around) (os : Option OrChain) → length w.outer ≡ d
        → run limit n (Between (AtCondition w (record { ors = os; ands = none; nots = 0 }))) s ≡ RefusedAt k at

  pub record StopsOr (d n : ℕ) (s : List ℕ) (k at : ℕ) : Type 0 where
    pub stops : (w : Around) → length w.outer ≡ d → run limit n (Between (AtCondition w fresh)) s ≡ RefusedAt k at

  -- lists of constants, from behind their opening parenthesis
  pub record OverValues (n : ℕ) (s : List ℕ) (cs : Chain Constant) (n' : ℕ) (s' : List ℕ) : Type 0 where
    pub moves : (w : Around) (p : Part) (x : List ℕ) → run limit n (Between (AtOpen w p x)) s ≡ run limit n' (Between (AtListed w p x cs)) s'

  -- the same with the truth of what was read
  pub record SingleTrue (ps : List Held) (d n : ℕ) (s : List ℕ) (v : Truth) (n' : ℕ) (s' : List ℕ) : Type 0 where
    pub tree : Single
    pub truth : single_truth ps tree ≡ v
    pub over : OverSingle d n s tree n' s'

  pub record AndTrue (ps : List Held) (d n : ℕ) (s : List ℕ) (v : Truth) (n' : ℕ) (s' : List ℕ) : Type 0 where
    pub tree : AndChain
    pub truth : and_truth ps tree ≡ v
    pub over : OverAnd d n s tree n' s'

  pub record OrTrue (ps : List Held) (d n : ℕ) (s : List ℕ) (v : Truth) (n' : ℕ) (s' : List ℕ) : Type 0 where
    pub tree : OrChain
    pub truth : or_truth ps tree ≡ v
    pub over : OverOr d n s tree n' s'

  -- ---- assignments

  -- from the beginning of the text to place n, where the next assignment has to come
  pub record AtStart (whole : List ℕ) (done : Option (Chain Assignment)) (n : ℕ) (s : List ℕ) : Type 0 where
    pub moves : run limit 1 (Between (Start none)) whole ≡ run limit n (Between (Start done)) s

  pub record Assigned (whole : List ℕ) (d : Option (Chain Assignment)) (p : ℕ) (v : List ℕ) (o : Option OrChain) (n : ℕ) (s : List ℕ) : Type 0 where
    pub moves : run limit 1 (Between (Start none)) whole ≡ run limit n (Between (behind_assignment d p v o)) s
