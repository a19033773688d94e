-- The wanted names, and the table that finds them by their marks.
use Rattle.std.specs.Prelude.{ℕ, ◌+◌, ◌≤◌, ◌<◌, ◌≡◌, List, get_or, MatchOption}
use Rattle.std.specs.Prelude as Std
use Rattle.questions.specs.declared.Name.{Name}
use Rattle.questions.specs.Questions.{name_at}
use Rattle.wanted.specs.Marks.{mark_of}

-- c is 0, or one more than the rank of a name with the mark m
pub record Leads (bs : List ℕ) (names : List Name) (n m c : ℕ) : Type 0 where
  pub fits : c ≤ n
  pub mark : (j : ℕ) → c ≡ j + 1 → mark_of (name_at bs names j) ≡ m

-- the head of a mark leads to the last name with it, and the link of a name to the last before it with the same
pub record Filled (bs : List ℕ) (names : List Name) (n : ℕ) (heads links : List ℕ) : Type 0 where
  pub head : (m : ℕ) → m < 1024 → Leads bs names n m (get_or heads m 0)
  pub last : (j : ℕ) → j < n → j < get_or heads (mark_of (name_at bs names j)) 0
  pub link : (k : ℕ) → k < n → Leads bs names n (mark_of (name_at bs names k)) (get_or links k 0)
  pub down : (k : ℕ) → k < n → get_or links k 0 ≤ k
  pub before : (j k : ℕ) → j < k → k < n → mark_of (name_at bs names j) ≡ mark_of (name_at bs names k) → j < get_or links k 0

-- `r` is the last rank on the list with this name
pub record FoundAt (bs : List ℕ) (names : List Name) (n : ℕ) (name : List ℕ) (r : ℕ) : Type 0 where
  pub fits : r < n
  pub alike : name_at bs names r ≡ name
  pub last : (j : ℕ) → j < n → name_at bs names j ≡ name → j ≤ r

-- no name on the list is this one
pub record NotFound (bs : List ℕ) (names : List Name) (n : ℕ) (name : List ℕ) : Type 0 where
  pub none : (j : ℕ) → j < n → name_at bs names j ≡ name → ⊥

abbrev pub FoundOr : List ℕ → List Name → ℕ → List ℕ → Std.Option ℕ → Type 0
FoundOr bs names n name r = MatchOption r (NotFound bs names n name) (FoundAt bs names n name)
