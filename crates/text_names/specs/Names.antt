-- Names of texts, each at the field where it was met first, and chains of those with the same hash.
use Rattle.std.specs.Prelude.{ℕ, ◌+◌, ◌-◌, ◌≤◌, ◌<◌, ◌≡◌, List, length, get_or, set, replicate, Option, Some, None}
use Rattle.text_names.specs.declared.Names.{Names}
use Rattle.text_names.specs.Hashes.{name_from, hash_of, StartsName}

-- the hash of the name of place i
abbrev pub hash_at : List ℕ → List ℕ → ℕ → ℕ
hash_at file starts i = hash_of (name_from file (get_or starts i 0))

-- k names stand in the table; `before` has the number of the last one before it with the same hash, or 0
pub record Chained (file starts before : List ℕ) (k : ℕ) : Type 0 where
  pub fields : (i : ℕ) → i < k → StartsName file (get_or starts i 0)
  pub starts_long : k ≤ length starts
  pub before_long : k ≤ length before
  pub back : (i : ℕ) → i < k → get_or before i 0 ≤ i
  pub alike : (i : ℕ) → i < k → 1 ≤ get_or before i 0 → hash_at file starts (get_or before i 0 - 1) ≡ hash_at file starts i
  pub between_not : (i m : ℕ) → i < k → get_or before i 0 ≤ m → m < i → hash_at file starts m ≡ hash_at file starts i → ⊥

-- x is not the name of a number above j, and that of j has its hash
pub record Candidate (file starts : List ℕ) (k : ℕ) (x : List ℕ) (j : ℕ) : Type 0 where
  pub low : j ≤ k
  pub alike : 1 ≤ j → hash_at file starts (j - 1) ≡ hash_of x
  pub above : (m : ℕ) → j ≤ m → m < k → name_from file (get_or starts m 0) ≡ x → ⊥

-- j is the number of x among the first k names
pub record Found (file starts : List ℕ) (k : ℕ) (x : List ℕ) (j : ℕ) : Type 0 where
  pub some : 1 ≤ j
  pub low : j ≤ k
  pub is : name_from file (get_or starts (j - 1) 0) ≡ x

-- none of them is x
pub record Unmet (file starts : List ℕ) (k : ℕ) (x : List ℕ) : Type 0 where
  pub none : (m : ℕ) → m < k → name_from file (get_or starts m 0) ≡ x → ⊥

abbrev pub FoundIn : List ℕ → List ℕ → ℕ → List ℕ → Option ℕ → Type 0
FoundIn file starts k x (Some j) = Found file starts k x j
FoundIn file starts k x None = Unmet file starts k x

abbrev pub FoundIs : List ℕ → Names → List ℕ → Option ℕ → Type 0
FoundIs file names x r = FoundIn file names.starts names.count x r

-- by hash, the number of the last name that has it, or 0
pub record Latest (file starts last : List ℕ) (k : ℕ) : Type 0 where
  pub long : length last ≡ 65536
  pub low : (h : ℕ) → h < 65536 → get_or last h 0 ≤ k
  pub alike : (h : ℕ) → h < 65536 → 1 ≤ get_or last h 0 → hash_at file starts (get_or last h 0 - 1) ≡ h
  pub above : (h m : ℕ) → h < 65536 → get_or last h 0 ≤ m → m < k → hash_at file starts m ≡ h → ⊥

-- both together
pub record Chains (file starts before last : List ℕ) (k : ℕ) : Type 0 where
  pub chained : Chained file starts before k
  pub latest : Latest file starts last k

-- those of a table of its own
pub record Table (file : List ℕ) (names : Names) : Type 0 where
  pub chained : Chained file names.starts names.before names.count
  pub latest : Latest file names.starts names.last names.count

-- no name yet
pub record Empty (names : Names) : Type 0 where
  pub none : names.count ≡ 0
  pub starts_long : length names.starts ≡ 65535
  pub before_long : length names.before ≡ 65535
  pub last_is : names.last ≡ replicate 65536 0

-- a place for name k + 1 with hash h
pub record Vacant (starts before last : List ℕ) (k h : ℕ) : Type 0 where
  pub few : k < 65535
  pub starts_long : k < length starts
  pub before_long : k < length before
  pub last_long : h < length last

-- a name more: where its field starts, the one before it with the same hash, and that it is the last with it
pub record EnteredIn (starts before last : List ℕ) (k start h : ℕ) (starts' before' last' : List ℕ) : Type 0 where
  pub starts_is : starts' ≡ set starts k start
  pub before_is : before' ≡ set before k (get_or last h 0)
  pub last_is : last' ≡ set last h (k + 1)

-- and in a table of its own, which counts it
pub record EnteredIs (names : Names) (start h : ℕ) (names' : Names) : Type 0 where
  pub count_is : names'.count ≡ names.count + 1
  pub starts_is : names'.starts ≡ set names.starts names.count start
  pub before_is : names'.before ≡ set names.before names.count (get_or names.last h 0)
  pub last_is : names'.last ≡ set names.last h (names.count + 1)
