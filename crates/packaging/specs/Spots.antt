-- At which place a packaging record is kept, which record stands at a spot, and which of them are used.
use Rattle.std.specs.Prelude.{Option as Maybe, Some, None, IfSome, Result, Ok, Err, ℕ, ◌+◌, ◌≤◌, ◌<◌, ◌≡◌, true, false, ◌&&◌, cond, List, eqb, length, get_or}
use Rattle.std.proofs.Math.Option.{Option, some, none}
use Rattle.rules.specs.Question.{Granted}
use Rattle.rules.specs.Lists.{same, first, gather, is_some, if_some}
use Rattle.rules.specs.Layout.{whole}
use Rattle.rules.specs.Book.{Record, PackagingRecord, Pack, as_pack, packagings, article_of}
use Rattle.rules.specs.BookLayout.{kinded, star}
use Rattle.rules.specs.Packaging.{or_else}
use Rattle.rules.specs.declared.Part.{Part}
use Rattle.rules.specs.declared.Refusal.{Refusal}
use Rattle.rules.specs.declared.Refusal.TheVariants.{NoArticle}
use Rattle.records.specs.Ensures.{bytes_in}
use Rattle.layout.specs.Records.{records_left}
use Rattle.grants.specs.Table.{GrantsAre}
use Rattle.grants.specs.Places.{nowhere, place_of, up_from}
use Rattle.packaging.specs.declared.spots.Found.{Found}

-- ---- the place of a record

-- the packaging that the bytes of a record are, if they are one
abbrev pub pack_held : Option Record → Option Pack
pack_held o = if_some o none as_pack

-- a packaging of the article is kept at the place of its condition, any other record nowhere
unfoldable pub place_for : List Granted → List ℕ → Option Record → ℕ
place_for names article o = if_some (pack_held o) nowhere λ p. cond (same p.article article) (place_of names p.condition) nowhere

-- `r` is that place among the names that the table is of, of which there are n; whatever the table, it is a place or 33
pub record PlaceFor (table : List ℕ) (n : ℕ) (article : List ℕ) (o : Option Record) (r : ℕ) : Type 0 where
  pub below : r < 34
  pub of : (names : List Granted) → GrantsAre names table → length names ≡ n → r ≡ place_for names article o

-- of those that belong at a place the first
unfoldable pub first_at : List Granted → List ℕ → List Record → ℕ → Option Pack
first_at names article rs place = first (λ p. same p.article article && eqb (place_of names p.condition) place) (packagings rs)

-- ---- what stands at a spot

-- the bytes of b at p are the packaging x
pub record PackThere (b : List ℕ) (p : Part) (x : Pack) : Type 0 where
  pub fits : p.at + p.size ≤ length b
  pub is : whole kinded (bytes_in b p) ≡ some (PackagingRecord x)

pub record Held (b : List ℕ) (p : Part) : Type 0 where
  pub pack : Pack
  pub there : PackThere b p pack

-- what is kept at a spot is the packaging o, or neither is there
pub data SpotIs (b : List ℕ) : Maybe Part → Option Pack → Type 0 where
  NoPack : SpotIs b None none
  OnePack : (p : Part) (x : Pack) → PackThere b p x → SpotIs b (Some p) (some x)

unfoldable pub pack_there : List ℕ → Maybe Part → Option Pack
pack_there b None = none
pack_there b (Some p) = pack_held (whole kinded (bytes_in b p))

-- at each place a packaging stands in the book where the spot says, or the spot is empty
pub record AllHeld (b : List ℕ) (ss : List (Maybe Part)) : Type 0 where
  pub each : (i : ℕ) → i < 33 → IfSome (get_or ss i None) (Held b)

pub record FoundHeld (b : List ℕ) (f : Found) : Type 0 where
  pub own : AllHeld b f.own
  pub any : AllHeld b f.any

-- ---- the walk

-- at the spot of place i stands what f gives for it
pub record Keeps (b : List ℕ) (ss : List (Maybe Part)) (f : ℕ → Option Pack) : Type 0 where
  pub long : length ss ≡ 34
  pub each : (i : ℕ) → i < 33 → SpotIs b (get_or ss i None) (f i)

-- at each place the first record of the article, or of any, for the names that the table is of, of which there are n
pub record FoundIn (b article table : List ℕ) (n : ℕ) (r : Found) : Type 0 where
  pub own : (names : List Granted) → GrantsAre names table → length names ≡ n → Keeps b r.own (first_at names article (records_left b 5))
  pub any : (names : List Granted) → GrantsAre names table → length names ≡ n → Keeps b r.any (first_at names star (records_left b 5))
  pub known : is_some (article_of (records_left b 5) article) ≡ true

-- or the book has no record of the article
pub data FoundIs (b article table : List ℕ) (n : ℕ) : Result Found Refusal → Type 0 where
  Known : {f : Found} → FoundIn b article table n f → FoundIs b article table n (Ok f)
  Unknown : is_some (article_of (records_left b 5) article) ≡ false → FoundIs b article table n (Err NoArticle)

-- ---- which are used

-- the records at the places from i on, n of them: the own ones, and where there is none that of any article
unfoldable pub used_from : List ℕ → List (Maybe Part) → List (Maybe Part) → ℕ → ℕ → List Pack
used_from b own any i n = gather (λ k. or_else (pack_there b (get_or own k None)) (pack_there b (get_or any k None))) (up_from i n)

abbrev pub used_in : List ℕ → List (Maybe Part) → List (Maybe Part) → List Pack
used_in b own any = used_from b own any 0 33
