-- Where the records of a book stand: one behind the other from the head to the end of the book, and each at its place.
use Prim.Native.Nat.{ℕ, zero, suc, ◌+◌, ◌-◌, ◌≤◌}
use mathlib.Core.Path.{◌≡◌, refl, sym, ◌∙◌, ap, subst}
use mathlib.Core.List.{List, [], ◌∷◌}
use mathlib.Core.Option.{Option, some, none, none-ne-some, some-injective}
use native.Mathlib.Omega.{arith}
use lib.Dec.{leb}
use lib.ListN.{length, take, drop, length-drop, drop_of_length-le}
use lib.Seq.{drop-drop}
use Rattle.rules.specs.Layout.{and_then, ◌>>=◌, give, give_if, bytes, back, framed, whole, wholly, to_end, repeated}
use Rattle.rules.specs.Bytes.{number, head, big}
use Rattle.rules.specs.Book.{Record}
use Rattle.rules.specs.BookLayout.{kinded, one_record, most_bytes}
use Rattle.rules.specs.Placed.{Placed, placed_by, placed, placed_layout, placed_records}
use Rattle.rules.proofs.ListLaws.{All}
use Rattle.rules.proofs.GivesLaws.{and_then_lem}
use Rattle.rules.proofs.PlacedLaws.{held_in}
use Rattle.rules.proofs.TakesLaws.{bytes_first, back_is, takes_if, takes_head, whole_end}

-- ---- one record

-- A record starts with its length n, and in the n bytes behind stand its kind and its body.
pub record Framed (s : List ℕ) (r : Record) (t : List ℕ) : Type 0 where
  pub size : ℕ
  pub size_is : size ≡ big (take 2 s)
  pub some_bytes : 1 ≤ size
  pub fits : 2 + size ≤ length s
  pub body : whole kinded (take size (drop 2 s)) ≡ some r
  pub rest : t ≡ drop (2 + size) s

-- no bytes are no record
one_byte : (n : ℕ) (s : List ℕ) (r : Record) → whole kinded (take n s) ≡ some r → 1 ≤ n
one_byte zero s r e = absurd (none-ne-some r e)
one_byte (suc n) s r e = omega arith

pub one_framed : (s : List ℕ) (r : Record) (t : List ℕ) → one_record s ≡ some (r, t) → Framed s r t
one_framed s r t e =
    let x = and_then_lem (number 2 s) (λ n. framed n kinded) e in
    let y = and_then_lem (bytes 2 s) (λ bs. give (big bs)) x.1 in
    let i = some-injective (big y.0.0, y.0.1) x.0 y.2 in
    let f = bytes_first 2 s y.0.0 y.0.1 y.1 in
    inside x.0.0 x.0.1 (sym (ap (λ (k : ℕ × List ℕ). k.0) i) ∙ ap big f.are)
    (sym (ap (λ (k : ℕ × List ℕ). k.1) i) ∙ f.rest) f.many x.2
  where
    inside : (n : ℕ) (u : List ℕ) → n ≡ big (take 2 s) → u ≡ drop 2 s → 2 ≤ length s → framed n kinded u ≡ some (r, t) → Framed s r t
    inside n u size_is behind two e =
        let z = and_then_lem (bytes n u) (λ w. back (whole kinded w)) e in
        let g = bytes_first n u z.0.0 z.0.1 z.1 in
        let h = back_is (whole kinded z.0.0) z.0.1 r t z.2 in
        let body : whole kinded (take n (drop 2 s)) ≡ some r =
        ap (λ (w : List ℕ). whole kinded (take n w)) (sym behind) ∙ (ap (whole kinded) (sym g.are) ∙ h.0) in
        let many : n ≤ length u = g.many in
        record {
          size = n;
          size_is = size_is;
          some_bytes = one_byte n (drop 2 s) r body;
          fits = omega (arith, length-drop 2 s, ap length behind);
          body = body;
          rest = h.1 ∙ (g.rest ∙ (ap (drop n) behind ∙ drop-drop n 2 s));
        }

-- ---- all of them

-- One behind the other from a place to another: the first starts at the one, each next where the one before ends, the last ends at the other.
-- A record has at least its length and a kind.
abbrev pub Chain : ℕ → ℕ → List (Placed Record) → Type 0
Chain from to [] = from ≡ to
Chain from to (p ∷ ps) = (p.start ≡ from) × (p.start + 3 ≤ p.stop) × Chain p.stop to ps

-- At the record's place stands this record: read from there on it leaves what stands behind its end, its length says where that is,
-- and between the two stand its kind and its body.
pub record Stands (b : List ℕ) (p : Placed Record) : Type 0 where
  pub reads : one_record (drop p.start b) ≡ some (p.held, drop p.stop b)
  pub stops : p.stop ≡ p.start + 2 + big (take 2 (drop p.start b))
  pub within : p.stop ≤ length b
  pub body : whole kinded (take (p.stop - (p.start + 2)) (drop (p.start + 2) b)) ≡ some p.held

pub record Stand (b : List ℕ) (from : ℕ) (ps : List (Placed Record)) : Type 0 where
  pub chain : Chain from (length b) ps
  pub each : All (Stands b) ps

module _ (b : List ℕ) where
  abbrev at : ℕ → ℕ → Record → Placed Record
  at here size r = record { start = here; stop = here + (2 + size); held = r }

  here_stands : (here : ℕ) → here ≤ length b → (r : Record) (t : List ℕ) → one_record (drop here b) ≡ some (r, t)
      → (f : Framed (drop here b) r t) → Stands b (at here f.size r)
  here_stands here l r t e f =
      let n : here + (2 + f.size) - (here + 2) ≡ f.size = omega arith in
      record {
        reads = e ∙ ap (λ (u : List ℕ). some (r, u)) (f.rest ∙ drop-drop (2 + f.size) here b);
        stops = omega (arith, f.size_is);
        within = omega (arith, f.fits, length-drop here b);
        body = (λ i. whole kinded (take (n i) (sym (drop-drop 2 here b) i))) ∙ f.body;
      }

  none_left : (here : ℕ) → [] ≡ drop here b → here ≤ length b → (ps : List (Placed Record)) (t : List ℕ)
      → ◌≡◌ {A = Option (List (Placed Record) × List ℕ)} (some ([], [])) (some (ps, t)) → Stand b here ps
  none_left here h l ps t e =
      let z : 0 ≡ length (drop here b) = ap length h in
      subst (λ (x : List (Placed Record) × List ℕ). Stand b here x.0) (some-injective ([], []) (ps, t) e)
      (record { chain = omega (arith, length-drop here b); each = tt })

  -- a record at this place, and behind it those that stand from its end on
  one_more : (here : ℕ) → here ≤ length b → (r : Record) (u : List ℕ) → one_record (drop here b) ≡ some (r, u) → (ps : List (Placed Record))
      → ((stop : ℕ) → stop ≤ length b → u ≡ drop stop b → Stand b stop ps)
      → Stand b here (placed_by (length b) (length (drop here b)) (length u) r ∷ ps)
  one_more here l r u e ps later = go (one_framed (drop here b) r u e)
    where
      go : Framed (drop here b) r u → Stand b here (placed_by (length b) (length (drop here b)) (length u) r ∷ ps)
      go f =
          let stands : Stands b (at here f.size r) = here_stands here l r u e f in
          let behind : u ≡ drop (here + (2 + f.size)) b = f.rest ∙ drop-drop (2 + f.size) here b in
          let rest : Stand b (here + (2 + f.size)) ps = later (here + (2 + f.size)) stands.within behind in
          let k : here ≡ length b - length (drop here b) = omega (arith, length-drop here b) in
          let m : here + (2 + f.size) ≡ length b - length u =
          omega (arith, ap length behind, length-drop (here + (2 + f.size)) b, stands.within) in
          let all : Stand b here (at here f.size r ∷ ps) =
          record { chain = (refl, omega (arith, f.some_bytes), rest.chain); each = (stands, rest.each) } in
          subst (λ (p : Placed Record). Stand b here (p ∷ ps)) (λ j. record { start = k j; stop = m j; held = r }) all

  -- from any place where a record may start
  stand_from : (n here : ℕ) (s : List ℕ) → s ≡ drop here b → here ≤ length b → (ps : List (Placed Record)) (t : List ℕ)
      → to_end n (placed (length b)) s ≡ some (ps, t) → Stand b here ps
  stand_from zero here [] h l ps t e = none_left here h l ps t e
  stand_from zero here (c ∷ s) h l ps t e = absurd (none-ne-some (ps, t) e)
  stand_from (suc n) here [] h l ps t e = none_left here h l ps t e
  stand_from (suc n) here (c ∷ s) h l ps t e = first (one_record (c ∷ s)) refl (stand_from n) e
    where
      first : (o : Option (Record × List ℕ)) → one_record (c ∷ s) ≡ o
          → ((stop : ℕ) (u : List ℕ) → u ≡ drop stop b → stop ≤ length b → (qs : List (Placed Record)) (t : List ℕ)
          → to_end n (placed (length b)) u ≡ some (qs, t) → Stand b stop qs)
          → and_then (and_then o (λ r u. some (placed_by (length b) (length (c ∷ s)) (length u) r, u)))
          (λ p u. and_then (to_end n (placed (length b)) u) λ qs. give (p ∷ qs)) ≡ some (ps, t)
          → Stand b here ps
      first none i ih e = absurd (none-ne-some (ps, t) e)
      first (some (r, u)) i ih e = then (to_end n (placed (length b)) u) refl e
        where
          then : (o : Option (List (Placed Record) × List ℕ)) → to_end n (placed (length b)) u ≡ o
              → and_then o (λ qs. give (placed_by (length b) (length (c ∷ s)) (length u) r ∷ qs)) ≡ some (ps, t)
              → Stand b here ps
          then none j e = absurd (none-ne-some (ps, t) e)
          then (some (qs, v)) j e =
              subst (λ (x : List (Placed Record) × List ℕ). Stand b here x.0)
              (some-injective (placed_by (length b) (length (c ∷ s)) (length u) r ∷ qs, v) (ps, t) e)
              (subst (λ (x : List ℕ). Stand b here (placed_by (length b) (length x) (length u) r ∷ qs)) (sym h)
              (one_more here l r u (ap one_record (sym h) ∙ i) qs (λ stop m k. ih stop u k m qs v j)))

  -- The records of an accepted book stand one behind the other from place 5, behind the head, to the end of the book, and each stands at its place.
  pub placed_stand : (ps : List (Placed Record)) → placed_records b ≡ some ps → Stand b 5 ps
  unfolding placed_records
  placed_stand ps e =
      let w = whole_end (placed_layout (length b) b) ps e in
      let x = and_then_lem (give_if (leb (length b) most_bytes) tt b) (λ _. head (length b) >>= λ _. repeated (placed (length b))) w in
      let y = and_then_lem (head (length b) x.0.1) (λ _. repeated (placed (length b))) x.2 in
      let i : x.0.1 ≡ b = (takes_if (leb (length b) most_bytes) tt).leaves b x.0.0 x.0.1 x.1 in
      let head = takes_head (length b) in
      let five : 5 ≤ length x.0.1 = head.enough x.0.1 y.0.0 y.0.1 y.1 in
      stand_from (length y.0.1) 5 y.0.1 (head.leaves x.0.1 y.0.0 y.0.1 y.1 ∙ ap (drop 5) i)
      (omega (arith, ap length i)) ps [] y.2

-- in order: each ends no later than any behind it starts
abbrev pub InOrder : List (Placed Record) → Type 0
InOrder [] = Unit {0}
InOrder (p ∷ ps) = All (λ q. p.stop ≤ q.start) ps × InOrder ps

-- Places ascend: none of a chain starts before it, and of two the first ends before the second starts or where it starts.
pub chain_from : (from to : ℕ) (ps : List (Placed Record)) → Chain from to ps → (k : ℕ) → k ≤ from → All (λ q. k ≤ q.start) ps
chain_from from to [] c k l = tt
chain_from from to (p ∷ ps) c k l = (omega (arith, c.0), chain_from p.stop to ps c.2 k (omega (arith, c.0, c.1)))

pub chain_order : (from to : ℕ) (ps : List (Placed Record)) → Chain from to ps → InOrder ps
chain_order from to [] c = tt
chain_order from to (p ∷ ps) c = (chain_from p.stop to ps c.2 p.stop (omega arith), chain_order p.stop to ps c.2)

-- ---- the records from a place on

module _ (b : List ℕ) where
  -- those behind the first stand from its end on
  pub stand_behind : (from : ℕ) (p : Placed Record) (ps : List (Placed Record)) → Stand b from (p ∷ ps) → Stand b p.stop ps
  stand_behind from p ps h = record { chain = h.chain.2; each = h.each.1 }

  nothing : (n : ℕ) → to_end n one_record [] ≡ some ([], [])
  nothing zero = refl
  nothing (suc n) = refl

  all_read : (ps : List (Placed Record)) (from : ℕ) → Stand b from ps → (n : ℕ) → length b - from ≤ n
      → to_end n one_record (drop from b) ≡ some (held_in ps, [])
  all_read [] from h n l = ap (to_end n one_record) (drop_of_length-le b {i = from} (omega (arith, h.chain))) ∙ nothing n
  all_read (p ∷ ps) from h n l = go n (drop from b) refl l (all_read ps p.stop (stand_behind from p ps h))
    where
      start : p.start ≡ from
      start = h.chain.0

      long : p.start + 3 ≤ p.stop
      long = h.chain.1

      within : p.stop ≤ length b
      within = h.each.0.within

      go : (n : ℕ) (s : List ℕ) → drop from b ≡ s → length b - from ≤ n
          → ((n : ℕ) → length b - p.stop ≤ n → to_end n one_record (drop p.stop b) ≡ some (held_in ps, []))
          → to_end n one_record s ≡ some (p.held ∷ held_in ps, [])
      go n [] i l ih = absurd (let z : length (drop from b) ≡ 0 = ap length i in omega (arith, length-drop from b, start, long, within))
      go zero (c ∷ s) i l ih = absurd (omega (arith, start, long, within))
      go (suc n) (c ∷ s) i l ih =
          let reads : one_record (c ∷ s) ≡ some (p.held, drop p.stop b) =
          ap one_record (sym i) ∙ (ap (λ (k : ℕ). one_record (drop k b)) (sym start) ∙ h.each.0.reads) in
          ap (λ (o : Option (Record × List ℕ)). and_then o (λ r t. and_then (to_end n one_record t) λ rs. give (r ∷ rs))) reads
          ∙ ap (λ (o : Option (List Record × List ℕ)). and_then o (λ rs. give (p.held ∷ rs))) (ih n (omega (arith, start, long, within)))

  -- Read to the end from where they stand, the bytes are these records: so from each record's place on they are it and those behind it.
  pub from_there : (from : ℕ) (ps : List (Placed Record)) → Stand b from ps → whole (repeated one_record) (drop from b) ≡ some (held_in ps)
  from_there from ps h = ap wholly (all_read ps from h (length (drop from b)) (omega (arith, length-drop from b)))
