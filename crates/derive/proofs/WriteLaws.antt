-- Names written one behind the other: their sizes, and their bytes.
use Prim.Native.Nat.{ℕ, suc, ◌+◌, ◌*◌, ◌-◌, ◌≤◌, ◌<◌}
use mathlib.Core.Path.{◌≡◌, refl, sym, ◌∙◌, ap, subst}
use mathlib.Core.Bool.{Bool, true, false, cond}
use mathlib.Core.List.{List, [], ◌∷◌, ◌++◌, map, append-nil}
use native.Mathlib.Omega.{arith}
use native.Mathlib.Numerals.{add-one}
use lib.Dec.{eqb}
use lib.ListN.{length, drop, get_or, replicate, length-append, length-drop, length-map, get_or-map, drop_of_length-le}
use lib.Seq.{drop-cons, length-take-le}
use borrow.Author.Tests.{eq-eqb, ne_eqb}
use Rattle.rules.specs.Lists.{join}
use Rattle.rules.specs.Bytes.{bytes_of}
use Rattle.rules.specs.Question.{plain_factor}
use Rattle.rules.specs.declared.Part.{Part}
use Rattle.layout.specs.Ensures.{Number, Puts, PutsTo}
use Rattle.layout.proofs.StoreLaws.{to_then}
use Rattle.layout.proofs.PileLaws.{Piling, pile_start, pile_room, pile_again, pile_end}
use Rattle.relation_rules.specs.Derived.{name_in, names_in}
use Rattle.relations.specs.Assignments.{part_in}
use Rattle.relations.specs.Names.{PartIn, names_of}
use Rattle.derive.specs.Written.{no_part, taken_by, RoomFor, Few, Inside, SizeIs, NamesRoom}

-- ---- one name

module _ (version size : ℕ) (h : size ≤ 20) where
  pub size_factor : version ≡ 2 → Number (taken_by version size) 24 (size + 3)
  size_factor e = record { is = rw (eq-eqb version 2 e); below = omega arith }

  pub size_plain : (version ≡ 2 → ⊥) → Number (taken_by version size) 24 (size + 1)
  size_plain e = record { is = rw (ne_eqb version 2 e); below = omega arith }

part_long : (t : List ℕ) (p : Part) → p.at + p.size ≤ length t → length (part_in t p) ≡ p.size
part_long t p h =
    let e : p.at + p.size - p.at ≡ p.size = omega arith in
    length-take-le (p.at + p.size - p.at) (drop p.at t) (omega (arith, length-drop p.at t)) ∙ e

-- how many bytes it takes
name_long : (version : ℕ) (t : List ℕ) (p : Part) → p.at + p.size ≤ length t → length (name_in version (part_in t p)) ≡ taken_by version p.size
name_long version t p h = go (eqb version 2)
  where
    go : (b : Bool) → length (length (part_in t p) ∷ (part_in t p ++ cond b (bytes_of 2 plain_factor) [])) ≡ p.size + (1 + cond b 2 0)
    go true = omega (arith, length-append (part_in t p) (bytes_of 2 plain_factor), part_long t p h)
    go false = omega (arith, length-append (part_in t p) [], part_long t p h)

module _ {version : ℕ} {out : List ℕ} {at : ℕ} {t : List ℕ} {p : Part} (in-t : PartIn t p) (room : RoomFor out at version p.size)
    {a b : List ℕ} {m n : ℕ} (first : PutsTo out at (replicate 1 p.size) a m) (bytes : PutsTo a m (part_in t p) b n) where
  both : PutsTo out at (length (part_in t p) ∷ part_in t p) b n
  both = subst (λ (k : ℕ). PutsTo out at (k ∷ part_in t p) b n) (sym (part_long t p in-t.inside)) (to_then first bytes)

  pub factor_room : version ≡ 2 → n + 2 ≤ length b
  factor_room e =
      let s : taken_by version p.size ≡ p.size + 3 = rw (eq-eqb version 2 e) in
      omega (arith, s, room.room, first.ends, first.puts.long, bytes.ends, bytes.puts.long, part_long t p in-t.inside)

  pub put_factor : version ≡ 2 → {c : List ℕ} → Puts b n (bytes_of 2 plain_factor) c → PutsTo out at (name_in version (part_in t p)) c (n + 2)
  put_factor e q = rw (eq-eqb version 2 e) (to_then both (record { puts = q; ends = refl }))

  pub put_plain : (version ≡ 2 → ⊥) → PutsTo out at (name_in version (part_in t p)) b n
  put_plain e = rw (ne_eqb version 2 e, append-nil (part_in t p)) both

-- ---- one behind the other

module _ (version : ℕ) (t : List ℕ) (parts : List Part) where
  abbrev pub pieces : List (List ℕ)
  pieces = map (name_in version) (names_of t parts)

  pieces_count : length pieces ≡ length parts
  pieces_count = length-map (names_of t parts) (name_in version) ∙ length-map parts (part_in t)

  -- the one with number i
  piece_is : (i : ℕ) → get_or pieces i (name_in version (part_in t no_part)) ≡ name_in version (part_in t (get_or parts i no_part))
  piece_is i =
      get_or-map (name_in version) (names_of t parts) i (part_in t no_part)
      ∙ ap (name_in version) (get_or-map (part_in t) parts i no_part)

-- ---- their sizes

-- the first i take so many bytes, and with what the others take that is all
pub record Sizing (version : ℕ) (parts : List Part) (size i : ℕ) : Type 0 where
  pub on : i ≤ length parts
  pub most : size ≤ 23 * i
  pub left : (t : List ℕ) → Inside t parts → size + length (join (drop i (pieces version t parts))) ≡ length (join (pieces version t parts))

module _ (version : ℕ) (parts : List Part) where
  pub sizes_start : Sizing version parts 0 0
  sizes_start = record { on = omega arith; most = omega arith; left = λ t h. omega arith }

  module _ {size i : ℕ} (s : Sizing version parts size i) (few : Few parts) where
    module _ (h : i < length parts) where
      pub sizes_short : (get_or parts i no_part).size ≤ 20
      sizes_short = few.short i h

      module _ {r : ℕ} (one : Number (taken_by version (get_or parts i no_part).size) 24 r) where
        pub sizes_fit : size + r < 18446744073709551616
        sizes_fit = omega (arith, s.most, one.below, few.few)

        pub sizes_again : Sizing version parts (size + r) (i + 1)
        sizes_again = record {
          on = omega arith;
          most = omega (arith, s.most, one.below);
          left = λ t inside.
              let all : List (List ℕ) = pieces version t parts in
              let here : List ℕ = name_in version (part_in t (get_or parts i no_part)) in
              let next : join (drop i all) ≡ here ++ join (drop (i + 1) all) =
              ap join (drop-cons all i (name_in version (part_in t no_part)) (omega (arith, pieces_count version t parts)))
              ∙ ap (λ (x : List ℕ). x ++ join (drop (suc i) all)) (piece_is version t parts i)
              ∙ ap (λ (j : ℕ). here ++ join (drop j all)) (sym (add-one i)) in
              omega (
                arith,
                s.left t inside,
                ap length next,
                length-append here (join (drop (i + 1) all)),
                name_long version t (get_or parts i no_part) (inside.inside i h),
                one.is,
              );
        }

    pub sizes_end : length parts ≤ i → SizeIs version parts size
    sizes_end h = record {
      is = λ t inside.
          let all : List (List ℕ) = pieces version t parts in
          let over : length all ≤ i = omega (arith, pieces_count version t parts) in
          omega (arith, s.left t inside, ap (λ (l : List (List ℕ)). length (join l)) (drop_of_length-le all over));
      most = omega (arith, s.most, s.on);
    }

-- ---- their bytes

-- i of them are there, and the next one belongs at `end`
pub record Naming (old : List ℕ) (at version : ℕ) (t : List ℕ) (parts : List Part) (out : List ℕ) (end i : ℕ) : Type 0 where
  pub piled : Piling old at (pieces version t parts) out end i
  pub few : Few parts
  pub inside : Inside t parts

module _ {old : List ℕ} {at version : ℕ} {t : List ℕ} {parts : List Part} where
  pub names_start : Few parts → Inside t parts → NamesRoom old at version t parts → Naming old at version t parts old at 0
  names_start few inside r = record { piled = pile_start old at (pieces version t parts) r.room; few = few; inside = inside }

  module _ {out : List ℕ} {end i : ℕ} (inv : Naming old at version t parts out end i) where
    pub name_there : i < length parts → PartIn t (get_or parts i no_part)
    name_there h = record { inside = inv.inside.inside i h; short = inv.few.short i h }

    module _ (h : i < length parts) where
      more : i < length (pieces version t parts)
      more = omega (arith, h, pieces_count version t parts)

      pub name_room : RoomFor out end version (get_or parts i no_part).size
      name_room = record {
        room = omega (
          arith,
          pile_room old at (pieces version t parts) inv.piled more (name_in version (part_in t no_part)),
          ap length (piece_is version t parts i),
          name_long version t (get_or parts i no_part) (inv.inside.inside i h),
        );
      }

      pub name_put : {new : List ℕ} {r : ℕ} → PutsTo out end (name_in version (part_in t (get_or parts i no_part))) new r → Naming old at version t parts new r (i + 1)
      name_put {new} {r} p = record {
        piled = pile_again old at (pieces version t parts) inv.piled more (name_in version (part_in t no_part))
            (subst (λ (x : List ℕ). PutsTo out end x new r) (sym (piece_is version t parts i)) p);
        few = inv.few;
        inside = inv.inside;
      }

    pub names_end : length parts ≤ i → PutsTo old at (names_in version (names_of t parts)) out end
    names_end h = pile_end old at (pieces version t parts) inv.piled (omega (arith, pieces_count version t parts))
