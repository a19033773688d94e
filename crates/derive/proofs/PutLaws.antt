-- The question's bytes with the names in them, written piece by piece.
use Prim.Native.Nat.{ℕ, ◌+◌, ◌-◌, ◌≤◌, ◌<◌}
use mathlib.Core.Path.{◌≡◌, refl, sym, ◌∙◌, ap, subst}
use mathlib.Core.List.{List, [], ◌∷◌, ◌++◌}
use native.Mathlib.Omega.{arith}
use lib.ListN.{length, take, drop, get_or, replicate, length-append, length-drop, length-map}
use lib.Seq.{length-take-le, take_all}
use borrow.Author.Tests.{le-leb, lt-leb}
use Rattle.rules.specs.Bytes.{bytes_of}
use Rattle.rules.specs.PlacedRefusals.{lent_after_at}
use Rattle.rules.specs.declared.Part.{Part}
use Rattle.rules.specs.declared.PlacedAnswer.{PlacedAnswer}
use Rattle.layout.specs.Reads.{part}
use Rattle.layout.specs.Ensures.{Puts, PutsTo}
use Rattle.layout.proofs.StoreLaws.{to_then, puts_front}
use Rattle.relation_rules.specs.Derived.{names_in}
use Rattle.relation_rules.specs.Calls.{shown_derive}
use Rattle.relations.specs.Assignments.{part_in}
use Rattle.relations.specs.Names.{names_of}
use Rattle.derive.specs.Written.{SizeIs, NamesRoom, named_at, Fitting, QuestionRoom, RefusedWith, if_room, PutIs}

module _ {s : List ℕ} {at : ℕ} {t : List ℕ} {parts : List Part} (f : Fitting s at t parts) where
  abbrev new : List ℕ
  new = names_in (get_or s 4 0) (names_of t parts)

  front_long : length (take (at - 4) (drop 4 s)) ≡ at - 4
  front_long = length-take-le (at - 4) (drop 4 s) (omega (arith, f.low, f.inside, length-drop 4 s))

  module _ {out : List ℕ} {size : ℕ} (r : QuestionRoom out s t parts size)
      {a b c : List ℕ} {k m : ℕ} (head : Puts out 0 (bytes_of 4 (length s + size)) a) (front : PutsTo a 4 (take (at - 4) (drop 4 s)) b k)
      (count : PutsTo b k (replicate 1 (length parts)) c m) where
    pub names_room : NamesRoom c m (get_or s 4 0) t parts
    names_room = record {
      room = omega (
        arith,
        f.low,
        f.inside,
        r.size_is,
        r.room,
        head.long,
        front.ends,
        front.puts.long,
        front_long,
        count.ends,
        count.puts.long,
      );
    }

    module _ {d : List ℕ} {end : ℕ} (names : PutsTo c m new d end) where
      rest_is : part s (at + 1) (length s) ≡ drop (at + 1) s
      rest_is = take_all (length s - (at + 1)) (drop (at + 1) s) (omega (arith, length-drop (at + 1) s))

      pub rest_room : end + length (part s (at + 1) (length s)) ≤ length d
      rest_room = omega (
        arith,
        names_room.room,
        names.ends,
        names.puts.long,
        f.low,
        f.inside,
        r.size_is,
        r.room,
        head.long,
        front.ends,
        front.puts.long,
        front_long,
        count.ends,
        count.puts.long,
        ap length rest_is,
        length-drop (at + 1) s,
      )

      pub question_put : {e : List ℕ} {stop : ℕ} → PutsTo d end (part s (at + 1) (length s)) e stop
          → PutsTo out 0 (named_at at (names_of t parts) s) e stop
      question_put {e} {stop} rest =
          let first : PutsTo out 0 (bytes_of 4 (length s + length new)) a 4 =
          record { puts = subst (λ (k : ℕ). Puts out 0 (bytes_of 4 (length s + k)) a) r.size_is head; ends = refl } in
          let many : length (names_of t parts) ≡ length parts = length-map parts (part_in t) in
          let counted : PutsTo b k (length (names_of t parts) ∷ []) c m = subst (λ (j : ℕ). PutsTo b k (j ∷ []) c m) (sym many) count in
          let last : PutsTo d end (drop (at + 1) s) e stop = subst (λ (l : List ℕ). PutsTo d end l e stop) rest_is rest in
          to_then first (to_then front (to_then counted (to_then names last)))

-- ---- if there is room

named_long : {s : List ℕ} {at : ℕ} {t : List ℕ} {parts : List Part} → Fitting s at t parts
    → length (named_at at (names_of t parts) s) ≡ length s + length (names_in (get_or s 4 0) (names_of t parts))
named_long {s} {at} {t} {parts} f =
    let names : List ℕ = names_in (get_or s 4 0) (names_of t parts) in
    omega (
      arith,
      f.low,
      f.inside,
      front_long f,
      length-append (take (at - 4) (drop 4 s)) (length (names_of t parts) ∷ (names ++ drop (at + 1) s)),
      length-append names (drop (at + 1) s),
      length-drop (at + 1) s,
    )

module _ {s : List ℕ} {at : ℕ} {t : List ℕ} {parts : List Part} (f : Fitting s at t parts) {size : ℕ} (z : SizeIs (get_or s 4 0) parts size) where
  pub size_fits : length s + size < 18446744073709551616
  size_fits = omega (arith, z.is t f.names, f.short)

  module _ {old : List ℕ} where
    pub no_room : length old < length s + size → {r : PlacedAnswer} → RefusedWith 7 0 r → PutIs (named_at at (names_of t parts) s) old r old
    unfolding if_room shown_derive lent_after_at
    no_room h q =
        let e = lt-leb (length (named_at at (names_of t parts) s)) (length old) (omega (arith, named_long f, z.is t f.names)) in
        record { answer = q.is ∙ rw e refl; output = rw e refl }

    pub room_there : length s + size ≤ length old → QuestionRoom old s t parts size
    room_there h = record { size_is = z.is t f.names; room = h }

    pub written_out : length s + size ≤ length old → {new : List ℕ} {stop : ℕ} → PutsTo old 0 (named_at at (names_of t parts) s) new stop
        → PutIs (named_at at (names_of t parts) s) old (record { length = stop; place = 0; number = 0 }) new
    unfolding if_room shown_derive lent_after_at
    written_out h {new} {stop} p =
        let e = le-leb (length (named_at at (names_of t parts) s)) (length old) (omega (arith, named_long f, z.is t f.names)) in
        let long : stop ≡ length (named_at at (names_of t parts) s) = omega (arith, p.ends) in
        record { answer = rw (e, long) refl; output = rw e (puts_front p.puts) }
