-- The bytes of lines: a line by its fields, and one line behind the other.
use Prim.Native.Nat.{ℕ, ◌+◌, ◌*◌, ◌≤◌, ◌<◌}
use mathlib.Core.Path.{◌≡◌, refl, sym, ap, ◌∙◌}
use mathlib.Core.List.{List, [], ◌∷◌, ◌++◌}
use native.Mathlib.Omega.{arith}
use lib.IntN.{ℤ}
use lib.ListN.{length, drop, get_or, length-append}
use lib.Seq.{sets}
use Rattle.rules.specs.Bytes.{bytes_of, signed_bytes_of}
use Rattle.rules.specs.Lines.{line_size}
use Rattle.rules.specs.declared.Cents.{Cents}
use Rattle.layout.specs.Ensures.{Number, Puts, PutsTo}
use Rattle.layout.proofs.StoreLaws.{puts_of, puts_then, sets_of, sets_sets}
use Rattle.lines.specs.declared.Pick.{Pick}
use Rattle.lines.specs.Views.{View, view_in, views_in, no_pick, amounts_in, no_cents, view_bytes, views_bytes}
use Rattle.lines.proofs.WalkLaws.{next_view, views_end, views_count, next_amount, amounts_count}

-- ---- a line

module _ (v : View) (z : ℤ) where
  pub line_length : length (view_bytes v z) ≡ line_size
  line_length = refl

  pub line_puts : {a b c d e : List ℕ} {at letter top : ℕ} → Number v.level top letter → Puts a at (bytes_of 4 v.text) b → Puts b (at + 4) (letter ∷ v.place ∷ []) c
      → Puts c (at + 6) (signed_bytes_of 8 z) d → Puts d (at + 14) (bytes_of 2 v.factor) e → Puts a at (view_bytes v z) e
  line_puts l p q r f = puts_then p refl (puts_then (rw l.is at q) (omega arith) (puts_then r (omega arith) f))

-- ---- lines

pub lines_length : (vs : List View) (zs : List ℤ) → length zs ≡ length vs → length (views_bytes vs zs) ≡ line_size * length vs
unfolding views_bytes
lines_length [] zs e = refl
lines_length (v ∷ vs) [] e = absurd (omega arith)
lines_length (v ∷ vs) (z ∷ zs) e =
    let f : length zs ≡ length vs = omega arith in
    length-append (view_bytes v z) (views_bytes vs zs)
    ∙ omega (arith, line_length v z, lines_length vs zs f)

cons_bytes : (v : View) (z : ℤ) (vs : List View) (zs : List ℤ) → views_bytes (v ∷ vs) (z ∷ zs) ≡ view_bytes v z ++ views_bytes vs zs
unfolding views_bytes
cons_bytes v z vs zs = refl

no_bytes : (zs : List ℤ) → views_bytes [] zs ≡ []
unfolding views_bytes
no_bytes zs = refl

-- the lines that are left, stored behind those that are there, make up the whole
pub record Writing (old : List ℕ) (from : ℕ) (picks : List Pick) (amounts : List Cents) (n : ℕ) (out : List ℕ) (i : ℕ) : Type 0 where
  pub place : i ≤ n
  pub long : n ≤ length picks
  pub long₂ : n ≤ length amounts
  pub room : from + line_size * n ≤ length old
  pub same : length out ≡ length old
  pub rest : sets out (from + line_size * i) (views_bytes (drop i (views_in picks n)) (drop i (amounts_in amounts n))) ≡ sets old from (views_bytes (views_in picks n) (amounts_in amounts n))

module _ (old : List ℕ) (from : ℕ) (picks : List Pick) (amounts : List Cents) (n : ℕ) where
  module _ (out : List ℕ) (i : ℕ) (inv : Writing old from picks amounts n out i) where
    pub write_again : {new : List ℕ} → i < n → Puts out (from + line_size * i) (view_bytes (view_in (get_or picks i no_pick)) (get_or amounts i no_cents).0) new
        → Writing old from picks amounts n new (i + 1)
    write_again {new} h p =
        let v : View = view_in (get_or picks i no_pick) in
        let z : ℤ = (get_or amounts i no_cents).0 in
        let vs : List View = drop (i + 1) (views_in picks n) in
        let zs : List ℤ = drop (i + 1) (amounts_in amounts n) in
        let e : from + line_size * (i + 1) ≡ from + line_size * i + length (view_bytes v z) = omega (arith, line_length v z) in
        let f : views_bytes (drop i (views_in picks n)) (drop i (amounts_in amounts n)) ≡ view_bytes v z ++ views_bytes vs zs =
        rw (next_view picks n i h inv.long, next_amount amounts n i h inv.long₂) (cons_bytes v z vs zs) in
        record {
          place = omega arith;
          long = inv.long;
          long₂ = inv.long₂;
          room = inv.room;
          same = p.long ∙ inv.same;
          rest =
              ap (λ (j : ℕ). sets new j (views_bytes vs zs)) e
              ∙ ap (λ s. sets s (from + line_size * i + length (view_bytes v z)) (views_bytes vs zs)) (sets_of p)
              ∙ sets_sets (view_bytes v z) (views_bytes vs zs) out (from + line_size * i)
              ∙ ap (sets out (from + line_size * i)) (sym f)
              ∙ inv.rest;
        }

    pub write_end : n ≤ i → PutsTo old from (views_bytes (views_in picks n) (amounts_in amounts n)) out (from + line_size * n)
    write_end h =
        let a : length (amounts_in amounts n) ≡ n = amounts_count amounts n inv.long₂ in
        let b : length (views_in picks n) ≡ n = views_count picks n inv.long in
        let e : views_bytes (drop i (views_in picks n)) (drop i (amounts_in amounts n)) ≡ [] = rw (views_end picks n i inv.long h) (no_bytes (drop i (amounts_in amounts n))) in
        let all : length (views_bytes (views_in picks n) (amounts_in amounts n)) ≡ line_size * length (views_in picks n) = lines_length (views_in picks n) (amounts_in amounts n) (a ∙ sym b) in
        record {
          puts = puts_of (omega (arith, inv.room, all)) (sym (ap (sets out (from + line_size * i)) e) ∙ inv.rest);
          ends = omega (arith, all);
        }
