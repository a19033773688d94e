-- A text and its bytes between the quotes have one hash.
use Prim.Native.Nat.{ℕ, ◌+◌, ◌*◌, ◌%◌}
use mathlib.Core.Path.{◌≡◌, refl, sym, ◌∙◌, ap}
use mathlib.Core.Bool.{Bool, true, false, not, cond}
use mathlib.Core.List.{List, [], ◌∷◌}
use lib.Dec.{eqb}
use Rattle.std.specs.List.{fold}
use Rattle.rules.specs.Lists.{keep, cons_if}
use Rattle.layout.specs.Reads.{part}
use Rattle.fields.specs.declared.field.Field.{Field}
use Rattle.fields.specs.Field.{other_byte, text_of, TextIs}
use Rattle.fields.proofs.PartLaws.{same_others}
use Rattle.text_names.specs.Hashes.{add_byte, hash_of}

-- quotes do not count
without : (n : ℕ) (s : List ℕ) → fold add_byte n s ≡ fold add_byte n (keep other_byte s)
without n [] = refl
without n (b ∷ s) = by (eqb 34 b) refl (λ m. without m s)
  where
    by : (x : Bool) → eqb 34 b ≡ x → ((m : ℕ) → fold add_byte m s ≡ fold add_byte m (keep other_byte s))
        → fold add_byte (cond (eqb 34 b) n ((n * 31 + b) % 65536)) s ≡ fold add_byte n (cons_if (not (eqb 34 b)) b (keep other_byte s))
    by true e i =
        ap (λ (t : Bool). fold add_byte (cond t n ((n * 31 + b) % 65536)) s) e
        ∙ (i n ∙ sym (ap (λ (t : Bool). fold add_byte n (cons_if (not t) b (keep other_byte s))) e))
    by false e i =
        i (cond (eqb 34 b) n ((n * 31 + b) % 65536)) ∙ sym (ap (λ (t : Bool). fold add_byte n (cons_if (not t) b (keep other_byte s))) e)

pub hash_is : {line : List ℕ} {f : Field} {h : ℕ} → TextIs line f → h ≡ fold add_byte 0 (part line f.from f.to) → h ≡ hash_of (text_of line f)
unfolding hash_of
hash_is {line} {f} t e =
    e
    ∙ (without 0 (part line f.from f.to)
    ∙ (sym (ap (fold add_byte 0) (same_others t.stands)) ∙ sym (without 0 (text_of line f))))
