-- A byte more of a line, and a text beside the bytes that it stands for.
use Prim.Native.Nat.{ℕ, suc, ◌+◌, ◌-◌, ◌≤◌, ◌<◌}
use mathlib.Core.Path.{◌≡◌, refl, sym, ◌∙◌, ap}
use mathlib.Core.Logic.{inl, inr}
use mathlib.Core.Bool.{Bool, true, false, ◌||◌}
use mathlib.Core.List.{List, [], ◌∷◌, ◌++◌, append_assoc}
use native.Mathlib.Omega.{arith}
use native.Mathlib.Numerals.{add-one}
use lib.Dec.{eqb}
use lib.ListN.{length, take, drop, get_or, length-drop, length-append}
use lib.Seq.{drop-cons, take-suc, get_or-drop, take_all}
use Rattle.rules.specs.Lists.{any, keep}
use Rattle.file_rules.specs.Fields.{quote}
use Rattle.rules.proofs.ListLaws.{any_append, keep_append}
use Rattle.layout.specs.Reads.{part}
use Rattle.fields.specs.Field.{other_byte, Stands}

pub next_byte : (s : List ℕ) (i : ℕ) → i < length s → drop i s ≡ get_or s i 0 ∷ drop (i + 1) s
next_byte s i l = drop-cons s i 0 l ∙ ap (λ (k : ℕ). get_or s i 0 ∷ drop k s) (sym (add-one i))

pub part_none : (s : List ℕ) (at : ℕ) → part s at at ≡ []
part_none s at = let e : at - at ≡ 0 = omega arith in ap (λ (k : ℕ). take k (drop at s)) e

pub part_more : (s : List ℕ) (at i : ℕ) → at ≤ i → i < length s → part s at (i + 1) ≡ part s at i ++ (get_or s i 0 ∷ [])
part_more s at i h l =
    let e : i + 1 - at ≡ suc (i - at) = omega arith in
    let f : at + (i - at) ≡ i = omega arith in
    ap (λ (k : ℕ). take k (drop at s)) e
    ∙ (take-suc (drop at s) (i - at) 0 (rw length-drop (omega arith))
    ∙ ap (λ (b : ℕ). take (i - at) (drop at s) ++ (b ∷ [])) (get_or-drop at s (i - at) 0 ∙ ap (λ (k : ℕ). get_or s k 0) f))

pub part_two : (s : List ℕ) (at i : ℕ) → at ≤ i → i + 1 < length s → part s at (i + 2) ≡ part s at i ++ (get_or s i 0 ∷ get_or s (i + 1) 0 ∷ [])
part_two s at i h l =
    let e : i + 2 ≡ i + 1 + 1 = omega arith in
    ap (λ (k : ℕ). part s at k) e
    ∙ (part_more s at (i + 1) (omega arith) l
    ∙ (ap (λ (u : List ℕ). u ++ (get_or s (i + 1) 0 ∷ [])) (part_more s at i h (omega arith))
    ∙ append_assoc (part s at i) (get_or s i 0 ∷ []) (get_or s (i + 1) 0 ∷ [])))

-- what `&s[n..]` is
pub rest_is : (n : ℕ) (s : List ℕ) → take (length s - n) (drop n s) ≡ drop n s
rest_is n s = take_all (length s - n) (drop n s) (rw length-drop (omega arith))

-- ---- a text and its bytes

or_true : (a : Bool) → (a || true) ≡ true
or_true true = refl
or_true false = refl

one_quote : (s t : List ℕ) → any (eqb quote) t ≡ true → any (eqb quote) (s ++ t) ≡ true
one_quote s t e = any_append (eqb quote) s t ∙ (ap (λ b. any (eqb quote) s || b) e ∙ or_true (any (eqb quote) s))

kept_quote : (s t : List ℕ) → any (eqb quote) s ≡ true → any (eqb quote) (s ++ t) ≡ true
kept_quote s t e = any_append (eqb quote) s t ∙ ap (λ b. b || any (eqb quote) t) e

pub same_others : {t r : List ℕ} → Stands t r → keep other_byte t ≡ keep other_byte r
same_others (inl e) = ap (keep other_byte) e
same_others (inr d) = d.others

stands_long : {t r : List ℕ} → Stands t r → length t ≤ length r
stands_long (inl e) = omega (arith, ap length e)
stands_long (inr d) = omega (arith, d.shorter)

pub stands_more : {t r : List ℕ} (b : ℕ) → Stands t r → Stands (t ++ (b ∷ [])) (r ++ (b ∷ []))
stands_more b (inl e) = inl (ap (λ (u : List ℕ). u ++ (b ∷ [])) e)
stands_more {t} {r} b (inr d) = inr (record {
  quotes = kept_quote t (b ∷ []) d.quotes;
  double = kept_quote r (b ∷ []) d.double;
  shorter = omega (arith, d.shorter, length-append t (b ∷ []), length-append r (b ∷ []));
  others =
      keep_append other_byte t (b ∷ []) ∙ (ap (λ (u : List ℕ). u ++ keep other_byte (b ∷ [])) d.others ∙ sym (keep_append other_byte r (b ∷ [])));
})

pub stands_pair : {t r : List ℕ} → Stands t r → Stands (t ++ (quote ∷ [])) (r ++ (quote ∷ quote ∷ []))
stands_pair {t} {r} h = inr (record {
  quotes = one_quote t (quote ∷ []) refl;
  double = one_quote r (quote ∷ quote ∷ []) refl;
  shorter = omega (arith, stands_long h, length-append t (quote ∷ []), length-append r (quote ∷ quote ∷ []));
  others = keep_append other_byte t (quote ∷ []) ∙ (ap (λ (u : List ℕ). u ++ []) (same_others h) ∙ sym (keep_append other_byte r (quote ∷ quote ∷ [])));
})
