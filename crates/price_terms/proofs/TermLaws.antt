-- The terms of a price record: read, sized and written.
use Prim.Native.Nat.{ℕ, zero, suc, ◌+◌, ◌-◌, ◌≤◌}
use mathlib.Core.Path.{◌≡◌, refl, sym, ap, ap₂, subst}
use mathlib.Core.List.{List, [], ◌∷◌}
use native.Mathlib.Omega.{arith}
use lib.ListN.{length, take, drop, get_or, length-drop}
use lib.Seq.{length-take-le}
use Rattle.rules.specs.Bytes.{signed_of}
use Rattle.rules.specs.Program.{decimal}
use Rattle.file_rules.specs.Decimals.{text_text, date_text, value_text}
use Rattle.kinds.specs.Fields.{number_at}
use Rattle.layout.specs.Reads.{part}
use Rattle.layout.specs.Ensures.{Number, PutsTo}
use Rattle.decimals.specs.Texts.{ended, RoomFor}
use Rattle.decimals.proofs.ColumnLaws.{ended_length}
use Rattle.price_terms.specs.declared.Terms.{Terms}
use Rattle.price_terms.specs.Terms.{flag_digit, two, kind_text, worth_by, worth_text, span_text, tail_text, TermsAre, SizeIs}
use Rattle.price_terms.proofs.PartLaws.{two_length, four_length, room_one, room_two, two_put}

pub flag_none : {b : ℕ} → b ≡ 0 → Number (flag_digit b) 256 48
flag_none e = record { is = sym (ap flag_digit e); below = omega arith }

pub flag_some : {b : ℕ} → (b ≡ 0 → ⊥) → Number (flag_digit b) 256 49
flag_some {b} n = record { is = by b n; below = omega arith }
  where
    by : (b : ℕ) → (b ≡ 0 → ⊥) → 49 ≡ flag_digit b
    by zero n = absurd (n refl)
    by (suc b) n = refl

currency_length : (t : List ℕ) (p : ℕ) → p + 29 ≤ length t → length (take 3 (drop (p + 12) t)) ≡ 3
currency_length t p h = length-take-le 3 (drop (p + 12) t) (omega (arith, length-drop (p + 12) t))

pub terms_size : (r : Terms) {a b c d e : ℕ} → Number (length (ended (text_text r.text))) 22 a
    → Number (length (ended (value_text (signed_of 4 r.value)))) 30 b → Number (length (ended (date_text r.from))) 10 c
    → Number (length (ended (date_text r.to))) 10 d → Number (length (ended (decimal r.upto))) 22 e → SizeIs r (a + b + c + d + e + 13)
terms_size r {a} {b} {c} {d} {e} p q s u v = record { is = all; few = omega (arith, p.below, q.below, s.below, u.below, v.below) }
  where
    all : (t : List ℕ) (i : ℕ) → i + 29 ≤ length t → a + b + c + d + e + 13 ≡ length (kind_text t i r.text) + length (tail_text t i r)
    all t i h =
        omega (
          arith,
          p.is,
          q.is,
          s.is,
          u.is,
          v.is,
          currency_length t i h,
          four_length (ended (get_or t i 0 ∷ [])) (ended (get_or t (i + 1) 0 ∷ [])) (ended ((48 + get_or t (i + 2) 0) ∷ [])) (ended (text_text r.text)),
          two_length (worth_text t i r.value) (span_text r.from r.to r.upto),
          four_length (ended (value_text (signed_of 4 r.value))) (ended (flag_digit (get_or t (i + 7) 0) ∷ [])) (take 3 (drop (i + 12) t)) (59 ∷ []),
          four_length (ended (date_text r.from)) (ended (date_text r.to)) (ended (decimal r.upto)) (10 ∷ []),
          ended_length (get_or t i 0 ∷ []),
          ended_length (get_or t (i + 1) 0 ∷ []),
          ended_length ((48 + get_or t (i + 2) 0) ∷ []),
          ended_length (flag_digit (get_or t (i + 7) 0) ∷ []),
        )

-- the flag's digit and the currency as code has them
module _ (t : List ℕ) (p : ℕ) (r : Terms) {d : ℕ} (n : Number (flag_digit (get_or t (p + 7) 0)) 256 d) where
  as_had : worth_text t p r.value ≡ worth_by r.value d (part t (p + 12) (p + 15))
  as_had =
      let e : p + 15 - (p + 12) ≡ 3 = omega arith in
      sym (ap₂ (λ (k j : ℕ). worth_by r.value k (take j (drop (p + 12) t))) n.is e)

  abbrev span : List ℕ
  span = span_text r.from r.to r.upto

  module _ {a : List ℕ} {at : ℕ} where
    had_room : RoomFor a at (tail_text t p r) → RoomFor a at (two (worth_by r.value d (part t (p + 12) (p + 15))) span)
    had_room m = subst (λ (s : List ℕ). RoomFor a at (two s span)) as_had m

    pub worth_room : RoomFor a at (tail_text t p r) → RoomFor a at (worth_by r.value d (part t (p + 12) (p + 15)))
    worth_room m = room_one _ span (had_room m)

    module _ {b : List ℕ} {i : ℕ} (q : PutsTo a at (worth_by r.value d (part t (p + 12) (p + 15))) b i) where
      pub span_room : RoomFor a at (tail_text t p r) → RoomFor b i span
      span_room m = room_two (worth_by r.value d (part t (p + 12) (p + 15))) span (had_room m) q

      pub tail_put : {c : List ℕ} {j : ℕ} → PutsTo b i span c j → PutsTo a at (tail_text t p r) c j
      tail_put {c} {j} s =
          subst (λ (w : List ℕ). PutsTo a at (two w span) c j) (sym as_had) (two_put (worth_by r.value d (part t (p + 12) (p + 15))) span q s)
