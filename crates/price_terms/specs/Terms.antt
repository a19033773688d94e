-- The terms of a price record as columns of a line.
use Rattle.std.specs.Prelude.{ℕ, zero, suc, ◌+◌, ◌≤◌, ◌≡◌, Bool, ◌&&◌, List, [], ◌∷◌, ◌++◌, eqb, leb, length, take, drop, get_or}
use Rattle.rules.specs.Bytes.{signed_of}
use Rattle.rules.specs.Program.{decimal}
use Rattle.file_rules.specs.Fields.{line_end, semicolon}
use Rattle.file_rules.specs.Decimals.{text_text, date_text, value_text}
use Rattle.kinds.specs.Fields.{number_at}
use Rattle.decimals.specs.Texts.{ended}
use Rattle.price_terms.specs.declared.Terms.{Terms}

-- the numbers of the record t, whose names end at p
pub record TermsAre (t : List ℕ) (p : ℕ) (r : Terms) : Type 0 where
  pub text : r.text ≡ number_at 4 t (p + 3)
  pub value : r.value ≡ number_at 4 t (p + 8)
  pub from : r.from ≡ number_at 4 t (p + 15)
  pub to : r.to ≡ number_at 4 t (p + 19)
  pub upto : r.upto ≡ number_at 4 t (p + 23)
  pub rounding : r.rounding ≡ number_at 2 t (p + 27)

abbrev pub fit_terms : Terms → Bool
fit_terms r = eqb r.rounding 0 && (leb r.from 99_999_999 && leb r.to 99_999_999)

abbrev pub flag_digit : ℕ → ℕ
flag_digit zero = 48
flag_digit (suc n) = 49

-- ---- byte strings one behind the other

unfoldable pub two : List ℕ → List ℕ → List ℕ
two a b = a ++ b

unfoldable pub four : List ℕ → List ℕ → List ℕ → List ℕ → List ℕ
four a b c d = a ++ (b ++ (c ++ d))

-- ---- columns

abbrev pub kind_text : List ℕ → ℕ → ℕ → List ℕ
kind_text t p text =
    four (ended (get_or t p 0 ∷ [])) (ended (get_or t (p + 1) 0 ∷ [])) (ended ((48 + get_or t (p + 2) 0) ∷ [])) (ended (text_text text))

abbrev pub worth_by : ℕ → ℕ → List ℕ → List ℕ
worth_by value digit currency = four (ended (value_text (signed_of 4 value))) (ended (digit ∷ [])) currency (semicolon ∷ [])

abbrev pub worth_text : List ℕ → ℕ → ℕ → List ℕ
worth_text t p value = worth_by value (flag_digit (get_or t (p + 7) 0)) (take 3 (drop (p + 12) t))

abbrev pub span_text : ℕ → ℕ → ℕ → List ℕ
span_text from to upto = four (ended (date_text from)) (ended (date_text to)) (ended (decimal upto)) (line_end ∷ [])

abbrev pub tail_text : List ℕ → ℕ → Terms → List ℕ
tail_text t p r = two (worth_text t p r.value) (span_text r.from r.to r.upto)

-- `r` bytes take the columns of every record with these numbers, whose bytes are long enough
pub record SizeIs (terms : Terms) (r : ℕ) : Type 0 where
  pub is : (t : List ℕ) (p : ℕ) → p + 29 ≤ length t → r ≡ length (kind_text t p terms.text) + length (tail_text t p terms)
  pub few : r ≤ 200
