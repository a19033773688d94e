-- What the functions over text books ensure, and what they ask: contracts that name a definition and a result.
use Rattle.std.specs.Prelude.{ℕ, ◌+◌, ◌≤◌, ◌<◌, ◌≡◌, List, ltb, length, take, drop}
use Rattle.std.specs.Borrow.{Bor}
use Rattle.rules.specs.Bytes.{big}
use Rattle.rules.specs.TextBook.{Entry, entry}
use Rattle.rules.specs.Refusals.{Result, done, refused}
use Rattle.rules.specs.Text.{Found, InAsked, InFallback, text, part, shown}
use Rattle.rules.specs.declared.TextAnswer.{TextAnswer}
use Rattle.layout.specs.Reads.{Reads}
use Rattle.layout.specs.Reads as reads

-- ---- an entry of a text book

-- the entry that stands from `at` to `to`
abbrev pub entry_at : List ℕ → ℕ → ℕ → Entry
entry_at s at to = record { number = big (take 4 (drop at s)); start = at + 6; text = reads.part s (at + 6) to }

-- there is room for one, and it lies in the bytes
pub record EntryIn (s : List ℕ) (at to : ℕ) : Type 0 where
  pub long : at + 6 ≤ to
  pub fits : to ≤ length s

-- the entry at `at` ends at `r`; 0: none
pub record EntryEnd (s : List ℕ) (at r : ℕ) : Type 0 where
  pub reads : Reads (entry (length s)) s at (ltb 0 r) (entry_at s at r) r
  pub inside : 0 < r → EntryIn s at r

-- ---- what is handed out

-- the answer where a text is found
abbrev pub found_at : ℕ → ℕ → ℕ → TextAnswer
found_at book place size = record { place = place; length = size; number = 0; book = book }

-- of two, the one that lends it: the fallback's, where the text is found there, and else the asked book's
abbrev pub lender : {A : Type 0} → A → A → Result Found → A
lender asked fallback (done (InAsked e)) = asked
lender asked fallback (done (InFallback e)) = fallback
lender asked fallback (refused n) = asked

-- `r` is the bytes of the slice from its place on, and no copy of them: it lies in the very block of the slice, so far behind the slice's start
pub record IsPart (s : Bor (List ℕ)) (place size : ℕ) (r : Bor (List ℕ)) : Type 0 where
  pub contents : r.now ≡ take size (drop place s.now)
  pub block : r.ref_ptr.0 ≡ s.ref_ptr.0
  pub offset : r.ref_ptr.1 ≡ place + s.ref_ptr.1

-- `r` holds the text, and is that very part of the slice that lends it. A refused call's is empty, at the start of the asked book
pub record Handed (asked fallback : Bor (List ℕ)) (n : ℕ) (r : Bor (List ℕ)) : Type 0 where
  pub contents : r.now ≡ part (text asked.now fallback.now n)
  pub lies : IsPart (lender asked fallback (text asked.now fallback.now n)) (shown (text asked.now fallback.now n)).place (shown (text asked.now fallback.now n)).length r
