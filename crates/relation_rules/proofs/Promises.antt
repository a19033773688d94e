-- What is promised of relation texts, each under a name and in plain words. The proofs stand in the files of laws beside this one.
use Prim.Native.Nat.{ℕ, ◌≤◌}
use mathlib.Core.Path.{◌≡◌}
use mathlib.Core.Bool.{true, ◌&&◌}
use mathlib.Core.List.{List, [], ◌∷◌, map}
use mathlib.Core.Option.{some, none}
use lib.ListN.{length}
use Rattle.rules.specs.Lists.{all, between}
use Rattle.rules.specs.Bytes.{name_byte}
use Rattle.rules.specs.Book.{Record}
use Rattle.rules.specs.BookLayout.{records}
use Rattle.rules.specs.Question.{question_of}
use Rattle.rules.specs.PlacedRefusals.{Done, RefusedAt}
use Rattle.rules.specs.Price.{price}
use Rattle.relation_rules.specs.Grammar.{Chain, Constant, Assignment, OrChain, Specified, Among, Sign, Operand, Property, Reads, ReadsAs}
use Rattle.relation_rules.specs.Reader.{relation_of}
use Rattle.relation_rules.specs.Faults.{WrongAt, DeepAt, Number}
use Rattle.relation_rules.specs.Truth.{Held, True, False, Undefined, either, together, opposite, comparison, value_in, or_truth, single_truth, granted_by, names_from}
use Rattle.relation_rules.specs.Derived.{granting, unplaced, Derivation, derivation, price_derived}
use Rattle.relation_rules.proofs.FaultLaws as Fault
use Rattle.relation_rules.proofs.ExactLaws as Exact
use Rattle.relation_rules.proofs.TruthLaws as Truth
use Rattle.relation_rules.proofs.TruthLaws.{all_three, rows_of, names, equalities}
use Rattle.relation_rules.proofs.MoveLaws as Move
use Rattle.relation_rules.proofs.MoveLaws.{Judged}
use Rattle.relation_rules.proofs.DerivedLaws as Derived

-- ---- the text

-- A text reads as one tree at most, however deep its parentheses are.
pub one_reading : (s : List ℕ) (t u : Chain Assignment) → ReadsAs s t → ReadsAs s u → t ≡ u
one_reading = Fault.one_reading

-- A text is read as a tree exactly where it is a text of the grammar with that tree.
pub exactly : (s : List ℕ) (tree : Chain Assignment) → (Reads s tree → relation_of s ≡ Done tree) × (relation_of s ≡ Done tree → Reads s tree)
exactly = Fault.exactly

-- Any other text is refused, with 14 or 15.
pub only_two : (s : List ℕ) (k p : ℕ) → relation_of s ≡ RefusedAt k p → Number k
only_two = Fault.only_two

-- 14 is given at a place exactly where the bytes before it begin a text of the grammar, and with the byte there none does, however deep; or where the text is cut
-- there.
pub wrong_exactly : (s : List ℕ) (p : ℕ) → (relation_of s ≡ RefusedAt 14 p → WrongAt s p) × (WrongAt s p → relation_of s ≡ RefusedAt 14 p)
wrong_exactly = Exact.wrong_exactly

-- 15 is given at a place exactly where a parenthesis stands that begins a deeper text and none of sixteen, behind bytes that begin one.
pub deep_exactly : (s : List ℕ) (p : ℕ) → (relation_of s ≡ RefusedAt 15 p → DeepAt s p) × (DeepAt s p → relation_of s ≡ RefusedAt 15 p)
deep_exactly = Exact.deep_exactly

-- ---- truth

-- OR, AND and NOT are those of the document's tables, in the order true, false, undefined.
pub table : (rows_of either ≡ ((True ∷ True ∷ True ∷ []) ∷ (True ∷ False ∷ Undefined ∷ []) ∷ (True ∷ Undefined ∷ Undefined ∷ []) ∷ []))
    × (rows_of together ≡ ((True ∷ False ∷ Undefined ∷ []) ∷ (False ∷ False ∷ False ∷ []) ∷ (Undefined ∷ False ∷ Undefined ∷ []) ∷ []))
    × (map opposite all_three ≡ (False ∷ True ∷ Undefined ∷ []))
table = Truth.table

module _ (ps : List Held) where
  -- Only a condition that is plainly true grants.
  pub grants_exactly : (o : OrChain) → (granted_by ps (some o) ≡ true → or_truth ps o ≡ True) × (or_truth ps o ≡ True → granted_by ps (some o) ≡ true)
  grants_exactly = Truth.grants_exactly ps

  -- SPECIFIED is never undefined.
  pub specified_defined : (n : List ℕ) → single_truth ps (Specified n) ≡ Undefined → ⊥
  specified_defined = Truth.specified_defined ps

  -- Every comparison with a property that has no value is.
  pub no_value : (n : List ℕ) (s : Sign) (y : Operand) → value_in ps n ≡ none → comparison ps (Property n) s y ≡ Undefined
  no_value = Truth.no_value ps

  -- IN is the OR of its equalities.
  pub in_equalities : (n : List ℕ) (cs : Chain Constant) → single_truth ps (Among n cs) ≡ or_truth ps (equalities ps n cs)
  in_equalities = Truth.in_equalities ps

  -- ---- names

  -- The names derived are those of the assignments that grant one, in order, repeats among them.
  pub derived_names : (as' : List Assignment) (count : ℕ) (ns : List (List ℕ)) → names_from ps count as' ≡ Done ns → ns ≡ names ps as'
  derived_names = Truth.derived_names ps

  -- A question can grant them: they are at most 32, each of 1 to 20 name bytes.
  pub fit_a_question : (as' : List Assignment) (ns : List (List ℕ)) → names_from ps 0 as' ≡ Done ns
      → (all (λ n. between 1 20 (length n) && all name_byte n) ns ≡ true) × (length ns ≤ 32)
  fit_a_question = Truth.fit_a_question ps

  -- 16 stands at the first assignment that derives a 33rd name, or one that is not of 1 to 20 name bytes.
  pub first_judged : (as' : List Assignment) (count k at : ℕ) → names_from ps count as' ≡ RefusedAt k at → Judged ps count as' k at
  first_judged = Move.first_judged ps

-- ---- the price

module _ (b s p relation : List ℕ) (room : ℕ) where
  -- Where names are derived, the answer is that of the price call for a question which is the same but grants those names, every refusal included.
  pub derived_price_lem : (book : List Record) (d : Derivation) (s' : List ℕ) → records b ≡ some book → derivation s p relation ≡ Done d
      → question_of s' ≡ some (granting d.question d.names) → price_derived b s p relation room ≡ unplaced (price b s' room)
  derived_price_lem = Derived.derived_price_lem b s p relation room

  -- Before that, 1 comes for what is no book, and then the refusals of the derivation, with their places.
  pub derived_refused : (book : List Record) (k at : ℕ) → records b ≡ some book → derivation s p relation ≡ RefusedAt k at → price_derived b s p relation room ≡ RefusedAt k at
  derived_refused = Derived.derived_refused b s p relation room

  pub derived_no_book : records b ≡ none → price_derived b s p relation room ≡ RefusedAt 1 0
  derived_no_book = Derived.derived_no_book b s p relation room
