-- What the call that derives has written, read as a question.
use Rattle.std.specs.Prelude.{ℕ, ◌≡◌, List}
use Rattle.std.proofs.Math.Option.{some}
use Rattle.rules.specs.Question.{Question, question_of}
use Rattle.rules.specs.PlacedRefusals.{Done}
use Rattle.relation_rules.specs.Truth.{Held, properties_of}
use Rattle.relation_rules.specs.Derived.{derived, granting}

-- a question that grants none, properties and a text that derives names from them, and the bytes of that question with these names
pub record Granting (s p t new : List ℕ) : Type 0 where
  pub question : Question
  pub is_question : question_of s ≡ some question
  pub held : List Held
  pub are_properties : properties_of p ≡ some held
  pub names : List (List ℕ)
  pub are_derived : derived held t ≡ Done names
  pub reads : question_of new ≡ some (granting question names)
