-- What code says that reads an assignment of a relation text, whatever stands before it.
use Rattle.std.specs.Prelude.{ℕ, suc, ◌+◌, ◌≤◌, ◌≡◌, List, length, drop, Result, Ok, Err}
use Rattle.std.proofs.Math.Option.{Option}
use Rattle.rules.specs.Letters.{text}
use Rattle.rules.specs.declared.Part.{Part}
use Rattle.rules.specs.declared.Refusal.TheVariants.{BadRelation}
use Rattle.layout.specs.Reads.{part}
use Rattle.relation_rules.specs.Grammar.{Fixed, Chain, OrChain, Assignment, deepest}
use Rattle.relation_rules.specs.Reader.{Start, AtValue, Between, run}
use Rattle.relation_rules.specs.Parts.{TokenAt, behind_assignment}
use Rattle.relation_rules.specs.Truth.{Held, granted_by}
use Rattle.relations.specs.declared.told.Refused.{Refused}
use Rattle.relations.specs.declared.conditions.Next.TheVariants.{And, Or}
use Rattle.relations.specs.declared.conditions.Join.{Join as Joining}
use Rattle.relations.specs.declared.assignments.Head.{Head}
use Rattle.relations.specs.declared.assignments.Behind.{Behind}
use Rattle.relations.specs.declared.assignments.Behind.TheVariants.{If, Join}
use Rattle.relations.specs.declared.assignments.Assigned.{Assigned}
use Rattle.relations.specs.Told.{refused_as}
use Rattle.relations.specs.Reading.{Joined}

-- the bytes of a part of a text
abbrev pub part_in : List ℕ → Part → List ℕ
part_in s p = part s p.at (p.at + p.size)

pub record Within (s : List ℕ) (p : Part) : Type 0 where
  pub most : p.at + p.size ≤ length s

-- the reader stops, whatever stands before the assignment
pub record AssignmentStop (s : List ℕ) (at : ℕ) (e : Refused) : Type 0 where
  pub on : at ≤ e.at
  pub most : e.at ≤ length s
  pub wrong : (d : Option (Chain Assignment)) → run deepest (suc at) (Between (Start d)) (drop at s) ≡ refused_as e

-- up to its string: the variable, and the string, which is the name
pub record HeadOver (s : List ℕ) (at : ℕ) (r : Head) : Type 0 where
  pub on : at ≤ r.to
  pub most : r.to ≤ length s
  pub stands : r.variable ≤ length s
  pub within : Within s r.name
  pub moves : (d : Option (Chain Assignment))
      → run deepest (suc at) (Between (Start d)) (drop at s) ≡ run deepest (suc r.to) (Between (AtValue d (suc r.variable) (part_in s r.name))) (drop r.to s)

abbrev pub HeadRead : List ℕ → ℕ → Result Head Refused → Type 0
HeadRead s at (Ok r) = HeadOver s at r
HeadRead s at (Err e) = AssignmentStop s at e

-- behind its string: IF, or what follows an assignment
pub record IfOver (s : List ℕ) (at after : ℕ) : Type 0 where
  pub on : at ≤ after
  pub most : after ≤ length s
  pub condition : TokenAt (suc at) (drop at s) (Fixed (text "IF")) (suc after) (drop after s)

pub record Follows (s : List ℕ) (at : ℕ) (j : Joining) : Type 0 where
  pub joined : Joined 0 s at j.next j.after
  pub no_and : j.next ≡ And → ⊥
  pub no_or : j.next ≡ Or → ⊥

abbrev pub BehindIs : List ℕ → ℕ → Behind → Type 0
BehindIs s at (If after) = IfOver s at after
BehindIs s at (Join j) = Follows s at j

pub record BehindOver (s : List ℕ) (at : ℕ) (r : Behind) : Type 0 where
  pub is : BehindIs s at r

pub record IfStop (s : List ℕ) (at : ℕ) (e : Refused) : Type 0 where
  pub on : at ≤ e.at
  pub most : e.at ≤ length s
  pub wrong : (d : Option (Chain Assignment)) (p : ℕ) (v : List ℕ) → run deepest (suc at) (Between (AtValue d p v)) (drop at s) ≡ refused_as e

-- and 14 is why
pub record IfRefused (s : List ℕ) (at : ℕ) (e : Refused) : Type 0 where
  pub stop : IfStop s at e
  pub reason : e.refusal ≡ BadRelation

abbrev pub IfRead : List ℕ → ℕ → Result Behind Refused → Type 0
IfRead s at (Ok r) = BehindOver s at r
IfRead s at (Err e) = IfRefused s at e

-- to its end; and whether it grants its name
pub record AssignmentOver (ps : List Held) (s : List ℕ) (at : ℕ) (r : Assigned) : Type 0 where
  pub on : at ≤ r.to
  pub most : r.to ≤ length s
  pub condition : Option OrChain
  pub grants : granted_by ps condition ≡ r.granted
  pub stands : r.variable ≤ length s
  pub within : Within s r.name
  pub moves : (d : Option (Chain Assignment))
      → run deepest (suc at) (Between (Start d)) (drop at s) ≡ run deepest (suc r.to) (Between (behind_assignment d (suc r.variable) (part_in s r.name) condition)) (drop r.to s)
  pub follows : Follows s r.to r.join

abbrev pub AssignmentRead : List Held → List ℕ → ℕ → Result Assigned Refused → Type 0
AssignmentRead ps s at (Ok r) = AssignmentOver ps s at r
AssignmentRead ps s at (Err e) = AssignmentStop s at e
