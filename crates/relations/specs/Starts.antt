-- The NOTs in front of a single condition, and where it starts behind them.
use Rattle.std.specs.Prelude.{ℕ, suc, ◌≤◌, ◌<◌, ◌≡◌, Bool, List, length, drop, get_or, Result, Ok, Err}
use Rattle.relation_rules.specs.Grammar.{deepest}
use Rattle.relation_rules.specs.Parts.{StopsSingle, SingleTrue}
use Rattle.relation_rules.specs.Truth.{Held, Truth}
use Rattle.relation_words.specs.Words.{Gap}
use Rattle.relations.specs.Reading.{turned_by, FirstAt, SingleStop}
use Rattle.relations.specs.declared.starts.First.{First}
use Rattle.relations.specs.declared.starts.First.TheVariants.{Parenthesis, Token}
use Rattle.relations.specs.declared.starts.Start.{Start}
use Rattle.relations.specs.declared.told.Refused.{Refused}

-- from `at` to `behind` stand NOTs: what is read behind them is read from `at` on, turned or not, and what is refused is refused
pub record NotsOver (s : List ℕ) (at behind : ℕ) (turned : Bool) : Type 0 where
  pub on : at ≤ behind
  pub most : behind ≤ length s
  pub over : (ps : List Held) (d to : ℕ) (v : Truth) → SingleTrue deepest ps d (suc behind) (drop behind s) v (suc to) (drop to s)
      → SingleTrue deepest ps d (suc at) (drop at s) (turned_by turned v) (suc to) (drop to s)
  pub stops : (d k p : ℕ) → StopsSingle deepest d (suc behind) (drop behind s) k p → StopsSingle deepest d (suc at) (drop at s) k p

-- at `from`, behind blanks, stands a parenthesis or a token that is no NOT
pub record OpenAt (s : List ℕ) (at from : ℕ) : Type 0 where
  pub gap : Gap s at from
  pub there : from < length s
  pub opens : get_or s from 0 ≡ 40

abbrev pub FirstIs : List ℕ → ℕ → ℕ → First → Type 0
FirstIs s at from Parenthesis = OpenAt s at from
FirstIs s at from (Token t) = FirstAt s at t

pub record StartOver (s : List ℕ) (at : ℕ) (r : Start) : Type 0 where
  pub nots : NotsOver s at r.at r.turned
  pub first : FirstIs s r.at r.from r.first

-- or nothing that may come
pub record StartStop (s : List ℕ) (at : ℕ) (e : Refused) : Type 0 where
  pub stop : (d : ℕ) → SingleStop d s at e

abbrev pub StartRead : List ℕ → ℕ → Result Start Refused → Type 0
StartRead s at (Ok r) = StartOver s at r
StartRead s at (Err e) = StartStop s at e
