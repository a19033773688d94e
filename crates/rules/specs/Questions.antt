-- Many questions, lent end to end.
use Rattle.std.specs.Prelude.{ℕ, List, leb, length, take, drop}
use Rattle.std.proofs.Math.Option.{Option}
use Rattle.rules.specs.Layout.{Layout, ◌such◌, back, whole, repeated}
use Rattle.rules.specs.Bytes.{own_length}
use Rattle.rules.specs.Question.{Question, question_of}

-- the next one has as many bytes as it says; with fewer it says too much, and is none
abbrev pub one_question : Layout Question
one_question s = back (question_of (take (own_length s) s)) (drop (own_length s) s)

-- one behind the other, with nothing left over
abbrev pub questions_layout : ℕ → Layout (List Question)
questions_layout most = repeated one_question such λ qs. leb (length qs) most

-- at most so many of them; or nothing, where one is broken or there are more
unfoldable pub questions_of : ℕ → List ℕ → Option (List Question)
questions_of most s = whole (questions_layout most) s
