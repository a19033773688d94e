-- `survey::window::Noted::note_spot` meets its contract: by the laws `note_..`.
use borrow.Author.Rules.{rules}
use Rattle.survey.proofs.SpotLaws.{note_other, note_one, note_many}
use Rattle.survey.proofs.window.Noted.note_spot.Goals as goal

ruleset laws = (rules, note_other, note_one, note_many)

pub returns-then-not-is_rounding : goal.returns-then-not-is_rounding
returns-then-not-is_rounding c = search laws

pub returns-then-count-lt-MOST_NOTED : goal.returns-then-count-lt-MOST_NOTED
returns-then-count-lt-MOST_NOTED c = search laws

pub returns : goal.returns
returns c = search laws
