-- `survey::window::Span::widened` meets its contract: by the laws `span_..`.
use borrow.Author.Rules.{rules}
use Rattle.survey.proofs.WindowLaws.{span_kept, span_first, span_wider}
use Rattle.survey.proofs.window.Span.widened.Goals as goal

ruleset laws = (rules, span_kept, span_first, span_wider)

pub returns-then-not-counts : goal.returns-then-not-counts
returns-then-not-counts c = search laws

pub returns-then-self : goal.returns-then-self
returns-then-self c = search laws

pub returns : goal.returns
returns c = search laws
