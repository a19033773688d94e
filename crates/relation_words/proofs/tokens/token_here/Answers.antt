-- `relation_words::tokens::token_here` meets its contract: by the first byte and what may come.
use Rattle.std.proofs.Common.{rules, refl, ap, ◌∙◌, ◌&&◌}
use Rattle.rules.proofs.TestLaws.{and_left}
use Rattle.relation_words.specs.Heard.{wanted_of}
use Rattle.relation_words.proofs.TokenLaws.{letter_asked, quote_asked, figure_asked}
use Rattle.relation_words.proofs.tokens.token_here.Goals as goal

ruleset laws = (rules, letter_asked, quote_asked, figure_asked)

pub name_here-requires : goal.name_here-requires
name_here-requires c = search laws

pub returns-then-wants-is_letter : goal.returns-then-wants-is_letter
returns-then-wants-is_letter c = c.name_here.ensures.heard (wanted_of c.args.wants) refl (and_left c.args.wants.name _ c.if-wants-is_letter.true)

pub string_here-requires : goal.string_here-requires
string_here-requires c = search laws

pub returns-then-wants-b : goal.returns-then-wants-b
returns-then-wants-b c = c.string_here.ensures.heard (wanted_of c.args.wants) (and_left c.args.wants.quoted _ c.if-wants-b.true)

pub number_here-requires : goal.number_here-requires
number_here-requires c = search laws

pub returns-then-wants-is_figure : goal.returns-then-wants-is_figure
returns-then-wants-is_figure c = c.number_here.ensures.heard (wanted_of c.args.wants) (and_left c.args.wants.figure _ c.if-wants-is_figure.true)

pub returns : goal.returns
returns c =
    c.word_here.ensures.heard (wanted_of c.args.wants) refl (ap (λ z. c.args.wants.name && z) c.is_letter.ensures.is ∙ c.if-wants-is_letter.false) c.if-wants-b.false
    (ap (λ z. c.args.wants.figure && z) c.is_figure.ensures.is ∙ c.if-wants-is_figure.false)
