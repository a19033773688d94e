-- `relation_words::tokens::number_here` meets its contract: too many digits, none, or a number.
use Rattle.std.proofs.Common.{sym, ◌∙◌}
use borrow.Author.Tests.{eqb-true, eqb-false}
use Rattle.relation_words.proofs.StretchLaws.{stretched_in}
use Rattle.relation_words.proofs.TokenLaws.{digits_part, number_many, number_bare, number_whole}
use Rattle.relation_words.proofs.tokens.number_here.Goals as goal

pub returns-then-digits-gt18 : goal.returns-then-digits-gt18
returns-then-digits-gt18 c =
    let s = c.stretch_end-to.ensures in
    number_many c.requires.figure_at c.requires.byte_at.there (stretched_in c.min-most.result s.on s.most s.each) c.first_digit-first.ensures c.if-digits-gt18.true

pub returns-then-is_empty : goal.returns-then-is_empty
returns-then-is_empty c =
    let s = c.stretch_end-to.ensures in
    number_bare c.requires.figure_at c.requires.byte_at.there (stretched_in c.min-most.result s.on s.most s.each) c.first_digit-first.ensures
    c.min-most.ensures c.if-digits-gt18.false s.next (eqb-true _ 0 (sym c.is_empty.ensures ∙ c.if-is_empty.true))

pub size_of-size-requires : goal.size_of-size-requires
size_of-size-requires c =
    let s = c.stretch_end-to.ensures in
    record {
      all = (digits_part c.requires.figure_at c.requires.byte_at.there (stretched_in c.min-most.result s.on s.most s.each) c.first_digit-first.ensures).1;
      few = c.if-digits-gt18.false;
    }

pub returns : goal.returns
returns c =
    let s = c.stretch_end-to.ensures in
    number_whole c.requires.figure_at c.requires.byte_at.there (stretched_in c.min-most.result s.on s.most s.each) c.first_digit-first.ensures
    c.min-most.ensures c.if-digits-gt18.false s.next (eqb-false _ 0 (sym c.is_empty.ensures ∙ c.if-is_empty.false)) c.size_of-size.ensures
