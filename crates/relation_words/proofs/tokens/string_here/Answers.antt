-- `relation_words::tokens::string_here` meets its contract: cut off, or to the closing quote.
use Rattle.std.proofs.Common.{rules}
use Rattle.relation_words.proofs.TokenLaws.{string_cut, string_whole}
use Rattle.relation_words.proofs.tokens.string_here.Goals as goal

ruleset laws = (rules, string_cut, string_whole)

pub returns-then-text-quote : goal.returns-then-text-quote
returns-then-text-quote c = search laws

pub returns : goal.returns
returns c = search laws
