-- `relation_words::tokens::token_at` meets its contract: the end of the text, or what is heard behind the blanks.
use Rattle.relation_words.proofs.TokenLaws.{on_cut, on_token, behind_blanks}
use Rattle.relation_words.specs.Heard.{wanted_of}
use Rattle.relation_words.proofs.tokens.token_at.Goals as goal

pub returns-then-text-from : goal.returns-then-text-from
returns-then-text-from c = on_cut (wanted_of c.args.wants) c.blanks-from.ensures c.if-text-from.true

pub token_here-requires : goal.token_here-requires
token_here-requires c = behind_blanks c.blanks-from.ensures c.if-text-from.false

pub returns : goal.returns
returns c = on_token (wanted_of c.args.wants) c.blanks-from.ensures c.token_here.result c.token_here.ensures
