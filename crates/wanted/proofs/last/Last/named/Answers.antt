-- `wanted::last::Last::named` meets its contract: by `named_same`.
use Rattle.wanted.proofs.LastLaws.{named_same}
use Rattle.wanted.proofs.last.Last.named.Goals as goal

pub returns-then-same_bytes : goal.returns-then-same_bytes
returns-then-same_bytes c = named_same c.requires.last_is c.same_bytes.ensures c.if-same_bytes.true
