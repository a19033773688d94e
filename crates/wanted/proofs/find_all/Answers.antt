-- `wanted::find_all` meets its contract: what was seen and told is right, by `found_all`.
use Rattle.wanted.proofs.WalkLaws.{found_all}
use Rattle.wanted.proofs.find_all.Goals as goal

pub returns : goal.returns
returns c = rw (← c.of-table.ensures.bytes_are, ← c.of-table.ensures.names_are) (found_all c.walk-sightings.ensures c.tell.ensures)
