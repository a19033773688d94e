-- `basket::question_lines::put_lines` meets its contract: what was kept has room, by `kept_room`.
use Rattle.basket.proofs.LineLaws.{kept_room}
use Rattle.basket.proofs.question_lines.put_lines.Goals as goal

pub put_bytes-requires : goal.put_bytes-requires
put_bytes-requires c = kept_room _ _ c.in-Some.is c.requires.kept c.requires.has_room
