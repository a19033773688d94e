-- `price::answered::answer_to` meets its contract: a price by `ready_priced`, a refusal by `ready_refused`.
use Rattle.price.proofs.ReadyLaws.{ready_found, ready_priced, ready_refused}
use Rattle.price.proofs.answered.answer_to.Goals as goal

pub answer_at-requires-clause-found_is : goal.answer_at-requires-clause-found_is
answer_at-requires-clause-found_is c = ready_found c.requires c.ask_of-ask.ensures

pub returns-in-Ok : goal.returns-in-Ok
returns-in-Ok c = ready_priced c.requires c.ask_of-ask.ensures c.in-Ok.ensures

pub returns-in-Err : goal.returns-in-Err
returns-in-Err c = ready_refused c.requires c.ask_of-ask.ensures c.in-Err.ensures c.from.ensures c.room_for.ensures
