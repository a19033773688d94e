-- `final_number::number_in` meets its contract: a law `call_..` for each way out.
use Rattle.final_number.proofs.CallLaws.{call_3, call_7, call_done}
use Rattle.final_number.proofs.number_in.Goals as goal

pub returns-in_default : goal.returns-in_default
returns-in_default c = call_3 c.args.b.now c.args.q.now c.args.out.now c.requires.b_value c.ask_of-ask.result c.ask_of-ask.ensures c.in_default.ensures

pub returns-then-out-n : goal.returns-then-out-n
returns-then-out-n c =
    call_7 c.args.b.now c.args.q.now c.args.out.now c.requires.b_value c.ask_of-ask.result c.ask_of-ask.ensures c.in-Some.article c.in-Some.ensures
    c.scheme_for-scheme.result c.scheme_for-scheme.ensures c.put_number-n.ensures c.if-out-n.true

pub returns : goal.returns
returns c =
    call_done c.args.b.now c.args.q.now c.args.out.now c.requires.b_value c.ask_of-ask.result c.ask_of-ask.ensures c.in-Some.article c.in-Some.ensures
    c.scheme_for-scheme.result c.scheme_for-scheme.ensures c.put_number-n.ensures c.if-out-n.false c.put_bytes.ensures
