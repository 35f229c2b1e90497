use Rattle.hm_marks_tokens.proofs.Found.{before_found, before_end}
use Rattle.hm_marks_tokens.proofs.bytes.len_before.Goals as goal

pub returns-in-Some : goal.returns-in-Some
returns-in-Some c = before_found c.args.byte c.args.bytes.now c.in-Some.place c.in-Some.ensures

pub returns-in-None : goal.returns-in-None
returns-in-None c = before_end c.args.byte c.args.bytes.now c.in-None.ensures
