use Rattle.hm_marks_tokens.proofs.QuotedRuns.{run_found, run_open}
use Rattle.hm_marks_tokens.proofs.token.unquoted_len.Goals as goal

pub returns-in-Some-clause-len : goal.returns-in-Some-clause-len
returns-in-Some-clause-len c = run_found c.args.bytes.now c.in-Some.place c.in-Some.ensures

pub returns-in-None-clause-len : goal.returns-in-None-clause-len
returns-in-None-clause-len c = run_open c.args.bytes.now c.in-None.ensures
