use Rattle.std.proofs.Common.{refl, arith}
use Rattle.std.proofs.lemmas.Result.{err_from_is_err_and}
use Rattle.hm_tree_text.proofs.Reached.{not_false, passed}
use Rattle.hm_tree_text.proofs.Whole.{file_fails, no_feed, more_bytes, file_read}
use Rattle.hm_tree_text.proofs.reader.read_file.Goals as goal

pub returns-in_err-value-clause-fault : goal.returns-in_err-value-clause-fault
returns-in_err-value-clause-fault g c =
    let p = err_from_is_err_and c.from_residual.result c.from_residual.ensures.1 in
    passed _ _ _ _ p.1 p.2 (file_fails _ _ _ c.in_err-value.ensures.fault)

pub returns-then-not-is_at-clause-fault : goal.returns-then-not-is_at-clause-fault
returns-then-not-is_at-clause-fault g c = no_feed _ _ _ _ c.in_ok-value.ensures.text (λ r e. not_false (c.if-not-is_at.ensures.only r e))

pub returns-then-end-bytes-clause-fault : goal.returns-then-end-bytes-clause-fault
returns-then-end-bytes-clause-fault g c = more_bytes _ _ _ _ c.in_ok-value.ensures.text (c.if-not-is_at.ensures.there refl) (omega arith)

pub returns-clause-text : goal.returns-clause-text
returns-clause-text g c = file_read _ _ _ _ c.in_ok-value.ensures.text (c.if-not-is_at.ensures.there refl) (omega arith)
