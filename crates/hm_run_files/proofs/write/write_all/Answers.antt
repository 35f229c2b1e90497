use Rattle.std.proofs.Common.{◌≡◌, ◌∙◌, Err, refl, rules}
use Rattle.std.proofs.lemmas.List.{take-map}
use Rattle.hm_run_files.specs.declared.stop.Stop.TheVariants.{Memory}
use Rattle.hm_run_files.specs.Files.{new_of}
use Rattle.hm_run_files.proofs.Lists.{split_seen, take_seen}
use Rattle.hm_run_files.proofs.Writing.{none_written, write_stop, write_more}
use Rattle.hm_run_files.proofs.write.write_all.Goals as goal

pub loop-file-init : goal.loop-file-init
loop-file-init g c = none_written

pub returns-in_err-write_one-clause-did : goal.returns-in_err-write_one-clause-did
returns-in_err-write_one-clause-did g c =
    let is : c.from_residual.result ≡ Err c.in_err-write_one.field-0.0 = search rules in
    rw is (write_stop c.loop-file.invariant (new_of c.file-item.result) _ _ _ _
    (split_seen new_of _ _ _ c.loop-file-test.true c.file-item.is) _ c.in_err-write_one.ensures.did)

pub returns-in_err-write_one-clause-memory : goal.returns-in_err-write_one-clause-memory
returns-in_err-write_one-clause-memory g c = λ spent d told.
    let is : c.from_residual.result ≡ Err c.in_err-write_one.field-0.0 = search rules in
    let memory : c.in_err-write_one.field-0.0 ≡ Memory = cc in
    (c.loop-file.file-index, c.in_err-write_one.ensures.memory (rw memory refl) _ (c.loop-file.invariant.left_so d told) ∙ rw take-map refl)

pub loop-file-preserved : goal.loop-file-preserved
loop-file-preserved g c = record {
  calm = c.in_ok-write_one.ensures.did.1 ∙ c.loop-file.invariant.calm;
  left_so = rw (take_seen new_of _ _ _ c.loop-file-test.true c.file-item.is)
      (write_more c.loop-file.invariant (new_of c.file-item.result) _ c.in_ok-write_one.ensures.did.0.1);
}
