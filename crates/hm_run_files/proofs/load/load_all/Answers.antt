use Rattle.std.proofs.Common.{◌≡◌, Err, ◌∙◌, arith, rules, length-append}
use Rattle.std.proofs.lemmas.List.{map_push}
use Rattle.hm_run_files.specs.Files.{file_of, bytes_of}
use Rattle.hm_run_files.proofs.Lists.{split_seen, take_seen}
use Rattle.hm_run_files.proofs.Loading.{load_stop, load_more, none_loaded}
use Rattle.hm_run_files.proofs.load.load_all.Goals as goal

pub loop-file-init : goal.loop-file-init
loop-file-init g c = (search rules, none_loaded c.new-loaded.result c.new-loaded.ensures.items)

pub returns-in_err-bytes-clause-did : goal.returns-in_err-bytes-clause-did
returns-in_err-bytes-clause-did g c =
    let is : c.from_residual.result ≡ Err c.in_err-bytes.field-0.0 = search rules in
    rw is (load_stop c.loop-file.invariant.1 (file_of c.file-item.result) _ _ _
    (split_seen file_of _ _ _ c.loop-file-test.true c.file-item.is) _ c.in_err-bytes.ensures.did)

pub loop-file-preserved : goal.loop-file-preserved
loop-file-preserved g c = (
  rw (c.in_ok-push.ensures.items, length-append) (omega (arith, c.loop-file.invariant.0)),
  record {
    same = c.load_one.ensures.contents ∙ c.loop-file.invariant.1.same;
    calm = c.in_ok-bytes.ensures.did.1 ∙ c.loop-file.invariant.1.calm;
    found = rw (take_seen file_of _ _ _ c.loop-file-test.true c.file-item.is, c.in_ok-push.ensures.items, map_push bytes_of)
        (load_more c.loop-file.invariant.1 (file_of c.file-item.result) c.in_ok-bytes.bytes.items c.in_ok-bytes.ensures.did.0);
  },
)
