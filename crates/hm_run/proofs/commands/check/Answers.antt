use Rattle.std.proofs.Common.{◌<◌, ◌∙◌, length, sym, arith}
use Rattle.hm_run.proofs.Doing.{first_of, check_so}
use Rattle.hm_run.proofs.commands.check.Goals as goal

pub returns : goal.returns
returns g c =
    let some : 0 < length c.args.loads.now = omega arith in
    check_so _ _ _ (c.deref.ensures.value ∙ sym (first_of c.args.loads.now c.lens-item.result some c.lens-item.is)) _ c.check_lens.ensures
