use Rattle.std.proofs.Common.{◌≡◌, length, sym, ◌∙◌, arith}
use Rattle.hm_run_sync.proofs.SixFiles.{four, read_of}
use Rattle.hm_run_sync.proofs.read.read_all.Goals as goal

pub returns : goal.returns
returns g c =
    let low = c.in-len4.len_at_least in
    let high = c.in-len4.len_below in
    let size : length c.as_slice.result.now ≡ 4 = omega arith in
    let rest = four c.as_slice.result.now c.schema-item.result c.lens_a-item.result c.lens_b-item.result c.archive-item.result size
    c.schema-item.is c.lens_a-item.is c.lens_b-item.is c.archive-item.is in
    read_of c.args.loads.items c.pop.new.self.items c.pop-2.new.self.items c.schema-item.result c.lens_a-item.result c.lens_b-item.result
    c.archive-item.result c.in-Some-pop.left c.in-Some.right c.in-Some.ensures.items c.in-Some-pop.ensures.items (sym c.as_slice.ensures.value ∙ rest)
    _ c.read_six.result _ _ _ _ c.as_slice-2.ensures.value c.as_slice-3.ensures.value c.as_slice-4.ensures.value c.as_slice-5.ensures.value
    c.read_six.ensures
