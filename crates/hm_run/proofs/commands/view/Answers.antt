use Rattle.std.proofs.Common.{◌≡◌, ◌∙◌, ◌++◌, ◌∷◌, [], length, sym, ap, arith}
use Rattle.hm_run.proofs.Doing.{view_so}
use Rattle.hm_run.proofs.commands.view.Goals as goal

pub returns : goal.returns
returns g c =
    let one : length c.as_slice.result.now ≡ 1 = omega arith in
    view_so _ c.args.loads.items c.as_slice.result.now c.lens-item.result c.in-Some.file c.deref.result.now
    (c.in-Some.ensures.items ∙ ap (λ xs. xs ++ c.in-Some.file ∷ []) (sym c.as_slice.ensures.value)) one c.lens-item.is c.deref.ensures.value
    _ c.view_file.ensures
