use Rattle.serde_json.specs.View.{view}
use Rattle.hm_json_marks.proofs.RootNodes.{bar_misfit, other_misfit}
use Rattle.hm_json_marks.proofs.reading.nodes_of_roots.Goals as goal

pub returns-in_err-in_bar-clause-misfit : goal.returns-in_err-in_bar-clause-misfit
returns-in_err-in_bar-clause-misfit c = λ number is.
    let came = rw is at c.from_residual.ensures.1 in
    bar_misfit (view c.args.bar.now) (view c.args.other.now) number (c.in_err-in_bar.ensures.misfit number cc)

pub returns-in_err-in_other-clause-misfit : goal.returns-in_err-in_other-clause-misfit
returns-in_err-in_other-clause-misfit c = λ number is.
    let came = rw is at c.from_residual-in_err-in_other.ensures.1 in
    other_misfit (view c.args.bar.now) (view c.args.other.now) _ number _ c.in_ok-in_bar.ensures.nodes (c.in_err-in_other.ensures.misfit number cc)
