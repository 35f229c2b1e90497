use Rattle.std.proofs.Common.{◌++◌, sym, ap, ◌∙◌}
use Rattle.hm_tree.specs.States.{Path}
use Rattle.hm_certify.specs.Standing.{trio_of}
use Rattle.hm_certify.proofs.Showing.{loses_behind}
use Rattle.hm_certify.proofs.reasons.is_lost_behind.Goals as goal

pub returns-in-Some : goal.returns-in-Some
returns-in-Some c =
    loses_behind (trio_of c.args.here) c.args.path.now c.args.kept.now c.in-Some.rest.now _
    (sym (c.deref.ensures.value ∙ c.kept.view_is) ∙ c.in-Some.ensures
    ∙ ap (λ (p : Path). p ++ c.in-Some.rest.now) (c.deref-2.ensures.value ∙ c.path.view_is))
    c.is_lost_first.ensures
