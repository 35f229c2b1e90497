use Rattle.std.proofs.Common.{map, drop}
use Rattle.hm_terms.specs.Programs.{lens_of}
use Rattle.hm_eval_terms.specs.Terms.{setting_in}
use Rattle.hm_eval_terms.specs.Stages.{lenses}
use Rattle.hm_eval_terms.proofs.StageSteps.{ArePassed}
use Rattle.hm_eval_terms.proofs.stages.stages_before.Given as goal

abbrev pub invariant-loop-stage : goal.invariant-loop-stage
invariant-loop-stage g l =
    ArePassed (setting_in (map (λ b. (goal.TextLens-dyn g (b.vtable, b.value)).meaning b.value) l.run.texts.now) l.run.definitions.now) (lens_of l.term) l.fn.before (lenses (drop l.stage-index l.stage-items)) (lens_of l.last) l.here l.passed.items
