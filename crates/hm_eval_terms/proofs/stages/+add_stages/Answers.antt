use Rattle.std.proofs.Common.{[], ◌∷◌, ap}
use Rattle.hm_terms.specs.Programs.{lens_of}
use Rattle.hm_eval_terms.specs.Stages.{one_stage}
use Rattle.hm_eval_terms.proofs.StageSteps.{seq_added}
use Rattle.hm_eval_terms.proofs.stages.+add_stages.Goals as goal

pub returns-in_ok-add_stages-in-Seq-2 : goal.returns-in_ok-add_stages-in-Seq-2
returns-in_ok-add_stages-in-Seq-2 t c =
    seq_added _ _ _ _ _ _ _ _ (ap lens_of c.in-Seq.is) (ap lens_of c.deref.ensures) (ap lens_of c.deref-in-Seq.ensures) c.in_ok-add_stages-in-Seq.ensures
    c.in_ok-add_stages-in-Seq-2.ensures

pub returns-in_ok-push-in_default : goal.returns-in_ok-push-in_default
returns-in_ok-push-in_default t c = record { added = c.args.term ∷ []; is = c.in_ok-push-in_default.ensures.items; stages = one_stage }
