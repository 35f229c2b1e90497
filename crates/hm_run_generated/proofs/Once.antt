-- A run of made-up files comes to one thing alone.
use Rattle.std.proofs.Common.{◌≡◌, ℕ, List, Ok}
use Rattle.hm_run_files.specs.Steps.{FindsOne}
use Rattle.hm_run_files.proofs.Steps.{ok_is, then_ok, then_once, equals_once}
use Rattle.hm_run_effects.specs.Effects.{Effect, says}
use Rattle.hm_run_handed.specs.Handed.{Handed}
use Rattle.hm_run_sync.proofs.Once.{plan_once, told_once_of}
use Rattle.hm_run_generated.specs.Stored.{store_names, new_names}
use Rattle.hm_run_generated.specs.Generating.{Generates}

pub generates_once : (h : Handed) (number : ℕ) → FindsOne (Generates h number)
unfolding Generates
generates_once h number =
    then_once _ _ (equals_once _) (λ all. then_once _ _ (plan_once h (new_names store_names) all) (λ plan. told_once_of plan.before plan.after _))

-- and that is a text
pub generates_says : (h : Handed) (number : ℕ) (effect : Effect) → Generates h number (Ok effect) → (text : List ℕ) × (effect ≡ says text)
unfolding Generates
generates_says h number effect g = (_, ok_is _ _ (then_ok (then_ok g).2).2.2)
