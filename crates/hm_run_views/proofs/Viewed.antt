-- What is viewed on a side that is known to be one.
use Rattle.std.proofs.Common.{◌≡◌, ℕ, List, Ok, Result}
use Rattle.hm_tree_text.specs.Text.{tree_text}
use Rattle.hm_run_handed.specs.Handed.{Handed}
use Rattle.hm_run_files.specs.declared.slot.Slot.TheVariants as slot
use Rattle.hm_run_files.specs.declared.stop.Refusal.{Refusal}
use Rattle.hm_run_files.specs.declared.stop.Stop.{Stop}
use Rattle.hm_run_files.specs.Steps.{Computes, Then}
use Rattle.hm_run_files.proofs.Steps.{computes_as}
use Rattle.hm_run_sides.specs.Sides.{SideValue, IsSide}
use Rattle.hm_run_sides.specs.SideReplicas.{OpensOn}
use Rattle.hm_run_effects.specs.Effects.{Effect, says}

module _ (hand : Handed) (side : SideValue) (file : List ℕ) where
  abbrev pub ViewsOn : Result Effect Refusal → Type 0
  ViewsOn = Then (OpensOn hand side slot.A file) (λ replica s. s ≡ Ok (says (tree_text replica.view)))

  pub viewed : IsSide hand side → (r : Result Effect Stop) → Computes ViewsOn r → Computes (λ r. IsSide hand side × ViewsOn r) r
  viewed is r h = computes_as ViewsOn (λ r. IsSide hand side × ViewsOn r) (λ r h. (is, h)) r h
