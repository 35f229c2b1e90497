-- A lens file, and a file through one, come to one thing alone, and that is a text.
use Rattle.std.proofs.Common.{◌≡◌, ℕ, List, Ok}
use Rattle.hm_run_handed.specs.Handed.{Handed}
use Rattle.hm_run_files.specs.declared.slot.Slot.TheVariants as slot
use Rattle.hm_run_files.specs.Steps.{FindsOne}
use Rattle.hm_run_files.proofs.Steps.{ok_is, then_ok, then_once, equals_once}
use Rattle.hm_run_effects.specs.Effects.{Effect, says}
use Rattle.hm_run_sides.proofs.Laws.{side_once, opens_once}
use Rattle.hm_run_views.specs.Viewing.{ChecksLens, ViewsFile}

module _ (hand : Handed) where
  pub check_once : (lens : List ℕ) → FindsOne (ChecksLens hand lens)
  unfolding ChecksLens
  check_once lens = then_once _ _ (side_once hand slot.LensA lens) (λ side. equals_once _)

  pub view_once : (lens file : List ℕ) → FindsOne (ViewsFile hand lens file)
  unfolding ViewsFile
  view_once lens file =
      then_once _ _ (side_once hand slot.LensA lens) (λ side r s h k.
      then_once _ _ (opens_once hand side h.0 slot.A file) (λ replica. equals_once _) r s h.1 k.1)

  -- what they come to is a text
  pub check_says : (lens : List ℕ) (effect : Effect) → ChecksLens hand lens (Ok effect) → (text : List ℕ) × (effect ≡ says text)
  unfolding ChecksLens
  check_says lens effect k = (_, ok_is _ _ (then_ok k).2)

  pub view_says : (lens file : List ℕ) (effect : Effect) → ViewsFile hand lens file (Ok effect) → (text : List ℕ) × (effect ≡ says text)
  unfolding ViewsFile
  view_says lens file effect k = (_, ok_is _ _ (then_ok (then_ok k).2.1).2)
