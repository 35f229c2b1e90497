-- What the commands that only read come to: the schema of the views of a lens file, and the view of a file.
use Rattle.std.specs.Prelude.{◌≡◌, ℕ, List, Result, Ok}
use Rattle.hm_tree_text.specs.Text.{tree_text}
use Rattle.hm_schema_text.specs.Writing.{schema_text}
use Rattle.hm_run_files.specs.declared.slot.Slot.TheVariants as slot
use Rattle.hm_run_files.specs.declared.stop.Refusal.{Refusal}
use Rattle.hm_run_files.specs.Steps.{Then}
use Rattle.hm_run_effects.specs.Effects.{Effect, says}
use Rattle.hm_run_handed.specs.Handed.{Handed}
use Rattle.hm_run_sides.specs.Sides.{OpensSide, IsSide}
use Rattle.hm_run_sides.specs.SideReplicas.{OpensOn}

-- the schema of the views of a lens file, as a schema file
unfoldable pub ChecksLens : Handed → List ℕ → Result Effect Refusal → Type 0
ChecksLens h lens = Then (OpensSide h slot.LensA lens) (λ side r. r ≡ Ok (says (schema_text side.typed.view)))

-- what the lenses of a lens file show of a file, as the text of a tree
unfoldable pub ViewsFile : Handed → List ℕ → List ℕ → Result Effect Refusal → Type 0
ViewsFile h lens file =
    Then (OpensSide h slot.LensA lens) (λ side r. IsSide h side
    × Then (OpensOn h side slot.A file) (λ replica s. s ≡ Ok (says (tree_text replica.view))) r)
