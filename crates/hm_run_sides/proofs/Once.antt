-- A lens file is opened as one side at the most, or refused for one fault.
use Rattle.std.proofs.Common.{ℕ, List, refl, sym, ap, ◌∙◌}
use Rattle.std.proofs.lemmas.Option.{same_Some}
use Rattle.hm_schema.specs.Values.{SchemaValue, OptionsValue}
use Rattle.hm_terms.specs.Programs.{ProgramValue}
use Rattle.hm_terms.specs.WellFormedPrograms.{IsWellFormed}
use Rattle.hm_focal.specs.LensFiles.{ReadsLens}
use Rattle.hm_focal.proofs.Laws.{lens_reads_once, file_formed}
use Rattle.hm_types.specs.Checks.{Checks}
use Rattle.hm_types.proofs.Once.{check_once}
use Rattle.hm_run_files.specs.declared.slot.Slot.{Slot}
use Rattle.hm_run_files.specs.Steps.{FindsOne}
use Rattle.hm_run_files.proofs.Steps.{sides_once, equals_once, told_once, then_once, then_once_of}
use Rattle.hm_run_sides.specs.Stops.{lens_stop, type_stop}
use Rattle.hm_run_handed.specs.Handed.{Handed}
use Rattle.hm_run_sides.specs.Sides.{source_found, GivesSource, TypesSide, OpensSide, ChecksView}

module _ (hand : Handed) (at : Slot) where
  source_once : (place : ℕ) (o : OptionsValue) → FindsOne (GivesSource hand.means_of hand.formats at place o)
  source_once place o r s h k =
      h.holds ∙ ap (λ (b : hand.box). source_found at ((hand.means_of b).schema_of o)) (same_Some h.box k.box (sym h.is ∙ k.is)) ∙ sym k.holds

  types_once : (p : ProgramValue) → IsWellFormed p → (place : ℕ) → FindsOne (TypesSide hand at p place)
  unfolding TypesSide
  types_once p well place =
      then_once _ _ (source_once place p.options) (λ source.
      then_once _ _ (told_once (type_stop at) (Checks hand.texts p source) (check_once hand.texts p source well)) (λ view. equals_once _))

  pub side_once : (bytes : List ℕ) → FindsOne (OpensSide hand at bytes)
  unfolding OpensSide
  side_once bytes =
      then_once_of _ _ (told_once (lens_stop at) (ReadsLens bytes) (lens_reads_once bytes)) (λ p reads.
      then_once _ _ (equals_once _) (types_once p (file_formed bytes p reads)))

pub view_once : (at : Slot) (schema view : SchemaValue) → FindsOne (ChecksView at schema view)
view_once at schema view = sides_once (ChecksView at schema view) (λ x y h k. refl) (λ x f h k. k.0 h) (λ f g h k. h.1 ∙ sym k.1)
