-- What is known of pieces that are rewritten for the lists of a tree, where components are of a template and fit (`IsKind`), and
-- those from before have keys (`AreSound`): every other line stays, and what is new fits (`renewed`); what has to stay of the
-- components does (`pieces_kept`); the new components are those of the slots of the items (`new_components`), have keys again,
-- and show the tree (`new_sound`, `tree_again`); and where they are to show their own tree they stay (`stays`). Lines that can
-- be folded and read become such lines (`lines_again`).
pub use Rattle.hm_lines_files.proofs.OneComponent.{IsKind}
pub use Rattle.hm_lines_files.proofs.Renewed.{Slots, slots_for, new_components, renewed}
pub use Rattle.hm_lines_files.proofs.TreeLaws.{AreSound, lines_of_components, tree_renewed, new_sound, tree_again, stays}
pub use Rattle.hm_lines_files.proofs.KeptPieces.{pieces_kept}
