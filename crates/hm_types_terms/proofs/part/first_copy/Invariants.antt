use Rattle.std.proofs.Common.{◌≡◌, ◌<◌, ℕ, false, Some, slice_get}
use Rattle.hm_types_terms.specs.declared.part.Part.{Part}
use Rattle.hm_types_terms.proofs.part.first_copy.Given as goal

-- none of the first ones copies
abbrev pub invariant-loop-place : goal.invariant-loop-place
invariant-loop-place l = (j : ℕ) (p : Part) → j < l.place → slice_get l.parts j ≡ Some p → p.copies ≡ false
