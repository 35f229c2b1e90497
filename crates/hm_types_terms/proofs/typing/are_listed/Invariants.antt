use Rattle.std.proofs.Common.{◌≡◌, take, slice_get, Some}
use Rattle.hm_schema.specs.Values.{NodeValue}
use Rattle.hm_terms.specs.Programs.{lenses_of}
use Rattle.hm_types_forms.specs.Forms.{label_of}
use Rattle.hm_types_rules.specs.Typing.{AreListed}
use Rattle.hm_types_terms.proofs.typing.are_listed.Given as goal

-- the first rows are listed
abbrev pub invariant-loop-row : goal.invariant-loop-row
invariant-loop-row l = (n : NodeValue) → slice_get l.table l.at.place ≡ Some n → AreListed (label_of n) (lenses_of (take l.row-index l.rows))
