-- The shapes of values, and of what is below them.
use Rattle.std.specs.Prelude.{ℕ, Some}
use Rattle.hm_schema.specs.declared.node.Shape.{Shape}
use Rattle.hm_schema_lists.specs.ListNodes.{no_names}

-- no names, and just so many that aren't listed
abbrev pub bare_shape : ℕ → Shape
bare_shape count = record { required = no_names; optional = no_names; least = count; most = Some count }
