-- The nodes that the definitions of a program are declared with, in a table in which the types of the program stand behind so
-- many other nodes.
use Rattle.std.specs.Prelude.{◌≡◌, ℕ, T, List}
use Rattle.std.specs.Option.{option_map}
use Rattle.std.specs.FinMap.{find, is_sorted}
use Rattle.hm_tree.specs.Names.{Name, name_cmp}
use Rattle.hm_terms.specs.Lenses.{DefinitionValue}
use Rattle.hm_types_table.specs.Tables.{shift}
use Rattle.hm_types_terms.specs.Courses.{Declared}

pub record DeclaresAll (definitions : List (Name × DefinitionValue)) (by : ℕ) (ds : Declared) : Type 0 where
  pub sorted : T (is_sorted name_cmp ds)
  pub all : (n : Name) → find name_cmp n ds ≡ option_map (λ (d : DefinitionValue). (shift by d.source, shift by d.view)) (find name_cmp n definitions)
