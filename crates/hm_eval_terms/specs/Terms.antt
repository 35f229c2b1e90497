-- Terms that a program is run with.
use Rattle.std.specs.Prelude.{◌≡◌, T, Option, Some, None, List, map}
use Rattle.std.specs.Borrow.{Bor}
use Rattle.std.specs.FinMap.{find, is_sorted}
use Rattle.hm_tree.specs.Names.{Name, name_cmp}
use Rattle.hm_text_lens.specs.Meanings.{TextMeaning}
use Rattle.hm_terms.specs.declared.term.Term.{Term}
use Rattle.hm_terms.specs.declared.term.Definition.{Definition}
use Rattle.hm_terms.specs.Lenses.{Lens, Setting, body_of}
use Rattle.hm_terms.specs.Programs.{lens_of, definition_value}

abbrev pub option_lens : Option (Bor Term) → Option Lens
option_lens None = None
option_lens (Some t) = Some (lens_of t.now)

-- names with the bodies of their definitions, in the order of names
pub record IsIndex (ds : List Definition) (bodies : List (Name × Bor Term)) : Type 0 where
  pub sorted : T (is_sorted name_cmp bodies)
  pub all : (n : Name) → option_lens (find name_cmp n bodies) ≡ body_of (map definition_value ds) n

-- what lenses are read in, with text lenses that mean these and by the definitions of a program
abbrev pub setting_in : List TextMeaning → List Definition → Setting
setting_in texts ds = record { texts = texts; definitions = map definition_value ds }
