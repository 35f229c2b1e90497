-- The types of text lenses, and the names that have none.
use Rattle.std.specs.Prelude.{List, Option, not, is_some, find}
use Rattle.hm_tree.specs.Names.{Name}
use Rattle.hm_text_lens.specs.Meanings.{TextMeaning}
use Rattle.hm_types_rules.specs.Typing.{Classes}
use Rattle.hm_types_terms.specs.declared.texts.TextType.{TextType}

abbrev pub text_type : TextMeaning → TextType
text_type m = record { name = m.name; from = m.from_class; into = m.into_class }

-- the first of some names of which there is no text lens
abbrev pub first_unknown : Classes → List Name → Option Name
first_unknown texts names = find (λ x. not (is_some (texts x))) names
