-- When a program is typed over a source.
use Rattle.std.specs.Prelude.{◌≡◌, List, Option, Some}
use Rattle.std.specs.Option.{option_map}
use Rattle.std.specs.FinMap.{find}
use Rattle.hm_tree.specs.Names.{Name, name_cmp}
use Rattle.hm_text_lens.specs.Meanings.{TextMeaning}
use Rattle.hm_text_lens.specs.Naming.{first_named}
use Rattle.hm_terms.specs.Lenses.{DefinitionValue}
use Rattle.hm_terms.specs.Calls.{IsInBadCycle}
use Rattle.hm_terms.specs.Programs.{ProgramValue}
use Rattle.hm_types_forms.specs.Forms.{Form, form}
use Rattle.hm_types_forms.specs.SameForms.{IsSame, HasNoTwins}
use Rattle.hm_types_rules.specs.TextNames.{program_text_names, AreKnown}
use Rattle.hm_types_rules.specs.Typing.{Classes, Types, Goes}

-- the source and the view that a program declares for a definition
abbrev pub declared_in : ProgramValue → Name → Option (Form × Form)
declared_in p n = option_map (λ (d : DefinitionValue). (form p.options.types d.source, form p.options.types d.view)) (find name_cmp n p.definitions)

-- the classes between which the first text lens of a name goes
abbrev pub classes_in : List TextMeaning → Classes
classes_in texts x = option_map (λ (m : TextMeaning). (m.from_class, m.into_class)) (first_named x texts)

abbrev pub types_of : Classes → ProgramValue → Types
types_of texts p = record { texts = texts; declared = declared_in p }

-- a definition goes from its declared source to a view that is the same as its declared one
pub record IsTypedDefinition (texts : Classes) (p : ProgramValue) (d : DefinitionValue) : Type 0 where
  pub view : Form
  pub goes : Goes (types_of texts p) d.body (form p.options.types d.source) view
  pub same : IsSame view (form p.options.types d.view)

-- there is each text lens that is named, no definition is in a bad cycle, each is typed, and the main lens goes from the
-- source to a view without twins
pub record IsTyped (texts : Classes) (p : ProgramValue) (source view : Form) : Type 0 where
  pub known : AreKnown texts (program_text_names p)
  pub guarded : (n : Name) → ¬ (IsInBadCycle p.definitions n)
  pub definitions : (n : Name) (d : DefinitionValue) → find name_cmp n p.definitions ≡ Some d → IsTypedDefinition texts p d
  pub main : Goes (types_of texts p) p.main source view
  pub plain : HasNoTwins view
