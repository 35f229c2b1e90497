-- The side of a lens file: what it is opened as, or what it is refused for.
use Rattle.std.specs.Prelude.{◌≡◌, ℕ, List, slice_get, Some, Result, Ok, Err}
use Rattle.hm_tree.specs.Names.{Name}
use Rattle.hm_schema.specs.Values.{SchemaValue, OptionsValue}
use Rattle.hm_schema.specs.Membership.{HasNoTwins}
use Rattle.hm_schema.specs.Sameness.{AreSame}
use Rattle.hm_terms.specs.Programs.{ProgramValue}
use Rattle.hm_focal.specs.LensFiles.{ReadsLens}
use Rattle.hm_terms.specs.declared.typed.Typed.{Typed}
use Rattle.hm_types.specs.Checks.{Checks}
use Rattle.hm_format.specs.Formats.{FormatMeaning, IsLawful}
use Rattle.hm_replica.specs.Replicas.{TypedValue, typed_value, IsFitting}
use Rattle.hm_run_files.specs.declared.slot.Slot.{Slot}
use Rattle.hm_run_files.specs.declared.stop.FileFault.TheVariants.{BadOption, WrongView}
use Rattle.hm_run_files.specs.declared.stop.Refusal.{Refusal}
use Rattle.hm_run_files.specs.declared.stop.Refusal.TheVariants.{At}
use Rattle.hm_run_files.specs.Steps.{Then, Told}
use Rattle.hm_run_sides.specs.declared.side.Side.{Side}
use Rattle.hm_run_sides.specs.Formats.{HasFormat, FindsFormat}
use Rattle.hm_run_handed.specs.Handed.{Handed}
use Rattle.hm_run_sides.specs.Stops.{lens_stop, type_stop}

-- the place of a format, and a typed program
pub record SideValue : Type 0 where
  pub place : ℕ
  pub typed : TypedValue

abbrev pub side_value : Side → SideValue
side_value s = record { place = s.place; typed = typed_value s.typed }

-- what was found, seen by its value
abbrev pub seen : {A B E : Type 0} → (A → B) → Result A E → Result B E
seen f (Ok x) = Ok (f x)
seen f (Err e) = Err e

abbrev pub view_of : Typed → SchemaValue
view_of t = t.view

-- ---- opening a lens file

abbrev pub source_found : Slot → Result SchemaValue Name → Result SchemaValue Refusal
source_found at (Ok schema) = Ok schema
source_found at (Err key) = Err (At at (BadOption key))

-- the schema that the format at a place gives under options, or the bad key
abbrev pub GivesSource : {B : Type 0} → (B → FormatMeaning) → List B → Slot → ℕ → OptionsValue → Result SchemaValue Refusal → Type 0
GivesSource means_of formats at place o found = HasFormat means_of formats place (λ m. found ≡ source_found at (m.schema_of o))

-- the rest, behind a program and a format: the options are those of the format, and the program is typed over the schema that
-- the format gives then
unfoldable pub TypesSide : Handed → Slot → ProgramValue → ℕ → Result SideValue Refusal → Type 0
TypesSide h at p place =
    Then (GivesSource h.means_of h.formats at place p.options) (λ source.
    Then (Told (type_stop at) (Checks h.texts p source)) (λ view r.
    r ≡ Ok (record { place = place; typed = record { program = p; source = source; view = view } })))

-- the file is read, its word names a format, and the rest is so; else the first of these that isn't so is told
unfoldable pub OpensSide : Handed → Slot → List ℕ → Result SideValue Refusal → Type 0
OpensSide h at bytes =
    Then (Told (lens_stop at) (ReadsLens bytes)) (λ p.
    Then (FindsFormat h.means_of h.formats at p.format) (TypesSide h at p))

-- replicas may be opened and closed on a side: its format is lawful, its program is typed, and its view has no twins
pub record IsSide (h : Handed) (s : SideValue) : Type 0 where
  pub format : h.box
  pub is : slice_get h.formats s.place ≡ Some format
  pub lawful : IsLawful (h.means_of format)
  pub typed : IsFitting (h.means_of format) h.texts s.typed
  pub no_twins : HasNoTwins s.typed.view

-- ---- the schema of views

-- it is the same as the one that it is to meet
abbrev pub ChecksView : Slot → SchemaValue → SchemaValue → Result (Unit {0}) Refusal → Type 0
ChecksView at schema view (Ok x) = AreSame schema view
ChecksView at schema view (Err refusal) = ¬ (AreSame schema view) × (refusal ≡ At at WrongView)
