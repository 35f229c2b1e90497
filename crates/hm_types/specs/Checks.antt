-- What the check of a program answers: it is typed, or the first condition isn't met.
use Rattle.std.specs.Prelude.{◌≡◌, ◌<◌, ◌+◌, ℕ, List, length, Some, slice_get, All, Result, Ok, Err}
use Rattle.hm_tree.specs.Names.{Name}
use Rattle.hm_schema.specs.Values.{SchemaValue}
use Rattle.hm_schema.specs.Membership.{IsMemberTree}
use Rattle.hm_text_lens.specs.Meanings.{TextMeaning, IsLawful}
use Rattle.hm_terms.specs.Lenses.{Lens, DefinitionValue}
use Rattle.hm_terms.specs.Fitting.{Fits}
use Rattle.hm_terms.specs.Programs.{ProgramValue, program_value, setting_of}
use Rattle.hm_types_forms.specs.Forms.{Form, form}
use Rattle.hm_types_forms.specs.SameForms.{IsSame, HasNoTwins}
use Rattle.hm_types_rules.specs.Typing.{Classes, Goes}
use Rattle.hm_types_rules.specs.Faults.{At, at, Faults}
use Rattle.hm_types_rules.specs.Programs.{classes_in, types_of, IsTypedDefinition, IsTyped}
use Rattle.hm_types_rules.specs.TextNames.{program_text_names, AreKnown, IsFirstUnknown}
use Rattle.hm_types_rules.specs.Numbering.{IsNumbered}
use Rattle.hm_terms_cycles.specs.BadCycles.{HasNoBadCycle, IsFirstInBadCycle}
use Rattle.hm_types_terms.specs.declared.fault.TypeFault.{TypeFault}
use Rattle.hm_types_terms.specs.declared.fault.TypeFault.TheVariants.{Mistyped, UnknownLens, Unguarded, TwinLeft, Memory}
use Rattle.hm_terms.specs.declared.typed.Typed.{Typed}
use Rattle.hm_types_terms.specs.Parts.{IsFirstCopy}

-- ---- programs that are accepted

-- by the classes of text lenses it is typed, its view is written by numbers, and its main lens fits, whatever lawful text lenses
-- of these classes it is run with: on the trees of the source and of the view it is total and lawful
pub record IsAcceptedBy (texts : Classes) (p : ProgramValue) (s : SchemaValue) (t : Typed) : Type 0 where
  pub program : program_value t.program ≡ p
  pub source : t.source ≡ s
  pub shown : Form
  pub typed : IsTyped texts p (form s.nodes s.root) shown
  pub numbered : IsNumbered shown t.view
  pub fits : (ms : List TextMeaning) → texts ≡ classes_in ms → All IsLawful ms → Fits (setting_of ms p) p.main (IsMemberTree s) (IsMemberTree t.view)

-- the same with some text lenses
pub record IsAccepted (texts : List TextMeaning) (p : ProgramValue) (s : SchemaValue) (t : Typed) : Type 0 where
  pub program : program_value t.program ≡ p
  pub source : t.source ≡ s
  pub shown : Form
  pub typed : IsTyped (classes_in texts) p (form s.nodes s.root) shown
  pub numbered : IsNumbered shown t.view
  pub fits : Fits (setting_of texts p) p.main (IsMemberTree s) (IsMemberTree t.view)

-- ---- programs that are refused

-- this definition is the first one in a bad cycle
pub record IsUnguarded (p : ProgramValue) (name : Name) : Type 0 where
  pub place : ℕ
  pub first : IsFirstInBadCycle p place
  pub is : first.name ≡ name

-- so many definitions are typed
pub record AreTyped (texts : Classes) (p : ProgramValue) (i : ℕ) : Type 0 where
  pub each : (j : ℕ) (n : Name) (d : DefinitionValue) → j < i → slice_get p.definitions j ≡ Some (n, d) → IsTypedDefinition texts p d

-- the body has no view at its source, or another one than is declared
pub data IsMistypedDefinition (texts : Classes) (p : ProgramValue) (d : DefinitionValue) : At → Type 0 where
  no_view : {a : At} → Faults (types_of texts p) d.body 1 (form p.options.types d.source) a → IsMistypedDefinition texts p d a
  other_view : {v : Form} → Goes (types_of texts p) d.body (form p.options.types d.source) v → ¬ (IsSame v (form p.options.types d.view))
      → IsMistypedDefinition texts p d (at 1 15)

-- the first definition that isn't typed, or the main lens
pub data IsMistyped (texts : Classes) (p : ProgramValue) (s : SchemaValue) : ℕ → At → Type 0 where
  in_definition : {i : ℕ} {n : Name} {d : DefinitionValue} {a : At} → AreTyped texts p i → slice_get p.definitions i ≡ Some (n, d)
      → IsMistypedDefinition texts p d a → IsMistyped texts p s (i + 1) a
  in_main : {a : At} → AreTyped texts p (length p.definitions) → Faults (types_of texts p) p.main 1 (form s.nodes s.root) a
      → IsMistyped texts p s (length p.definitions + 1) a

-- everything goes, and the view of the main lens has twins
pub record HasTwinsLeft (texts : Classes) (p : ProgramValue) (s : SchemaValue) : Type 0 where
  pub definitions : AreTyped texts p (length p.definitions)
  pub shown : Form
  pub main : Goes (types_of texts p) p.main (form s.nodes s.root) shown
  pub twins : ¬ (HasNoTwins shown)

-- want of memory, or this fault alone
abbrev pub IsTextTold : Classes → ProgramValue → TypeFault → Type 0
IsTextTold texts p (UnknownLens name) = IsFirstUnknown texts (program_text_names p) name
IsTextTold texts p (Unguarded name) = ⊥
IsTextTold texts p (Mistyped definition term rule) = ⊥
IsTextTold texts p (TwinLeft definition term) = ⊥
IsTextTold texts p Memory = Unit {0}

abbrev pub IsCycleTold : ProgramValue → TypeFault → Type 0
IsCycleTold p (Unguarded name) = IsUnguarded p name
IsCycleTold p (UnknownLens name) = ⊥
IsCycleTold p (Mistyped definition term rule) = ⊥
IsCycleTold p (TwinLeft definition term) = ⊥
IsCycleTold p Memory = Unit {0}

abbrev pub AreTwinsTold : Lens → ℕ → TypeFault → Type 0
AreTwinsTold l number (TwinLeft definition term) = (definition ≡ number) × IsFirstCopy l term
AreTwinsTold l number (UnknownLens name) = ⊥
AreTwinsTold l number (Unguarded name) = ⊥
AreTwinsTold l number (Mistyped definition term rule) = ⊥
AreTwinsTold l number Memory = ⊥

-- there is each text lens, and no definition is in a bad cycle
pub record IsGuarded (texts : Classes) (p : ProgramValue) : Type 0 where
  pub known : AreKnown texts (program_text_names p)
  pub guarded : HasNoBadCycle p

-- unknown text lenses are told first, then bad cycles, then what is mistyped, and then twins
abbrev pub IsFault : Classes → ProgramValue → SchemaValue → TypeFault → Type 0
IsFault texts p s (UnknownLens name) = IsFirstUnknown texts (program_text_names p) name
IsFault texts p s (Unguarded name) = AreKnown texts (program_text_names p) × IsUnguarded p name
IsFault texts p s (Mistyped definition term rule) = IsGuarded texts p × IsMistyped texts p s definition (at term rule)
IsFault texts p s (TwinLeft definition term) =
    IsGuarded texts p × (HasTwinsLeft texts p s × ((definition ≡ length p.definitions + 1) × IsFirstCopy p.main term))
IsFault texts p s Memory = Unit {0}

-- ---- what the check comes to

-- with some text lenses and a source: the view of the main lens, or what is wrong with the program, but no want of memory
abbrev pub Checks : List TextMeaning → ProgramValue → SchemaValue → Result SchemaValue TypeFault → Type 0
Checks texts p s (Ok view) = (shown : Form) × IsTyped (classes_in texts) p (form s.nodes s.root) shown × IsNumbered shown view
Checks texts p s (Err Memory) = ⊥
Checks texts p s (Err fault) = IsFault (classes_in texts) p s fault
