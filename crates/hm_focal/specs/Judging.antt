-- What makes a line of a lens file's own bad, as it is judged by what is known of the others.
use Rattle.std.specs.Prelude.{◌≡◌, ◌≢◌, ◌⊎◌, ℕ, ◌≤◌, List, Some, None}
use Rattle.indexmap.specs.IndexMap.{get_by_text}
use Rattle.hm_schema_lines.specs.Firsts.{FirstPlaces}
use Rattle.hm_tree.specs.Names.{Name}
use Rattle.hm_terms.specs.Lenses.{Lens}
use Rattle.hm_terms.specs.WellFormedPrograms.{HasCall}
use Rattle.hm_focal_terms.specs.Limits.{IsLong}
use Rattle.hm_schema_lines.specs.Entries.{EntryValue}
use Rattle.hm_schema_lines.specs.BadLines.{IsNode}
use Rattle.hm_focal.specs.OwnLines.{BodyValue, term, oversized, LensValue, OwnValue, nothing, header, format, lens, main}

-- a lens calls one whose name isn't in a table
abbrev pub CallsOther : FirstPlaces → Lens → Type 0
CallsOther table l = (n : Name) × HasCall l n × (get_by_text table n ≡ None)

abbrev pub IsBadBody : FirstPlaces → BodyValue → Type 0
IsBadBody table (term l) = IsLong l ⊎ CallsOther table l
IsBadBody table oversized = Unit {0}

-- a lens line, behind so many others
pub data IsBadLens (es : List EntryValue) (table : FirstPlaces) (before : ℕ) (d : LensValue) : Type 0 where
  too_many : 200 ≤ before → IsBadLens es table before d
  not_first : get_by_text table d.name ≢ Some before → IsBadLens es table before d
  no_source : ¬ (IsNode es d.source) → IsBadLens es table before d
  no_view : ¬ (IsNode es d.view) → IsBadLens es table before d
  bad_body : IsBadBody table d.body → IsBadLens es table before d

abbrev pub IsBadOwn : List EntryValue → FirstPlaces → ℕ → OwnValue → Type 0
IsBadOwn es table before (lens d) = IsBadLens es table before d
IsBadOwn es table before (main b) = IsBadBody table b
IsBadOwn es table before nothing = ⊥
IsBadOwn es table before header = ⊥
IsBadOwn es table before (format w ps) = ⊥
