-- Which lines of a lens file are bad, and which is told.
use Rattle.std.specs.Prelude.{◌≡◌, ◌⊎◌, ℕ, ◌≤◌, List, length, take, slice_get, count_by, Some}
use Rattle.std.specs.List.{Contains}
use Rattle.hm_tree.specs.Names.{Name}
use Rattle.hm_terms.specs.Lenses.{Lens}
use Rattle.hm_terms.specs.WellFormedPrograms.{HasCall}
use Rattle.hm_focal_terms.specs.Limits.{IsLong}
use Rattle.hm_schema_lines.specs.Entries.{EntryValue, unknown, texts_of}
use Rattle.hm_schema_lines.specs.BadLines.{IsNode, IsBadNodeLine}
use Rattle.hm_schema_lines.specs.FirstBad.{IsTold}
use Rattle.hm_focal.specs.OwnLines.{BodyValue, term, oversized, LensValue, OwnValue, nothing, lens, is_format, is_lens, is_main, body_in, lens_names}
use Rattle.hm_focal.specs.Lines.{AreLines}

-- a line has a body
abbrev pub HasBody : List OwnValue → ℕ → BodyValue → Type 0
HasBody os i b = (o : OwnValue) × (slice_get os i ≡ Some o) × (body_in o ≡ Some b)

abbrev pub DeclaresLens : List OwnValue → Name → Type 0
DeclaresLens os n = Contains (lens_names os) n

pub data IsBadLine (es : List EntryValue) (os : List OwnValue) (i : ℕ) : Type 0 where
  -- it is no line of the table, or out of its place: such is a first line that isn't the header, and a second one that isn't the format line
  unreadable : slice_get es i ≡ Some unknown → slice_get os i ≡ Some nothing → IsBadLine es os i
  of_node : IsBadNodeLine es i → IsBadLine es os i
  -- it declares a lens a second time
  declared_twice : {d : LensValue} → slice_get os i ≡ Some (lens d) → DeclaresLens (take i os) d.name → IsBadLine es os i
  -- it names a node that is neither declared nor `Empty`, or calls a lens that isn't declared
  names_no_source : {d : LensValue} → slice_get os i ≡ Some (lens d) → ¬ (IsNode es d.source) → IsBadLine es os i
  names_no_view : {d : LensValue} → slice_get os i ≡ Some (lens d) → ¬ (IsNode es d.view) → IsBadLine es os i
  calls_no_lens : {l : Lens} {n : Name} → HasBody os i (term l) → HasCall l n → ¬ (DeclaresLens os n) → IsBadLine es os i
  -- limits
  too_many_lenses : {d : LensValue} → slice_get os i ≡ Some (lens d) → 200 ≤ count_by is_lens (take i os) → IsBadLine es os i
  too_large : HasBody os i oversized → IsBadLine es os i
  too_long : {l : Lens} → HasBody os i (term l) → IsLong l → IsBadLine es os i

-- the format line or the main line is missing; so it is where the header is, since a line that stands first in its place is bad
abbrev pub Lacks : List OwnValue → Type 0
Lacks os = (count_by is_format os ≡ 0) ⊎ (count_by is_main os ≡ 0)

-- the first bad line of a file, counted from 1; where there is none but a line is missing, one more than there are lines
pub record IsFirstBadLine (bytes : List ℕ) (line : ℕ) : Type 0 where
  pub entries : List EntryValue
  pub own : List OwnValue
  pub read : AreLines (texts_of bytes) entries own
  pub told : IsTold (IsBadLine entries own) (Lacks own) (length entries) line
