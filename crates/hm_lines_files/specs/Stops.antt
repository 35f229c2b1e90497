-- Where lines stop to be those of a file. Empty lines are left out here.
use Rattle.std.specs.Prelude.{◌≡◌, ◌⊎◌, ℕ, ◌+◌, ◌<◌, ◌≤◌, true, List, ◌∷◌, ◌++◌, length, take}
use Rattle.hm_schema.specs.Values.{OptionsValue}
use Rattle.hm_lines_files.specs.Components.{Bytes, Layout, all_lines}
use Rattle.hm_lines_files.specs.Forms.{Form, is_full}
use Rattle.hm_lines_files.specs.Files.{full}
use Rattle.hm_lines_files.specs.declared.layout_fault.LayoutFault.{LayoutFault}
use Rattle.hm_lines_files.specs.declared.layout_fault.LayoutFault.TheVariants as stop

-- the lines of a file begin with these
pub record Opens (f : Form) (o : OptionsValue) (lines : List Bytes) : Type 0 where
  pub more : List Bytes
  pub layout : Layout
  pub has : f.has o layout
  pub are : lines ++ more ≡ all_lines layout

-- those of a file begin with the lines before a place, and not with the line at it too; they aren't those of a file
pub record StopsAtLine (f : Form) (o : OptionsValue) (lines : List Bytes) (place : ℕ) : Type 0 where
  pub within : place ≤ length lines
  pub opens : Opens f o (take place lines)
  pub next : place < length lines → ¬ (Opens f o (take (place + 1) lines))
  pub none : (l : Layout) → f.has o l → ¬ (lines ≡ all_lines l)

abbrev pub IsStop : Form → OptionsValue → List Bytes → LayoutFault → Type 0
IsStop f o lines (stop.At place) = StopsAtLine f o lines place
IsStop f o lines stop.Memory = Unit {0}

-- lines of a file with a layout
abbrev pub AreOf : Form → OptionsValue → List Bytes → Layout → Type 0
AreOf f o lines l = f.has o l × (lines ≡ all_lines l)

-- ---- numbers of lines

-- among lines of which some are empty, the number from 1 of the one that stands at a place among the others
pub record IsNumbered (lines : List Bytes) (place number : ℕ) : Type 0 where
  pub before : List Bytes
  pub line : Bytes
  pub after : List Bytes
  pub stand : lines ≡ before ++ line ∷ after
  pub filled : is_full line ≡ true
  pub counted : place ≡ length (full before)
  pub number_is : number ≡ length before + 1

-- or one more than there are, where there are no more than that
pub record IsPast (lines : List Bytes) (place number : ℕ) : Type 0 where
  pub few : length (full lines) ≤ place
  pub number_is : number ≡ length lines + 1

abbrev pub IsNumberOf : List Bytes → ℕ → ℕ → Type 0
IsNumberOf lines place number = IsNumbered lines place number ⊎ IsPast lines place number
