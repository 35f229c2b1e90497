-- Formats that are handed in, and the words that lens files name them with.
use Rattle.std.specs.Prelude.{◌≡◌, ℕ, ◌==◌, if◌then◌else◌, List, codes, slice_get, option_and_then, Option, Some, None, Result, Ok, Err}
use Rattle.std.specs.List.{position_from}
use Rattle.std.specs.Str.{bytes_eq}
use Rattle.hm_tree.specs.Names.{Name}
use Rattle.hm_format.specs.Formats.{FormatMeaning}
use Rattle.hm_run_files.specs.declared.slot.Slot.{Slot}
use Rattle.hm_run_files.specs.declared.stop.FileFault.TheVariants.{UnknownFormat}
use Rattle.hm_run_files.specs.declared.stop.Refusal.{Refusal}
use Rattle.hm_run_files.specs.declared.stop.Refusal.TheVariants.{At}

-- a box stands at a place among others, and P holds of what it means
pub record HasFormat {B : Type 0} (means_of : B → FormatMeaning) (boxes : List B) (place : ℕ) (P : FormatMeaning → Type 0) : Type 0 where
  pub box : B
  pub is : slice_get boxes place ≡ Some box
  pub holds : P (means_of box)

-- the tag of the format that a word names
abbrev pub tag_named : Name → Option ℕ
tag_named word =
    if bytes_eq word (codes "chrome") then Some 1
    else if bytes_eq word (codes "netscape") then Some 2
    else if bytes_eq word (codes "vcard") then Some 3
    else if bytes_eq word (codes "icalendar") then Some 4
    else if bytes_eq word (codes "csv") then Some 5
    else if bytes_eq word (codes "tree") then Some 6
    else None

-- the place of the first format of a tag
abbrev pub first_of : {B : Type 0} → (B → FormatMeaning) → List B → ℕ → Option ℕ
first_of means_of boxes tag = position_from (λ b. (means_of b).tag == tag) 0 boxes

-- and that of the first which a word names
abbrev pub first_named : {B : Type 0} → (B → FormatMeaning) → List B → Name → Option ℕ
first_named means_of boxes word = option_and_then (first_of means_of boxes) (tag_named word)

abbrev pub format_found : Slot → Name → Option ℕ → Result ℕ Refusal
format_found at word (Some place) = Ok place
format_found at word None = Err (At at (UnknownFormat word))

-- a word names a format, or it is refused
abbrev pub FindsFormat : {B : Type 0} → (B → FormatMeaning) → List B → Slot → Name → Result ℕ Refusal → Type 0
FindsFormat means_of boxes at word found = found ≡ format_found at word (first_named means_of boxes word)
