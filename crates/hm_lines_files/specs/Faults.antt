-- Which fault of a file is told.
use Rattle.std.specs.Prelude.{◌≡◌, ℕ, List, IsUtf8}
use Rattle.std.specs.Str.Lossy.{utf8_valid_len}
use Rattle.hm_lines_files.specs.Components.{Bytes, Component}
use Rattle.hm_lines_files.specs.Reading.{IsFirstKeyless, AreTooDeep}
use Rattle.hm_book_cards.specs.Cards.{Shown}
use Rattle.hm_tree.specs.Names.{Name}
use Rattle.hm_format.specs.declared.fault.FormatFault.{FormatFault}
use Rattle.hm_format.specs.declared.fault.FormatFault.TheVariants.{BadOption, NotUtf8, BadItem, NoKey, TooDeep, Outside, Memory}
use Rattle.hm_format.specs.Formats.{deepest}
use Rattle.hm_lines_files.specs.Stops.{IsNumberOf}
use Rattle.hm_lines_files.specs.declared.layout_fault.LayoutFault.{LayoutFault}
use Rattle.hm_lines_files.specs.declared.layout_fault.LayoutFault.TheVariants as stop

-- of bytes without folds: how many of them are UTF-8, which not all are
abbrev pub IsTextFault : Bytes → FormatFault → Type 0
IsTextFault unfolded (NotUtf8 at) = (¬ (IsUtf8 unfolded)) × (at ≡ utf8_valid_len unfolded)
IsTextFault unfolded Memory = ⊥
IsTextFault unfolded (BadOption name) = ⊥
IsTextFault unfolded (BadItem number) = ⊥
IsTextFault unfolded (NoKey number) = ⊥
IsTextFault unfolded (TooDeep depth) = ⊥
IsTextFault unfolded (Outside path) = ⊥

-- of a place among the lines that aren't empty the number of the line is told
abbrev pub IsBadItem : List Bytes → ℕ → FormatFault → Type 0
IsBadItem lines place (BadItem number) = IsNumberOf lines place number
IsBadItem lines place Memory = ⊥
IsBadItem lines place (NotUtf8 at) = ⊥
IsBadItem lines place (BadOption name) = ⊥
IsBadItem lines place (NoKey number) = ⊥
IsBadItem lines place (TooDeep depth) = ⊥
IsBadItem lines place (Outside path) = ⊥

abbrev pub IsFaultOf : List Bytes → LayoutFault → FormatFault → Type 0
IsFaultOf lines (stop.At place) fault = IsBadItem lines place fault
IsFaultOf lines stop.Memory Memory = Unit {0}
IsFaultOf lines stop.Memory (BadItem number) = ⊥
IsFaultOf lines stop.Memory (NotUtf8 at) = ⊥
IsFaultOf lines stop.Memory (BadOption name) = ⊥
IsFaultOf lines stop.Memory (NoKey number) = ⊥
IsFaultOf lines stop.Memory (TooDeep depth) = ⊥
IsFaultOf lines stop.Memory (Outside path) = ⊥

-- of components: the first that has no key, or how deep their tree would be
abbrev pub IsBookFault : Name → Shown → List Component → FormatFault → Type 0
IsBookFault key shown cs (NoKey number) = IsFirstKeyless key cs number
IsBookFault key shown cs (TooDeep depth) = AreTooDeep key shown cs deepest depth
IsBookFault key shown cs Memory = Unit {0}
IsBookFault key shown cs (BadOption name) = ⊥
IsBookFault key shown cs (NotUtf8 at) = ⊥
IsBookFault key shown cs (BadItem number) = ⊥
IsBookFault key shown cs (Outside path) = ⊥

-- of components: the first that has no key
abbrev pub IsKeyFault : Name → List Component → FormatFault → Type 0
IsKeyFault key cs (NoKey number) = IsFirstKeyless key cs number
IsKeyFault key cs Memory = Unit {0}
IsKeyFault key cs (BadOption name) = ⊥
IsKeyFault key cs (NotUtf8 at) = ⊥
IsKeyFault key cs (BadItem number) = ⊥
IsKeyFault key cs (TooDeep depth) = ⊥
IsKeyFault key cs (Outside path) = ⊥
