-- Lines that are written, one behind the other, and compared with those from before.
use Rattle.std.specs.Prelude.{◌≡◌, ◌≢◌, List, ◌++◌, Option, Some, None}
use Rattle.std.specs.Borrow.{Bor}
use Rattle.hm_lines.specs.Folding.{AreFolded}
use Rattle.hm_lines_files.specs.Components.{Bytes}
use Rattle.hm_lines_files.specs.Lent.{texts}
use Rattle.hm_lines_files.specs.declared.writer.Writer.{Writer}

-- some lines are those from before as far as they go, and these stand behind them; or they aren't
abbrev pub IsBehind : List Bytes → List Bytes → Option (Bor (List (Bor Bytes))) → Type 0
IsBehind before lines None = (rest : List Bytes) → before ≢ lines ++ rest
IsBehind before lines (Some rest) = before ≡ lines ++ texts rest.now

-- the lines that a writer has written
pub record HasWritten (w : Writer) (before lines : List Bytes) : Type 0 where
  pub text : AreFolded lines w.text.items
  pub rest : IsBehind before lines w.rest

-- and then some more
abbrev pub Extends : Writer → Writer → List Bytes → Type 0
Extends old new more = (before lines : List Bytes) → HasWritten old before lines → HasWritten new before (lines ++ more)
