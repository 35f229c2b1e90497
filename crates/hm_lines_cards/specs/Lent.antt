-- What contracts see of lines that are lent, of the places of lines, and of lines that are written.
use Rattle.std.specs.Prelude.{ℕ, cond, List, [], ◌∷◌, map, All, Option, Some, None, string_bytes}
use Rattle.hm_book_cards.specs.Cards.{Shown}
use Rattle.hm_lines_cards.specs.Lines.{Line as PlainLine, IsLine}
use Rattle.hm_lines_cards.specs.Rewriting.{Property, target}
use Rattle.hm_lines_cards.specs.declared.line.Line.{Line}
use Rattle.hm_lines_cards.specs.declared.line.NewLine.{NewLine}
use Rattle.hm_lines_cards.specs.declared.line.NewLine.TheVariants.{Kept, Made}

abbrev pub line_of : Line → PlainLine
line_of l = (l.text.now, l.parts)

abbrev pub lent : List Line → List PlainLine
lent lines = map line_of lines

-- each has the parts that it says
abbrev pub AreLines : List Line → Type 0
AreLines lines = All (λ l. IsLine (line_of l)) lines

-- for each property of one text the place of its line
abbrev pub target_of : List PlainLine → Property → Option ℕ
target_of lines p = cond p.1 None (target p.0 lines)

abbrev pub targets_of : Shown → List PlainLine → List (Option ℕ)
targets_of properties lines = map (target_of lines) properties

-- ---- lines that are written

abbrev pub bytes_of : NewLine → List ℕ
bytes_of (Kept text) = text.now
bytes_of (Made text) = string_bytes text

abbrev pub all_bytes : List NewLine → List (List ℕ)
all_bytes lines = map bytes_of lines

abbrev pub bytes_in : Option NewLine → List (List ℕ)
bytes_in None = []
bytes_in (Some line) = bytes_of line ∷ []

-- the bytes of lines
abbrev pub plain : List PlainLine → List (List ℕ)
plain lines = map (λ l. l.0) lines
