-- Lines of a Netscape bookmark file that stand behind bytes.
use Rattle.std.specs.Prelude.{◌≡◌, ℕ, ◌+◌, List, [], ◌∷◌, ◌++◌}
use Rattle.std.specs.Option.{option_map}
use Rattle.hm_marks.specs.Contents.{nothing, link, folder, separator}
use Rattle.hm_marks_tokens.specs.Grammar.{Entry, Contents}
use Rattle.hm_marks_tokens.specs.Lines.{Line, opens, closes, heads, laid}
use Rattle.hm_netscape_entries.specs.Next.{entry_seen}
use Rattle.hm_netscape_entries.specs.Written.{trimmed, tidied, note_lines, contents_lines}
use Rattle.hm_netscape_lines.specs.declared.entry.Entry.{Entry as LentEntry}

-- a link or a folder where the code lends it
abbrev pub seen : LentEntry → Entry
seen e = entry_seen e.attributes e.title e.note

-- these lines stand behind bytes, where so many folders are open before the first
abbrev pub AreBehind : ℕ → List ℕ → List ℕ → List Line → Type 0
AreBehind level old new lines = new ≡ old ++ laid level lines

-- the lines of what stands in a folder, with notes without the white space at their end
abbrev pub StandBehind : ℕ → List ℕ → List ℕ → Contents → Type 0
StandBehind level old new c = AreBehind level old new (contents_lines (tidied c))

-- the lines of a folder up to what stands in it
abbrev pub heading_lines : Entry → List Line
heading_lines e = heads e.attributes e.title ∷ (note_lines (option_map trimmed e.note) ++ opens ∷ [])

abbrev pub IsHeaded : ℕ → List ℕ → List ℕ → Entry → Type 0
IsHeaded level old new e = AreBehind level old new (heading_lines e)

-- the line behind what stands in it
abbrev pub IsEnded : ℕ → List ℕ → List ℕ → Type 0
IsEnded level old new = AreBehind (level + 1) old new (closes ∷ [])

-- ---- what stands in a folder, one behind another

abbrev pub joined : Contents → Contents → Contents
joined nothing d = d
joined (link e c) d = link e (joined c d)
joined (folder e inside c) d = folder e inside (joined c d)
joined (separator a c) d = separator a (joined c d)
