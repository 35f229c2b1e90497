-- What stands in a folder as lines of a file, and what is read of these again.
use Rattle.std.specs.Prelude.{◌≡◌, ℕ, cond, true, List, [], ◌∷◌, ◌++◌, Option, Some, None}
use Rattle.std.specs.Option.{option_map}
use Rattle.hm_tree.specs.Nodes.{Tree}
use Rattle.hm_marks.specs.Contents.{nothing, link, folder, separator}
use Rattle.hm_marks.specs.FolderTrees.{IsContentsTree}
use Rattle.hm_marks_tokens.specs.Bytes.{is_white}
use Rattle.hm_marks_tokens.specs.Grammar.{Entry, Contents, IsListOf}
use Rattle.hm_marks_tokens.specs.Lines.{Line, opens, closes, links, heads, notes, rules}
use Rattle.hm_netscape_entries.specs.Entries.{html, MayStand}

-- bytes without the white space at their end
abbrev pub trimmed : List ℕ → List ℕ
trimmed [] = []
trimmed (b ∷ bytes) = cond (is_white (b ∷ bytes)) [] (b ∷ trimmed bytes)

-- a link or a folder with such a note
abbrev pub tidied_entry : Entry → Entry
tidied_entry e = record { attributes = e.attributes; title = e.title; note = option_map trimmed e.note }

-- what stands in a folder with such notes
abbrev pub tidied : Contents → Contents
tidied nothing = nothing
tidied (link e rest) = link (tidied_entry e) (tidied rest)
tidied (folder e inside rest) = folder (tidied_entry e) (tidied inside) (tidied rest)
tidied (separator a rest) = separator a (tidied rest)

-- the line of a note, where there is one
abbrev pub note_lines : Option (List ℕ) → List Line
note_lines None = []
note_lines (Some bytes) = notes bytes ∷ []

-- the lines of what stands in a folder
abbrev pub contents_lines : Contents → List Line
contents_lines nothing = []
contents_lines (link e rest) = links e.attributes e.title ∷ (note_lines e.note ++ contents_lines rest)
contents_lines (folder e inside rest) =
    heads e.attributes e.title ∷ (note_lines e.note ++ opens ∷ (contents_lines inside ++ closes ∷ contents_lines rest))
contents_lines (separator a rest) = rules a ∷ contents_lines rest

-- the lines of a folder's list, but for the one that closes it
abbrev pub list_lines : Contents → List Line
list_lines c = opens ∷ contents_lines c

-- ---- what is alike but for white space at the end of notes

-- a note, and the same with more white space at its end
abbrev pub IsNoteAlike : Option (List ℕ) → Option (List ℕ) → Type 0
IsNoteAlike None None = Unit {0}
IsNoteAlike None (Some b) = ⊥
IsNoteAlike (Some a) None = ⊥
IsNoteAlike (Some a) (Some b) = (white : List ℕ) × ((is_white white ≡ true) × (b ≡ a ++ white))

-- an entry with such a note
pub record IsEntryAlike (d e : Entry) : Type 0 where
  pub attributes : e.attributes ≡ d.attributes
  pub title : e.title ≡ d.title
  pub note : IsNoteAlike d.note e.note

-- all that stands in a folder, at each depth
pub data AreAlike : Contents → Contents → Type 0 where
  alike_nothing : AreAlike nothing nothing
  alike_links : {d e : Entry} {c rest : Contents} → IsEntryAlike d e → AreAlike c rest → AreAlike (link d c) (link e rest)
  alike_folders : {d e : Entry} {b inside c rest : Contents} → IsEntryAlike d e → AreAlike b inside → AreAlike c rest
      → AreAlike (folder d b c) (folder e inside rest)
  alike_separators : {a : List ℕ} {c rest : Contents} → AreAlike c rest → AreAlike (separator a c) (separator a rest)

-- bytes begin with the list of a folder in which stands what is alike to this, and this rest stands behind it; it may stand in a file
pub record IsReadAlike (bytes : List ℕ) (c : Contents) (rest : List ℕ) : Type 0 where
  pub found : Contents
  pub alike : AreAlike c found
  pub list : IsListOf bytes found rest
  pub sound : MayStand found

-- and its tree is this one
pub record IsReadAgain (bytes : List ℕ) (c : Contents) (t : Tree) (rest : List ℕ) : Type 0 where
  pub read : IsReadAlike bytes c rest
  pub tree : IsContentsTree html read.found t
