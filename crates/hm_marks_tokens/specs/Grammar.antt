-- The grammar of folders: what stands in a folder, and the symbols that this has in a file.
--
--   folder = <DL> *entry </DL>
--   entry  = <DT> <A attributes> [text] </A> [ <DD> [text] ]
--          / <DT> <H3 attributes> [text] </H3> [ <DD> [text] ] folder
--          / <HR attributes>
use Rattle.std.specs.Prelude.{◌≡◌, ℕ, true, false, List, [], ◌∷◌, ◌++◌, Option, Some, None}
use Rattle.hm_marks.specs.Contents.{Contents as ContentsOf, nothing, link, folder, separator}
use Rattle.hm_marks.specs.Layouts.{AreSound}
use Rattle.hm_marks_tokens.specs.Attributes.{are_attributes, are_of_link}
use Rattle.hm_marks_tokens.specs.Symbols as symbols
use Rattle.hm_marks_tokens.specs.Symbols.{Symbol, words_of, HasSymbols}

-- an entry: the bytes of its attributes and of its title, and its note where it has one
pub record Entry : Type 0 where
  pub attributes : List ℕ
  pub title : List ℕ
  pub note : Option (List ℕ)

-- what stands in a folder: an entry for each link and folder, and of a separator the bytes of its attributes
abbrev pub Contents : Type 0
Contents = ContentsOf Entry Entry (List ℕ)

-- the symbols of a note, where there is one
abbrev pub note_symbols : Option (List ℕ) → List Symbol
note_symbols None = []
note_symbols (Some bytes) = symbols.note ∷ words_of bytes

-- the symbols of what a folder holds
abbrev pub contents_symbols : Contents → List Symbol
contents_symbols nothing = []
contents_symbols (separator a s) = symbols.rule a ∷ contents_symbols s
contents_symbols (link e s) =
    symbols.entry ∷ symbols.link e.attributes ∷ (words_of e.title ++ symbols.link_end ∷ (note_symbols e.note ++ contents_symbols s))
contents_symbols (folder e c s) =
    symbols.entry ∷ symbols.heading e.attributes ∷ (words_of e.title ++ symbols.heading_end ∷ (note_symbols e.note
    ++ symbols.list ∷ (contents_symbols c ++ symbols.list_end ∷ contents_symbols s)))

-- the symbols of a folder's list
abbrev pub folder_symbols : Contents → List Symbol
folder_symbols c = symbols.list ∷ (contents_symbols c ++ symbols.list_end ∷ [])

-- all attributes are such, and each link has an address
abbrev pub HaveTags : Contents → Type 0
HaveTags c = AreSound (λ (e : Entry). are_of_link e.attributes ≡ true) (λ (e : Entry). are_attributes e.attributes ≡ true) (λ (a : List ℕ). are_attributes a ≡ true) c

-- bytes begin with the list of a folder that holds this, and this rest stands behind its last symbol
pub record IsListOf (bytes : List ℕ) (c : Contents) (rest : List ℕ) : Type 0 where
  pub sound : HaveTags c
  pub has : HasSymbols false bytes (folder_symbols c) rest
