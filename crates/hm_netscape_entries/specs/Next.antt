-- What stands next in a folder, an entry after the other.
use Rattle.std.specs.Prelude.{◌≡◌, ℕ, false, List, ◌∷◌, ◌++◌, Option, Some, None}
use Rattle.std.specs.Borrow.{Bor}
use Rattle.std.specs.Option.{option_map}
use Rattle.std.specs.Str.{IsUtf8}
use Rattle.hm_marks.specs.Contents.{nothing, link, folder, separator}
use Rattle.hm_marks_tokens.specs.Symbols as symbols
use Rattle.hm_marks_tokens.specs.Symbols.{Symbol, HasSymbols}
use Rattle.hm_marks_tokens.specs.Grammar.{Entry, Contents, contents_symbols, IsListOf}
use Rattle.hm_netscape_entries.specs.declared.next.Next.{Next as LentNext}
use Rattle.hm_netscape_entries.specs.declared.next.Next.TheVariants.{End, Link, Folder, Separator}

-- what stands next
pub data Next : Type 0 where
  an_end : Next  -- the end of the folder
  a_link : Entry → Next
  a_folder : Entry → Next  -- the beginning of a folder in it
  a_separator : (attributes : List ℕ) → Next

-- a note where the code lends it
abbrev pub note_seen : Option (Bor (List ℕ)) → Option (List ℕ)
note_seen note = option_map (λ bytes. bytes.now) note

-- an entry
abbrev pub entry_seen : Bor (List ℕ) → Bor (List ℕ) → Option (Bor (List ℕ)) → Entry
entry_seen attributes title note = record { attributes = attributes.now; title = title.now; note = note_seen note }

-- and what stands next
abbrev pub next_seen : LentNext → Next
next_seen End = an_end
next_seen (Link attributes title note) = a_link (entry_seen attributes title note)
next_seen (Folder attributes title note) = a_folder (entry_seen attributes title note)
next_seen (Separator attributes) = a_separator attributes.now

-- bytes begin with what is left of a folder and its end, and then with more symbols; this rest stands behind them
abbrev pub IsLeft : List ℕ → Contents → List Symbol → List ℕ → Type 0
IsLeft bytes c more rest = HasSymbols false bytes (contents_symbols c ++ symbols.list_end ∷ more) rest

-- this stands next in what is left of a folder, and bytes begin with what stands behind it: behind the beginning of a folder
-- with what stands in that
pub data Begins (bytes : List ℕ) (more : List Symbol) (rest : List ℕ) : Contents → Next → Type 0 where
  begins_end : HasSymbols false bytes more rest → Begins bytes more rest nothing an_end
  begins_link : {e : Entry} {c : Contents} → IsLeft bytes c more rest → Begins bytes more rest (link e c) (a_link e)
  begins_folder : {e : Entry} {inside c : Contents} → IsLeft bytes inside (contents_symbols c ++ symbols.list_end ∷ more) rest
      → Begins bytes more rest (folder e inside c) (a_folder e)
  begins_separator : {a : List ℕ} {c : Contents} → IsLeft bytes c more rest → Begins bytes more rest (separator a c) (a_separator a)

-- a symbol is no text
abbrev pub IsNoText : Symbol → Type 0
IsNoText m = (bytes : List ℕ) → m ≡ symbols.words bytes → ⊥

-- a symbol that may stand behind a note: neither `<DD>` nor a text
abbrev pub IsBehindNote : Symbol → Type 0
IsBehindNote m = (m ≡ symbols.note → ⊥) × IsNoText m

-- something is left of a folder
abbrev pub IsInFolder : List ℕ → Type 0
IsInFolder bytes = (c : Contents) × ((more : List Symbol) × ((rest : List ℕ) × IsLeft bytes c more rest))

-- bytes begin with a list
abbrev pub IsList : List ℕ → Type 0
IsList bytes = (c : Contents) × ((rest : List ℕ) × IsListOf bytes c rest)

-- a note is UTF-8, where there is one
abbrev pub IsUtf8Note : Option (List ℕ) → Type 0
IsUtf8Note None = Unit {0}
IsUtf8Note (Some bytes) = IsUtf8 bytes

-- all bytes of an entry are UTF-8
pub record IsUtf8Entry (e : Entry) : Type 0 where
  pub attributes : IsUtf8 e.attributes
  pub title : IsUtf8 e.title
  pub note : IsUtf8Note e.note

abbrev pub IsUtf8Next : Next → Type 0
IsUtf8Next an_end = Unit {0}
IsUtf8Next (a_link e) = IsUtf8Entry e
IsUtf8Next (a_folder e) = IsUtf8Entry e
IsUtf8Next (a_separator a) = IsUtf8 a
