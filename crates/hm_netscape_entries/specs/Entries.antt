-- Links and folders of a Netscape bookmark file: how they are read, and how new ones are made. Of either the file has the bytes of
-- its attributes, those of its title, and a note where it has one (hm_marks_tokens); of a separator the bytes of its attributes.
use Rattle.std.specs.Prelude.{◌≡◌, ℕ, true, false, List, [], ◌∷◌, ◌++◌, Option, Some, None, unwrap_or, codes}
use Rattle.std.specs.Option.{is_some}
use Rattle.std.specs.List.{list_any}
use Rattle.hm_tree.specs.Names.{Name}
use Rattle.hm_tree.specs.Cleaned.{cleaned}
use Rattle.hm_marks.specs.Layouts.{Layout, AreSound}
use Rattle.hm_marks_tokens.specs.Bytes.{has_less}
use Rattle.hm_marks_tokens.specs.Entities.{unescaped, escaped}
use Rattle.hm_marks_tokens.specs.Attributes.{Attribute, AreAttributes, is_address, with_value, are_attributes, address_of, with_address}
use Rattle.hm_marks_tokens.specs.Grammar.{Entry, Contents}
use Rattle.hm_marks_tokens.specs.Lines.{IsNote}

-- the text that bytes of a title or an address spell, cleaned
abbrev pub text_of : List ℕ → Name
text_of bytes = cleaned (unescaped bytes)

-- the address that is among attributes
abbrev pub address_in : List ℕ → Name
address_in attributes = text_of (unwrap_or (address_of attributes) [])

-- the attributes of a new link to an address
abbrev pub new_attributes : Name → List ℕ
new_attributes address = codes " HREF=\"" ++ (escaped address ++ codes "\"")

-- a new entry with attributes and a title
abbrev pub new_entry : List ℕ → Name → Entry
new_entry attributes title = record { attributes = attributes; title = escaped title; note = None }

-- an entry with another address
abbrev pub readdressed : Entry → Name → Entry
readdressed e address = record { attributes = with_address (escaped address) e.attributes; title = e.title; note = e.note }

-- the key of an entry is the text of its title
abbrev pub html : Layout Entry Entry
html = record {
  link_key = λ e. text_of e.title;
  address = λ e. address_in e.attributes;
  folder_key = λ e. text_of e.title;
  new_link = λ title address. new_entry (new_attributes address) title;
  readdressed = readdressed;
  new_folder = λ title. new_entry [] title;
}

-- ---- what may stand in a file

-- an entry has no note, or one that can be written
abbrev pub IsNoted : Option (List ℕ) → Type 0
IsNoted None = Unit {0}
IsNoted (Some bytes) = IsNote bytes

-- a folder
pub record IsEntry (e : Entry) : Type 0 where
  pub attributes : are_attributes e.attributes ≡ true
  pub title : has_less e.title ≡ false
  pub note : IsNoted e.note

-- a link
pub record IsLinkEntry (e : Entry) : Type 0 where
  pub entry : IsEntry e
  pub address : is_some (address_of e.attributes) ≡ true

-- a separator
abbrev pub IsRule : List ℕ → Type 0
IsRule attributes = are_attributes attributes ≡ true

-- all that stands in a folder
abbrev pub MayStand : Contents → Type 0
MayStand c = AreSound IsLinkEntry IsEntry IsRule c

-- ---- what stays of a link

-- attributes are the same but for the value of the first address: its name stays, and the value is in quotes now
pub record AreReaddressed (old new : List ℕ) : Type 0 where
  pub before : List Attribute
  pub first : Attribute
  pub behind : List Attribute
  pub ending : List ℕ
  pub value : List ℕ
  pub others : list_any is_address before ≡ false
  pub is : is_address first ≡ true
  pub were : AreAttributes old (before ++ first ∷ behind) ending
  pub are : AreAttributes new (before ++ with_value first value ∷ behind) ending

-- a link is the same but for its address
pub record IsSameLink (old new : Entry) : Type 0 where
  pub attributes : AreReaddressed old.attributes new.attributes
  pub title : new.title ≡ old.title
  pub note : new.note ≡ old.note
