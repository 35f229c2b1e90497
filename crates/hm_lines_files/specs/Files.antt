-- What files of a form are read as: address books, or why they are none.
use Rattle.std.specs.Prelude.{◌≡◌, ◌⊎◌, ℕ, ◌+◌, ◌<◌, ◌≤◌, List, [], ◌∷◌, ◌++◌, length, filter, All, Result, Ok, Err, IsUtf8}
use Rattle.std.specs.Str.Lossy.{utf8_valid_len}
use Rattle.hm_tree.specs.Nodes.{Tree, depth}
use Rattle.hm_schema.specs.Values.{OptionsValue}
use Rattle.hm_lines.specs.Unfolding.{unfolded, lines}
use Rattle.hm_book_items.specs.ItemTrees.{IsItemTree}
use Rattle.hm_lines_files.specs.Components.{Bytes, Layout, all_lines, components, HasKey, items_of}
use Rattle.hm_lines_files.specs.Reading.{IsFirstKeyless}
use Rattle.hm_format.specs.declared.fault.FormatFault.{FormatFault}
use Rattle.hm_format.specs.declared.fault.FormatFault.TheVariants.{BadOption, NotUtf8, BadItem, NoKey, TooDeep, Outside, Memory}
use Rattle.hm_format.specs.Formats.{deepest}
use Rattle.hm_lines_files.specs.Forms.{Form, is_full, shown_of}

-- ---- lines

abbrev pub lines_in : Bytes → List Bytes
lines_in bytes = lines (unfolded bytes)

-- empty lines may stand anywhere
abbrev pub full : List Bytes → List Bytes
full lines = filter is_full lines

-- ---- files

-- lines, but for the empty ones, are those of a file with a layout
pub record AreLaidOut (f : Form) (o : OptionsValue) (lines : List Bytes) (l : Layout) : Type 0 where
  pub has : f.has o l
  pub are : full lines ≡ all_lines l

-- with these lines a file may begin: behind them some could stand with which they are those of a file
pub record MayBegin (f : Form) (o : OptionsValue) (lines : List Bytes) : Type 0 where
  pub more : List Bytes
  pub layout : Layout
  pub are : AreLaidOut f o (lines ++ more) layout

-- the line of this number, from 1, doesn't fit: a file may begin with those before it, but not with it too
pub record IsMisfit (f : Form) (o : OptionsValue) (lines : List Bytes) (number : ℕ) : Type 0 where
  pub before : List Bytes
  pub line : Bytes
  pub after : List Bytes
  pub stand : lines ≡ before ++ line ∷ after
  pub fits : MayBegin f o before
  pub misfits : ¬ (MayBegin f o (before ++ line ∷ []))
  pub place : number ≡ length before + 1

-- lines end too early: the number is one more than there are
pub record IsCutShort (f : Form) (o : OptionsValue) (lines : List Bytes) (number : ℕ) : Type 0 where
  pub fits : MayBegin f o lines
  pub short : (l : Layout) → ¬ (AreLaidOut f o lines l)
  pub place : number ≡ length lines + 1

abbrev pub IsBadLine : Form → OptionsValue → List Bytes → ℕ → Type 0
IsBadLine f o lines number = IsMisfit f o lines number ⊎ IsCutShort f o lines number

-- ---- what they are read as

-- the bytes, unfolded, are UTF-8, and their lines those of a file with a layout
pub record IsFile (f : Form) (o : OptionsValue) (bytes : Bytes) (l : Layout) : Type 0 where
  pub text : IsUtf8 (unfolded bytes)
  pub are : AreLaidOut f o (lines_in bytes) l

-- a file of which each component has a key, and the tree of its components
pub record IsBook (f : Form) (o : OptionsValue) (bytes : Bytes) (t : Tree) : Type 0 where
  pub layout : Layout
  pub file : IsFile f o bytes layout
  pub keyed : All (HasKey f.template.key) (components layout)
  pub tree : IsItemTree (items_of f.template.key (shown_of f o) (components layout)) t

pub record IsKeyless (f : Form) (o : OptionsValue) (bytes : Bytes) (number : ℕ) : Type 0 where
  pub layout : Layout
  pub file : IsFile f o bytes layout
  pub first : IsFirstKeyless f.template.key (components layout) number

-- a book of this depth, which is over the limit
pub record IsTooDeep (f : Form) (o : OptionsValue) (bytes : Bytes) (d : ℕ) : Type 0 where
  pub tree : Tree
  pub book : IsBook f o bytes tree
  pub depth_is : d ≡ depth tree
  pub over : deepest < d

-- the bytes, unfolded, aren't UTF-8, and this is the length of the longest beginning that is
pub record StopsAt (bytes : Bytes) (at : ℕ) : Type 0 where
  pub broken : ¬ (IsUtf8 (unfolded bytes))
  pub place : at ≡ utf8_valid_len (unfolded bytes)

abbrev pub Reads : Form → OptionsValue → List ℕ → Result Tree FormatFault → Type 0
Reads f o bytes (Ok tree) = IsBook f o bytes tree × (depth tree ≤ deepest)
Reads f o bytes (Err (NotUtf8 at)) = StopsAt bytes at
Reads f o bytes (Err (BadItem number)) = IsUtf8 (unfolded bytes) × IsBadLine f o (lines_in bytes) number
Reads f o bytes (Err (NoKey number)) = IsKeyless f o bytes number
Reads f o bytes (Err (TooDeep d)) = IsTooDeep f o bytes d
Reads f o bytes (Err (BadOption key)) = ⊥
Reads f o bytes (Err (Outside path)) = ⊥
Reads f o bytes (Err Memory) = ⊥
