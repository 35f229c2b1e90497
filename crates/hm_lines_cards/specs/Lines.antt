-- The lines of an item, and the texts that they show below the names of properties.
use Rattle.std.specs.Prelude.{◌≡◌, ◌≤◌, ◌<◌, ◌+◌, ℕ, Bool, false, not, ◌&&◌, cond, List, map, take, drop, length, slice_range, All, T, Option, Some, None}
use Rattle.std.specs.Char.{is_ascii_lowercase}
use Rattle.std.specs.Option.{is_some}
use Rattle.std.specs.List.{filter_map, list_any}
use Rattle.std.specs.Str.{str_eq_ignore_ascii_case}
use Rattle.std.specs.FinSet.{FinSet, from_list}
use Rattle.hm_tree.specs.Names.{Name, name_cmp}
use Rattle.hm_tree.specs.Nodes.{Tree, are_edges}
use Rattle.hm_lines.specs.declared.content.LineParts.{LineParts}
use Rattle.hm_lines.specs.Content.{IsContentLine, IsWord}
use Rattle.hm_lines.specs.Values.{text_of}
use Rattle.hm_tree.specs.Classes.{is_text}
use Rattle.hm_book_cards.specs.Cards.{Shown, Texts, card_tree}

-- a line of an item, and its parts where it is a property of the item: a line inside of another component is none
abbrev pub Line : Type 0
Line = List ℕ × Option LineParts

-- ---- the properties that are shown

abbrev pub IsCapital : ℕ → Type 0
IsCapital b = is_ascii_lowercase b ≡ false

-- names of properties, which rise, each with whether there may be many: words in capitals
pub record AreProperties (properties : Shown) : Type 0 where
  pub names : T (are_edges properties)
  pub words : All (λ p. IsWord p.0) properties
  pub capitals : All (λ p. All IsCapital p.0) properties

-- ---- what a line shows

abbrev pub name_in : List ℕ → LineParts → List ℕ
name_in line parts = slice_range line parts.name_from parts.name_to

-- names of properties have no case
abbrev pub is_named : Name → List ℕ → Option LineParts → Bool
is_named name line None = false
is_named name line (Some parts) = str_eq_ignore_ascii_case (name_in line parts) name

-- a text, if it isn't of spaces alone
abbrev pub filled : Name → Option Name
filled text = cond (is_text text) (Some text) None

abbrev pub text_in : List ℕ → Option LineParts → Option Name
text_in line None = None
text_in line (Some parts) = filled (text_of (drop parts.value_from line))

-- a line is of the property of a name
abbrev pub is_of : Name → Line → Bool
is_of name line = is_named name line.0 line.1

-- the text that it shows below the property's name
abbrev pub text_shown : Name → Line → Option Name
text_shown name line = cond (is_of name line) (text_in line.0 line.1) None

abbrev pub shows : Name → Line → Bool
shows name line = is_some (text_shown name line)

-- ---- the card of an item

-- the texts that lines show below a name, in their order
abbrev pub texts_of : Name → List Line → List Name
texts_of name lines = filter_map (text_shown name) lines

abbrev pub set_of : Name → List Line → FinSet name_cmp
set_of name lines = from_list {R = name_cmp} (texts_of name lines)

abbrev pub texts_by : Shown → List Line → Texts
texts_by properties lines = map (λ p. (p.0, set_of p.0 lines)) properties

abbrev pub card_of : Shown → List Line → Tree
card_of properties lines = card_tree (texts_by properties lines)

-- ---- conditions

-- a line with parts has these parts
abbrev pub HasParts : List ℕ → Option LineParts → Type 0
HasParts line None = Unit {0}
HasParts line (Some parts) = IsContentLine line parts

abbrev pub IsLine : Line → Type 0
IsLine line = HasParts line.0 line.1

-- no property shows many texts that may not
abbrev pub AreFew : Shown → List Line → Type 0
AreFew properties lines = All (λ p. p.1 ≡ false → length (texts_of p.0 lines) ≤ 1) properties

-- a line shows a text of a property that may not have many, behind lines of which one does too
abbrev pub is_second : List Line → Line → Name × Bool → Bool
is_second before line p = not p.1 && (shows p.0 line && list_any (shows p.0) before)

-- the first line that shows a second text of a property that may not have many: with it there are too many
pub record IsFirstSecond (properties : Shown) (lines : List Line) (place : ℕ) : Type 0 where
  pub within : place < length lines
  pub before : AreFew properties (take place lines)
  pub many : ¬ (AreFew properties (take (place + 1) lines))
