-- What is found in the lines of a file one after another: cards, or the place of the line at which they stop. Empty lines are
-- left out here.
use Rattle.std.specs.Prelude.{◌≡◌, ◌≢◌, ℕ, ◌+◌, ◌<◌, ◌≤◌, false, true, List, [], ◌++◌, length, take, drop, slice_get, All, Option, Some}
use Rattle.hm_lines.specs.declared.content.LineParts.{LineParts}
use Rattle.hm_lines_cards.specs.Lines.{Line}
use Rattle.hm_lines_files.specs.Components.{Bytes, Piece}
use Rattle.hm_lines_files.specs.declared.layout_fault.LayoutFault.{LayoutFault}
use Rattle.hm_lines_files.specs.declared.layout_fault.LayoutFault.TheVariants as stop
use Rattle.hm_vcard.specs.Cards.{CardLines, IsProperty, IsCard, is_line, lines_of, all_lines, pieces_with}

-- ---- one card

-- lines with which a card begins
pub record Opens (lines : List Bytes) : Type 0 where
  pub more : List Bytes
  pub card : CardLines
  pub is : IsCard card
  pub are : lines ++ more ≡ lines_of card

-- a card begins with the lines before a place, and with no more of them
pub record StopsCard (lines : List Bytes) (place : ℕ) : Type 0 where
  pub within : place ≤ length lines
  pub fits : Opens (take place lines)
  pub next : place < length lines → (card : CardLines) (rest more : List Bytes) → IsCard card → take (place + 1) lines ++ more ≢ lines_of card ++ rest
  pub end : (card : CardLines) (rest : List Bytes) → IsCard card → lines ≢ lines_of card ++ rest

-- a card stands in front of lines
pub record IsInFront (lines : List Bytes) (card : CardLines) : Type 0 where
  pub is : IsCard card
  pub rest : List Bytes
  pub are : lines ≡ lines_of card ++ rest

-- a line that isn't of a property
abbrev pub IsOther : Bytes → Type 0
IsOther line = (parts : Option LineParts) → ¬ (IsProperty (line, parts))

-- a line with its parts
pub record IsPropertyOf (text : Bytes) (line : Line) : Type 0 where
  pub text_is : line.0 ≡ text
  pub is : IsProperty line

-- the line at a place, if there is one, isn't of a property
abbrev pub EndsAt : List Bytes → ℕ → Type 0
EndsAt lines place = (line : Bytes) → slice_get lines place ≡ Some line → IsOther line

-- the line at a place is a certain one
pub record IsLineAt (lines : List Bytes) (place : ℕ) (wanted line : Bytes) : Type 0 where
  pub stands : slice_get lines place ≡ Some line
  pub is : is_line wanted line ≡ true

abbrev pub IsNoLineAt : List Bytes → ℕ → Bytes → LayoutFault → Type 0
IsNoLineAt lines place wanted (stop.At at) = (at ≡ place) × ((line : Bytes) → slice_get lines place ≡ Some line → is_line wanted line ≡ false)
IsNoLineAt lines place wanted stop.Memory = ⊥

-- ---- all cards

-- cards up to a place of the lines, which are these pieces
pub record AreFront (lines : List Bytes) (from : ℕ) (pieces : List Piece) : Type 0 where
  pub cards : List CardLines
  pub each : All IsCard cards
  pub are : lines ≡ all_lines cards ++ drop from lines
  pub counted : from ≡ length (all_lines cards)
  pub same : pieces ≡ pieces_with cards

-- cards one behind another, and no other lines
pub record AreAll (lines : List Bytes) (pieces : List Piece) : Type 0 where
  pub cards : List CardLines
  pub each : All IsCard cards
  pub are : lines ≡ all_lines cards
  pub same : pieces ≡ pieces_with cards

-- with cards and the lines of one more that is begun they stop at a place
pub record StopsCards (lines : List Bytes) (place : ℕ) : Type 0 where
  pub cards : List CardLines
  pub each : All IsCard cards
  pub rest : List Bytes
  pub are : lines ≡ all_lines cards ++ rest
  pub some : rest ≢ []
  pub at : ℕ
  pub stops : StopsCard rest at
  pub place_is : place ≡ length (all_lines cards) + at

abbrev pub IsCardStop : List Bytes → LayoutFault → Type 0
IsCardStop lines (stop.At place) = StopsCard lines place
IsCardStop lines stop.Memory = Unit {0}

abbrev pub IsStop : List Bytes → LayoutFault → Type 0
IsStop lines (stop.At place) = StopsCards lines place
IsStop lines stop.Memory = Unit {0}

-- of the card that begins at a place
abbrev pub IsStopBehind : List Bytes → ℕ → LayoutFault → Type 0
IsStopBehind lines from (stop.At place) = (at : ℕ) × ((place ≡ from + at) × StopsCard (drop from lines) at)
IsStopBehind lines from stop.Memory = Unit {0}
