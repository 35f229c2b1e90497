-- What stays of the lines of an item, whatever they are written for: said of the lines from before and the lines now, by what
-- they show (docs/FORMATS.md, "How a file of content lines is written anew").
use Rattle.std.specs.Prelude.{◌≡◌, Bool, false, true, List, [], ◌∷◌, take, All, Option, Some}
use Rattle.std.specs.Option.{is_some}
use Rattle.std.specs.List.{find}
use Rattle.std.specs.FinSet.{contains}
use Rattle.hm_tree.specs.Names.{Name}
use Rattle.hm_lines.specs.declared.content.LineParts.{LineParts}
use Rattle.hm_book_cards.specs.Cards.{Shown}
use Rattle.hm_lines_cards.specs.Lines.{Line, is_of, text_shown, shows, texts_of, set_of}

-- the shown property that a line is of
abbrev pub shown_property : Shown → Line → Option (Name × Bool)
shown_property shown line = find (λ p. is_of p.0 line) shown

-- the text that a line shows below a name, if it shows one, isn't among those that these lines show there
abbrev pub IsApart : Name → List Line → Line → Type 0
IsApart name lines line = (text : Name) → text_shown name line ≡ Some text → contains (set_of name lines) text ≡ false

-- two lines begin with the same bytes, up to the `:` before their values (RFC 6350, section 3.3; RFC 5545, section 3.1)
pub record AreAlike (one two : Line) : Type 0 where
  pub parts : LineParts
  pub one_has : one.1 ≡ Some parts
  pub two_has : two.1 ≡ Some parts
  pub same : take parts.value_from one.0 ≡ take parts.value_from two.0

-- lines from before and lines now, one after another, each among all of its item
pub data AreKept (shown : Shown) (was now : List Line) : List Line → List Line → Type 0 where
  -- behind all there may be new lines of shown properties
  behind : {new : List Line} → All (λ line. is_some (shown_property shown line) ≡ true) new → AreKept shown was now [] new
  -- a line stays as it is
  same : {line : Line} {old new : List Line} → AreKept shown was now old new → AreKept shown was now (line ∷ old) (line ∷ new)
  -- it goes where its text isn't shown any more, and, if it is of a property of one text, none is
  gone : {line : Line} {p : Name × Bool} {old new : List Line} → shown_property shown line ≡ Some p → shows p.0 line ≡ true → IsApart p.0 now line
      → (p.1 ≡ false → texts_of p.0 now ≡ []) → AreKept shown was now old new → AreKept shown was now (line ∷ old) new
  -- or it gets, if it is of a property of one text and its own isn't shown any more, behind the same bytes one that wasn't shown
  changed : {line by : Line} {p : Name × Bool} {old new : List Line} → shown_property shown line ≡ Some p → p.1 ≡ false → IsApart p.0 now line
      → shows p.0 by ≡ true → IsApart p.0 was by → AreAlike line by → AreKept shown was now old new → AreKept shown was now (line ∷ old) (by ∷ new)
