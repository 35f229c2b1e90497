-- The lines of an item that is to show another card.
use Rattle.std.specs.Prelude.{◌≡◌, ◌≤◌, ℕ, ◌+◌, Bool, true, false, cond, All, List, [], ◌∷◌, ◌++◌, map, take, length, slice_get, Option, Some, None}
use Rattle.std.specs.Bool.{◌==◌}
use Rattle.std.specs.Option.{is_none, option_or}
use Rattle.std.specs.Ordering.{eq_by_cmp}
use Rattle.std.specs.List.{find, flat_map, position_from}
use Rattle.std.specs.FinSet.{FinSet, contains}
use Rattle.hm_tree.specs.Names.{Name, name_cmp}
use Rattle.hm_tree.specs.Nodes.{Tree}
use Rattle.hm_tree.specs.Sets.{ascending}
use Rattle.hm_lines.specs.declared.content.LineParts.{LineParts}
use Rattle.hm_lines.specs.Content.{colon}
use Rattle.hm_lines.specs.Values.{escaped}
use Rattle.hm_tree.specs.Sets.{new_names}
use Rattle.hm_book_cards.specs.Cards.{Shown, texts_at}
use Rattle.hm_lines_cards.specs.Lines.{Line, is_of, text_shown, shows, texts_of, set_of}

abbrev pub Property : Type 0
Property = Name × Bool

-- ---- a line of a property of many texts

-- it goes where its text isn't one of a set
abbrev pub stays : FinSet name_cmp → Option Name → Bool
stays set None = true
stays set (Some text) = contains set text

abbrev pub if_stays : Bool → Line → List Line
if_stays stays line = cond stays (line ∷ []) []

-- ---- the line of a property of one text

-- the place of the first line of which something holds
abbrev pub first_place : (Line → Bool) → List Line → Option ℕ
first_place test lines = position_from test 0 lines

-- the place of its line that shows a text, or else of its first one
abbrev pub target : Name → List Line → Option ℕ
target name lines = option_or (first_place (shows name) lines) (first_place (is_of name) lines)

-- a line with the value of a text behind its `:`
abbrev pub with_value : List ℕ → Option LineParts → Name → Line
with_value line None text = (line, None)
with_value line (Some parts) text = (take parts.value_from line ++ escaped text, Some parts)

-- a text is the one from before
abbrev pub is_same : Option Name → Name → Bool
is_same None text = false
is_same (Some old) text = eq_by_cmp name_cmp old text

-- a text that it shows stays, another one is written into it; it goes where there is to be none, if it shows one
abbrev pub one_line : Option Name → Option Name → Line → List Line
one_line None None line = line ∷ []
one_line None (Some old) line = []
one_line (Some text) old line = cond (is_same old text) line (with_value line.0 line.1 text) ∷ []

-- ---- the lines from before

-- the first text of a set
abbrev pub first_in : FinSet name_cmp → Option Name
first_in texts = slice_get (ascending texts) 0

-- what becomes of a line of a property that is to show these texts
abbrev pub line_for : Property → FinSet name_cmp → Bool → Line → List Line
line_for p texts is_target line =
    cond p.1 (if_stays (stays texts (text_shown p.0 line)) line)
    (cond is_target (one_line (first_in texts) (text_shown p.0 line) line) (line ∷ []))

abbrev pub is_at : ℕ → Option ℕ → Bool
is_at place None = false
is_at place (Some target) = target == place

-- the property that a line is of
abbrev pub property_of : Shown → Line → Option Property
property_of properties line = find (λ p. is_of p.0 line) properties

-- what becomes of a line at a place of all lines; one of no property stays
abbrev pub line_in : Option Property → Tree → List Line → ℕ → Line → List Line
line_in None card lines place line = line ∷ []
line_in (Some p) card lines place line = line_for p (texts_at p.0 card) (is_at place (target p.0 lines)) line

abbrev pub line_at : Shown → Tree → List Line → ℕ → Line → List Line
line_at properties card lines place line = line_in (property_of properties line) card lines place line

abbrev pub rewritten_from : Shown → Tree → List Line → ℕ → List Line → List Line
rewritten_from properties card lines place [] = []
rewritten_from properties card lines place (line ∷ rest) =
    line_at properties card lines place line ++ rewritten_from properties card lines (place + 1) rest

-- ---- the new lines

-- the texts that get a line of their own: those that no line shows; of a property of one text, where it has no line
abbrev pub new_texts : Tree → List Line → Property → List Name
new_texts card lines p =
    cond p.1 (new_names (set_of p.0 lines) (texts_at p.0 card)) (cond (is_none (target p.0 lines)) (ascending (texts_at p.0 card)) [])

abbrev pub new_line : Name → Name → Line
new_line name text = (name ++ colon ∷ escaped text, Some (record { name_from = 0; name_to = length name; value_from = length name + 1 }))

abbrev pub lines_for : Tree → List Line → Property → List Line
lines_for card lines p = map (new_line p.0) (new_texts card lines p)

-- the lines that are to show a card: those from before, each as it's to be, and behind them the new ones, by the names of
-- the properties and then by the texts
abbrev pub rewritten : Shown → Tree → List Line → List Line
rewritten properties card lines = rewritten_from properties card lines 0 lines ++ flat_map (lines_for card lines) properties

-- ---- lines that show a card as it is

-- they show the texts of a card below a property in their order, and no more than there may be
abbrev pub IsShown : Tree → List Line → Property → Type 0
IsShown card lines p = (texts_of p.0 lines ≡ ascending (texts_at p.0 card)) × (p.1 ≡ false → length (texts_of p.0 lines) ≤ 1)

abbrev pub AreShown : Shown → Tree → List Line → Type 0
AreShown properties card lines = All (IsShown card lines) properties
