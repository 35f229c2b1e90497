-- How changes are said, each in one line, and their numbers behind them.
use Rattle.std.specs.Prelude.{ℕ, Bool, true, false, cond, ◌==◌, List, [], ◌∷◌, ◌++◌, length, codes, flat_map, Some}
use Rattle.std.specs.Fmt.{decimal}
use Rattle.hm_tree.specs.declared.archive.State.{State}
use Rattle.hm_tree.specs.declared.archive.State.TheVariants.{Missing, Present, Marked}
use Rattle.hm_tree.specs.Names.{Name}
use Rattle.hm_tree.specs.Nodes.{Tree}
use Rattle.hm_tree.specs.Sets.{ascending}
use Rattle.hm_tree.specs.States.{Path, state}
use Rattle.hm_tree_spelling.specs.Spelling.{path_text}
use Rattle.hm_report.specs.declared.conflict.Conflict.{Conflict}
use Rattle.hm_report.specs.Text.{line_feed, conflict_line, number_line}
use Rattle.hm_changes.specs.declared.change.Change.{Change}
use Rattle.hm_changes.specs.declared.change.Turn.{Turn}
use Rattle.hm_changes.specs.declared.change.Turn.TheVariants.{Added, Deleted}
use Rattle.hm_changes_alike.specs.declared.alikes.AlikeNames.{AlikeNames}
use Rattle.hm_changes_report.specs.declared.text.Changes.{Changes}
use Rattle.hm_changes.specs.Numbers.{number_of, entries_of, entries_changed}

abbrev pub sign : Turn → List ℕ
sign Added = codes " + "
sign Deleted = codes " - "

-- the line of a change of a side
abbrev pub change_line : List ℕ → Change → List ℕ
change_line side c = side ++ (sign c.turn ++ (path_text c.path ++ line_feed))

-- the side of which a path is told: A where the old view of A has it, else B
abbrev pub is_present : State → Bool
is_present Present = true
is_present Missing = false
is_present Marked = false

abbrev pub side_of : Tree → Path → List ℕ
side_of view p = cond (is_present (state (Some view) p)) (codes " A ") (codes " B ")

-- a name below a path, behind its side
abbrev pub place_text : Tree → Path → Name → List ℕ
place_text view p k = side_of view (p ++ k ∷ []) ++ path_text (p ++ k ∷ [])

-- the line of names that are alike
abbrev pub alike_line : Tree → AlikeNames → List ℕ
alike_line view s = codes "alike" ++ (flat_map (place_text view s.parent) (ascending s.names) ++ line_feed)

-- ---- the numbers of a side

-- the changes of a side, and how many entries it has before them
pub record SideValue : Type 0 where
  pub changes : List Change
  pub entries : ℕ

-- a number, and what stands behind it
abbrev pub counted : ℕ → List ℕ → List ℕ
counted number behind = decimal number ++ behind

abbrev pub entries_text : SideValue → List ℕ
entries_text s =
    counted s.entries (codes " entries: ") ++ (counted (entries_of Added s.changes) (codes " added, ")
    ++ (counted (entries_of Deleted s.changes) (codes " deleted, ") ++ counted (entries_changed s.changes) (codes " changed" ++ line_feed)))

abbrev pub numbers_line : List ℕ → SideValue → List ℕ
numbers_line side s =
    side ++ (codes ": " ++ (counted (number_of Added s.changes) (codes " added, ") ++ (counted (number_of Deleted s.changes) (codes " deleted; ")
    ++ entries_text s)))

-- none where nothing changes
abbrev pub numbers_text : List ℕ → SideValue → List ℕ
numbers_text side s = cond (length s.changes == 0) [] (numbers_line side s)

abbrev pub first_text : Bool → List ℕ
first_text true = codes "first run" ++ line_feed
first_text false = []

-- whether there was nothing to agree with, the old view of A, the changes of both sides, the names that are alike, and the
-- conflicts that remain
pub record ChangesValue : Type 0 where
  pub first : Bool
  pub view : Tree
  pub left : SideValue
  pub right : SideValue
  pub alike : List AlikeNames
  pub conflicts : List Conflict

abbrev pub changes_text : ChangesValue → List ℕ
changes_text t =
    first_text t.first ++ (flat_map (change_line (codes "A")) t.left.changes ++ (flat_map (change_line (codes "B")) t.right.changes
    ++ (flat_map (alike_line t.view) t.alike ++ (flat_map conflict_line t.conflicts ++ (numbers_text (codes "A") t.left
    ++ (numbers_text (codes "B") t.right ++ number_line (length t.conflicts)))))))

abbrev pub side_with : List Change → ℕ → SideValue
side_with changes entries = record { changes = changes; entries = entries }

abbrev pub changes_of : Changes → ChangesValue
changes_of t = record {
  first = t.first;
  view = t.view.now;
  left = side_with t.left.now t.left_entries;
  right = side_with t.right.now t.right_entries;
  alike = t.alike.now;
  conflicts = t.conflicts.now;
}
