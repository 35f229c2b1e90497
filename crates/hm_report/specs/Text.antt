-- How conflicts are said, each in one line, and their number in the last.
use Rattle.std.specs.Prelude.{ℕ, zero, suc, List, [], ◌∷◌, ◌++◌, length, codes}
use Rattle.std.specs.Fmt.{decimal}
use Rattle.std.specs.List.{flat_map}
use Rattle.hm_tree.specs.Names.{Name}
use Rattle.hm_tree.specs.Nodes.{Shape, bare, edge}
use Rattle.hm_tree.specs.Sets.{ascending}
use Rattle.hm_tree_spelling.specs.Spelling.{path_text}
use Rattle.hm_tree_text.specs.Text.{text, whole}
use Rattle.hm_schema.specs.Values.{Names}
use Rattle.hm_report.specs.declared.conflict.Conflict.{Conflict}
use Rattle.hm_report.specs.declared.conflict.Why.{Why}
use Rattle.hm_report.specs.declared.conflict.Why.TheVariants as why

abbrev pub line_feed : List ℕ
line_feed = 10 ∷ []

-- each of the names over an empty tree
abbrev pub over_empty : List Name → Shape
over_empty [] = bare
over_empty (k ∷ names) = edge k bare (over_empty names)

-- a set of names is said as the text of the tree that has them over empty trees
abbrev pub set_text : Names → List ℕ
set_text names = text whole (over_empty (ascending names))

abbrev pub why_text : Why → List ℕ
why_text why.Earlier = codes "earlier"
why_text (why.Lost kept) = codes "lost " ++ path_text kept
why_text (why.Names left right) = codes "names " ++ (set_text left ++ (codes " " ++ set_text right))

abbrev pub conflict_line : Conflict → List ℕ
conflict_line c = codes "conflict " ++ (path_text c.path ++ (codes " " ++ (why_text c.why ++ line_feed)))

-- the number of conflicts that remain, if there are any
abbrev pub number_line : ℕ → List ℕ
number_line zero = codes "agreed" ++ line_feed
number_line (suc n) = codes "conflicts " ++ (decimal (suc n) ++ line_feed)

abbrev pub report_text : List Conflict → List ℕ
report_text conflicts = flat_map conflict_line conflicts ++ number_line (length conflicts)
