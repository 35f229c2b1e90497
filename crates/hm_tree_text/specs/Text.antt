-- The text of trees and archives, one for each value:
--     tree = "{" "}" / full          full = "{" edge *( "," edge ) "}"
--     edge = name [ ":" full ]
-- In an archive a "!" may stand in place of a tree, and in place of what stands behind a ":".
use Rattle.std.specs.Prelude.{ℕ, Bool, true, false, T, List, [], ◌∷◌, ◌++◌, Some, None, codes}
use Rattle.hm_tree_spelling.specs.Spelling.{spelled}
use Rattle.hm_tree.specs.Names.{Name}
use Rattle.hm_tree.specs.Nodes.{Shape, bare, mark, edge, Node, Tree}
use Rattle.hm_tree.specs.Archives.{Archive}

-- where a text stands: in place of a whole tree, behind a name, or behind an edge
pub data Position : Type 0 where
  whole : Position
  below : Position
  further : Position

-- what is written where there is no edge, in place of a mark, and before an edge; no mark stands behind an edge
abbrev pub none : Position → List ℕ
none whole = codes "{}"
none below = []
none further = codes "}"

abbrev pub exclaimed : Position → List ℕ
exclaimed whole = codes "!"
exclaimed below = codes ":!"
exclaimed further = codes "!"

abbrev pub before : Position → List ℕ
before whole = codes "{"
before below = codes ":{"
before further = codes ","

abbrev pub text : Position → Shape → List ℕ
text p bare = none p
text p mark = exclaimed p
text p (edge name child more) = before p ++ (spelled name ++ (text below child ++ text further more))

abbrev pub line_feed : List ℕ
line_feed = 10 ∷ []

-- the file of a tree, and that of an archive: nothing where its root is missing
abbrev pub tree_text : Tree → List ℕ
tree_text t = text whole t.shape ++ line_feed

abbrev pub archive_text : Archive → List ℕ
archive_text None = []
archive_text (Some t) = text whole t.shape ++ line_feed

-- a mark stands only where m allows it
abbrev pub HasAllowedMarks : Bool → Shape → Type 0
HasAllowedMarks m bare = Unit {0}
HasAllowedMarks m mark = T m
HasAllowedMarks m (edge name child more) = HasAllowedMarks m child × HasAllowedMarks m more

-- ---- the text of a node by its edges

-- a name with what stands behind it
abbrev pub edge_text : Name → Shape → List ℕ
edge_text name child = spelled name ++ text below child

-- what stands behind an edge: whether there are more
abbrev pub separator : Bool → ℕ
separator true = 44
separator false = 125

abbrev pub is_more : {X : Type 0} → List X → Bool
is_more [] = false
is_more (x ∷ xs) = true

-- each edge with what stands behind it
abbrev pub inside : {m : Bool} → List (Name × Node m) → List ℕ
inside [] = []
inside (e ∷ es) = edge_text e.0 e.1.shape ++ separator (is_more es) ∷ inside es

-- each edge with a comma behind it
abbrev pub commas : {m : Bool} → List (Name × Node m) → List ℕ
commas [] = []
commas (e ∷ es) = edge_text e.0 e.1.shape ++ 44 ∷ commas es
