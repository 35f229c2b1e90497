-- Cards: below some names stand sets of texts. In a tree a text is a name to the empty tree.
use Rattle.std.specs.Prelude.{◌≡◌, ◌≤◌, Bool, false, IsTrue, IsUtf8, List, [], ◌∷◌, map, All, Option, Some, None}
use Rattle.std.specs.List.{AllZip}
use Rattle.std.specs.FinSet.{FinSet, contains, len, from_list}
use Rattle.hm_tree.specs.Classes.{IsFilled}
use Rattle.hm_tree.specs.Names.{Name, name_cmp}
use Rattle.hm_tree.specs.Nodes.{Tree, node, empty, below}
use Rattle.hm_tree.specs.Sets.{ascending}
use Rattle.hm_schema.specs.Permitted.{names_of}

-- the names that cards may have, each with whether many texts may stand below it, or one alone; names rise
abbrev pub Shown : Type 0
Shown = List (Name × Bool)

-- the texts below each name
abbrev pub Texts : Type 0
Texts = List (Name × FinSet name_cmp)

abbrev pub no_texts : FinSet name_cmp
no_texts = from_list []

-- ---- trees of texts

abbrev pub leaf : Name → Name × Tree
leaf k = (k, empty)

-- an edge to the empty tree for each text
abbrev pub texts_tree : FinSet name_cmp → Tree
texts_tree texts = node (map leaf (ascending texts))

-- the edge of a name to its texts; none where there are none
abbrev pub edge_of : Name → Tree → List Name → List (Name × Tree) → List (Name × Tree)
edge_of k t [] rest = rest
edge_of k t (x ∷ xs) rest = (k, t) ∷ rest

abbrev pub card_edges : Texts → List (Name × Tree)
card_edges [] = []
card_edges (e ∷ es) = edge_of e.0 (texts_tree e.1) (ascending e.1) (card_edges es)

-- the tree of a card with these texts: an edge for each name that has some
abbrev pub card_tree : Texts → Tree
card_tree texts = node (card_edges texts)

-- the texts that stand there, or none
abbrev pub texts_in : Option Tree → FinSet name_cmp
texts_in None = no_texts
texts_in (Some t) = names_of t

-- the texts of a tree right below a name; none where the name isn't there
abbrev pub texts_at : Name → Tree → FinSet name_cmp
texts_at k t = texts_in (below k t)

-- ---- cards

-- each text is UTF-8
abbrev pub IsSound : FinSet name_cmp → Type 0
IsSound texts = (k : Name) → IsTrue (contains texts k) → IsUtf8 k

abbrev pub AreSound : Texts → Type 0
AreSound texts = All (λ e. IsSound e.1) texts

-- texts aren't of spaces alone, and there is one at the most where there may not be many
pub record Suits (many : Bool) (texts : FinSet name_cmp) : Type 0 where
  pub sound : IsSound texts
  pub filled : (k : Name) → IsTrue (contains texts k) → IsFilled k
  pub few : many ≡ false → len texts ≤ 1

-- each name that may be there has texts that suit it
abbrev pub AllSuit : Shown → Texts → Type 0
AllSuit shown texts = AllZip (λ s e. (s.0 ≡ e.0) × Suits s.1 e.1) shown texts

-- the tree of a card has texts below some of the names that cards may have
pub record IsCard (shown : Shown) (t : Tree) : Type 0 where
  pub texts : Texts
  pub suit : AllSuit shown texts
  pub is : t ≡ card_tree texts

-- the texts of a tree below each name that cards may have
abbrev pub texts_of : Shown → Tree → Texts
texts_of shown t = map (λ s. (s.0, texts_at s.0 t)) shown
