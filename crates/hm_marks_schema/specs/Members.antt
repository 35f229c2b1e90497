-- Members of the schema of bookmarks: at its root, at the node of folders, and at that of items.
use Rattle.std.specs.Prelude.{◌≡◌, ◌<◌, ◌⊎◌, ℕ, [], ◌∷◌, Some, All}
use Rattle.hm_tree.specs.Classes.{IsClean}
use Rattle.hm_tree.specs.Names.{Name, name_cmp}
use Rattle.hm_tree.specs.Nodes.{Tree, depth, edges}
use Rattle.hm_tree.specs.States.{state}
use Rattle.hm_schema.specs.Membership.{IsMember}
use Rattle.hm_tree_parts.specs.Edges.{IsEdge, IsValue}
use Rattle.hm_tree_parts.specs.Lists.{IsItem, ListOf}
use Rattle.hm_book_items.specs.Items.{IsTree}
use Rattle.hm_book_items.specs.ItemTrees.{Lists, AreLists}
use Rattle.hm_book_cards.specs.Books.{id}
use Rattle.hm_marks.specs.FolderTrees.{folder_name, url_name}
use Rattle.hm_marks_schema.specs.Schema.{bar_name, other_name, marks_schema}

-- a member at the node of a place
abbrev pub IsAt : ℕ → Tree → Type 0
IsAt place t = IsMember marks_schema (id place) (state (Some t))

-- two edges: bar and other, to what is in a set
pub record HasFolders (In : Tree → Type 0) (t : Tree) : Type 0 where
  pub bar_tree : Tree
  pub other_tree : Tree
  pub tree : edges t ≡ (bar_name, bar_tree) ∷ (other_name, other_tree) ∷ []
  pub bar : In bar_tree
  pub other : In other_tree

-- below clean keys stand lists with an item at least, of trees that are in a set
pub record IsFolderOf (In : Tree → Type 0) (t : Tree) : Type 0 where
  pub lists : Lists
  pub below : AreLists (edges t) lists
  pub tree : IsTree name_cmp lists
  pub keys : All (λ l. IsClean l.0) lists
  pub items : All (λ l. All In l.1) lists

-- one edge: folder, to what is in a set, or url, to what is in another
abbrev pub IsItemOf : (Tree → Type 0) → (Tree → Type 0) → Tree → Type 0
IsItemOf Folder Link t = ((u : Tree) × IsEdge folder_name u t × Folder u) ⊎ ((v : Tree) × IsEdge url_name v t × Link v)

-- an item of a clean key, less deep than a number
pub record IsGood (n : ℕ) (k : Name) (t : Tree) : Type 0 where
  pub key : IsClean k
  pub item : IsAt 3 t
  pub less : depth t < n

-- a clean address
pub record HasAddress (t : Tree) : Type 0 where
  pub text : Name
  pub is : IsValue text t
  pub clean : IsClean text

-- the two folders of a file
pub record AreFoldersOf (t bar_tree other_tree : Tree) : Type 0 where
  pub tree : edges t ≡ (bar_name, bar_tree) ∷ (other_name, other_tree) ∷ []
  pub bar : IsAt 1 bar_tree
  pub other : IsAt 1 other_tree

-- the first item of a list, and the list of the others
pub record IsNextItem (list item others : Tree) : Type 0 where
  pub is : IsItem item others list
  pub item_at : IsAt 3 item
  pub others_at : ListOf (IsAt 3) others
