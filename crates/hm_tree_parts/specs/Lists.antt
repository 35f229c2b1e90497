-- Lists as trees: an empty tree, or a first item under *h and the list of the others under *t.
use Rattle.std.specs.Prelude.{◌≡◌, List, [], ◌∷◌}
use Rattle.hm_tree.specs.Names.{Name}
use Rattle.hm_tree.specs.Nodes.{Tree, edges}

abbrev pub head : Name
head = 42 ∷ 104 ∷ []

abbrev pub tail : Name
tail = 42 ∷ 116 ∷ []

abbrev pub IsNil : Tree → Type 0
IsNil t = edges t ≡ []

-- the edges of a tree are *h, to x, and *t, to r
abbrev pub IsItem : Tree → Tree → Tree → Type 0
IsItem x r t = edges t ≡ (head, x) ∷ (tail, r) ∷ []

-- a list of which each item is in a set
pub data ListOf (C : Tree → Type 0) : Tree → Type 0 where
  no_items : {t : Tree} → IsNil t → ListOf C t
  an_item : {x r t : Tree} → IsItem x r t → C x → ListOf C r → ListOf C t

abbrev pub IsList : Tree → Type 0
IsList = ListOf (λ t. Unit {0})

-- these are the items of a list, in order
pub data HasItems : Tree → List Tree → Type 0 where
  none_left : {t : Tree} → IsNil t → HasItems t []
  and_then : {x r t : Tree} {xs : List Tree} → IsItem x r t → HasItems r xs → HasItems t (x ∷ xs)

-- an item of a set, and a list of such items behind it
pub record ItemIn (C : Tree → Type 0) (x r : Tree) : Type 0 where
  pub first : C x
  pub rest : ListOf C r

-- a list with an item at least
pub record SomeItems (C : Tree → Type 0) (t : Tree) : Type 0 where
  pub first : Tree
  pub rest : Tree
  pub is : IsItem first rest t
  pub in_set : ItemIn C first rest
