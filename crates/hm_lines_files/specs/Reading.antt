-- The items and the tree of a file's components, or why there are none.
use Rattle.std.specs.Prelude.{◌≡◌, ℕ, ◌+◌, List, ◌∷◌, ◌++◌, length, All, Option, Some, None}
use Rattle.hm_tree.specs.Names.{Name}
use Rattle.hm_tree.specs.Nodes.{Tree}
use Rattle.hm_book_items.specs.ItemTrees.{IsShallow, IsTooDeep}
use Rattle.hm_book_cards.specs.Cards.{Shown}
use Rattle.hm_lines_files.specs.Components.{Component, HasKey, item_of, items_of}
use Rattle.hm_lines_files.specs.declared.fault.ItemFault.{ItemFault}
use Rattle.hm_lines_files.specs.declared.fault.ItemFault.TheVariants.{NoKey, Memory}

-- the component of this number, from 1, has no key, and each before it has
pub record IsFirstKeyless (key : Name) (cs : List Component) (number : ℕ) : Type 0 where
  pub before : List Component
  pub component : Component
  pub after : List Component
  pub are : cs ≡ before ++ component ∷ after
  pub keyed : All (HasKey key) before
  pub keyless : ¬ (HasKey key component)
  pub place : number ≡ length before + 1

-- the item of a component that has a key, and none of one that has none
abbrev pub IsItem : Name → Shown → Component → Option (Name × Tree) → Type 0
IsItem key shown c None = ¬ (HasKey key c)
IsItem key shown c (Some item) = HasKey key c × (item ≡ item_of key shown c)

-- each component has a key, and this is their tree, no deeper than allowed
pub record IsTreeOf (key : Name) (shown : Shown) (cs : List Component) (deepest : ℕ) (t : Tree) : Type 0 where
  pub keyed : All (HasKey key) cs
  pub shallow : IsShallow (items_of key shown cs) deepest t

pub record AreTooDeep (key : Name) (shown : Shown) (cs : List Component) (deepest depth : ℕ) : Type 0 where
  pub keyed : All (HasKey key) cs
  pub too_deep : IsTooDeep (items_of key shown cs) deepest depth

-- why components are no items
abbrev pub IsItemFault : Name → List Component → ItemFault → Type 0
IsItemFault key cs (NoKey number) = IsFirstKeyless key cs number
IsItemFault key cs Memory = Unit {0}
