-- Items that are sought below a key.
use Rattle.std.proofs.Common.{◌≡◌, zero, suc, List, [], ◌∷◌, Some, sym, ◌∙◌, subst, arith}
use Rattle.std.specs.Prelude.{Contains}
use Rattle.std.proofs.lemmas.Option.{same_Some}
use Rattle.hm_tree.specs.Names.{Name}
use Rattle.hm_tree.specs.Nodes.{Tree, below}
use Rattle.hm_tree_parts.specs.Lists.{IsNil, IsItem, HasItems, none_left, and_then}
use Rattle.hm_tree_parts.proofs.OneEdge.{one_edge}
use Rattle.hm_tree_parts.proofs.OneList.{one_head, one_tail, nil_item}
use Rattle.hm_marks.specs.Among.{IsAmong}
use Rattle.hm_marks.specs.FolderTrees.{folder_name, IsLinkTree, IsFolderTree}
use Rattle.hm_marks.proofs.OneLink.{one_address, not_both}

-- no item is in an empty list
no_item : (list : Tree) (items : List Tree) (t : Tree) → IsNil list → HasItems list items → Contains items t → ⊥
no_item list [] t nil (none_left is) there = let none = there.1 in absurd (omega arith)
no_item list (x ∷ items) t nil (and_then {r = r} is has) there = nil_item x r list nil is

-- one alone is in a list behind whose first none stands
one_item : (list first others : Tree) (items : List Tree) (t : Tree) → IsItem first others list → IsNil others → HasItems list items → Contains items t → t ≡ first
one_item list first others [] t is nil (none_left none) there = absurd (nil_item first others list none is)
one_item list first others (x ∷ items) t is nil (and_then {r = r} item has) (zero, lt, at) = sym at ∙ one_head x r first others list item is
one_item list first others (x ∷ items) t is nil (and_then {r = r} item has) (suc i, lt, at) =
    absurd (no_item others items t nil (subst (λ l. HasItems l items) (one_tail x r first others list item is) has) (i, omega arith, at))

module _ (k : Name) (whole list : Tree) (at : below k whole ≡ Some list) where
  -- the list that was found is the one in which items are
  list_has : (t : Tree) (among : IsAmong k whole t) → HasItems list among.items
  list_has t among = subst (λ l. HasItems l among.items) (same_Some among.list list (sym among.list_is ∙ at)) among.has

  pub none_among : IsNil list → (t : Tree) → IsAmong k whole t → ⊥
  none_among nil t among = no_item list among.items t nil (list_has t among) among.there

  pub one_among : (first others : Tree) → IsItem first others list → IsNil others → (t : Tree) → IsAmong k whole t → t ≡ first
  one_among first others is nil t among = one_item list first others among.items t is nil (list_has t among) among.there

-- what the one item is, all items are
module _ (k : Name) (whole one : Tree) (alone : (t : Tree) → IsAmong k whole t → t ≡ one) where
  pub other_address : (n m : Name) → IsLinkTree n one → (n ≡ m → ⊥) → (t : Tree) → IsLinkTree m t → IsAmong k whole t → ⊥
  other_address n m is other t link among = other (one_address n m one is (subst (IsLinkTree m) (alone t among) link))

  pub no_link : (u : Tree) → IsFolderTree u one → (m : Name) (t : Tree) → IsLinkTree m t → IsAmong k whole t → ⊥
  no_link u is m t link among = not_both m u one (subst (IsLinkTree m) (alone t among) link) is

  pub no_folder : (n : Name) → IsLinkTree n one → (u t : Tree) → IsFolderTree u t → IsAmong k whole t → ⊥
  no_folder n is u t folder among = not_both n u one is (subst (IsFolderTree u) (alone t among) folder)

  pub one_folder : (v : Tree) → IsFolderTree v one → (u t : Tree) → IsFolderTree u t → IsAmong k whole t → u ≡ v
  one_folder v is u t folder among = one_edge folder_name u v one (subst (IsFolderTree u) (alone t among) folder) is
