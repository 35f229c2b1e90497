-- What a node from before is, by the item that it is of.
use Rattle.std.proofs.Common.{◌≡◌, ℕ, true, false, true≢false, List, [], Option, Some, None, refl, sym, ap, ◌∙◌}
use Rattle.std.specs.Borrow.{Bor}
use Rattle.std.specs.Prelude.{unwrap_or, option_map}
use Rattle.hm_tree.specs.Cleaned.{cleaned}
use Rattle.hm_marks.specs.Contents.{a_link, a_folder}
use Rattle.serde_json.specs.Data.{Data, object, Items, no_items, Members}
use Rattle.serde_json.specs.View.{view}
use Rattle.serde_json.specs.declared.value.Value.{Value}
use Rattle.hm_json_nodes.specs.Nodes.{text_at, name_key, name_at, children_of, is_link, is_folder, Contents, AreNodes, no_nodes, a_link_node, a_folder_node, emptied}
use Rattle.hm_json_nodes.specs.Anew.{OldItem, IsNodeOf, IsOld, item_key}
use Rattle.hm_json_nodes.proofs.Filled.{name_filled}
use Rattle.hm_json_nodes.proofs.EachNode.{link_no_folder}

pub record IsLinkOf (d : Data) (ms : Members) : Type 0 where
  pub is : d ≡ object ms
  pub kind : is_link d ≡ true

pub old_link : (d : Data) (ms : Members) → IsNodeOf d (a_link ms) → IsLinkOf d ms
old_link _ _ (a_link_node kind no_nodes) = record { is = refl; kind = kind }

pub record IsFolderOf (d : Data) (f : Members) (inside : Contents) : Type 0 where
  pub members : Members
  pub children : Items
  pub is : d ≡ object members
  pub kind : is_folder d ≡ true
  pub children_are : children_of d ≡ Some children
  pub empty : f ≡ emptied members
  pub nodes : AreNodes children inside

pub old_folder : (d : Data) (f : Members) (inside : Contents) → IsNodeOf d (a_folder f inside) → IsFolderOf d f inside
old_folder _ _ _ (a_folder_node {ms = ms} {children = children} kind are nodes no_nodes) =
    record { members = ms; children = children; is = refl; kind = kind; children_are = are; empty = refl; nodes = nodes }

folder_no_link : (d : Data) → is_folder d ≡ true → is_link d ≡ true → ⊥
folder_no_link d folder link = true≢false (sym folder ∙ link_no_folder d link)

-- an item whose node is a link, or isn't
pub record IsALinkItem (d : Data) (i : OldItem) : Type 0 where
  pub members : Members
  pub item_is : i ≡ a_link members
  pub is : d ≡ object members

pub link_item : (d : Data) (i : OldItem) → IsNodeOf d i → is_link d ≡ true → IsALinkItem d i
link_item d (a_link ms) h e = record { members = ms; item_is = refl; is = (old_link d ms h).is }
link_item d (a_folder f inside) h e = absurd (folder_no_link d (old_folder d f inside h).kind e)

pub record IsAFolderItem (d : Data) (i : OldItem) : Type 0 where
  pub folder : Members
  pub inside : Contents
  pub item_is : i ≡ a_folder folder inside
  pub of : IsFolderOf d folder inside

pub folder_item : (d : Data) (i : OldItem) → IsNodeOf d i → is_link d ≡ false → IsAFolderItem d i
folder_item d (a_link ms) h e = absurd (true≢false (sym (old_link d ms h).kind ∙ e))
folder_item d (a_folder f inside) h e = record { folder = f; inside = inside; item_is = refl; of = old_folder d f inside h }

-- the item of a value that stood in the file
pub record IsOver (v : Value) (o : Option OldItem) : Type 0 where
  pub item : OldItem
  pub item_is : o ≡ Some item
  pub of : IsNodeOf (view v) item

pub over : (v : Value) (o : Option OldItem) → IsOld (Some v) o → IsOver v o
over v None h = absurd h
over v (Some i) h = record { item = i; item_is = refl; of = h }

pub over_none : (o : Option OldItem) → IsOld None o → o ≡ None
over_none None h = refl
over_none (Some i) h = absurd h

-- ---- the key

-- the title of a node is the key of its item
pub title_of : (d : Data) (i : OldItem) → IsNodeOf d i → cleaned (unwrap_or (text_at name_key d) []) ≡ item_key i
title_of d (a_link ms) h = ap (λ (d : Data). cleaned (unwrap_or (text_at name_key d) [])) (old_link d ms h).is
title_of d (a_folder f inside) h =
    let of = old_folder d f inside h in
    ap (λ (d : Data). cleaned (unwrap_or (text_at name_key d) [])) of.is ∙ sym (name_filled no_items of.members) ∙ ap (name_at name_key) (sym of.empty)

-- a text that is lent, or an empty one
pub text_or_empty : (o : Option (Bor (List ℕ))) (d : Bor (List ℕ)) (text : Option (List ℕ)) → d.now ≡ [] → option_map (λ (b : Bor (List ℕ)). b.now) o ≡ text
    → (unwrap_or o d).now ≡ unwrap_or text []
text_or_empty None d text empty is = empty ∙ ap (λ (o : Option (List ℕ)). unwrap_or o []) is
text_or_empty (Some b) d text empty is = ap (λ (o : Option (List ℕ)). unwrap_or o []) is
