-- The nodes of a folder that are left, while they are written anew one after another.
use Rattle.std.proofs.Common.{◌≡◌, List, [], ◌∷◌, ◌++◌, refl, sym, ap, ◌∙◌, subst, append_assoc, append-nil, length, rules}
use Rattle.std.specs.declared.alloc.Global.{Global}
use Rattle.std.specs.declared.vec.IntoIter.{IntoIter}
use Rattle.std.specs.Vec.Iter.{into_iter_items, into_iter_len}
use Rattle.hm_facts.proofs.Lists.{no_items as no_elements}
use Rattle.hm_tree.specs.Names.{Name}
use Rattle.hm_book_items.specs.ItemTrees.{Lists}
use Rattle.hm_book_items.specs.Plans.{keys_of}
use Rattle.hm_book_items.specs.declared.new_trees.NewTrees.{NewTrees}
use Rattle.hm_marks.specs.Contents.{nothing, a_link, a_folder}
use Rattle.hm_marks.specs.Layouts.{items_of}
use Rattle.hm_marks.specs.Pieces.{surviving, staying}
use Rattle.serde_json.specs.Data.{Data, Items, no_items, item}
use Rattle.serde_json.specs.View.{view, items_view}
use Rattle.serde_json.specs.declared.value.Value.{Value}
use Rattle.hm_json_nodes.specs.Nodes.{json, Contents, AreNodes, no_nodes, a_link_node, a_folder_node, emptied}
use Rattle.hm_marks_schema.specs.Taken.{HaveTaken}
use Rattle.hm_json_nodes.specs.Anew.{OldItem, Piece, IsNodeOf, item_entry, Adds}
use Rattle.hm_json_nodes.proofs.Spelling.{adds_none, adds_more}

-- some nodes of a folder are left, of trees that those before them have taken; what stays of these was put behind others
pub record AreLeft (lists : Lists) (all : Contents) (trees : NewTrees) (left : List Value) (old new : List Value) : Type 0 where
  pub before : List (Name × OldItem)
  pub rest : Contents
  pub nodes : AreNodes (items_view left) rest
  pub have : HaveTaken trees lists (keys_of before)
  pub pieces : List Piece
  pub adds : Adds old new pieces
  pub staying_is : staying json lists [] all ≡ pieces ++ staying json lists before rest
  pub items_are : items_of json all ≡ before ++ items_of json rest

pub left_all : (lists : Lists) (c : Contents) (trees : NewTrees) (vs new : List Value) → HaveTaken trees lists [] → AreNodes (items_view vs) c → AreLeft lists c trees vs new new
left_all lists c trees vs new have nodes =
    record { before = []; rest = c; nodes = nodes; have = have; pieces = []; adds = adds_none new; staying_is = refl; items_are = refl }

-- ---- the first of them

pub record IsFirstOf (lists : Lists) (before : List (Name × OldItem)) (d : Data) (ds : Items) (rest : Contents) : Type 0 where
  pub first : OldItem
  pub of : IsNodeOf d first
  pub more : Contents
  pub nodes : AreNodes ds more
  pub staying_is : staying json lists before rest ≡ surviving json lists before (item_entry first) ++ staying json lists (before ++ item_entry first ∷ []) more
  pub items_are : items_of json rest ≡ item_entry first ∷ items_of json more

pub first_of : (lists : Lists) (before : List (Name × OldItem)) (d : Data) (ds : Items) (rest : Contents) → AreNodes (item d ds) rest → IsFirstOf lists before d ds rest
first_of lists before _ _ _ (a_link_node {ms = ms} {rest = rest} kind nodes) =
    record { first = a_link ms; of = a_link_node kind no_nodes; more = rest; nodes = nodes; staying_is = refl; items_are = refl }
first_of lists before _ _ _ (a_folder_node {ms = ms} {inside = inside} {rest = rest} kind children within nodes) =
    record {
      first = a_folder (emptied ms) inside;
      of = a_folder_node kind children within no_nodes;
      more = rest;
      nodes = nodes;
      staying_is = refl;
      items_are = refl;
    }

-- the first one took its tree, and what stays of it was put behind the others
module _ (lists : Lists) (c : Contents) (trees then : NewTrees) (v : Value) (vs old new after : List Value) (l : AreLeft lists c trees (v ∷ vs) old new) where
  pub first_left : IsFirstOf lists l.before (view v) (items_view vs) l.rest
  first_left = first_of lists l.before (view v) (items_view vs) l.rest l.nodes

  pub left_more : HaveTaken then lists (keys_of (l.before ++ item_entry first_left.first ∷ [])) → Adds new after (surviving json lists l.before (item_entry first_left.first))
      → AreLeft lists c then vs old after
  left_more have adds =
      let i = first_left.first in
      let mine = surviving json lists l.before (item_entry i) in
      record {
        before = l.before ++ item_entry i ∷ [];
        rest = first_left.more;
        nodes = first_left.nodes;
        have = have;
        pieces = l.pieces ++ mine;
        adds = adds_more old new after l.pieces mine l.adds adds;
        staying_is =
            l.staying_is ∙ ap (λ (ps : List Piece). l.pieces ++ ps) first_left.staying_is
            ∙ sym (append_assoc l.pieces mine (staying json lists (l.before ++ item_entry i ∷ []) first_left.more));
        items_are =
            l.items_are ∙ ap (λ (xs : List (Name × OldItem)). l.before ++ xs) first_left.items_are
            ∙ sym (append_assoc l.before (item_entry i ∷ []) (items_of json first_left.more));
      }

-- ---- none of them

len_is : (u : IntoIter Value Global) → length (into_iter_items u) ≡ into_iter_len u
len_is u = search rules

pub over : (u : IntoIter Value Global) → into_iter_len u ≡ 0 → into_iter_items u ≡ []
over u none = no_elements (into_iter_items u) (len_is u ∙ none)

none_rest : (rest : Contents) → AreNodes no_items rest → rest ≡ nothing
none_rest _ no_nodes = refl

module _ (lists : Lists) (c : Contents) (trees : NewTrees) (old new : List Value) (l : AreLeft lists c trees [] old new) where
  none : l.rest ≡ nothing
  none = none_rest l.rest l.nodes

  pub all_added : Adds old new (staying json lists [] c)
  all_added =
      subst (Adds old new)
      (sym (l.staying_is ∙ ap (λ (rest : Contents). l.pieces ++ staying json lists l.before rest) none ∙ append-nil l.pieces)) l.adds

  pub all_taken : HaveTaken trees lists (keys_of (items_of json c))
  all_taken =
      subst (λ (xs : List (Name × OldItem)). HaveTaken trees lists (keys_of xs))
      (sym (l.items_are ∙ ap (λ (rest : Contents). l.before ++ items_of json rest) none ∙ append-nil l.before)) l.have
