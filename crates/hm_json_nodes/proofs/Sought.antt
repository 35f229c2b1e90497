-- Nodes that a tree lacks, and what is left of a folder behind a node that was passed.
use Rattle.std.proofs.Common.{◌≡◌, ◌<◌, ℕ, ◌-◌, suc, true, false, true≢false, List, [], ◌∷◌, length, ◌++◌, refl, sym, ap, ◌∙◌, subst, arith}
use Rattle.std.specs.Prelude.{unwrap_or}
use Rattle.std.proofs.lemmas.List.Elements.{All-head}
use Rattle.std.proofs.lemmas.Option.{same_Some}
use Rattle.hm_tree.specs.Cleaned.{cleaned}
use Rattle.hm_tree.specs.Names.{Name}
use Rattle.hm_tree.specs.Nodes.{Tree, edges}
use Rattle.hm_marks.specs.Among.{IsAmong, HasLeft}
use Rattle.hm_marks.specs.Contents.{folder}
use Rattle.hm_marks.specs.FolderTrees.{IsLinkTree, IsFolderTree}
use Rattle.hm_marks.specs.Layouts.{items_of}
use Rattle.hm_marks.proofs.Among.{link_there, past_link, folder_there, one_has_all, past_folder}
use Rattle.serde_json.specs.Data.{Data, object, Items, no_items, item, Members}
use Rattle.serde_json.specs.View.{view, items_view}
use Rattle.serde_json.specs.declared.value.Value.{Value}
use Rattle.hm_json_nodes.specs.Nodes.{name_key, url_key, text_at, name_at, children_of, is_link, is_folder, emptied, json, Contents, AreNodes, no_nodes, a_link_node, a_folder_node}
use Rattle.hm_json_nodes.specs.Numbers.{below, listed, is_node}
use Rattle.hm_json_nodes.specs.Seeking.{IsLacking, IsOtherTree}
use Rattle.hm_json_nodes.proofs.EachNode.{link_no_folder, all_nodes}
use Rattle.hm_json_nodes.proofs.Filled.{name_filled}
use Rattle.hm_json_nodes.proofs.Seen.{IsALink, IsAFolder}

-- a text that is spelled in a node is that of its members
same_name : (k : List ℕ) (ms : Members) (d : Data) (text : List ℕ) → object ms ≡ d → text ≡ unwrap_or (text_at k d) [] → name_at k ms ≡ cleaned text
same_name k ms d text is spelled = ap (λ d. cleaned (unwrap_or (text_at k d) [])) is ∙ ap cleaned (sym spelled)

-- ---- a link

pub link_lacking : (t : Tree) (d : Data) (n a : List ℕ) → IsALink d n a → ((u : Tree) → IsLinkTree (cleaned a) u → IsAmong (cleaned n) t u → ⊥) → IsLacking t d
link_lacking t d n a h lacks missing behind c are has = go d behind c are h has
  where
    go : (d : Data) (ds : Items) (c : Contents) → AreNodes (item d ds) c → IsALink d n a → HasLeft json t missing c → ⊥
    go _ _ _ (a_link_node {ms = ms} {rest = rest} kind more) h has =
        link_there json t missing ms rest has
        (λ u tree among. lacks u (subst (λ (a : Name). IsLinkTree a u) (same_name url_key ms (object h.members) a h.is h.address) tree)
        (subst (λ (k : Name). IsAmong k t u) (same_name name_key ms (object h.members) n h.is h.name) among))
    go _ _ _ (a_folder_node {ms = ms} kind are within more) h has =
        true≢false (sym kind ∙ link_no_folder (object ms) (subst (λ d. is_link d ≡ true) (sym h.is) h.kind))

-- ---- a folder

-- a folder with this name and these children stands first
record StandsFirst (n : List ℕ) (children : Items) (c : Contents) : Type 0 where
  members : Members
  inside : Contents
  rest : Contents
  is : c ≡ folder members inside rest
  key : name_at name_key members ≡ cleaned n
  nodes : AreNodes children inside

stands_first : (d : Data) (n : List ℕ) (children ds : Items) (c : Contents) → AreNodes (item d ds) c → IsAFolder d n children → StandsFirst n children c
stands_first _ n children _ _ (a_link_node {ms = ms} kind more) h =
    absurd (true≢false (sym h.kind ∙ ap is_folder (sym h.is) ∙ link_no_folder (object ms) kind))
stands_first _ n children _ _ (a_folder_node {ms = ms} {children = es} {inside = inside} {rest = rest} kind are within more) h = record {
  members = emptied ms;
  inside = inside;
  rest = rest;
  is = refl;
  key = name_filled no_items ms ∙ same_name name_key ms (object h.members) n h.is h.name;
  nodes = subst (λ ds. AreNodes ds inside) (same_Some es children (sym are ∙ ap children_of h.is ∙ h.children_are)) within;
}

module _ (t : Tree) (d : Data) (n : List ℕ) (children : Items) (h : IsAFolder d n children) where
  -- there is no folder of its name
  pub folder_lacking : ((u v : Tree) → IsFolderTree u v → IsAmong (cleaned n) t v → ⊥) → IsLacking t d
  folder_lacking lacks missing ds c are has =
      let f = stands_first d n children ds c are h in
      folder_there json t missing f.members f.inside f.rest (subst (λ c. HasLeft json t missing c) f.is has)
      (λ u v tree among. lacks u v tree (subst (λ (k : Name). IsAmong k t v) f.key among))

  -- or there is one alone, which isn't that of these children
  pub inside_lacking : (v : Tree) → ((u w : Tree) → IsFolderTree u w → IsAmong (cleaned n) t w → u ≡ v) → IsOtherTree v children → IsLacking t d
  inside_lacking v one others missing ds c are has =
      let f = stands_first d n children ds c are h in
      others f.inside f.nodes (one_has_all json t missing f.members f.inside f.rest (subst (λ c. HasLeft json t missing c) f.is has) v
      (λ u w tree among. one u w tree (subst (λ (k : Name). IsAmong k t w) f.key among)))

-- ---- neither

pub neither_lacking : (t : Tree) (d : Data) → is_node d ≡ false → IsLacking t d
neither_lacking t d isnt missing ds c are has =
    true≢false (sym (All-head (λ d. is_node d ≡ true) d (below d ++ listed ds) (all_nodes (item d ds) c are)) ∙ isnt)

-- ---- one after the other

-- a tree has all of what is left of a folder, of which these are the nodes
pub record IsLeft (t : Tree) (ds : Items) : Type 0 where
  pub missing : ℕ
  pub contents : Contents
  pub are : AreNodes ds contents
  pub has : HasLeft json t missing contents

pub past_node : (t : Tree) (d : Data) (ds : Items) → IsLeft t (item d ds) → IsLeft t ds
past_node t d ds left = go d ds left.contents left.are left.has
  where
    go : (d : Data) (ds : Items) (c : Contents) → AreNodes (item d ds) c → HasLeft json t left.missing c → IsLeft t ds
    go _ _ _ (a_link_node {ms = ms} {rest = rest} kind more) has =
        record { missing = left.missing - 1; contents = rest; are = more; has = past_link json t left.missing ms rest has }
    go _ _ _ (a_folder_node {ms = ms} {inside = inside} {rest = rest} kind are within more) has =
        record { missing = left.missing - 1; contents = rest; are = more; has = past_folder json t left.missing (emptied ms) inside rest has }

-- as many links and folders stand in a folder as it has nodes
as_many : (vs : List Value) (c : Contents) → AreNodes (items_view vs) c → length (items_of json c) ≡ length vs
as_many [] _ no_nodes = refl
as_many (v ∷ vs) c are = go (view v) (items_view vs) c are (as_many vs)
  where
    go : (d : Data) (ds : Items) (c : Contents) → AreNodes (item d ds) c → ((c : Contents) → AreNodes ds c → length (items_of json c) ≡ length vs)
        → length (items_of json c) ≡ suc (length vs)
    go _ _ _ (a_link_node {rest = rest} kind more) many = ap suc (many rest more)
    go _ _ _ (a_folder_node {rest = rest} kind are within more) many = ap suc (many rest more)

pub more_keys : (t : Tree) (vs : List Value) → length vs < length (edges t) → IsOtherTree t (items_view vs)
more_keys t vs lt c are has = let many = as_many vs c are in let enough = has.enough in absurd (omega (arith, lt, many, enough))
