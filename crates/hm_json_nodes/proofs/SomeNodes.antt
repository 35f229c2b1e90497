-- Items of which each is a node, and each below it, are the nodes of a folder.
use Rattle.std.proofs.Common.{◌≡◌, ◌<◌, ℕ, zero, suc, true, inl, inr, List, [], ◌∷◌, ◌++◌, subst, arith}
use Rattle.std.specs.Prelude.{All, unwrap_or}
use Rattle.std.proofs.lemmas.Bool.{or_cases}
use Rattle.std.proofs.lemmas.List.Elements.{All-nil, All-cons, All-head, All-tail}
use Rattle.hm_facts.proofs.Lists.{behind}
use Rattle.hm_marks.specs.Contents.{nothing, link, folder}
use Rattle.hm_json_documents.proofs.Members.{found_depth}
use Rattle.serde_json.specs.Data.{Data, null, boolean, number, string, array, object, Items, no_items, item, Members, depth, items_depth}
use Rattle.hm_json_nodes.specs.Nodes.{children_key, children_of, is_link, is_folder, emptied, Contents, AreNodes, no_nodes, a_link_node, a_folder_node}
use Rattle.hm_json_nodes.specs.Numbers.{listed, below, is_node}
use Rattle.hm_json_nodes.proofs.Deep.{children_found}
use Rattle.hm_json_nodes.proofs.Seen.{children_there}
use Rattle.hm_json_nodes.proofs.Listed.{below_folder}
use Rattle.hm_json_nodes.proofs.EachNode.{AreAll}

abbrev Are : Items → Type 0
Are ds = (c : Contents) × AreNodes ds c

-- where it is known of items that nest less deep than a number
abbrev Within : ℕ → Type 0
Within n = (ds : Items) → items_depth ds < n → AreAll (listed ds) → Are ds

folder_first : (n : ℕ) → Within n → (ms : Members) (ds : Items) → depth (object ms) < suc n → is_folder (object ms) ≡ true → AreAll (below (object ms)) → Are ds
    → Are (item (object ms) ds)
folder_first n within ms ds lt kind all rest =
    let children = unwrap_or (children_of (object ms)) no_items in
    let are = children_there (object ms) kind in
    let deep = found_depth children_key (array children) ms (children_found ms children are) in
    let inside = within children (omega (arith, lt, deep)) (subst AreAll (below_folder ms children kind are) all) in
    (folder (emptied ms) inside.0 rest.0, a_folder_node kind are inside.1 rest.1)

first : (n : ℕ) → Within n → (d : Data) (ds : Items) → depth d < suc n → is_node d ≡ true → AreAll (below d) → Are ds → Are (item d ds)
first n within null ds lt node all rest = absurd cc
first n within (boolean b) ds lt node all rest = absurd cc
first n within (number x) ds lt node all rest = absurd cc
first n within (string s) ds lt node all rest = absurd cc
first n within (array es) ds lt node all rest = absurd cc
first n within (object ms) ds lt node all rest = elim (or_cases (is_link (object ms)) (is_folder (object ms)) node) [
  | inl kind ↦ (link ms rest.0, a_link_node kind rest.1)
  | inr kind ↦ folder_first n within ms ds lt kind all rest
]

front : (ds es : List Data) → AreAll (ds ++ es) → AreAll ds
front [] es all = All-nil (λ d. is_node d ≡ true)
front (d ∷ ds) es all =
    All-cons (λ d. is_node d ≡ true) d ds (All-head (λ d. is_node d ≡ true) d (ds ++ es) all) (front ds es (All-tail (λ d. is_node d ≡ true) d (ds ++ es) all))

each : (n : ℕ) → Within n → Within (suc n)
each n within no_items lt all = (nothing, no_nodes)
each n within (item d ds) lt all =
    let others = All-tail (λ d. is_node d ≡ true) d (below d ++ listed ds) all in
    first n within d ds (omega (arith, lt)) (All-head (λ d. is_node d ≡ true) d (below d ++ listed ds) all) (front (below d) (listed ds) others)
    (each n within ds (omega (arith, lt)) (behind (λ d. is_node d ≡ true) (below d) (listed ds) others))

bounded : (n : ℕ) → Within n
bounded zero ds lt all = absurd (omega (arith, lt))
bounded (suc n) ds lt all = each n (bounded n) ds lt all

pub some_nodes : (ds : Items) → All (λ d. is_node d ≡ true) (listed ds) → (c : Contents) × AreNodes ds c
some_nodes ds all = bounded (suc (items_depth ds)) ds (omega arith) all
