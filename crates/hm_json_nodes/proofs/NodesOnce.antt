-- Items are the nodes of one folder at the most.
use Rattle.std.proofs.Common.{◌≡◌, true, true≢false, refl, sym, ◌∙◌, subst}
use Rattle.std.proofs.lemmas.Option.{same_Some}
use Rattle.hm_marks.specs.Contents.{folder, link}
use Rattle.serde_json.specs.Data.{object, Items, Members}
use Rattle.hm_json_nodes.specs.Nodes.{is_link, is_folder, emptied, Contents, AreNodes, no_nodes, a_link_node, a_folder_node}
use Rattle.hm_json_nodes.proofs.EachNode.{link_no_folder}

no_both : (ms : Members) → is_link (object ms) ≡ true → is_folder (object ms) ≡ true → ⊥
no_both ms kind also = true≢false (sym also ∙ link_no_folder (object ms) kind)

pub nodes_once : (ds : Items) (c d : Contents) → AreNodes ds c → AreNodes ds d → c ≡ d
nodes_once _ _ _ no_nodes no_nodes = refl
nodes_once _ _ _ (a_link_node {ms = ms} {ds = ds} {rest = rest} kind more) (a_link_node {rest = other} also too) =
    λ i. link ms (nodes_once ds rest other more too i)
nodes_once _ _ _ (a_link_node {ms = ms} kind more) (a_folder_node also are within too) = absurd (no_both ms kind also)
nodes_once _ _ _ (a_folder_node {ms = ms} kind are within more) (a_link_node also too) = absurd (no_both ms also kind)
nodes_once _ _ _ (a_folder_node {ms = ms} {children = children} {ds = ds} {inside = inside} {rest = rest} kind are within more)
    (a_folder_node {children = others} {inside = c} {rest = d} also same in_it too) =
    let one : others ≡ children = same_Some others children (sym same ∙ are) in
    let inner = nodes_once children inside c within (subst (λ ds. AreNodes ds c) one in_it) in
    let outer = nodes_once ds rest d more too in
    λ i. folder (emptied ms) (inner i) (outer i)
