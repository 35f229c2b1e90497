use Rattle.std.proofs.Common.{◌≡◌, Some, sym, ap, ◌∙◌, subst}
use Rattle.std.proofs.lemmas.Result.{IfOk-weaker}
use Rattle.hm_marks.specs.Writing.{folder_for, inside_of}
use Rattle.serde_json.specs.Data.{Items}
use Rattle.serde_json.specs.View.{view}
use Rattle.hm_json_nodes.specs.Nodes.{json, AreNodes, children_of}
use Rattle.hm_json_nodes.specs.Anew.{OldItem}
use Rattle.hm_json_nodes.proofs.OldNodes.{folder_item}
use Rattle.hm_json_nodes.proofs.anew.folder_over.Goals as goal

pub emptied-requires : goal.emptied-requires
emptied-requires c =
    let f = folder_item (view c.args.node) c.requires.0 c.requires.1 (sym c.is_link.ensures ∙ c.if-is_link.false) in
    (f.of.members, f.of.children, f.of.is, subst (λ d. children_of d ≡ Some f.of.children) f.of.is f.of.children_are)

pub returns-else-is_link-clause-members : goal.returns-else-is_link-clause-members
returns-else-is_link-clause-members c = IfOk-weaker c.emptied.result _ _ (λ parts h item is.
    let f = folder_item (view c.args.node) item is (sym c.is_link.ensures ∙ c.if-is_link.false) in
    h f.of.members f.of.is ∙ sym f.of.empty ∙ ap (λ (i : OldItem). folder_for json c.args.key.now (Some i)) (sym f.item_is)) c.emptied.ensures.members

pub returns-else-is_link-clause-inside : goal.returns-else-is_link-clause-inside
returns-else-is_link-clause-inside c = IfOk-weaker c.emptied.result _ _ (λ parts h item is.
    let f = folder_item (view c.args.node) item is (sym c.is_link.ensures ∙ c.if-is_link.false) in
    subst (λ (ds : Items). AreNodes ds (inside_of json (Some item))) (sym (h f.of.children f.of.children_are))
    (subst (λ (i : OldItem). AreNodes f.of.children (inside_of json (Some i))) (sym f.item_is) f.of.nodes)) c.emptied.ensures.children
