use Rattle.std.proofs.Common.{Some, sym, ap, ◌∙◌}
use Rattle.std.proofs.lemmas.Result.{IfOk-weaker}
use Rattle.hm_marks.specs.Writing.{link_for}
use Rattle.serde_json.specs.Data.{object}
use Rattle.serde_json.specs.View.{view}
use Rattle.hm_json_nodes.specs.Nodes.{json}
use Rattle.hm_json_nodes.specs.Anew.{OldItem}
use Rattle.hm_json_nodes.proofs.OldNodes.{link_item, folder_item}
use Rattle.hm_json_nodes.proofs.anew.link_over.Goals as goal

pub returns-then-is_link : goal.returns-then-is_link
returns-then-is_link c = IfOk-weaker c.addressed.result _ _ (λ new h item is.
    let l = link_item (view c.args.node) item is (sym c.is_link.ensures ∙ c.if-is_link.true) in
    h l.members l.is ∙ ap (λ (i : OldItem). object (link_for json c.args.key.now (Some i) c.args.address.now)) (sym l.item_is)) c.addressed.ensures

pub returns-else-is_link : goal.returns-else-is_link
returns-else-is_link c = IfOk-weaker c.new_link.result _ _ (λ new h item is.
    let f = folder_item (view c.args.node) item is (sym c.is_link.ensures ∙ c.if-is_link.false) in
    h ∙ ap (λ (i : OldItem). object (link_for json c.args.key.now (Some i) c.args.address.now)) (sym f.item_is)) c.new_link.ensures
