use Rattle.std.proofs.Common.{◌≡◌, List, [], Option, None, sym, subst}
use Rattle.hm_marks.specs.Writing.{inside_of}
use Rattle.serde_json.specs.View.{items_view}
use Rattle.serde_json.specs.declared.value.Value.{Value}
use Rattle.hm_json_nodes.specs.Nodes.{json, AreNodes, no_nodes}
use Rattle.hm_json_nodes.specs.Anew.{OldItem, IsOld}
use Rattle.hm_json_nodes.proofs.OldNodes.{over_none}
use Rattle.hm_json_nodes.proofs.anew.folder_anew.Goals as goal

pub returns-in_ok-new_folder-in-None-clause-inside : goal.returns-in_ok-new_folder-in-None-clause-inside
returns-in_ok-new_folder-in-None-clause-inside c = λ item is.
    let none : item ≡ None = over_none item (subst (λ o. IsOld o item) c.in-None.is is) in
    subst (λ (vs : List Value). AreNodes (items_view vs) (inside_of json item)) (sym c.new.ensures.items)
    (subst (λ (i : Option OldItem). AreNodes (items_view []) (inside_of json i)) (sym none) no_nodes)
