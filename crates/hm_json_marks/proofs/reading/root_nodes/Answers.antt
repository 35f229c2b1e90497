use Rattle.std.proofs.Common.{◌≡◌, sym, ap, ◌∙◌, subst}
use Rattle.std.proofs.lemmas.Result.{IfOk-weaker}
use Rattle.serde_json.specs.View.{view, items_view}
use Rattle.hm_json_nodes.specs.Kinds.{kind_seen}
use Rattle.hm_json_nodes.specs.Numbers.{listed}
use Rattle.hm_json_nodes.specs.Reading.{AreRead, IsMisfit}
use Rattle.hm_json_nodes.proofs.Seen.{link_seen, folder_seen, neither_seen}
use Rattle.hm_json_marks.specs.Roots.{from_root}
use Rattle.hm_json_marks.specs.Reading.{IsMisfitIn}
use Rattle.hm_json_marks.proofs.RootNodes.{root_read, root_misfit, no_root, link_root, neither_root}
use Rattle.hm_json_marks.proofs.reading.root_nodes.Goals as goal

pub returns-in-Folder-clause-nodes : goal.returns-in-Folder-clause-nodes
returns-in-Folder-clause-nodes c =
    let d = view c.args.root.now in
    let children = items_view c.in-Folder.children.now.items in
    let f = folder_seen d _ children (ap kind_seen (sym c.in-Folder.is) ∙ c.kind_of.ensures) in
    IfOk-weaker c.nodes_of.result _ _ (λ nodes h. root_read d _ children c.args.count.now c.nodes_of.new.count nodes.items f
    (subst (λ n. AreRead children n c.nodes_of.new.count nodes.items) c.in_ok-count_one.ensures h)) c.nodes_of.ensures.nodes

pub returns-in-Folder-clause-misfit : goal.returns-in-Folder-clause-misfit
returns-in-Folder-clause-misfit c = λ number is.
    let d = view c.args.root.now in
    let children = items_view c.in-Folder.children.now.items in
    let f = folder_seen d _ children (ap kind_seen (sym c.in-Folder.is) ∙ c.kind_of.ensures) in
    root_misfit d _ children c.args.count.now number f (subst (λ n. IsMisfit (listed children) n number) c.in_ok-count_one.ensures (c.nodes_of.ensures.misfit number is))

pub returns-in-Link : goal.returns-in-Link
returns-in-Link c =
    let d = view c.args.root.now in
    let l = link_seen d c.in-Link.field-0.now c.in-Link.field-1.now (ap kind_seen (sym c.in-Link.is) ∙ c.kind_of.ensures) in
    record {
      nodes = tt;
      misfit = λ number is. let same : c.count_one.new.count ≡ number = cc in
          subst (IsMisfitIn (from_root d) c.args.count.now) (sym c.in_ok-count_one.ensures ∙ same) (no_root d c.args.count.now (link_root d _ _ l));
    }

pub returns-in-Neither : goal.returns-in-Neither
returns-in-Neither c =
    let d = view c.args.root.now in
    let n = neither_seen d (ap kind_seen (sym c.in-Neither.is) ∙ c.kind_of.ensures) in
    record {
      nodes = tt;
      misfit = λ number is. let same : c.count_one.new.count ≡ number = cc in
          subst (IsMisfitIn (from_root d) c.args.count.now) (sym c.in_ok-count_one.ensures ∙ same) (no_root d c.args.count.now (neither_root d n));
    }
