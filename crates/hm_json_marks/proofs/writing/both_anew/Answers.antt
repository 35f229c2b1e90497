use Rattle.std.proofs.Common.{ap, ◌∙◌}
use Rattle.serde_json.specs.Find.{get_member}
use Rattle.serde_json.specs.View.{members_view}
use Rattle.hm_json_marks.specs.Roots.{other_key}
use Rattle.hm_json_marks.specs.Rewriting.{root_of}
use Rattle.hm_json_marks.proofs.WrittenRoots.{other_beside}
use Rattle.hm_json_marks.proofs.writing.both_anew.Goals as goal

pub root_anew-requires-2-clause-root : goal.root_anew-requires-2-clause-root
root_anew-requires-2-clause-root c =
    let b = c.requires.bar_root in
    let o = c.requires.other_root in
    let w = c.in_ok-root_anew.ensures b.node b.root b.at in
    record {
      node = o.node;
      at = ap (get_member other_key) w.is ∙ other_beside (root_of b.root.members w.contents) o.node (members_view c.args.roots.entries) o.at;
      root = o.root;
    }

pub returns : goal.returns
returns c = λ bar_node other_node bar other bar_at other_at.
    let w = c.in_ok-root_anew.ensures bar_node bar bar_at in
    record {
      between = members_view c.root_anew.new.roots.entries;
      bar_written = w;
      other_written =
          c.in_ok-root_anew-2.ensures other_node other
          (ap (get_member other_key) w.is ∙ other_beside (root_of bar.members w.contents) other_node (members_view c.args.roots.entries) other_at);
    }
