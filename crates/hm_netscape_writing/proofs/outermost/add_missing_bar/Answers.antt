use Rattle.std.proofs.Common.{[], sym, ◌∙◌, arith}
use Rattle.hm_facts.proofs.Lists.{no_items}
use Rattle.hm_marks.specs.Contents.{nothing}
use Rattle.hm_tree.specs.Nodes.{edges}
use Rattle.hm_netscape_files.specs.Anew.{bar_entry}
use Rattle.hm_netscape_writing.proofs.Empty.{empty_left, in_empty}
use Rattle.hm_netscape_writing.proofs.Missing.{bar_missing, bar_stays, nothing_missing}
use Rattle.hm_netscape_writing.proofs.outermost.add_missing_bar.Goals as goal
use Rattle.hm_netscape_writing.proofs.outermost.add_missing_bar.Goals.{then-has_bar-via-then-has_bar, then-has_bar-via-else-has_bar+then-count-eq0}

pub returns-then-has_bar : goal.returns-then-has_bar
returns-then-has_bar c = λ all more rest left.
    elim c.then-has_bar.branch [
      | then-has_bar-via-then-has_bar w ↦
          bar_stays (bar_entry all) c.args.tree.now c.args.out.now.items (sym (c.has_bar.ensures all more rest left) ∙ w.if-has_bar.true)
      | then-has_bar-via-else-has_bar+then-count-eq0 w ↦
          nothing_missing (bar_entry all) c.args.tree.now c.args.out.now.items (no_items (edges c.args.tree.now) (sym w.count.ensures ∙ w.if-count-eq0.true))
    ]

pub add_kept_folder-requires-clause-folder : goal.add_kept_folder-requires-clause-folder
add_kept_folder-requires-clause-folder c = in_empty

pub returns : goal.returns
returns c = λ all more rest left.
    bar_missing (bar_entry all) c.args.tree.now c.args.out.now.items c.add_kept_folder.new.out.items (c.in_ok-add_kept_folder.ensures.anew nothing [] [] empty_left).0
    (omega (arith, c.count.ensures, c.if-count-eq0.false)) (sym (c.has_bar.ensures all more rest left) ∙ c.if-has_bar.false)
