use Rattle.std.proofs.Common.{List, take}
use Rattle.std.specs.List.{flat_map}
use Rattle.hm_book_items.specs.Plans.{keys_of}
use Rattle.hm_lines_files.specs.Components.{Component}
use Rattle.hm_lines_files.specs.Rewriting.{keyed}
use Rattle.hm_lines_files.specs.Lent.{template_of}
use Rattle.hm_book_items.specs.Taken.{HasTaken}
use Rattle.hm_lines_files.specs.WrittenLines.{Extends}
use Rattle.hm_lines_files.proofs.Passes.{added_lines}
use Rattle.hm_lines_files.proofs.rewriting.append_new.Given as goal
use Rattle.hm_book_items.specs.ItemTrees.{Lists}

abbrev pub invariant-loop-edge : goal.invariant-loop-edge
invariant-loop-edge l =
    (lists : Lists) (cs : List Component) → HasTaken l.trees lists (keys_of (keyed l.template.key cs))
    → Extends l.fn.writer l.writer (flat_map (added_lines (template_of l.template) l.shown cs) (take l.edge lists))
