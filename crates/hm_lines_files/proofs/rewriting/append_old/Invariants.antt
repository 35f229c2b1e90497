use Rattle.std.proofs.Common.{[], take}
use Rattle.std.specs.List.{flat_map}
use Rattle.hm_book_items.specs.Plans.{keys_of}
use Rattle.hm_lines_files.specs.Components.{piece_lines, components_of}
use Rattle.hm_lines_files.specs.Rewriting.{keyed, remaining}
use Rattle.hm_lines_files.specs.Lent.{template_of, pieces_of}
use Rattle.hm_book_items.specs.Taken.{HasTaken}
use Rattle.hm_lines_files.specs.WrittenLines.{Extends}
use Rattle.hm_lines_files.proofs.rewriting.append_old.Given as goal
use Rattle.hm_book_items.specs.ItemTrees.{Lists}

abbrev pub invariant-loop-place : goal.invariant-loop-place
invariant-loop-place l =
    ((lists : Lists) → HasTaken l.fn.trees lists [] → HasTaken l.trees lists (keys_of (keyed l.template.key (components_of (pieces_of (take l.place l.pieces))))))
    × ((lists : Lists) → HasTaken l.fn.trees lists []
    → Extends l.fn.writer l.writer (flat_map piece_lines (remaining (template_of l.template) l.shown lists [] (pieces_of (take l.place l.pieces)))))
