use Rattle.std.proofs.Common.{◌≡◌, ℕ, false, List, length, map}
use Rattle.std.specs.Str.{IsUtf8}
use Rattle.hm_marks.specs.Contents.{nothing}
use Rattle.hm_marks_trees.specs.Nodes.{view, contents}
use Rattle.hm_marks_tokens.specs.Symbols.{Symbol}
use Rattle.hm_marks_tokens.specs.Grammar.{Contents}
use Rattle.hm_netscape_entries.specs.Next.{IsLeft}
use Rattle.hm_netscape_entries.specs.Toolbars.{bar_of, other_of}
use Rattle.hm_netscape_files.specs.Shown.{shown_of}
use Rattle.hm_netscape_files.proofs.ShownSoFar.{AreShown}
use Rattle.hm_netscape_files.proofs.nodes.bookmarks_in.Given as goal

abbrev pub decreases-loop-bar : goal.decreases-loop-bar
decreases-loop-bar l = length l.rest

abbrev pub invariant-loop-bar : goal.invariant-loop-bar
invariant-loop-bar l = record {
  utf8 : IsUtf8 l.rest;
  reads : (c : Contents) (more : List Symbol) (rest : List ℕ) → IsLeft l.bytes c more rest
      → AreShown (shown_of (bar_of c)) (shown_of (other_of c)) l.found (contents l.bar.items) (map view l.other.items) l.rest more rest;
  none : l.found ≡ false → contents l.bar.items ≡ nothing;
}
