use Rattle.std.proofs.Common.{ℕ, List, ◌≤◌, length, map}
use Rattle.std.specs.Str.{IsUtf8}
use Rattle.hm_marks_trees.specs.Nodes.{view}
use Rattle.hm_marks_tokens.specs.Symbols.{Symbol}
use Rattle.hm_marks_tokens.specs.Grammar.{Contents}
use Rattle.hm_netscape_entries.specs.Next.{IsLeft}
use Rattle.hm_netscape_files.specs.Shown.{shown_of}
use Rattle.hm_netscape_files.proofs.ShownSoFar.{IsShown}
use Rattle.hm_netscape_files.proofs.nodes.+nodes_in.Given as goal

abbrev pub decreases-nodes_in : goal.decreases-nodes_in
decreases-nodes_in l = length l.bytes.now

abbrev pub decreases-loop-nodes : goal.decreases-loop-nodes
decreases-loop-nodes l = length l.rest

abbrev pub invariant-loop-nodes : goal.invariant-loop-nodes
invariant-loop-nodes l = record {
  utf8 : IsUtf8 l.rest;
  reads : (c : Contents) (more : List Symbol) (rest : List ℕ) → IsLeft l.bytes c more rest → IsShown (shown_of c) (map view l.nodes.items) l.rest more rest;
  within : length l.rest ≤ length l.bytes;
}
