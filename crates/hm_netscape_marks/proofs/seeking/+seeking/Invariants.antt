use Rattle.std.proofs.Common.{◌+◌, ◌*◌, ◌≤◌, ℕ, List, length, IsUtf8}
use Rattle.hm_marks_tokens.specs.Symbols.{Symbol}
use Rattle.hm_marks_tokens.specs.Grammar.{Contents}
use Rattle.hm_netscape_entries.specs.Next.{IsLeft}
use Rattle.hm_netscape_marks.proofs.Passing.{IsAhead}
use Rattle.hm_netscape_marks.proofs.seeking.+seeking.Given as goal

abbrev pub decreases-behind_folder : goal.decreases-behind_folder
decreases-behind_folder l = 4 * length l.bytes.now

abbrev pub decreases-behind_entry : goal.decreases-behind_entry
decreases-behind_entry l = 4 * length l.behind.now + 2

abbrev pub decreases-behind_inner : goal.decreases-behind_inner
decreases-behind_inner l = 4 * length l.inside.now + 1

abbrev pub invariant-behind_folder-loop-next : goal.invariant-behind_folder-loop-next
invariant-behind_folder-loop-next l = record {
  utf8 : IsUtf8 l.rest;
  within : length l.rest ≤ length l.bytes;
  ahead : (c : Contents) (more : List Symbol) (rest : List ℕ) → IsLeft l.bytes c more rest → IsAhead l.tree l.missing c l.left l.rest more rest;
}

abbrev pub decreases-behind_folder-loop-next : goal.decreases-behind_folder-loop-next
decreases-behind_folder-loop-next l = length l.rest
