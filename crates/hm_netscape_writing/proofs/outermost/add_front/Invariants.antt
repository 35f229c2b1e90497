use Rattle.std.proofs.Common.{◌≡◌, ℕ, List, [], None, length, IsUtf8}
use Rattle.hm_book_items.specs.ItemTrees.{Lists}
use Rattle.hm_marks_tokens.specs.Symbols.{Symbol}
use Rattle.hm_marks_tokens.specs.Grammar.{Contents}
use Rattle.hm_netscape_entries.specs.Next.{IsLeft}
use Rattle.hm_netscape_files.specs.Anew.{bar_entry}
use Rattle.hm_netscape_writing.specs.Added.{HaveRoom}
use Rattle.hm_netscape_writing.proofs.Staying.{ArePast}
use Rattle.hm_netscape_writing.proofs.outermost.add_front.Given as goal

-- what is left of the folder; the bookmarks bar isn't among what was passed
abbrev pub invariant-loop-next : goal.invariant-loop-next
invariant-loop-next l = record {
  utf8 : IsUtf8 l.rest;
  past : (lists : Lists) (c : Contents) (more : List Symbol) (rest : List ℕ) → HaveRoom 1 l.fn.trees lists [] → IsLeft l.old c more rest
      → (past : ArePast 1 lists [] c l.trees l.fn.out.items l.out.items l.rest more rest) × (bar_entry past.passed ≡ None);
}

abbrev pub decreases-loop-next : goal.decreases-loop-next
decreases-loop-next l = length l.rest
