-- What is written of a tree behind the file from before.
use Rattle.std.specs.Prelude.{◌≡◌, ℕ, List, ◌++◌, take, Ok}
use Rattle.hm_tree.specs.Nodes.{Tree}
use Rattle.hm_marks_tokens.specs.Grammar.{Contents}
use Rattle.hm_marks_tokens.specs.Lines.{laid_list}
use Rattle.hm_netscape_entries.specs.Written.{tidied, list_lines}
use Rattle.hm_netscape_files.specs.Files.{IsFile, NetscapeReads}
use Rattle.hm_netscape_files.specs.Anew.{IsAnew}

-- the head and the tail stay, and between them stand the lines of the outermost folder that is written anew for the tree, with
-- notes without the white space at their end
pub record IsWrittenAnew (t : Tree) (before after : List ℕ) : Type 0 where
  pub old : Contents
  pub file : IsFile before old
  pub new : Contents
  pub anew : IsAnew old t new
  pub text : after ≡ take file.head before ++ (laid_list 0 (list_lines (tidied new)) ++ file.tail)

-- the bytes from before stay where they are read as the tree
pub data NetscapeWrites (t : Tree) (before : List ℕ) : List ℕ → Type 0 where
  stays : NetscapeReads before (Ok t) → NetscapeWrites t before before
  anew : {after : List ℕ} → ¬ (NetscapeReads before (Ok t)) → IsWrittenAnew t before after → NetscapeWrites t before after
