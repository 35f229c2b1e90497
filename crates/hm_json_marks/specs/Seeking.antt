-- Files that aren't read as a tree.
use Rattle.std.specs.Prelude.{ℕ, List, Ok}
use Rattle.hm_tree.specs.Nodes.{Tree}
use Rattle.hm_marks.specs.FolderTrees.{IsContentsTree}
use Rattle.serde_json.specs.Data.{Data}
use Rattle.hm_json_documents.specs.Documents.{IsDocument}
use Rattle.hm_json_nodes.specs.Nodes.{json}
use Rattle.hm_json_marks.specs.Files.{IsRoot, JsonReads}

-- no document with this value is read as a tree
abbrev pub IsOtherFile : Tree → Data → Type 0
IsOtherFile t file = (bytes : List ℕ) → IsDocument bytes file → ¬ (JsonReads bytes (Ok t))

-- a tree isn't that of a root
abbrev pub IsOtherRoot : Tree → Data → Type 0
IsOtherRoot t d = (r : IsRoot d) → ¬ (IsContentsTree json r.contents t)
