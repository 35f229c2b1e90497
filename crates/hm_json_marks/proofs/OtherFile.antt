-- A file with a root that isn't that of a tree isn't read as it.
use Rattle.std.proofs.Common.{◌≡◌, ℕ, false, true≢false, List, Some, sym, ap, ◌∙◌, subst}
use Rattle.std.proofs.lemmas.Option.{same_Some}
use Rattle.hm_tree.specs.Nodes.{Tree}
use Rattle.hm_marks.specs.FolderTrees.{IsContentsTree}
use Rattle.hm_marks.proofs.Among.{tree_has_all}
use Rattle.hm_marks_schema.specs.Members.{AreFoldersOf}
use Rattle.hm_marks_schema.proofs.WholeFiles.{both_known}
use Rattle.serde_json.specs.Data.{Data, Items}
use Rattle.hm_json_documents.specs.Documents.{IsDocument}
use Rattle.hm_json_nodes.specs.Nodes.{children_of, is_folder, json, AreNodes}
use Rattle.hm_json_nodes.specs.Seeking.{IsOtherTree}
use Rattle.hm_json_nodes.proofs.Seen.{IsAFolder}
use Rattle.hm_json_marks.specs.Roots.{root_at, bar_key, other_key, HasRoots}
use Rattle.hm_json_marks.specs.Seeking.{IsOtherFile, IsOtherRoot}
use Rattle.hm_json_marks.proofs.RootLaws.{bar_once, other_once}

-- ---- one root

pub other_children : (t : Tree) (d : Data) (n : List ℕ) (children : Items) → IsAFolder d n children → IsOtherTree t children → IsOtherRoot t d
other_children t d n children h other r is =
    let same = same_Some r.children children (sym r.folder.children_are ∙ ap children_of (sym r.folder.is ∙ h.is) ∙ h.children_are) in
    other r.contents (subst (λ ds. AreNodes ds r.contents) same r.folder.nodes) (tree_has_all json r.contents t is)

pub no_folder : (t : Tree) (d : Data) → is_folder d ≡ false → IsOtherRoot t d
no_folder t d isnt r is = true≢false (sym r.kind ∙ isnt)

-- ---- a file

module _ (t bar_tree other_tree : Tree) (folders : AreFoldersOf t bar_tree other_tree) (file bar other : Data)
    (bar_is : root_at bar_key file ≡ Some bar) (other_is : root_at other_key file ≡ Some other) where
  roots : (bytes : List ℕ) → IsDocument bytes file → HasRoots bytes bar other
  roots bytes document = record { file = file; document = document; bar_is = bar_is; other_is = other_is }

  pub other_bar : IsOtherRoot bar_tree bar → IsOtherFile t file
  other_bar differs bytes document read =
      let book = read.1 in
      let trees = both_known book.tree.bar_tree book.tree.other_tree bar_tree other_tree t book.tree.tree folders.tree in
      subst (IsOtherRoot bar_tree) (sym (bar_once book.file.roots (roots bytes document))) differs book.file.bar
      (subst (IsContentsTree json book.file.bar.contents) trees.0 book.tree.bar)

  pub other_others : IsOtherRoot other_tree other → IsOtherFile t file
  other_others differs bytes document read =
      let book = read.1 in
      let trees = both_known book.tree.bar_tree book.tree.other_tree bar_tree other_tree t book.tree.tree folders.tree in
      subst (IsOtherRoot other_tree) (sym (other_once book.file.roots (roots bytes document))) differs book.file.other
      (subst (IsContentsTree json book.file.other.contents) trees.1 book.tree.other)
