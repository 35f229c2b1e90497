-- What is written is sound, and nests no deeper than a document may: its folders stand in four values, and 50 of them fit.
use Rattle.std.proofs.Common.{◌≡◌, ◌≤◌, ◌+◌, ◌*◌, nat_lt, ℕ, suc, List, Some, None, IsUtf8, refl, sym, ap, ◌∙◌, subst, arith}
use Rattle.std.proofs.lemmas.Bool.{cond_both}
use Rattle.std.proofs.lemmas.Bool.Decides.{nat_tests}
use Rattle.hm_tree.specs.Nodes.{Tree}
use Rattle.serde_json.specs.Data.{Data, object, array, Members, put, depth}
use Rattle.serde_json.specs.Find.{get}
use Rattle.hm_json_documents.specs.Documents.{IsSound}
use Rattle.hm_json_documents.proofs.Members.{put_sound, put_depth, found_sound, found_depth}
use Rattle.hm_json_documents.proofs.Read.{read_sound, document_depth}
use Rattle.hm_format.specs.Formats.{depth_over}
use Rattle.hm_marks.specs.Writing.{AreWrittenAnew}
use Rattle.hm_marks_schema.specs.Bookmarks.{AreBookmarks}
use Rattle.hm_marks_schema.specs.Nesting.{nesting, folders_deep, most_folders, marks_over}
use Rattle.hm_marks_schema.proofs.Nesting.{folders_nest}
use Rattle.hm_json_nodes.specs.Nodes.{children_key, Contents, json, filled, spelled}
use Rattle.hm_json_nodes.proofs.Deep.{children_found}
use Rattle.hm_json_nodes.proofs.Fine.{children_utf8, nodes_fine}
use Rattle.hm_json_nodes.proofs.FineAnew.{anew_fine}
use Rattle.hm_marks_schema.proofs.Utf8Keys.{word_utf8}
use Rattle.hm_json_marks.specs.Roots.{roots_key, bar_key, other_key, HasRoots}
use Rattle.hm_json_marks.specs.Files.{IsRoot}
use Rattle.hm_json_marks.specs.Writing.{HasMembers, with_roots}
use Rattle.hm_json_marks.proofs.Found.{bar_found, other_found}

-- a value is sound, and nests at most so deep
abbrev pub IsFine : ℕ → Data → Type 0
IsFine n d = IsSound d × (depth d ≤ n)

put_fine : (n : ℕ) (k : List ℕ) (d : Data) (ms : Members) → IsUtf8 k → IsFine n d → IsFine (suc n) (object ms) → IsFine (suc n) (object (put k d ms))
put_fine n k d ms key new old =
    let deep = old.1 in
    let still = put_depth k d ms n new.1 (omega (arith, deep)) in
    (put_sound k d ms key new.0 old.0, omega (arith, still))

found_fine : (n : ℕ) (k : List ℕ) (d : Data) (ms : Members) → get k (object ms) ≡ Some d → IsFine (suc n) (object ms) → IsFine n d
found_fine n k d ms is fine =
    let deep = fine.1 in
    let found = found_depth k d ms is in
    (found_sound k d ms is fine.0, omega (arith, deep, found))

-- ---- a root

module _ (n : ℕ) (d : Data) (h : IsRoot d) (fine : IsFine (suc (suc n)) d) (t : Tree) (new : Contents) (anew : AreWrittenAnew json h.contents t new) where
  pub root_fine : 2 * nesting new + 1 ≤ n → IsFine (suc (suc n)) (object (filled (spelled new) h.members))
  root_fine fits =
      let members = subst (IsFine (suc (suc n))) h.folder.is fine in
      let children = found_fine (suc n) children_key (array h.children) h.members (children_found h.members h.children h.folder.children_are) members in
      let shallow = children.1 in
      let old = nodes_fine n h.children h.contents h.folder.nodes (children.0, omega (arith, shallow)) in
      let nodes = anew_fine n h.contents new t old anew fits in
      let deep = nodes.1 in
      put_fine (suc n) children_key (array (spelled new)) h.members children_utf8 (nodes.0, omega (arith, deep)) members

-- ---- a file

few_folders : (t : Tree) → marks_over t ≡ None → folders_deep t ≤ most_folders
few_folders t =
    cond_both (nat_lt most_folders (folders_deep t)) (Some (folders_deep t)) (depth_over t) (λ o. o ≡ None → folders_deep t ≤ most_folders)
    (λ is e. let no : ⊥ = cc in absurd no) (λ not e. grind (arith, nat_tests))

-- the contents of two folders whose tree is within the limits
pub few_nest : (bar other : Contents) (t : Tree) → AreBookmarks json bar other t → marks_over t ≡ None
    → (nesting bar ≤ most_folders) × (nesting other ≤ most_folders)
few_nest bar other t is over =
    let few = few_folders t over in
    let most = folders_nest json bar other t is in
    (omega (arith, few, most), omega (arith, few, most))

module _ (bytes : List ℕ) (utf8 : IsUtf8 bytes) {bar other : Data} (h : HasRoots bytes bar other) (m : HasMembers h.file) where
  file_fine : IsFine 127 (object m.file)
  file_fine = subst (IsFine 127) m.is (read_sound bytes h.file utf8 h.document, document_depth bytes h.file h.document)

  roots_fine : IsFine 126 (object m.roots)
  roots_fine = found_fine 126 roots_key (object m.roots) m.file (sym (ap (get roots_key) m.is) ∙ m.roots_are) file_fine

  pub bar_fine : IsFine 125 bar
  bar_fine = found_fine 125 bar_key bar m.roots (bar_found h m) roots_fine

  pub other_fine : IsFine 125 other
  other_fine = found_fine 125 other_key other m.roots (other_found h m) roots_fine

  pub whole_fine : (new_bar new_other : Data) → IsFine 125 new_bar → IsFine 125 new_other → IsFine 127 (with_roots m.file m.roots new_bar new_other)
  whole_fine new_bar new_other b o =
      let roots = put bar_key new_bar m.roots in
      put_fine 126 roots_key (object (put other_key new_other roots)) m.file (word_utf8 roots_key refl)
      (put_fine 125 other_key new_other roots (word_utf8 other_key refl) o
      (put_fine 125 bar_key new_bar m.roots (word_utf8 bar_key refl) b roots_fine)) file_fine
