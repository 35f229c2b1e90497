-- What is written of a tree is read as it.
use Rattle.std.proofs.Common.{◌≡◌, ℕ, List, Some, None, IsUtf8, refl, sym, ap, ◌∙◌, arith}
use Rattle.std.specs.Prelude.{Ok, option_and_then}
use Rattle.hm_tree.specs.Nodes.{Tree}
use Rattle.serde_json.specs.Data.{Data, object, Members, put}
use Rattle.serde_json.specs.Find.{get}
use Rattle.serde_json.specs.Written.{compact_text}
use Rattle.serde_json.proofs.Views.{get_member-put, get_member-put_other}
use Rattle.hm_json_documents.proofs.Written.{written_read, written_utf8}
use Rattle.hm_marks.specs.Writing.{AreWrittenAnew}
use Rattle.hm_marks_schema.specs.Bookmarks.{AreBookmarks, AreBookmarksAnew}
use Rattle.hm_marks_schema.specs.Nesting.{marks_over}
use Rattle.hm_json_nodes.specs.Nodes.{is_folder, Contents, json, filled, spelled}
use Rattle.hm_json_nodes.proofs.Filled.{children_filled}
use Rattle.hm_json_nodes.proofs.Rewritten.{read_again, shows_tree}
use Rattle.hm_json_nodes.proofs.Spelled.{folder_filled}
use Rattle.hm_json_marks.specs.Roots.{roots_key, bar_key, other_key, root_at}
use Rattle.hm_json_marks.specs.Files.{IsRoot, IsFile, JsonReads}
use Rattle.hm_json_marks.specs.Writing.{HasMembers, with_roots}
use Rattle.hm_json_marks.proofs.FineFiles.{IsFine, root_fine, few_nest, bar_fine, other_fine, whole_fine}

-- a root with other children
abbrev pub root_with : {d : Data} → IsRoot d → Contents → Data
root_with h new = object (filled (spelled new) h.members)

abbrev root_again : {d : Data} (h : IsRoot d) (t : Tree) (new : Contents) → AreWrittenAnew json h.contents t new → IsRoot (root_with h new)
root_again h t new is = record {
  kind = folder_filled (spelled new) h.members (sym (ap is_folder h.folder.is) ∙ h.kind);
  members = filled (spelled new) h.members;
  children = spelled new;
  contents = new;
  folder = record { is = refl; children_are = children_filled (spelled new) h.members; nodes = read_again h.children h.contents new t h.folder.nodes is };
}

-- other roots are found
module _ (file roots : Members) (bar other : Data) where
  abbrev whole : Data
  whole = with_roots file roots bar other

  pub roots_there : get roots_key whole ≡ Some (object (put other_key other (put bar_key bar roots)))
  roots_there = get_member-put roots_key (object (put other_key other (put bar_key bar roots))) file

  pub bar_there : root_at bar_key whole ≡ Some bar
  bar_there =
      ap (option_and_then (get bar_key)) roots_there ∙ get_member-put_other bar_key other_key other (put bar_key bar roots) (λ e. let bad : ⊥ = cc in bad)
      ∙ get_member-put bar_key bar roots

  pub other_there : root_at other_key whole ≡ Some other
  other_there = ap (option_and_then (get other_key)) roots_there ∙ get_member-put other_key other (put bar_key bar roots)

module _ {before : List ℕ} (utf8 : IsUtf8 before) (old : IsFile before) (m : HasMembers old.roots.file) (t : Tree) (over : marks_over t ≡ None)
    (bar other : Contents) (anew : AreBookmarksAnew json old.bar.contents old.other.contents t bar other) where
  abbrev pub new_whole : Data
  new_whole = with_roots m.file m.roots (root_with old.bar bar) (root_with old.other other)

  new_tree : AreBookmarks json bar other t
  new_tree = record {
    bar_tree = anew.bar_tree;
    other_tree = anew.other_tree;
    tree = anew.tree;
    bar = shows_tree old.bar.children old.bar.contents bar anew.bar_tree old.bar.folder.nodes anew.bar;
    other = shows_tree old.other.children old.other.contents other anew.other_tree old.other.folder.nodes anew.other;
  }

  pub new_fine : IsFine 127 new_whole
  new_fine =
      let few = few_nest bar other t new_tree over in
      let few_bar = few.0 in
      let few_other = few.1 in
      whole_fine before utf8 old.roots m (root_with old.bar bar) (root_with old.other other)
      (root_fine 123 old.bar_node old.bar (bar_fine before utf8 old.roots m) anew.bar_tree bar anew.bar (omega (arith, few_bar)))
      (root_fine 123 old.other_node old.other (other_fine before utf8 old.roots m) anew.other_tree other anew.other (omega (arith, few_other)))

  abbrev pub new_file : IsFile (compact_text new_whole)
  new_file = record {
    bar_node = root_with old.bar bar;
    other_node = root_with old.other other;
    roots = record {
      file = new_whole;
      document = written_read new_whole new_fine.0 new_fine.1;
      bar_is = bar_there m.file m.roots (root_with old.bar bar) (root_with old.other other);
      other_is = other_there m.file m.roots (root_with old.bar bar) (root_with old.other other);
    };
    bar = root_again old.bar anew.bar_tree bar anew.bar;
    other = root_again old.other anew.other_tree other anew.other;
  }

  pub new_read : JsonReads (compact_text new_whole) (Ok t)
  new_read = (written_utf8 new_whole new_fine.0, record { file = new_file; tree = new_tree }, over)
