-- The two roots of a document, written anew one after the other.
use Rattle.std.proofs.Common.{◌≡◌, ℕ, List, Option, Some, None, sym, ap, ◌∙◌, subst}
use Rattle.std.specs.Prelude.{option_and_then, option_map, IsUtf8}
use Rattle.std.proofs.lemmas.Option.{same_Some}
use Rattle.serde_json.specs.View.{view}
use Rattle.serde_json.specs.declared.value.Value.{Value}
use Rattle.hm_tree.specs.Nodes.{Tree}
use Rattle.hm_marks_schema.specs.Members.{AreFoldersOf}
use Rattle.hm_marks_schema.specs.Nesting.{marks_over}
use Rattle.serde_json.specs.Data.{Data, object, Members, put}
use Rattle.serde_json.specs.Find.{get, get_member}
use Rattle.serde_json.specs.Written.{compact_text}
use Rattle.serde_json.proofs.Views.{get_member-put_other}
use Rattle.hm_json_documents.specs.Documents.{IsDocument}
use Rattle.hm_json_documents.proofs.Members.{put_twice}
use Rattle.hm_json_documents.proofs.Read.{document_known}
use Rattle.hm_json_nodes.specs.Nodes.{filled}
use Rattle.hm_json_nodes.specs.Anew.{IsFolderWith, IsFolderAnew}
use Rattle.hm_json_marks.specs.Roots.{roots_key, bar_key, other_key, root_at}
use Rattle.hm_json_marks.specs.Files.{IsRoot, IsFile}
use Rattle.hm_json_marks.specs.Writing.{HasMembers, IsWrittenAnew}
use Rattle.hm_json_marks.specs.Rewriting.{root_of, HasRootAt, IsRootWritten, HasBothRoots, AreRootsWritten}
use Rattle.hm_json_marks.proofs.Found.{file_members}
use Rattle.hm_json_marks.proofs.FineFiles.{IsFine}
use Rattle.hm_json_marks.proofs.NewFile.{new_fine}

-- a folder that was written anew is a root that was
pub root_written : (k : List ℕ) (t : Tree) (d : Data) (r : IsRoot d) (old new : Members) (node between : Data) → IsFolderAnew r.members r.contents t node
    → new ≡ put k node (put k between old) → IsRootWritten k t d r old new
root_written k t d r old new node between is at = record {
  contents = is.anew.contents;
  anew = is.anew.anew;
  is = at ∙ put_twice k node between old ∙ ap (λ d. put k d old) (is.is ∙ ap (λ ds. object (filled ds r.members)) is.anew.items_are);
}

-- the other root stays where it is beside a new bar
pub other_beside : (bar d : Data) (roots : Members) → get_member other_key roots ≡ Some d → get_member other_key (put bar_key bar roots) ≡ Some d
other_beside bar d roots at = get_member-put_other other_key bar_key bar roots (λ e. let bad : ⊥ = cc in bad) ∙ at

-- ---- a document

-- the members of a document, whichever it is told to have
module _ (file : Data) (h : HasBothRoots file) where
  pub bar_at : get_member bar_key h.members.roots ≡ Some h.bar_node
  bar_at = sym (ap (option_and_then (get bar_key)) h.members.roots_are) ∙ h.bar_is

  pub other_at : get_member other_key h.members.roots ≡ Some h.other_node
  other_at = sym (ap (option_and_then (get other_key)) h.members.roots_are) ∙ h.other_is

  pub bar_root : HasRootAt bar_key h.members.roots
  bar_root = record { node = h.bar_node; at = bar_at; root = h.bar }

  pub other_root : HasRootAt other_key h.members.roots
  other_root = record { node = h.other_node; at = other_at; root = h.other }

  pub roots_written : (bar_tree other_tree : Tree) (between after : Members) (before new : Data) → IsRootWritten bar_key bar_tree h.bar_node h.bar h.members.roots between
      → IsRootWritten other_key other_tree h.other_node h.other between after
      → new ≡ object (put roots_key (object after) (put roots_key before h.members.file)) → AreRootsWritten file h bar_tree other_tree new
  roots_written bar_tree other_tree between after before new one two is = record {
    bar = one.contents;
    other = two.contents;
    bar_anew = one.anew;
    other_anew = two.anew;
    is =
        is ∙ ap object (put_twice roots_key (object after) before h.members.file)
        ∙ ap (λ rs. object (put roots_key (object rs) h.members.file)) (two.is ∙ ap (put other_key (root_of h.other.members two.contents)) one.is);
  }

-- ---- a file

pub both_roots : (bytes : List ℕ) (d : Data) (old : IsFile bytes) → IsDocument bytes d → HasBothRoots d
both_roots bytes d old document =
    let same : old.roots.file ≡ d = document_known bytes old.roots.file d old.roots.document document in
    record {
      members = subst HasMembers same (file_members old.roots);
      bar_node = old.bar_node;
      other_node = old.other_node;
      bar_is = ap (root_at bar_key) (sym same) ∙ old.roots.bar_is;
      other_is = ap (root_at other_key) (sym same) ∙ old.roots.other_is;
      bar = old.bar;
      other = old.other;
    }

-- ---- values

-- what is found at `roots`, and the members of the file
pub taken_apart : (d : Data) (h : HasBothRoots d) (file : Members) (o : Option Value) (roots : Value) → d ≡ object file → option_map view o ≡ get_member roots_key file
    → o ≡ Some roots → (view roots ≡ object h.members.roots) × (file ≡ h.members.file)
taken_apart d h file o roots is old there =
    let found : Some (view roots) ≡ Some (object h.members.roots) = sym (ap (option_map view) there) ∙ old ∙ sym (ap (get roots_key) is) ∙ h.members.roots_are in
    let both : object file ≡ object h.members.file = sym is ∙ h.members.is in
    (same_Some (view roots) (object h.members.roots) found, cc)

-- an object has its members
pub same_members : (ms ns : Members) (d : Data) → d ≡ object ms → d ≡ object ns → ms ≡ ns
same_members ms ns d one other = let both : object ms ≡ object ns = sym one ∙ other in cc

-- a root that was taken
pub root_taken : (k : List ℕ) (old : Members) (v : Value) (o : Option Value) (d : Data) → option_map view o ≡ get_member k old → o ≡ Some v → get_member k old ≡ Some d → view v ≡ d
root_taken k old v o d was there at = same_Some (view v) d (sym (ap (option_map view) there) ∙ was ∙ at)

pub root_with_members : (v : Value) (d : Data) (r : IsRoot d) → view v ≡ d → IsFolderWith r.members r.children r.contents (view v)
root_with_members v d r same = record { is = same ∙ r.folder.is; children_are = r.folder.children_are; nodes = r.folder.nodes }

-- ---- the whole

pub written_file : (bytes : List ℕ) (old : IsFile bytes) (t bar_tree other_tree : Tree) (d new : Data) (document : IsDocument bytes d) → AreFoldersOf t bar_tree other_tree
    → AreRootsWritten d (both_roots bytes d old document) bar_tree other_tree new → IsWrittenAnew t bytes (compact_text new)
unfolding both_roots
written_file bytes old t bar_tree other_tree d new document folders w = record {
  old = old;
  members = file_members old.roots;
  bar = w.bar;
  other = w.other;
  anew = record { bar_tree = bar_tree; other_tree = other_tree; tree = folders.tree; bar = w.bar_anew; other = w.other_anew };
  text = ap compact_text w.is;
}

pub written_fine : (bytes : List ℕ) → IsUtf8 bytes → (old : IsFile bytes) (t bar_tree other_tree : Tree) (d new : Data) (document : IsDocument bytes d)
    → marks_over t ≡ None → AreFoldersOf t bar_tree other_tree → AreRootsWritten d (both_roots bytes d old document) bar_tree other_tree new → IsFine 127 new
unfolding both_roots
written_fine bytes utf8 old t bar_tree other_tree d new document over folders w =
    subst (IsFine 127) (sym w.is)
    (new_fine utf8 old (file_members old.roots) t over w.bar w.other
    (record { bar_tree = bar_tree; other_tree = other_tree; tree = folders.tree; bar = w.bar_anew; other = w.other_anew }))
