-- What is written is read as the tree, and what trees don't show stays.
use Rattle.std.proofs.Common.{◌≡◌, ℕ, List, None, IsUtf8, refl, sym, subst}
use Rattle.std.specs.Prelude.{Ok}
use Rattle.hm_tree.specs.Nodes.{Tree}
use Rattle.serde_json.specs.Data.{object, array, put}
use Rattle.serde_json.specs.Written.{compact_text}
use Rattle.hm_json_documents.proofs.Members.{put_twice}
use Rattle.hm_marks_schema.specs.Bookmarks.{AreBookmarksAnew}
use Rattle.hm_marks_schema.specs.Nesting.{marks_over}
use Rattle.hm_json_nodes.specs.Nodes.{children_key, Contents, json, AreAlike, spelled}
use Rattle.hm_json_nodes.proofs.Rewritten.{keeps}
use Rattle.hm_json_marks.specs.Roots.{roots_key, bar_key, other_key}
use Rattle.hm_json_marks.specs.Files.{IsFile, JsonReads}
use Rattle.hm_json_marks.specs.Writing.{HasMembers, JsonWrites, stays, anew, JsonKeeps}
use Rattle.hm_json_marks.proofs.Found.{file_members}
use Rattle.hm_marks.proofs.KeptItself.{keeps_itself}
use Rattle.hm_json_marks.proofs.NewFile.{root_with, roots_there, new_whole, new_file, new_read}
use Rattle.hm_json_marks.proofs.Puts.{puts_twice}

-- bytes that stay keep all
file_keeps_itself : {before : List ℕ} → IsFile before → JsonKeeps before before
file_keeps_itself old = record {
  old = old;
  new = old;
  old_members = file_members old.roots;
  new_members = file_members old.roots;
  file_stays = λ d. refl;
  roots_stay = λ b o. refl;
  bar_stays = λ d. refl;
  other_stays = λ d. refl;
  bar = keeps_itself json AreAlike old.bar.contents;
  other = keeps_itself json AreAlike old.other.contents;
}

module _ {before : List ℕ} (utf8 : IsUtf8 before) (t : Tree) (over : marks_over t ≡ None) where
  -- bytes that are written anew keep all that has to stay
  keeps_anew : (old : IsFile before) (m : HasMembers old.roots.file) (bar other : Contents)
      → (is : AreBookmarksAnew json old.bar.contents old.other.contents t bar other) → JsonKeeps before (compact_text (new_whole utf8 old m t over bar other is))
  keeps_anew old m bar other is =
      let new_bar = root_with old.bar bar in
      let new_other = root_with old.other other in
      let new_roots = put other_key new_other (put bar_key new_bar m.roots) in
      record {
        old = old;
        new = new_file utf8 old m t over bar other is;
        old_members = m;
        new_members = record {
          file = put roots_key (object new_roots) m.file;
          roots = new_roots;
          is = refl;
          roots_are = roots_there m.file m.roots new_bar new_other;
        };
        file_stays = λ d. put_twice roots_key d (object new_roots) m.file;
        roots_stay = λ b o. puts_twice bar_key other_key refl new_bar new_other b o m.roots;
        bar_stays = λ d. put_twice children_key d (array (spelled bar)) old.bar.members;
        other_stays = λ d. put_twice children_key d (array (spelled other)) old.other.members;
        bar = keeps old.bar.children old.bar.contents bar is.bar_tree old.bar.folder.nodes is.bar;
        other = keeps old.other.children old.other.contents other is.other_tree old.other.folder.nodes is.other;
      }

  -- what is written is read as the tree
  pub put_get : (after : List ℕ) → JsonWrites t before after → JsonReads after (Ok t)
  put_get after (stays h) = h
  put_get after (anew not_read w) =
      subst (λ bytes. JsonReads bytes (Ok t)) (sym w.text) (new_read utf8 w.old w.members t over w.bar w.other w.anew)

  pub kept : (after : List ℕ) → JsonWrites t before after → JsonKeeps before after
  kept after (stays h) = file_keeps_itself h.1.file
  kept after (anew not_read w) = subst (JsonKeeps before) (sym w.text) (keeps_anew w.old w.members w.bar w.other w.anew)
