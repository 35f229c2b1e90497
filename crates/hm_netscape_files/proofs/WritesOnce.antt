-- Of a tree one text is written, and there is one.
use Rattle.std.proofs.Common.{◌≡◌, ℕ, List, [], ◌++◌, take, drop, refl, sym, ◌∙◌, subst}
use Rattle.std.specs.Prelude.{Ok}
use Rattle.hm_existence.specs.Existence.{IsThere}
use Rattle.hm_existence.proofs.Existence.{from_one, from_there, by_cases}
use Rattle.hm_tree.specs.Nodes.{Tree, edges}
use Rattle.hm_schema.specs.Membership.{IsMemberTree}
use Rattle.hm_book_items.specs.ItemTrees.{AreLists}
use Rattle.hm_book_items.proofs.Laws.{lists_once}
use Rattle.hm_marks.specs.Pieces.{staying}
use Rattle.hm_marks_schema.specs.Schema.{marks_schema}
use Rattle.hm_marks_schema.specs.Bookmarks.{AreBookmarksAnew}
use Rattle.hm_marks_schema.proofs.SomeAnew.{some_anew}
use Rattle.hm_marks_schema.proofs.WholeFiles as whole
use Rattle.hm_marks_tokens.specs.Grammar.{Contents}
use Rattle.hm_marks_tokens.specs.Lines.{laid_list}
use Rattle.hm_netscape_entries.specs.Entries.{html}
use Rattle.hm_netscape_entries.specs.Toolbars.{bar_of, other_of}
use Rattle.hm_netscape_entries.specs.Written.{tidied, list_lines}
use Rattle.hm_netscape_files.specs.Anew.{in_front_of_bar, bar_entry, with_bar, IsAnew}
use Rattle.hm_netscape_files.specs.Files.{IsFile, NetscapeReads}
use Rattle.hm_netscape_files.specs.Writing.{IsWrittenAnew, NetscapeWrites, stays, anew}
use Rattle.hm_netscape_files.proofs.ReadOnce.{one_head, one_tail, at_head, file_once}

-- what stands in the outermost folder then
contents_once : (old : Contents) (t : Tree) (one other : Contents) → IsAnew old t one → IsAnew old t other → one ≡ other
contents_once old t one other h k =
    let new = whole.anew_once html (bar_of old) (other_of old) t h.bar h.other k.bar k.other h.made k.made in
    let trees = whole.both_known h.made.bar_tree h.made.other_tree k.made.bar_tree k.made.other_tree t h.made.tree k.made.tree in
    let below = subst (λ u. AreLists (edges u) h.made.other.lists) trees.1 h.made.other.below in
    let lists = lists_once (edges k.made.other_tree) h.made.other.lists k.made.other.lists below k.made.other.below in
    h.new_is
    ∙ (λ i. with_bar (bar_entry old) (staying html (lists i) [] (in_front_of_bar old)) (new.0 i) (new.1 i))
    ∙ sym k.new_is

module _ (t : Tree) (before : List ℕ) where
  anew_once : (one other : List ℕ) → IsWrittenAnew t before one → IsWrittenAnew t before other → one ≡ other
  anew_once one other h k =
      let old = file_once before h.old k.old h.file k.file in
      let new = contents_once k.old t h.new k.new (subst (λ (c : Contents). IsAnew c t h.new) old h.anew) k.anew in
      let head = one_head before h.file.head k.file.head h.file.head_is k.file.head_is in
      let list = at_head before h.file.head k.file.head k.old k.file.tail h.file.head_is k.file.head_is k.file.list in
      let tail = one_tail (drop h.file.head before) h.old k.old h.file.tail k.file.tail h.file.list list in
      h.text ∙ (λ i. take (head i) before ++ (laid_list 0 (list_lines (tidied (new i))) ++ tail i)) ∙ sym k.text

  pub writes_once : (one other : List ℕ) → NetscapeWrites t before one → NetscapeWrites t before other → one ≡ other
  writes_once one other (stays h) (stays k) = refl
  writes_once one other (stays h) (anew not_read w) = absurd (not_read h)
  writes_once one other (anew not_read w) (stays k) = absurd (not_read k)
  writes_once one other (anew a h) (anew b k) = anew_once one other h k

  -- ---- there is one

  abbrev Texts : List ℕ → Type 0
  Texts = NetscapeWrites t before

  abbrev NewContents : Contents → Contents × Contents → Type 0
  NewContents old new = AreBookmarksAnew html (bar_of old) (other_of old) t new.0 new.1

  anew_there : (old : Contents) → IsFile before old → ¬ (NetscapeReads before (Ok t)) → (new : Contents × Contents) → NewContents old new → IsThere Texts
  anew_there old file other new is =
      let all = with_bar (bar_entry old) (staying html is.other.lists [] (in_front_of_bar old)) new.0 new.1 in
      from_one Texts (take file.head before ++ (laid_list 0 (list_lines (tidied all)) ++ file.tail))
      (anew other (record {
        old = old;
        file = file;
        new = all;
        anew = record { bar = new.0; other = new.1; made = is; new_is = refl };
        text = refl;
      }))

  pub some_written : (old : Contents) → IsFile before old → IsMemberTree marks_schema t → IsThere Texts
  some_written old file member =
      by_cases Texts (NetscapeReads before (Ok t)) (λ read. from_one Texts before (stays read))
      (λ other. from_there (NewContents old) Texts (some_anew html (bar_of old) (other_of old) t member) (anew_there old file other))
