-- The tree of a file, by the links and folders that were read of it.
use Rattle.std.proofs.Common.{◌≡◌, ℕ, ◌<◌, Bool, true, false, cond, List, [], Some, refl, sym, ap, ◌∙◌, subst, arith}
use Rattle.std.specs.Prelude.{Ok, Err, nat_lt}
use Rattle.std.proofs.lemmas.Bool.Decides.{nat_tests}
use Rattle.hm_tree.specs.Nodes.{Tree}
use Rattle.hm_format.specs.declared.fault.FormatFault.TheVariants.{TooDeep}
use Rattle.hm_format.specs.Formats.{depth_over}
use Rattle.hm_marks_schema.specs.Bookmarks.{AreBookmarks}
use Rattle.hm_marks_schema.specs.Nesting.{folders_deep, most_folders}
use Rattle.hm_marks_schema.proofs.SomeTree.{tree_of_both}
use Rattle.hm_marks_schema.proofs.Nesting.{folders_nest}
use Rattle.hm_marks_trees.specs.Nodes.{Plain, plain}
use Rattle.hm_marks_trees.specs.Trees.{AreShallow, AreOver}
use Rattle.hm_marks_trees.proofs.Seen.{seen_bookmarks}
use Rattle.hm_netscape_entries.specs.Entries.{html}
use Rattle.hm_netscape_entries.specs.Toolbars.{bar_of, other_of}
use Rattle.hm_netscape_files.specs.Shown.{shown_of}
use Rattle.hm_netscape_files.specs.Files.{IsFileOf, NetscapeReads}
use Rattle.hm_netscape_files.specs.Opened.{IsOpened, folders_within}
use Rattle.hm_netscape_files.proofs.EntryTexts.{left_bytes}
use Rattle.hm_netscape_files.proofs.FileTexts.{bar_texts, other_texts}

module _ (bytes inside : List ℕ) (is : IsOpened bytes inside) where
  -- too many folders nest, whatever else there is
  pub nested : (n : ℕ) → n ≡ folders_within is.contents → most_folders < n → NetscapeReads bytes (Err (TooDeep n))
  nested n same over =
      let texts = left_bytes is.contents [] is.rest inside is.text is.left in
      let bar = bar_of is.contents in
      let other = other_of is.contents in
      let some = tree_of_both html bar other (bar_texts is.contents texts) (other_texts is.contents texts) in
      let deep : folders_deep some.0 ≡ n = folders_nest html bar other some.0 some.1 ∙ sym same in
      record {
        tree = some.0;
        file = record { contents = is.contents; file = is.file; tree = some.1 };
        over_is = ap (λ k. cond (nat_lt most_folders k) (Some k) (depth_over some.0)) deep ∙ chosen (nat_lt most_folders n) (tested n over) some.0 n;
      }
    where
      tested : (n : ℕ) → most_folders < n → nat_lt most_folders n ≡ true
      tested n over = grind (arith, nat_tests)

      chosen : (t : Bool) → t ≡ true → (u : Tree) (n : ℕ) → cond t (Some n) (depth_over u) ≡ Some n
      chosen true e u n = refl
      chosen false e u n = let bad : ⊥ = cc in absurd bad

  module _ (bar other : Plain) (bar_is : bar ≡ shown_of (bar_of is.contents)) (other_is : other ≡ shown_of (other_of is.contents)) where
    file_of : (t : Tree) → AreBookmarks plain bar other t → IsFileOf bytes t
    file_of t tree =
        record {
          contents = is.contents;
          file = is.file;
          tree = seen_bookmarks html (bar_of is.contents) (other_of is.contents) t
              (subst (λ (b : Plain). AreBookmarks plain b (shown_of (other_of is.contents)) t) bar_is (subst (λ (o : Plain). AreBookmarks plain bar o t) other_is tree));
        }

    pub read : (t : Tree) → AreShallow bar other t → NetscapeReads bytes (Ok t)
    read t tree = (file_of t tree.is, tree.within)

    pub over : (n : ℕ) → AreOver bar other (Some n) → NetscapeReads bytes (Err (TooDeep n))
    over n tree = record { tree = tree.tree; file = file_of tree.tree tree.is; over_is = tree.over_is }
