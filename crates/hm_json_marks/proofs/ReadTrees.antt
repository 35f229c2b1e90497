-- The tree of a file, from what its roots are read as.
use Rattle.std.proofs.Common.{ℕ, zero, suc, List, Result, Ok, Err, subst, arith}
use Rattle.std.specs.Prelude.{IsUtf8}
use Rattle.hm_tree.specs.Nodes.{Tree}
use Rattle.hm_marks_schema.specs.Bookmarks.{AreBookmarks}
use Rattle.hm_marks_trees.specs.Nodes.{plain, contents, seen}
use Rattle.hm_marks_trees.specs.declared.node.Node.{Node}
use Rattle.hm_marks_trees.proofs.Seen.{seen_bookmarks}
use Rattle.serde_json.specs.Data.{Data}
use Rattle.hm_format.specs.Answers.{Reads}
use Rattle.hm_format.specs.declared.fault.FormatFault.{FormatFault}
use Rattle.hm_format.specs.declared.fault.FormatFault.TheVariants.{BadOption, NotUtf8, BadItem, NoKey, TooDeep, Outside, Memory}
use Rattle.hm_json_nodes.specs.Nodes.{json}
use Rattle.hm_json_nodes.specs.Numbers.{IsFirstBad}
use Rattle.hm_json_marks.specs.Roots.{HasRoots, IsBadItem, numbered, fits}
use Rattle.hm_json_marks.specs.Files.{IsFile, IsBookmarkFile, JsonReads}
use Rattle.hm_json_marks.specs.Reading.{IsRootRead, GivesTree}

module _ (bytes : List ℕ) (text : IsUtf8 bytes) (bar_node other_node : Data) (roots : HasRoots bytes bar_node other_node) where
  module _ (bar other : List Node) (in_bar : IsRootRead bar_node bar) (in_other : IsRootRead other_node other) where
    file : IsFile bytes
    file = record { bar_node = bar_node; other_node = other_node; roots = roots; bar = in_bar.root; other = in_other.root }

    shown : (t : Tree) → AreBookmarks plain (contents bar) (contents other) t → IsBookmarkFile bytes t
    unfolding file
    shown t is = record {
      file = file;
      tree =
          seen_bookmarks json in_bar.root.contents in_other.root.contents t
          (subst (λ c. AreBookmarks plain c (seen json in_other.root.contents) t) in_bar.show (subst (λ c. AreBookmarks plain (contents bar) c t) in_other.show is));
    }

    pub tree_given : (r : Result Tree FormatFault) → GivesTree (contents bar) (contents other) r → Reads (JsonReads bytes) r
    tree_given (Ok t) h = (text, shown t h.is, h.within)
    tree_given (Err (TooDeep d)) h = (text, record { tree = h.tree; book = shown h.tree h.is; over = h.over_is })
    tree_given (Err Memory) h = tt
    tree_given (Err (BadOption key)) h = absurd h
    tree_given (Err (NotUtf8 at)) h = absurd h
    tree_given (Err (BadItem number)) h = absurd h
    tree_given (Err (NoKey number)) h = absurd h
    tree_given (Err (Outside path)) h = absurd h

  pub bad_item : (number : ℕ) → IsFirstBad fits (numbered bar_node other_node) number → IsBadItem bytes number
  bad_item zero h = let is = h.place in absurd (omega (arith, is))
  bad_item (suc n) h = (bar_node, other_node, roots, h)
