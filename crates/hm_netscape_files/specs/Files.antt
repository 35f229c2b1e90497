-- What files of Netscape bookmarks are read as: the tree of their links and folders, or why they are none.
use Rattle.std.specs.Prelude.{◌≡◌, ℕ, ◌+◌, List, length, drop, Option, Some, None, Result, Ok, Err, IsUtf8}
use Rattle.std.specs.Str.Lossy.{utf8_valid_len}
use Rattle.hm_tree.specs.Nodes.{Tree}
use Rattle.hm_marks_schema.specs.Bookmarks.{AreBookmarks}
use Rattle.hm_marks_schema.specs.Nesting.{marks_over}
use Rattle.hm_marks_tokens.specs.Reading.{IsMisfit}
use Rattle.hm_marks_tokens.specs.Grammar.{Contents, folder_symbols, IsListOf}
use Rattle.hm_netscape_entries.specs.Entries.{html}
use Rattle.hm_netscape_entries.specs.Toolbars.{bar_of, other_of}
use Rattle.hm_format.specs.declared.fault.FormatFault.{FormatFault}
use Rattle.hm_format.specs.declared.fault.FormatFault.TheVariants.{BadOption, NotUtf8, BadItem, NoKey, TooDeep, Outside, Memory}
use Rattle.hm_netscape_files.specs.Heads.{IsHead, HasNoHead}
use Rattle.hm_netscape_files.specs.Tails.{IsTail}

-- bytes are a file: a head of so many bytes, the outermost folder, in which this stands, and a tail
pub record IsFile (bytes : List ℕ) (c : Contents) : Type 0 where
  pub text : IsUtf8 bytes
  pub head : ℕ
  pub tail : List ℕ
  pub head_is : IsHead bytes head
  pub list : IsListOf (drop head bytes) c tail
  pub tail_is : IsTail tail

-- the tree of a file: of what stands in its bookmarks bar, and of what stands beside it
pub record IsFileOf (bytes : List ℕ) (t : Tree) : Type 0 where
  pub contents : Contents
  pub file : IsFile bytes contents
  pub tree : AreBookmarks html (bar_of contents) (other_of contents) t

-- its tree is so much over the limits of bookmarks, if at all: more folders nest in it than may, or else it is too deep
pub record IsOver (bytes : List ℕ) (over : Option ℕ) : Type 0 where
  pub tree : Tree
  pub file : IsFileOf bytes tree
  pub over_is : marks_over tree ≡ over

-- the number of the first symbol that doesn't fit: 0 where the file has no head; else the symbols of its outermost folder are
-- numbered from 1 on, and one that doesn't fit in the tail stands behind these
pub data IsBadItem (bytes : List ℕ) (number : ℕ) : Type 0 where
  no_head : HasNoHead bytes → number ≡ 0 → IsBadItem bytes number
  in_folder : (head : ℕ) → IsHead bytes head → IsMisfit (drop head bytes) number → IsBadItem bytes number
  in_tail : (head : ℕ) (c : Contents) (tail : List ℕ) → IsHead bytes head → IsListOf (drop head bytes) c tail → ¬ (IsTail tail)
      → number ≡ length (folder_symbols c) + 1 → IsBadItem bytes number

-- the bytes aren't UTF-8, and this is the length of the longest beginning that is
pub record StopsAt (bytes : List ℕ) (at : ℕ) : Type 0 where
  pub broken : ¬ (IsUtf8 bytes)
  pub place : at ≡ utf8_valid_len bytes

abbrev pub NetscapeReads : List ℕ → Result Tree FormatFault → Type 0
NetscapeReads bytes (Ok tree) = IsFileOf bytes tree × (marks_over tree ≡ None)
NetscapeReads bytes (Err (NotUtf8 at)) = StopsAt bytes at
NetscapeReads bytes (Err (BadItem number)) = IsUtf8 bytes × IsBadItem bytes number
NetscapeReads bytes (Err (TooDeep found)) = IsOver bytes (Some found)
NetscapeReads bytes (Err (NoKey number)) = ⊥
NetscapeReads bytes (Err (BadOption key)) = ⊥
NetscapeReads bytes (Err (Outside path)) = ⊥
NetscapeReads bytes (Err Memory) = ⊥
