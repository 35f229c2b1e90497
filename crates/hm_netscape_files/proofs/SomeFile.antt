-- All bytes are read as a tree, or refused for a fault.
use Rattle.std.proofs.Common.{◌≡◌, ℕ, ◌+◌, List, length, drop, Option, Some, None, refl}
use Rattle.std.specs.Prelude.{Result, Ok, Err}
use Rattle.std.specs.Str.{IsUtf8}
use Rattle.std.specs.Str.Lossy.{utf8_valid_len}
use Rattle.hm_existence.specs.Existence.{IsThere}
use Rattle.hm_existence.proofs.Existence.{from_one, from_there, by_cases}
use Rattle.hm_tree.specs.Nodes.{Tree}
use Rattle.hm_format.specs.declared.fault.FormatFault.{FormatFault}
use Rattle.hm_format.specs.declared.fault.FormatFault.TheVariants.{NotUtf8, BadItem, TooDeep}
use Rattle.hm_marks_schema.specs.Bookmarks.{AreBookmarks}
use Rattle.hm_marks_schema.specs.Nesting.{marks_over}
use Rattle.hm_marks_schema.proofs.SomeTree.{some_tree}
use Rattle.hm_marks_tokens.specs.Grammar.{Contents, folder_symbols, IsListOf}
use Rattle.hm_marks_tokens.proofs.Folders.{by_contents}
use Rattle.hm_netscape_entries.specs.Entries.{html}
use Rattle.hm_netscape_entries.specs.Toolbars.{bar_of, other_of}
use Rattle.hm_netscape_files.specs.Heads.{IsHead}
use Rattle.hm_netscape_files.specs.Tails.{IsTail}
use Rattle.hm_netscape_files.specs.Files.{IsFile, IsFileOf, no_head, in_folder, in_tail, NetscapeReads}
use Rattle.hm_netscape_files.proofs.EntryTexts.{file_bytes}
use Rattle.hm_netscape_files.proofs.FileTexts.{bar_texts, other_texts}
use Rattle.hm_netscape_files.proofs.SomeFolder.{folder_or_misfit}

module _ (bytes : List ℕ) where
  abbrev Answers : Result Tree FormatFault → Type 0
  Answers = NetscapeReads bytes

  -- a file has a tree
  tree_there : (t : Tree) → IsFileOf bytes t → (o : Option ℕ) → marks_over t ≡ o → IsThere Answers
  tree_there t file (Some n) over = from_one Answers (Err (TooDeep n)) (record { tree = t; file = file; over_is = over })
  tree_there t file None over = from_one Answers (Ok t) (file, over)

  file_there : (c : Contents) → IsFile bytes c → IsThere Answers
  file_there c file =
      let texts = (file_bytes bytes c file).0 in
      from_there (AreBookmarks html (bar_of c) (other_of c)) Answers
      (some_tree html (bar_of c) (other_of c) (bar_texts c texts) (other_texts c texts))
      (λ t tree. tree_there t (record { contents = c; file = file; tree = tree }) (marks_over t) refl)

  module _ (utf8 : IsUtf8 bytes) where
    -- behind a head stands a list, and behind that a tail
    list_there : (head : ℕ) → IsHead bytes head → (c : Contents) (tail : List ℕ) → IsListOf (drop head bytes) c tail → IsThere Answers
    list_there head is c tail list =
        by_cases Answers (IsTail tail)
        (λ ends. file_there c (record { text = utf8; head = head; tail = tail; head_is = is; list = list; tail_is = ends }))
        (λ bad. from_one Answers (Err (BadItem (length (folder_symbols c) + 1))) (utf8, in_tail head c tail is list bad refl))

    head_there : (head : ℕ) → IsHead bytes head → IsThere Answers
    head_there head is =
        folder_or_misfit (drop head bytes) Answers
        (λ tail folder. let list = (by_contents (drop head bytes) tail).0 folder in list_there head is list.0 tail list.1)
        (λ number misfit. from_one Answers (Err (BadItem number)) (utf8, in_folder head is misfit))

    text_there : IsThere Answers
    text_there =
        by_cases Answers ((n : ℕ) × IsHead bytes n) (λ h. head_there h.0 h.1)
        (λ none. from_one Answers (Err (BadItem 0)) (utf8, no_head (λ n is. none (n, is)) refl))

  pub some_read : IsThere Answers
  some_read =
      by_cases Answers (IsUtf8 bytes) text_there
      (λ broken. from_one Answers (Err (NotUtf8 (utf8_valid_len bytes))) (record { broken = broken; place = refl }))
