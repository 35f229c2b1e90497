-- A file that is written anew for a tree is a text, and is read as the tree.
use Rattle.std.proofs.Common.{◌≡◌, ℕ, true, List, ◌++◌, length, take, drop, None, refl, sym, ap, ◌∙◌, subst, arith}
use Rattle.std.specs.Prelude.{Ok}
use Rattle.std.specs.Str.{IsUtf8}
use Rattle.std.proofs.lemmas.List.{length-take, take_at, drop_at}
use Rattle.std.proofs.lemmas.Str.{IsUtf8-append}
use Rattle.hm_tree.specs.Nodes.{Tree}
use Rattle.hm_marks_schema.specs.Nesting.{marks_over}
use Rattle.hm_marks_tokens.specs.Grammar.{Contents, IsListOf}
use Rattle.hm_marks_tokens.specs.Lines.{laid_list}
use Rattle.hm_netscape_entries.specs.Entries.{MayStand}
use Rattle.hm_netscape_entries.specs.Written.{tidied, list_lines, AreAlike}
use Rattle.hm_netscape_entries.proofs.Sound.{list_sound}
use Rattle.hm_netscape_entries.proofs.Tidied.{tidied_sound}
use Rattle.hm_netscape_entries.proofs.ReadAgain.{read_alike}
use Rattle.hm_netscape_files.specs.Heads.{begins_list, IsHead}
use Rattle.hm_netscape_files.specs.Files.{IsFile, NetscapeReads}
use Rattle.hm_netscape_files.specs.Writing.{IsWrittenAnew}
use Rattle.hm_netscape_files.proofs.AnewHeads.{head_again}
use Rattle.hm_netscape_files.proofs.AnewParts.{same_bookmarks}
use Rattle.hm_netscape_files.proofs.AnewTexts.{anew_texts}
use Rattle.hm_netscape_files.proofs.EntryTexts.{file_bytes}
use Rattle.hm_netscape_files.proofs.LaidTexts.{list_written_text}
use Rattle.hm_netscape_files.proofs.ListText.{head_text}
use Rattle.hm_netscape_files.proofs.WholeAnew.{anew_tree, anew_stands}

-- the lines of a list begin it
list_begins : (c : Contents) (tail : List ℕ) → begins_list (laid_list 0 (list_lines c) ++ tail) ≡ true
list_begins c tail = refl

-- the file that is written has the head and the tail from before, and between them what is alike to what was written
pub record IsFoundAgain (t : Tree) (before after : List ℕ) (is : IsWrittenAnew t before after) : Type 0 where
  pub found : Contents
  pub alike : AreAlike (tidied is.new) found
  pub file : IsFile after found
  pub size : file.head ≡ is.file.head
  pub head : take file.head after ≡ take is.file.head before
  pub tail : file.tail ≡ is.file.tail

module _ (t : Tree) (before after : List ℕ) (is : IsWrittenAnew t before after) where
  -- what stood before and what is written may stand in a file
  pub old_stands : MayStand is.old
  old_stands = list_sound (drop is.file.head before) is.old is.file.tail is.file.list

  pub new_stands : MayStand is.new
  new_stands = anew_stands is.old t is.new old_stands is.anew

  lines : List ℕ
  lines = laid_list 0 (list_lines (tidied is.new))

  -- what is written is a text
  pub written_utf8 : IsUtf8 after
  unfolding lines
  written_utf8 =
      let old = file_bytes before is.old is.file in
      let list = list_written_text is.new (anew_texts is.old t is.new old_stands old.0 is.anew) in
      subst IsUtf8 (sym is.text)
      (IsUtf8-append (take is.file.head before) (lines ++ is.file.tail) (head_text before is.file.head is.file.text is.file.head_is)
      (IsUtf8-append lines is.file.tail list old.1))

  pub found_again : IsFoundAgain t before after is
  unfolding lines
  found_again =
      let n = is.file.head in
      let tail = is.file.tail in
      let read = read_alike (tidied is.new) tail (tidied_sound is.new new_stands) in
      let long = length-take n before in
      let size : length (take n before) ≡ n = omega (arith, long, is.file.head_is.within) in
      let front : take n (take n before ++ (lines ++ tail)) ≡ take n before = take_at (take n before) (lines ++ tail) n size in
      let back : drop n (take n before ++ (lines ++ tail)) ≡ lines ++ tail = drop_at (take n before) (lines ++ tail) n size in
      record {
        found = read.found;
        alike = read.alike;
        file = record {
          text = written_utf8;
          head = n;
          tail = tail;
          head_is = subst (λ (l : List ℕ). IsHead l n) (sym is.text) (head_again before n (lines ++ tail) is.file.head_is (list_begins (tidied is.new) tail));
          list = subst (λ (l : List ℕ). IsListOf (drop n l) read.found tail) (sym is.text)
              (subst (λ (l : List ℕ). IsListOf l read.found tail) (sym back) read.list);
          tail_is = is.file.tail_is;
        };
        size = refl;
        head = ap (take n) is.text ∙ front;
        tail = refl;
      }

pub read_anew : (t : Tree) (before after : List ℕ) → IsWrittenAnew t before after → marks_over t ≡ None → NetscapeReads after (Ok t)
read_anew t before after is within =
    let again = found_again t before after is in
    let tree = same_bookmarks is.new again.found t again.alike (anew_tree is.old t is.new (old_stands t before after is) is.anew) in
    (record { contents = again.found; file = again.file; tree = tree }, within)
