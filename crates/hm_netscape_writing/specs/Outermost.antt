-- What is put behind bytes of what stood in the outermost folder, written anew for the tree of a file.
use Rattle.std.specs.Prelude.{◌≡◌, ℕ, ◌∷◌, ◌++◌, cond, List, [], Option, Some, None, true, false}
use Rattle.hm_tree.specs.Nodes.{Tree}
use Rattle.hm_book_items.specs.ItemTrees.{Lists}
use Rattle.hm_book_items.specs.declared.new_trees.NewTrees.{NewTrees}
use Rattle.hm_marks.specs.Contents.{nothing, folder}
use Rattle.hm_marks.specs.Writing.{AreWrittenAnew}
use Rattle.hm_marks_tokens.specs.Symbols as symbols
use Rattle.hm_marks_tokens.specs.Symbols.{Symbol, HasSymbols}
use Rattle.hm_marks_tokens.specs.Grammar.{Entry, Contents, contents_symbols}
use Rattle.hm_netscape_entries.specs.Entries.{html}
use Rattle.hm_netscape_entries.specs.Next.{Next, an_end, a_link, a_folder, a_separator, IsLeft}
use Rattle.hm_netscape_entries.specs.Toolbars.{is_toolbar}
use Rattle.hm_netscape_files.specs.Anew.{bar_entry, new_bar, is_something, IsAnew}
use Rattle.hm_netscape_lines.specs.Behind.{StandBehind, joined, seen}
use Rattle.hm_netscape_lines.specs.declared.entry.Entry.{Entry as LentEntry}
use Rattle.hm_netscape_writing.specs.Added.{HaveStayed}

-- what stood in the outermost folder
pub record AddsOutermost (old new : List ℕ) (before : Contents) (t : Tree) : Type 0 where
  pub after : Contents
  pub anew : IsAnew before t after
  pub lines : StandBehind 1 old new after

-- a new bookmarks bar for a tree, where there was none and something is to stand in it
abbrev pub IsMissing : Option Entry → Tree → List ℕ → List ℕ → Type 0
IsMissing (Some e) t old new = new ≡ old
IsMissing None t old new =
    (bar : Contents) × AreWrittenAnew html nothing t bar × StandBehind 1 old new (cond (is_something bar) (folder new_bar bar nothing) nothing)

-- ---- in front of the bookmarks bar, and behind it

-- there is none: all has stayed that was to stay, and bytes begin with what stands behind the end
pub record IsAtEnd (lists : Lists) (c : Contents) (trees : NewTrees) (old new bytes : List ℕ) (more : List Symbol) (rest : List ℕ) : Type 0 where
  pub none : bar_entry c ≡ None
  pub stayed : HaveStayed 1 lists [] c trees old new
  pub ends : HasSymbols false bytes more rest

-- this is its entry: what stood in front of it has stayed, and bytes begin with what stands in it
pub record IsAtBar (lists : Lists) (c : Contents) (e : Entry) (trees : NewTrees) (old new bytes : List ℕ) (more : List Symbol) (rest : List ℕ) : Type 0 where
  pub front : Contents
  pub inside : Contents
  pub behind : Contents
  pub are : c ≡ joined front (folder e inside behind)
  pub none : bar_entry front ≡ None
  pub is : is_toolbar e.attributes ≡ true
  pub stayed : HaveStayed 1 lists [] front trees old new
  pub left : IsLeft bytes inside (contents_symbols behind ++ symbols.list_end ∷ more) rest

abbrev pub IsFound : Option LentEntry → Lists → Contents → NewTrees → (old new bytes : List ℕ) → List Symbol → List ℕ → Type 0
IsFound None lists c trees old new bytes more rest = IsAtEnd lists c trees old new bytes more rest
IsFound (Some e) lists c trees old new bytes more rest = IsAtBar lists c (seen e) trees old new bytes more rest

-- what stands next is not the bookmarks bar
abbrev pub IsNoBar : Next → Type 0
IsNoBar an_end = Unit {0}
IsNoBar (a_link e) = Unit {0}
IsNoBar (a_folder e) = is_toolbar e.attributes ≡ false
IsNoBar (a_separator a) = Unit {0}
