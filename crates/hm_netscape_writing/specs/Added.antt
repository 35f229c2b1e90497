-- What is put behind bytes of what stood in a folder, written anew for a tree.
use Rattle.std.specs.Prelude.{ℕ, ◌+◌, ◌≤◌, List, ◌++◌}
use Rattle.hm_tree.specs.Names.{Name}
use Rattle.hm_tree.specs.Nodes.{Tree, depth}
use Rattle.hm_book_items.specs.ItemTrees.{Lists, lists_depth}
use Rattle.hm_book_items.specs.Plans.{keys_of}
use Rattle.hm_book_items.specs.declared.new_trees.NewTrees.{NewTrees}
use Rattle.hm_marks.specs.Contents.{nothing, link, folder, separator, Item}
use Rattle.hm_marks.specs.Layouts.{items_of}
use Rattle.hm_marks.specs.Pieces as marks
use Rattle.hm_marks.specs.Pieces.{staying}
use Rattle.hm_marks.specs.Writing.{AreMade, AreWrittenAnew}
use Rattle.hm_marks_schema.specs.Taken.{HaveTaken}
use Rattle.hm_marks_tokens.specs.Symbols.{Symbol}
use Rattle.hm_marks_tokens.specs.Grammar.{Entry, Contents}
use Rattle.hm_netscape_entries.specs.Entries.{html}
use Rattle.hm_netscape_entries.specs.Next.{Next, IsLeft, Begins}
use Rattle.hm_netscape_lines.specs.Behind.{StandBehind}

abbrev pub Piece : Type 0
Piece = marks.Piece Entry Entry (List ℕ)

-- items of a folder from before, each with its key
abbrev pub Before : Type 0
Before = List (Name × Item Entry Entry (List ℕ))

-- so many folders may be open: more than nest in any tree
abbrev pub most_open : ℕ
most_open = 1001

-- what is made of these pieces, by lines
pub record Adds (level : ℕ) (old new : List ℕ) (pieces : List Piece) : Type 0 where
  pub made : Contents
  pub of : AreMade html pieces made
  pub lines : StandBehind level old new made

-- what stood in a folder, written anew for a tree
pub record AddsAnew (level : ℕ) (old new : List ℕ) (before : Contents) (t : Tree) : Type 0 where
  pub after : Contents
  pub anew : AreWrittenAnew html before t after
  pub lines : StandBehind level old new after

-- a folder in which that stands
pub record AddsFolder (level : ℕ) (old new : List ℕ) (e : Entry) (before : Contents) (t : Tree) : Type 0 where
  pub after : Contents
  pub anew : AreWrittenAnew html before t after
  pub lines : StandBehind level old new (folder e after nothing)

-- items from before have taken their trees, and as many folders may still be opened as the trees need
pub record HaveRoom (level : ℕ) (trees : NewTrees) (lists : Lists) (before : Before) : Type 0 where
  pub have : HaveTaken trees lists (keys_of before)
  pub room : level + lists_depth depth lists ≤ most_open

-- what stays of what stood behind such items was put behind bytes
pub record HaveStayed (level : ℕ) (lists : Lists) (before : Before) (c : Contents) (trees : NewTrees) (old new : List ℕ) : Type 0 where
  pub have : HaveRoom level trees lists (before ++ items_of html c)
  pub adds : Adds level old new (staying html lists before c)

-- ---- one entry after the other

-- the first of what stands in a folder, and what stands behind it
abbrev pub first_of : Contents → Contents
first_of nothing = nothing
first_of (link e rest) = link e nothing
first_of (folder e inside rest) = folder e inside nothing
first_of (separator a rest) = separator a nothing

abbrev pub rest_of : Contents → Contents
rest_of nothing = nothing
rest_of (link e rest) = rest
rest_of (folder e inside rest) = rest
rest_of (separator a rest) = rest

-- this stands next in some folder, and bytes begin with what stands behind it
abbrev pub AreIn : Next → List ℕ → Type 0
AreIn next bytes = (c : Contents) × (more : List Symbol) × (rest : List ℕ) × Begins bytes more rest c next

-- the first of what stood in a folder was passed
pub record IsPast (level : ℕ) (lists : Lists) (before : Before) (c : Contents) (trees : NewTrees) (old new bytes : List ℕ) (more : List Symbol) (rest : List ℕ) : Type 0 where
  pub stayed : HaveStayed level lists before (first_of c) trees old new
  pub left : IsLeft bytes (rest_of c) more rest
