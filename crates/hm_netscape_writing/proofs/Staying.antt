-- What was put behind bytes, one after another.
use Rattle.std.proofs.Common.{◌≡◌, ℕ, ◌+◌, false, List, [], ◌∷◌, ◌++◌, map, Option, refl, sym, ap, ◌∙◌, subst, append_assoc, append-nil}
use Rattle.hm_tree.specs.Names.{Name, name_cmp}
use Rattle.hm_tree.specs.Classes.{IsClean}
use Rattle.hm_tree.specs.Nodes.{Tree, edges}
use Rattle.hm_book_items.specs.Items.{IsTree, added}
use Rattle.hm_book_items.specs.ItemTrees.{Lists, AreLists}
use Rattle.hm_book_items.specs.declared.new_trees.NewTrees.{NewTrees}
use Rattle.hm_marks.specs.Contents.{nothing, link, folder, separator, Item}
use Rattle.hm_marks.specs.Layouts.{items_of}
use Rattle.hm_marks.specs.FolderTrees.{IsLinkTree, IsFolderTree}
use Rattle.hm_marks.specs.Pieces.{an_item, a_separator, staying}
use Rattle.hm_marks.specs.Writing.{made_nothing, made_link, made_folder, made_separator, link_for, folder_for, inside_of}
use Rattle.hm_marks_tokens.specs.Symbols as symbols
use Rattle.hm_marks_tokens.specs.Symbols.{Symbol, HasSymbols}
use Rattle.hm_marks_tokens.specs.Grammar.{Entry, Contents, contents_symbols}
use Rattle.hm_netscape_entries.specs.Entries.{html}
use Rattle.hm_netscape_entries.specs.Next as next
use Rattle.hm_netscape_entries.specs.Next.{an_end, IsLeft, Begins, begins_end, begins_link, begins_folder, begins_separator}
use Rattle.hm_netscape_lines.specs.Behind.{StandBehind, IsHeaded, IsEnded, joined}
use Rattle.hm_netscape_lines.proofs.Joined.{lines_joined, folder_lines}
use Rattle.hm_netscape_writing.specs.Added.{Piece, Before, Adds, AddsAnew, AddsFolder, HaveRoom, HaveStayed, first_of, rest_of, IsPast}
use Rattle.hm_netscape_writing.proofs.Joining.{joined_nothing, joined_again, first_joined, items_joined, staying_joined, made_joined}

-- ---- pieces

pub adds_none : (n : ℕ) (old : List ℕ) → Adds n old old []
adds_none n old = record { made = nothing; of = made_nothing; lines = sym (append-nil old) }

pub adds_more : (n : ℕ) (a b c : List ℕ) (ps qs : List Piece) → Adds n a b ps → Adds n b c qs → Adds n a c (ps ++ qs)
adds_more n a b c ps qs one other =
    record {
      made = joined one.made other.made;
      of = made_joined ps qs one.made other.made one.of other.of;
      lines = lines_joined n a b c one.made other.made one.lines other.lines;
    }

pub adds_link : (n : ℕ) (old new : List ℕ) (k address : Name) (o : Option (Item Entry Entry (List ℕ))) (t : Tree) → IsClean k → IsClean address → IsLinkTree address t
    → StandBehind n old new (link (link_for html k o address) nothing) → Adds n old new (an_item (k, o, t) ∷ [])
adds_link n old new k address o t key clean tree lines =
    record { made = link (link_for html k o address) nothing; of = made_link {x = (k, o, t)} key clean tree made_nothing; lines = lines }

pub adds_folder : (n : ℕ) (old new : List ℕ) (k : Name) (o : Option (Item Entry Entry (List ℕ))) (u t : Tree) → IsClean k → IsFolderTree u t
    → AddsFolder n old new (folder_for html k o) (inside_of html o) u → Adds n old new (an_item (k, o, t) ∷ [])
adds_folder n old new k o u t key tree adds =
    record {
      made = folder (folder_for html k o) adds.after nothing;
      of = made_folder {x = (k, o, t)} key tree adds.anew.below adds.anew.tree adds.anew.made made_nothing;
      lines = adds.lines;
    }

pub adds_separator : (n : ℕ) (old new a : List ℕ) → StandBehind n old new (separator a nothing) → Adds n old new (a_separator a ∷ [])
adds_separator n old new a lines = record { made = separator a nothing; of = made_separator made_nothing; lines = lines }

-- ---- folders

-- a heading, what stands in a folder, and its end
pub whole_folder : (n : ℕ) (w x y z : List ℕ) (e : Entry) (c : Contents) (t : Tree) → IsHeaded n w x e → AddsAnew (n + 1) x y c t → IsEnded n y z → AddsFolder n w z e c t
whole_folder n w x y z e c t heading inside end =
    record { after = inside.after; anew = inside.anew; lines = folder_lines n w x y z e inside.after heading inside.lines end }

-- what stays, and the new items
pub all_added : (n : ℕ) (x y z : List ℕ) (c : Contents) (t : Tree) (lists : Lists) → AreLists (edges t) lists → IsTree name_cmp lists
    → Adds n x y (staying html lists [] c) → Adds n y z (map an_item (added name_cmp (items_of html c) lists)) → AddsAnew n x z c t
all_added n x y z c t lists below tree stays new =
    let all = adds_more n x y z (staying html lists [] c) (map an_item (added name_cmp (items_of html c) lists)) stays new in
    record { after = all.made; anew = record { lists = lists; below = below; tree = tree; made = all.of }; lines = all.lines }

-- ---- one after another

pub stayed_none : (n : ℕ) (lists : Lists) (before : Before) (trees : NewTrees) (old : List ℕ) → HaveRoom n trees lists before
    → HaveStayed n lists before nothing trees old old
stayed_none n lists before trees old room =
    record { have = subst (HaveRoom n trees lists) (sym (append-nil before)) room; adds = adds_none n old }

pub stayed_more : (n : ℕ) (lists : Lists) (before : Before) (c d : Contents) (one other : NewTrees) (x y z : List ℕ) → HaveStayed n lists before c one x y
    → HaveStayed n lists (before ++ items_of html c) d other y z → HaveStayed n lists before (joined c d) other x z
stayed_more n lists before c d one other x y z first second =
    record {
      have =
          subst (HaveRoom n other lists) (append_assoc before (items_of html c) (items_of html d) ∙ ap (λ (xs : Before). before ++ xs) (sym (items_joined c d))) second.have;
      adds =
          subst (Adds n x z) (sym (staying_joined lists d before c))
          (adds_more n x y z (staying html lists before c) (staying html lists (before ++ items_of html c) d) first.adds second.adds);
    }

-- some of what stood in a folder has stayed, and bytes begin with what is left of it
pub record ArePast (n : ℕ) (lists : Lists) (before : Before) (all : Contents) (trees : NewTrees) (old new bytes : List ℕ) (more : List Symbol) (rest : List ℕ) : Type 0 where
  pub passed : Contents
  pub after : Contents
  pub are : all ≡ joined passed after
  pub left : IsLeft bytes after more rest
  pub stayed : HaveStayed n lists before passed trees old new

unfoldable pub past_none : (n : ℕ) (lists : Lists) (before : Before) (all : Contents) (trees : NewTrees) (old bytes : List ℕ) (more : List Symbol) (rest : List ℕ)
    → HaveRoom n trees lists before → IsLeft bytes all more rest → ArePast n lists before all trees old old bytes more rest
past_none n lists before all trees old bytes more rest room left =
    record { passed = nothing; after = all; are = refl; left = left; stayed = stayed_none n lists before trees old room }

module _ (n : ℕ) (lists : Lists) (before : Before) (all : Contents) (one other : NewTrees) (x y z bytes next_bytes : List ℕ) (more : List Symbol) (rest : List ℕ)
    (past : ArePast n lists before all one x y bytes more rest) where
  unfoldable pub past_more : IsPast n lists (before ++ items_of html past.passed) past.after other y z next_bytes more rest → ArePast n lists before all other x z next_bytes more rest
  past_more first = record {
    passed = joined past.passed (first_of past.after);
    after = rest_of past.after;
    are =
        past.are ∙ ap (joined past.passed) (sym (first_joined past.after)) ∙ sym (joined_again past.passed (first_of past.after) (rest_of past.after));
    left = first.left;
    stayed = stayed_more n lists before past.passed (first_of past.after) one other x y z past.stayed first.stayed;
  }

-- the end of the folder stands next
pub past_all : (n : ℕ) (lists : Lists) (before : Before) (all : Contents) (trees : NewTrees) (old new bytes next_bytes : List ℕ) (more : List Symbol) (rest : List ℕ)
    → (past : ArePast n lists before all trees old new bytes more rest) → Begins next_bytes more rest past.after an_end
    → HaveStayed n lists before all trees old new × HasSymbols false next_bytes more rest
past_all n lists before all trees old new bytes next_bytes more rest past ends = go past.after past.are ends
  where
    go : (after : Contents) → all ≡ joined past.passed after → Begins next_bytes more rest after an_end
        → HaveStayed n lists before all trees old new × HasSymbols false next_bytes more rest
    go _ are (begins_end has) =
        (subst (λ (c : Contents). HaveStayed n lists before c trees old new) (sym (are ∙ joined_nothing past.passed)) past.stayed, has)

-- ---- one entry

-- a link
pub past_link : (n : ℕ) (lists : Lists) (before : Before) (c : Contents) (e : Entry) (trees : NewTrees) (old new bytes : List ℕ) (more : List Symbol) (rest : List ℕ)
    → Begins bytes more rest c (next.a_link e) → HaveStayed n lists before (link e nothing) trees old new → IsPast n lists before c trees old new bytes more rest
past_link n lists before _ e trees old new bytes more rest (begins_link left) stayed = record { stayed = stayed; left = left }

-- a separator
pub past_separator : (n : ℕ) (lists : Lists) (before : Before) (c : Contents) (a : List ℕ) (trees : NewTrees) (old new bytes : List ℕ) (more : List Symbol) (rest : List ℕ)
    → Begins bytes more rest c (next.a_separator a) → HaveRoom n trees lists before → StandBehind n old new (separator a nothing)
    → IsPast n lists before c trees old new bytes more rest
past_separator n lists before _ a trees old new bytes more rest (begins_separator left) room lines =
    record {
      stayed = record { have = subst (HaveRoom n trees lists) (sym (append-nil before)) room; adds = adds_separator n old new a lines };
      left = left;
    }

-- a folder: what stands in it, and what stands behind it
pub record IsFolderNext (c : Contents) (e : Entry) (bytes : List ℕ) (more : List Symbol) (rest : List ℕ) : Type 0 where
  pub inside : Contents
  pub behind : Contents
  pub are : c ≡ folder e inside behind
  pub left : IsLeft bytes inside (contents_symbols behind ++ symbols.list_end ∷ more) rest

pub folder_next : (c : Contents) (e : Entry) (bytes : List ℕ) (more : List Symbol) (rest : List ℕ) → Begins bytes more rest c (next.a_folder e)
    → IsFolderNext c e bytes more rest
folder_next _ e bytes more rest (begins_folder {inside = inside} {c = c} left) = record { inside = inside; behind = c; are = refl; left = left }

pub past_folder : (n : ℕ) (lists : Lists) (before : Before) (c : Contents) (e : Entry) (trees : NewTrees) (old new bytes back : List ℕ) (more : List Symbol) (rest : List ℕ)
    → (f : IsFolderNext c e back more rest) → HaveStayed n lists before (folder e f.inside nothing) trees old new
    → HasSymbols false bytes (contents_symbols f.behind ++ symbols.list_end ∷ more) rest → IsPast n lists before c trees old new bytes more rest
past_folder n lists before c e trees old new bytes back more rest f stayed left =
    subst (λ (c : Contents). IsPast n lists before c trees old new bytes more rest) (sym f.are) (record { stayed = stayed; left = left })
