-- What items from before take, while there is room for more folders.
use Rattle.std.proofs.Common.{◌≡◌, ◌≢◌, ℕ, ◌+◌, ◌*◌, ◌≤◌, ◌<◌, suc, List, [], ◌∷◌, ◌++◌, Some, None, sym, ap, ◌∙◌, subst, arith, refl}
use Rattle.hm_tree.specs.Names.{Name, name_cmp}
use Rattle.hm_tree.specs.Nodes.{Tree, depth, edges}
use Rattle.hm_book_items.specs.Items.{IsTree}
use Rattle.hm_book_items.specs.ItemTrees.{Lists, AreLists, lists_depth}
use Rattle.hm_book_items.specs.Plans.{keys_of}
use Rattle.hm_book_items.specs.Taken.{HasTaken}
use Rattle.hm_book_items.specs.declared.new_trees.NewTrees.{NewTrees}
use Rattle.hm_book_items.proofs.ListDepths.{depth_tree}
use Rattle.hm_marks.specs.Contents.{Item}
use Rattle.hm_marks.specs.FolderTrees.{IsFolderTree}
use Rattle.hm_marks.specs.Pieces.{an_item, surviving}
use Rattle.hm_marks_schema.specs.Members.{IsAt, IsGood}
use Rattle.hm_marks_schema.proofs.Taking.{tree_for, keys_more, good_for, survives, goes, less_than, known_good}
use Rattle.hm_marks_tokens.specs.Grammar.{Entry}
use Rattle.hm_netscape_entries.specs.Entries.{html}
use Rattle.hm_netscape_entries.specs.Next.{an_end, next_seen}
use Rattle.hm_netscape_entries.specs.declared.next.Next.{Next as LentNext}
use Rattle.hm_netscape_entries.specs.declared.next.Next.TheVariants.{End, Link, Folder, Separator}
use Rattle.hm_netscape_writing.specs.Added.{Before, most_open, Adds, HaveRoom}
use Rattle.hm_netscape_writing.proofs.Staying.{adds_none}

-- the trees of a folder
pub begun_room : (n : ℕ) (t : Tree) (trees : NewTrees) (lists : Lists) → IsAt 1 t → AreLists (edges t) lists → HasTaken trees lists [] → n + depth t ≤ most_open
    → HaveRoom n trees lists []
begun_room n t trees lists at below taken room =
    record {
      have = record { taken = taken; good = (known_good t at lists below).good };
      room = let deep = depth_tree lists t below in omega (arith, deep, room);
    }

pub tree_of_lists : (t : Tree) (lists : Lists) → IsAt 1 t → AreLists (edges t) lists → IsTree name_cmp lists
tree_of_lists t lists at below = (known_good t at lists below).tree

-- one more item took its tree
pub have_more : (n : ℕ) (one other : NewTrees) (lists : Lists) (before : Before) (x : Name × Item Entry Entry (List ℕ)) (key : Name) → key ≡ x.0 → HaveRoom n one lists before
    → HasTaken other lists (keys_of before ++ key ∷ []) → HaveRoom n other lists (before ++ x ∷ [])
have_more n one other lists before x key same room taken =
    record {
      have = record {
        taken = subst (HasTaken other lists) (ap (λ (k : Name). keys_of before ++ k ∷ []) same ∙ keys_more before x) taken;
        good = room.have.good;
      };
      room = room.room;
    }

-- the tree that is taken
pub took : (n : ℕ) (trees : NewTrees) (lists : Lists) (before : Before) (key : Name) (t : Tree) → HaveRoom n trees lists before → Some t ≡ tree_for lists before key
    → IsGood (suc (lists_depth depth lists)) key t
took n trees lists before key t room is = good_for (suc (lists_depth depth lists)) lists before key t room.have.good is

-- what stands in a folder that it asks for has room too
pub room_below : (n : ℕ) (lists : Lists) (key : Name) (u t : Tree) → n + lists_depth depth lists ≤ most_open → IsGood (suc (lists_depth depth lists)) key t
    → IsFolderTree u t → n + 1 + depth u ≤ most_open
room_below n lists key u t room good is = let less = less_than u t is in let within = good.less in omega (arith, less, within, room)

pub falls_below : (lists : Lists) (key : Name) (u t : Tree) (m : ℕ) → m ≡ lists_depth depth lists → IsGood (suc (lists_depth depth lists)) key t
    → IsFolderTree u t → 8 * depth u + 8 < 8 * m + 4
falls_below lists key u t m same good is = let less = less_than u t is in let within = good.less in omega (arith, less, within, same)

-- ---- what becomes of an item

pub stays_as : (n : ℕ) (lists : Lists) (before : Before) (x : Name × Item Entry Entry (List ℕ)) (t : Tree) (old new : List ℕ) → Some t ≡ tree_for lists before x.0
    → Adds n old new (an_item (x.0, Some x.1, t) ∷ []) → Adds n old new (surviving html lists before x ++ [])
stays_as n lists before x t old new is adds = subst (λ ps. Adds n old new (ps ++ [])) (sym (survives html lists before x t is)) adds

pub goes_away : (n : ℕ) (lists : Lists) (before : Before) (x : Name × Item Entry Entry (List ℕ)) (old : List ℕ) → None ≡ tree_for lists before x.0
    → Adds n old old (surviving html lists before x ++ [])
goes_away n lists before x old is = subst (λ ps. Adds n old old (ps ++ [])) (sym (goes html lists before x is)) (adds_none n old)

pub not_end : (k : LentNext) → (k ≡ End → ⊥) → next_seen k ≢ an_end
not_end End other = λ e. other refl
not_end (Link a t n) other = λ e. cc
not_end (Folder a t n) other = λ e. cc
not_end (Separator a) other = λ e. cc
