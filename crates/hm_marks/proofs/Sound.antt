-- What is written anew may stand in a file.
use Rattle.std.proofs.Common.{List, [], ◌∷◌, ◌++◌, map, length, slice_get, Option, Some, None}
use Rattle.std.specs.Prelude.{IfSome}
use Rattle.hm_tree.specs.Names.{Name, name_cmp}
use Rattle.hm_tree.specs.Classes.{IsClean}
use Rattle.hm_tree.specs.Nodes.{Tree}
use Rattle.hm_book_items.specs.Items.{of_key, below_key, survivor, added}
use Rattle.hm_book_items.specs.ItemTrees.{Lists}
use Rattle.hm_marks.specs.Contents.{Contents, nothing, link, folder, separator, Item, a_link, a_folder}
use Rattle.hm_marks.specs.Layouts.{Layout, IsLayout, items_of, AreSound, IsSoundAt}
use Rattle.hm_marks.specs.Pieces.{NewItem, Piece, an_item, a_separator, new_items, surviving, staying, pieces}
use Rattle.hm_marks.specs.Writing.{folder_for, inside_of, AreMade, made_nothing, made_link, made_folder, made_separator, AreWrittenAnew}
use Rattle.hm_marks.proofs.Pieces.{pieces_sound, SoundItems}
use Rattle.hm_marks.proofs.ReadBack.{link_good, inside_sound}

module _ {L F S : Type 0} (y : Layout L F) (IsLink : L → Type 0) (IsFolder : F → Type 0) (IsSeparator : S → Type 0) where
  -- separators among pieces may stand in a file
  abbrev Stay : List (Piece L F S) → Type 0
  Stay [] = Unit {0}
  Stay (an_item x ∷ ps) = Stay ps
  Stay (a_separator s ∷ ps) = IsSeparator s × Stay ps

  stay-append : (ps qs : List (Piece L F S)) → Stay ps → Stay qs → Stay (ps ++ qs)
  stay-append [] qs a b = b
  stay-append (an_item x ∷ ps) qs a b = stay-append ps qs a b
  stay-append (a_separator s ∷ ps) qs a b = (a.0, stay-append ps qs a.1 b)

  items_stay : (xs : List (NewItem L F S)) → Stay (map an_item xs)
  items_stay [] = tt
  items_stay (x ∷ xs) = items_stay xs

  behind_item : (lists : Lists) (before : List (Name × Item L F S)) (x : Name × Item L F S) (rest : Contents L F S)
      → Stay (staying y lists (before ++ x ∷ []) rest) → Stay (surviving y lists before x ++ staying y lists (before ++ x ∷ []) rest)
  behind_item lists before x rest h =
      stay-append (surviving y lists before x) (staying y lists (before ++ x ∷ []) rest)
      (items_stay (survivor name_cmp x (slice_get (below_key name_cmp x.0 lists) (length (of_key name_cmp x.0 before))))) h

  staying_stay : (lists : Lists) (before : List (Name × Item L F S)) (c : Contents L F S) → AreSound IsLink IsFolder IsSeparator c → Stay (staying y lists before c)
  staying_stay lists before nothing h = tt
  staying_stay lists before (link l rest) h =
      behind_item lists before (y.link_key l, a_link l) rest (staying_stay lists (before ++ (y.link_key l, a_link l) ∷ []) rest h.1)
  staying_stay lists before (folder f inside rest) h =
      behind_item lists before (y.folder_key f, a_folder f inside) rest
      (staying_stay lists (before ++ (y.folder_key f, a_folder f inside) ∷ []) rest h.2)
  staying_stay lists before (separator s rest) h = (h.0, staying_stay lists before rest h.1)

  pieces_stay : (lists : Lists) (old : Contents L F S) → AreSound IsLink IsFolder IsSeparator old → Stay (pieces y lists old)
  pieces_stay lists old h =
      stay-append (staying y lists [] old) (map an_item (added name_cmp (items_of y old) lists)) (staying_stay lists [] old h)
      (items_stay (added name_cmp (items_of y old) lists))

  module _ (AreAlike : L → L → Type 0) (law : IsLayout y IsLink IsFolder AreAlike) where
    folder_sound : (k : Name) (o : Option (Item L F S)) → IsClean k → IfSome o (λ i. IsSoundAt IsLink IsFolder IsSeparator y k i) → IsFolder (folder_for y k o)
    folder_sound k None key q = law.new_folder_stands k key
    folder_sound k (Some (a_link l)) key q = law.new_folder_stands k key
    folder_sound k (Some (a_folder f inside)) key q = q.1

    made_sound : (ps : List (Piece L F S)) (new : Contents L F S) → AreMade y ps new → SoundItems y IsLink IsFolder IsSeparator (new_items ps) → Stay ps
        → AreSound IsLink IsFolder IsSeparator new
    made_sound _ _ made_nothing q r = tt
    made_sound _ _ (made_link {x = x} {n = n} {ps = ps} {rest = rest} key address tree m) q r =
        ((link_good y IsLink IsFolder IsSeparator AreAlike law x.0 n x.1 key address q.0).stands, made_sound ps rest m q.1 r)
    made_sound _ _ (made_folder {x = x} {lists = lists} {ps = ps} {inside = inside} {rest = rest} key tree below is_tree mine m) q r =
        let old = inside_of y x.1 in
        let sound = inside_sound y IsLink IsFolder IsSeparator AreAlike law x.0 x.1 q.0 in (
          folder_sound x.0 x.1 key q.0,
          made_sound (pieces y lists old) inside mine (pieces_sound y IsLink IsFolder IsSeparator lists old sound) (pieces_stay lists old sound),
          made_sound ps rest m q.1 r,
        )
    made_sound _ _ (made_separator {ps = ps} {rest = rest} m) q r = (r.0, made_sound ps rest m q r.1)

    pub anew_sound : (old : Contents L F S) (t : Tree) (new : Contents L F S) → AreSound IsLink IsFolder IsSeparator old → AreWrittenAnew y old t new
        → AreSound IsLink IsFolder IsSeparator new
    anew_sound old t new sound is =
        made_sound (pieces y is.lists old) new is.made (pieces_sound y IsLink IsFolder IsSeparator is.lists old sound) (pieces_stay is.lists old sound)
