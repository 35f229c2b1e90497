-- What the pieces for a tree have is what hm_book_items says of the items from before.
use Rattle.std.proofs.Common.{◌≡◌, List, [], ◌∷◌, ◌++◌, map, length, slice_get, refl, ap, ◌∙◌}
use Rattle.std.specs.Prelude.{IfSome}
use Rattle.hm_tree.specs.Names.{Name, name_cmp}
use Rattle.hm_tree.specs.Nodes.{Tree}
use Rattle.hm_tree.proofs.Sorted.{name_total, name_one}
use Rattle.hm_book_items.specs.Items.{of_key, below_key, survivor, kept, added, IsRewritten, Each}
use Rattle.hm_book_items.specs.ItemTrees.{Lists}
use Rattle.hm_book_items.proofs.Fitting.{all_fit}
use Rattle.hm_marks.specs.Contents.{Contents, nothing, link, folder, separator, Item, a_link, a_folder}
use Rattle.hm_marks.specs.Layouts.{Layout, items_of, AreSound, IsSoundAt}
use Rattle.hm_marks.specs.Pieces.{NewItem, Piece, an_item, a_separator, new_items, surviving, staying, pieces}

module _ {L F S : Type 0} where
  items-append : (ps qs : List (Piece L F S)) → new_items (ps ++ qs) ≡ new_items ps ++ new_items qs
  items-append [] qs = refl
  items-append (an_item x ∷ ps) qs = ap (λ l. x ∷ l) (items-append ps qs)
  items-append (a_separator s ∷ ps) qs = items-append ps qs

  items-map : (xs : List (NewItem L F S)) → new_items {S = S} (map an_item xs) ≡ xs
  items-map [] = refl
  items-map (x ∷ xs) = ap (λ l. x ∷ l) (items-map xs)

  module _ (y : Layout L F) (lists : Lists) where
    one_more : (before : List (Name × Item L F S)) (x : Name × Item L F S) (more : List (Piece L F S)) (items : List (NewItem L F S)) → new_items more ≡ items
        → new_items (surviving y lists before x ++ more)
        ≡ survivor name_cmp x (slice_get (below_key name_cmp x.0 lists) (length (of_key name_cmp x.0 before))) ++ items
    one_more before x more items is =
        let mine = survivor name_cmp x (slice_get (below_key name_cmp x.0 lists) (length (of_key name_cmp x.0 before))) in
        items-append (map an_item mine) more ∙ (λ i. items-map mine i ++ is i)

    staying_kept : (before : List (Name × Item L F S)) (c : Contents L F S) → new_items (staying y lists before c) ≡ kept name_cmp lists before (items_of y c)
    staying_kept before nothing = refl
    staying_kept before (link l rest) =
        one_more before (y.link_key l, a_link l) (staying y lists (before ++ (y.link_key l, a_link l) ∷ []) rest) _
        (staying_kept (before ++ (y.link_key l, a_link l) ∷ []) rest)
    staying_kept before (folder f inside rest) =
        one_more before (y.folder_key f, a_folder f inside) (staying y lists (before ++ (y.folder_key f, a_folder f inside) ∷ []) rest) _
        (staying_kept (before ++ (y.folder_key f, a_folder f inside) ∷ []) rest)
    staying_kept before (separator s rest) = staying_kept before rest

    pub pieces_rewritten : (old : Contents L F S) → IsRewritten name_cmp (items_of y old) lists (new_items (pieces y lists old))
    pieces_rewritten old =
        items-append (staying y lists [] old) (map an_item (added name_cmp (items_of y old) lists))
        ∙ (λ i. staying_kept [] old i ++ items-map (added name_cmp (items_of y old) lists) i)

  module _ (y : Layout L F) (IsLink : L → Type 0) (IsFolder : F → Type 0) (IsSeparator : S → Type 0) where
    abbrev SoundAt : Name → Item L F S → Type 0
    SoundAt k i = IsSoundAt IsLink IsFolder IsSeparator y k i

    -- what survives among items could stand in a file, under its key
    abbrev pub SoundItems : List (NewItem L F S) → Type 0
    SoundItems xs = Each name_cmp (λ (x : NewItem L F S). IfSome x.1 (SoundAt x.0)) xs

    old_sound : (c : Contents L F S) → AreSound IsLink IsFolder IsSeparator c → Each name_cmp (λ x. SoundAt x.0 x.1) (items_of y c)
    old_sound nothing h = tt
    old_sound (link l rest) h = ((refl, h.0), old_sound rest h.1)
    old_sound (folder f inside rest) h = ((refl, h.0, h.1), old_sound rest h.2)
    old_sound (separator s rest) h = old_sound rest h.1

    any_fit : (ts : List Tree) → Each name_cmp (λ t. Unit {0}) ts
    any_fit [] = tt
    any_fit (t ∷ ts) = (tt, any_fit ts)

    lists_fit : (lists : Lists) → Each name_cmp (λ e. Each name_cmp (λ t. Unit {0}) e.1) lists
    lists_fit [] = tt
    lists_fit (e ∷ es) = (any_fit e.1, lists_fit es)

    fitting : (xs : List (NewItem L F S)) → Each name_cmp (λ (x : NewItem L F S). Unit {0} × IfSome x.1 (SoundAt x.0)) xs → SoundItems xs
    fitting [] h = tt
    fitting (x ∷ xs) h = (h.0.1, fitting xs h.1)

    pub pieces_sound : (lists : Lists) (old : Contents L F S) → AreSound IsLink IsFolder IsSeparator old → SoundItems (new_items (pieces y lists old))
    pieces_sound lists old h =
        fitting (new_items (pieces y lists old))
        (all_fit name_cmp name_total name_one (λ k t. Unit {0}) SoundAt (items_of y old) lists (new_items (pieces y lists old)) (lists_fit lists)
        (old_sound old h) (pieces_rewritten y lists old))
