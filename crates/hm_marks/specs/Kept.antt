-- What stays of a folder of bookmarks, whatever it is written for: said of what stood in it before and what does now. Items
-- from before and now are matched in their order, by their key and by their place, which is how many before them have this key.
use Rattle.std.specs.Prelude.{◌≡◌, ◌<◌, ◌≤◌, ℕ, List, [], ◌∷◌, ◌++◌, length}
use Rattle.hm_tree.specs.Names.{Name, name_cmp}
use Rattle.hm_book_items.specs.Items.{of_key}
use Rattle.hm_marks.specs.Contents.{Contents, nothing, link, folder, separator, Item, a_link, a_folder, separators_of}
use Rattle.hm_marks.specs.Layouts.{Layout, items_of}

-- a link and what it became: its key stays; where its address stays so does all of it, and else all but the address
pub record IsKeptLink {L F : Type 0} (y : Layout L F) (AreAlike : L → L → Type 0) (old new : L) : Type 0 where
  pub key_is : y.link_key new ≡ y.link_key old
  pub same : y.address new ≡ y.address old → new ≡ old
  pub alike : ¬ (y.address new ≡ y.address old) → AreAlike old new

-- how many items have a key
abbrev pub count_of : {L F S : Type 0} → Name → List (Name × Item L F S) → ℕ
count_of k items = length (of_key name_cmp k items)

-- what stood in a folder behind some items, and what stands there now, in a folder that has these items now
pub data AreKept {L F S : Type 0} (y : Layout L F) (AreAlike : L → L → Type 0)
    : List (Name × Item L F S) → List (Name × Item L F S) → Contents L F S → Contents L F S → Type 0 where
  -- behind all there may be new items
  behind : {now before : List (Name × Item L F S)} {new : Contents L F S} → separators_of new ≡ [] → AreKept y AreAlike now before nothing new
  -- a separator stays
  separator_stays : {now before : List (Name × Item L F S)} {s : S} {old new : Contents L F S} → AreKept y AreAlike now before old new
      → AreKept y AreAlike now before (separator s old) (separator s new)
  -- an item survives where there is its place now: there are more of its key than stood before it. A link stays but for its address
  link_survives : {now before : List (Name × Item L F S)} {l m : L} {old new : Contents L F S} → count_of (y.link_key l) before < count_of (y.link_key l) now
      → IsKeptLink y AreAlike l m → AreKept y AreAlike now (before ++ (y.link_key l, a_link l) ∷ []) old new
      → AreKept y AreAlike now before (link l old) (link m new)
  -- and a folder stays, with what has to stay in it
  folder_survives : {now before : List (Name × Item L F S)} {f : F} {was is old new : Contents L F S}
      → count_of (y.folder_key f) before < count_of (y.folder_key f) now → AreKept y AreAlike (items_of y is) [] was is
      → AreKept y AreAlike now (before ++ (y.folder_key f, a_folder f was) ∷ []) old new → AreKept y AreAlike now before (folder f was old) (folder f is new)
  -- or one of the other kind with its key stands in its place
  link_replaced : {now before : List (Name × Item L F S)} {l : L} {f : F} {inside old new : Contents L F S}
      → count_of (y.link_key l) before < count_of (y.link_key l) now → y.folder_key f ≡ y.link_key l
      → AreKept y AreAlike now (before ++ (y.link_key l, a_link l) ∷ []) old new → AreKept y AreAlike now before (link l old) (folder f inside new)
  folder_replaced : {now before : List (Name × Item L F S)} {f : F} {l : L} {inside old new : Contents L F S}
      → count_of (y.folder_key f) before < count_of (y.folder_key f) now → y.link_key l ≡ y.folder_key f
      → AreKept y AreAlike now (before ++ (y.folder_key f, a_folder f inside) ∷ []) old new → AreKept y AreAlike now before (folder f inside old) (link l new)
  -- and it goes where there isn't
  link_goes : {now before : List (Name × Item L F S)} {l : L} {old new : Contents L F S} → count_of (y.link_key l) now ≤ count_of (y.link_key l) before
      → AreKept y AreAlike now (before ++ (y.link_key l, a_link l) ∷ []) old new → AreKept y AreAlike now before (link l old) new
  folder_goes : {now before : List (Name × Item L F S)} {f : F} {inside old new : Contents L F S}
      → count_of (y.folder_key f) now ≤ count_of (y.folder_key f) before
      → AreKept y AreAlike now (before ++ (y.folder_key f, a_folder f inside) ∷ []) old new → AreKept y AreAlike now before (folder f inside old) new

-- of what stood in a folder all stays that has to
abbrev pub Keeps : {L F S : Type 0} → Layout L F → (L → L → Type 0) → Contents L F S → Contents L F S → Type 0
Keeps y AreAlike old new = AreKept y AreAlike (items_of y new) [] old new
