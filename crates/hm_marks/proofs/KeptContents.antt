-- What stays of a folder that is written anew, and of those in it.
use Rattle.std.proofs.Common.{◌≡◌, ◌<◌, ◌≤◌, inl, inr, List, [], ◌∷◌, ◌++◌, map, length, slice_get, Option, Some, None, refl, sym, ◌∙◌, arith}
use Rattle.std.proofs.lemmas.Option.{none-some, slice_get_cases, slice_get_within}
use Rattle.hm_tree.specs.Names.{Name, name_cmp}
use Rattle.hm_tree.specs.Nodes.{Tree}
use Rattle.hm_book_items.specs.Items.{below_key, survivor, added, IsTree}
use Rattle.hm_book_items.specs.ItemTrees.{Lists}
use Rattle.hm_marks.specs.Contents.{Contents, nothing, link, folder, separator, Item, a_link, a_folder}
use Rattle.hm_marks.specs.Layouts.{Layout, IsLayout, items_of, AreSound}
use Rattle.hm_marks.specs.Pieces.{NewItem, an_item, staying, pieces}
use Rattle.hm_marks.specs.Writing.{AreMade, made_link, made_folder, made_separator, AreWrittenAnew}
use Rattle.hm_marks.specs.Kept.{AreKept, Keeps, behind, separator_stays, link_survives, folder_survives, link_replaced, folder_replaced, link_goes, folder_goes, count_of}
use Rattle.hm_marks.proofs.KeptParts.{no_separators, link_kept, new_count}

module _ {L F S : Type 0} (y : Layout L F) (IsLink : L → Type 0) (IsFolder : F → Type 0) (IsSeparator : S → Type 0) (AreAlike : L → L → Type 0)
    (law : IsLayout y IsLink IsFolder AreAlike) where
  abbrev Items : Type 0
  Items = List (Name × Item L F S)

  abbrev Sound : Contents L F S → Type 0
  Sound c = AreSound IsLink IsFolder IsSeparator c

  -- as many items have a key as the tree has there
  abbrev Counts : Lists → Items → Type 0
  Counts lists now = (k : Name) → length (below_key name_cmp k lists) ≡ count_of k now

  -- what the tree has at the place of an item that stands behind others
  abbrev at_place : Lists → Items → Name → Option Tree
  at_place lists before k = slice_get (below_key name_cmp k lists) (count_of k before)

  module _ (lists : Lists) (now before : Items) (count : Counts lists now) (xs : List (NewItem L F S)) (rest : Contents L F S) where
    -- what is written of the next item, and of what stands behind it
    abbrev MadeBehind : Name → Item L F S → Option Tree → Contents L F S → Type 0
    MadeBehind k i o new = AreMade y ((map an_item (survivor name_cmp (k, i) o) ++ staying y lists (before ++ (k, i) ∷ []) rest) ++ map an_item xs) new

    -- what stands behind it is kept
    abbrev KeptBehind : Name → Item L F S → Type 0
    KeptBehind k i =
        (new : Contents L F S) → AreMade y (staying y lists (before ++ (k, i) ∷ []) rest ++ map an_item xs) new → AreKept y AreAlike now (before ++ (k, i) ∷ []) rest new

    goes : (k : Name) → at_place lists before k ≡ None → count_of k now ≤ count_of k before
    goes k e =
        elim (slice_get_cases (below_key name_cmp k lists) (count_of k before)).1 [
          | inl there ↦ absurd (none-some there.0 (sym e ∙ there.2))
          | inr past ↦ (let long = past.0 in let same = count k in omega (arith, long, same))
        ]

    survives : (k : Name) (t : Tree) → at_place lists before k ≡ Some t → count_of k before < count_of k now
    survives k t e =
        let there = slice_get_within (below_key name_cmp k lists) (count_of k before) t e in
        let same = count k in omega (arith, there, same)

    next_link : (l : L) (o : Option Tree) (new : Contents L F S) → at_place lists before (y.link_key l) ≡ o → IsLink l → KeptBehind (y.link_key l) (a_link l)
        → MadeBehind (y.link_key l) (a_link l) o new → AreKept y AreAlike now before (link l rest) new
    next_link l None new e is kept m = link_goes (goes (y.link_key l) e) (kept new m)
    next_link l (Some t) _ e is kept (made_link {n = n} {rest = new} key address tree m) =
        link_survives (survives (y.link_key l) t e) (link_kept y IsLink IsFolder IsSeparator AreAlike law l n is address) (kept new m)
    next_link l (Some t) _ e is kept (made_folder {rest = new} key tree below is_tree mine m) =
        link_replaced (survives (y.link_key l) t e) (law.new_folder_key (y.link_key l) key) (kept new m)

    next_folder : (f : F) (inside : Contents L F S) (o : Option Tree) (new : Contents L F S) → at_place lists before (y.folder_key f) ≡ o
        → ((ls : Lists) (c : Contents L F S) → IsTree name_cmp ls → AreMade y (pieces y ls inside) c → Keeps y AreAlike inside c)
        → KeptBehind (y.folder_key f) (a_folder f inside) → MadeBehind (y.folder_key f) (a_folder f inside) o new
        → AreKept y AreAlike now before (folder f inside rest) new
    next_folder f inside None new e inner kept m = folder_goes (goes (y.folder_key f) e) (kept new m)
    next_folder f inside (Some t) _ e inner kept (made_link {n = n} {rest = new} key address tree m) =
        folder_replaced (survives (y.folder_key f) t e) (law.new_key (y.folder_key f) n key address) (kept new m)
    next_folder f inside (Some t) _ e inner kept (made_folder {lists = ls} {inside = c} {rest = new} key tree below is_tree mine m) =
        folder_survives (survives (y.folder_key f) t e) (inner ls c is_tree mine) (kept new m)

  kept_from : (old : Contents L F S) (lists : Lists) (now before : Items) (xs : List (NewItem L F S)) (new : Contents L F S) → Counts lists now → Sound old
      → AreMade y (staying y lists before old ++ map an_item xs) new → AreKept y AreAlike now before old new
  kept_from nothing lists now before xs new count sound m = behind (no_separators y xs new m)
  kept_from (link l rest) lists now before xs new count sound m =
      next_link lists now before count xs rest l (at_place lists before (y.link_key l)) new refl sound.0
      (λ new m. kept_from rest lists now (before ++ (y.link_key l, a_link l) ∷ []) xs new count sound.1 m) m
  kept_from (folder f inside rest) lists now before xs new count sound m =
      next_folder lists now before count xs rest f inside (at_place lists before (y.folder_key f)) new refl
      (λ ls c tree mine.
      kept_from inside ls (items_of y c) [] (added name_cmp (items_of y inside) ls) c (new_count y IsLink IsFolder IsSeparator AreAlike law inside ls c sound.1 tree mine)
      sound.1 mine) (λ new m. kept_from rest lists now (before ++ (y.folder_key f, a_folder f inside) ∷ []) xs new count sound.2 m) m
  kept_from (separator s rest) lists now before xs _ count sound (made_separator {rest = new} m) =
      separator_stays (kept_from rest lists now before xs new count sound.1 m)

  pub anew_kept : (old : Contents L F S) (t : Tree) (new : Contents L F S) → Sound old → AreWrittenAnew y old t new → Keeps y AreAlike old new
  anew_kept old t new sound is =
      kept_from old is.lists (items_of y new) [] (added name_cmp (items_of y old) is.lists) new
      (new_count y IsLink IsFolder IsSeparator AreAlike law old is.lists new sound is.tree is.made) sound is.made
