-- What stays of a link, and how many items have each key.
use Rattle.std.proofs.Common.{◌≡◌, suc, Bool, true, false, cond, List, [], ◌∷◌, map, length, refl, sym, ap, ◌∙◌}
use Rattle.std.specs.Ordering.{eq_by_cmp}
use Rattle.std.specs.Str.{bytes_eq}
use Rattle.std.proofs.lemmas.Slice.Eq.{bytes_eq-Decides}
use Rattle.hm_tree.specs.Names.{Name, name_cmp}
use Rattle.hm_tree.specs.Classes.{IsClean}
use Rattle.hm_tree.specs.Nodes.{Tree}
use Rattle.hm_tree.proofs.Sorted.{name_total, name_one}
use Rattle.hm_book_items.specs.Items.{of_key, below_key, shown, IsTree}
use Rattle.hm_book_items.specs.ItemTrees.{Lists}
use Rattle.hm_book_items.proofs.ReadBack.{reads_back}
use Rattle.hm_marks.specs.Contents.{Contents, separators_of}
use Rattle.hm_marks.specs.Layouts.{Layout, IsLayout, items_of, AreSound}
use Rattle.hm_marks.specs.FolderTrees.{ShowItems, show_nothing, show_link, show_folder, hide_separator}
use Rattle.hm_marks.specs.Pieces.{NewItem, an_item, new_items, pieces}
use Rattle.hm_marks.specs.Writing.{addressed, AreMade, made_nothing, made_link, made_folder}
use Rattle.hm_marks.specs.Kept.{IsKeptLink, count_of}
use Rattle.hm_marks.proofs.Pieces.{pieces_rewritten, pieces_sound}
use Rattle.hm_marks.proofs.ReadBack.{made_shows}

as_many : {A B : Type 0} (b : Bool) (x : A) (y : B) (xs : List A) (ys : List B) → length xs ≡ length ys → length (cond b (x ∷ xs) xs) ≡ length (cond b (y ∷ ys) ys)
as_many true x y xs ys e = ap suc e
as_many false x y xs ys e = e

module _ {L F S : Type 0} (y : Layout L F) where
  -- as many items have a key as are shown under it
  shown_count : (k : Name) (c : Contents L F S) (items : List (Name × Tree)) → ShowItems y c items → length (of_key name_cmp k items) ≡ count_of k (items_of y c)
  shown_count k _ _ show_nothing = refl
  shown_count k _ _ (show_link {l = l} {rest = rest} {items = items} a m) =
      as_many (eq_by_cmp name_cmp k (y.link_key l)) _ _ (of_key name_cmp k items) (of_key name_cmp k (items_of y rest)) (shown_count k rest items m)
  shown_count k _ _ (show_folder {f = f} {rest = rest} {items = items} a tree is m) =
      as_many (eq_by_cmp name_cmp k (y.folder_key f)) _ _ (of_key name_cmp k items) (of_key name_cmp k (items_of y rest)) (shown_count k rest items m)
  shown_count k _ _ (hide_separator {rest = rest} {items = items} m) = shown_count k rest items m

  -- no separator stands among new items
  pub no_separators : (xs : List (NewItem L F S)) (new : Contents L F S) → AreMade y (map an_item xs) new → separators_of new ≡ []
  no_separators [] _ made_nothing = refl
  no_separators (x ∷ xs) _ (made_link {rest = rest} key address tree m) = no_separators xs rest m
  no_separators (x ∷ xs) _ (made_folder {rest = rest} key tree below is_tree mine m) = no_separators xs rest m

  module _ (IsLink : L → Type 0) (IsFolder : F → Type 0) (IsSeparator : S → Type 0) (AreAlike : L → L → Type 0) (law : IsLayout y IsLink IsFolder AreAlike) where
    pub link_kept : (l : L) (n : Name) → IsLink l → IsClean n → IsKeptLink y AreAlike l (addressed y l n)
    link_kept l n is clean = go (bytes_eq (y.address l) n) refl
      where
        go : (b : Bool) → bytes_eq (y.address l) n ≡ b → IsKeptLink y AreAlike l (cond b l (y.readdressed l n))
        go true e = record { key_is = refl; same = λ e. refl; alike = λ other. absurd (other refl) }
        go false e = record {
          key_is = law.same_key l n is clean;
          same = λ same.
              let bad : true ≡ false = sym ((bytes_eq-Decides (y.address l) n).1 (sym same ∙ law.other_address l n is clean)) ∙ e in
              let no : ⊥ = cc in absurd no;
          alike = λ other. law.still_alike l n is clean;
        }

    -- as many items have a key as the tree has in its list
    pub new_count : (old : Contents L F S) (lists : Lists) (new : Contents L F S) → AreSound IsLink IsFolder IsSeparator old → IsTree name_cmp lists
        → AreMade y (pieces y lists old) new → (k : Name) → length (below_key name_cmp k lists) ≡ count_of k (items_of y new)
    new_count old lists new sound tree made k =
        ap length ((reads_back name_cmp name_total name_one _ lists (new_items (pieces y lists old)) tree (pieces_rewritten y lists old)).each k)
        ∙ shown_count k new (shown name_cmp (new_items (pieces y lists old)))
        (made_shows y IsLink IsFolder IsSeparator AreAlike law (pieces y lists old) new made (pieces_sound y IsLink IsFolder IsSeparator lists old sound))
