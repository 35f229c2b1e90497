-- What is written anew for a tree shows it, at every depth.
use Rattle.std.proofs.Common.{◌≡◌, Bool, true, false, cond, List, ◌∷◌, Option, Some, None, refl, sym, ◌∙◌, subst}
use Rattle.std.specs.Prelude.{IfSome}
use Rattle.std.specs.Str.{bytes_eq}
use Rattle.std.proofs.lemmas.Slice.Eq.{bytes_eq-Decides}
use Rattle.hm_tree.specs.Names.{Name, name_cmp}
use Rattle.hm_tree.specs.Classes.{IsClean}
use Rattle.hm_tree.specs.Nodes.{Tree, edges}
use Rattle.hm_tree.proofs.Sorted.{name_total, name_one}
use Rattle.hm_book_items.specs.Items.{shown, IsTree}
use Rattle.hm_book_items.proofs.ReadBack.{reads_back}
use Rattle.hm_book_items.specs.ItemTrees.{Lists, AreLists, IsItemTree}
use Rattle.hm_marks.specs.Contents.{Contents, link, folder, Item, a_link, a_folder}
use Rattle.hm_marks.specs.Layouts.{Layout, IsLayout, AreSound, IsSoundAt}
use Rattle.hm_marks.specs.FolderTrees.{IsLinkTree, ShowItems, show_nothing, show_link, show_folder, hide_separator, IsContentsTree}
use Rattle.hm_marks.specs.Pieces.{Piece, new_items, pieces}
use Rattle.hm_marks.specs.Writing.{link_for, folder_for, inside_of, AreMade, made_nothing, made_link, made_folder, made_separator, AreWrittenAnew}
use Rattle.hm_marks.proofs.Pieces.{pieces_rewritten, pieces_sound, SoundItems}

module _ {L F S : Type 0} (y : Layout L F) (IsLink : L → Type 0) (IsFolder : F → Type 0) (IsSeparator : S → Type 0) (AreAlike : L → L → Type 0)
    (law : IsLayout y IsLink IsFolder AreAlike) where
  abbrev SoundAt : Name → Item L F S → Type 0
  SoundAt k i = IsSoundAt IsLink IsFolder IsSeparator y k i

  -- ---- a link

  -- a link that may stand in a file, with this key and this address
  pub record IsGoodLink (k n : Name) (l : L) : Type 0 where
    pub key : y.link_key l ≡ k
    pub address : y.address l ≡ n
    pub stands : IsLink l

  new_good : (k n : Name) → IsClean k → IsClean n → IsGoodLink k n (y.new_link k n)
  new_good k n ck cn = record { key = law.new_key k n ck cn; address = law.new_address k n ck cn; stands = law.new_stands k n ck cn }

  addressed_good : (k n : Name) (l : L) → IsClean n → SoundAt k (a_link l) → (b : Bool) → bytes_eq (y.address l) n ≡ b → IsGoodLink k n (cond b l (y.readdressed l n))
  addressed_good k n l cn q true e = record { key = q.0; address = (bytes_eq-Decides (y.address l) n).0 e; stands = q.1 }
  addressed_good k n l cn q false e =
      record { key = law.same_key l n q.1 cn ∙ q.0; address = law.other_address l n q.1 cn; stands = law.still_stands l n q.1 cn }

  pub link_good : (k n : Name) (o : Option (Item L F S)) → IsClean k → IsClean n → IfSome o (SoundAt k) → IsGoodLink k n (link_for y k o n)
  link_good k n None ck cn q = new_good k n ck cn
  link_good k n (Some (a_link l)) ck cn q = addressed_good k n l cn q (bytes_eq (y.address l) n) refl
  link_good k n (Some (a_folder f inside)) ck cn q = new_good k n ck cn

  -- ---- a folder

  pub folder_key : (k : Name) (o : Option (Item L F S)) → IsClean k → IfSome o (SoundAt k) → y.folder_key (folder_for y k o) ≡ k
  folder_key k None ck q = law.new_folder_key k ck
  folder_key k (Some (a_link l)) ck q = law.new_folder_key k ck
  folder_key k (Some (a_folder f inside)) ck q = q.0

  pub inside_sound : (k : Name) (o : Option (Item L F S)) → IfSome o (SoundAt k) → AreSound IsLink IsFolder IsSeparator (inside_of y o)
  inside_sound k None q = tt
  inside_sound k (Some (a_link l)) q = tt
  inside_sound k (Some (a_folder f inside)) q = q.2

  -- ---- all

  item_tree : (old : Contents L F S) (lists : Lists) (t : Tree) → AreLists (edges t) lists → IsTree name_cmp lists
      → IsItemTree (shown name_cmp (new_items (pieces y lists old))) t
  item_tree old lists t below tree =
      record {
        lists = lists;
        grouped = reads_back name_cmp name_total name_one _ lists (new_items (pieces y lists old)) tree (pieces_rewritten y lists old);
        below = below;
      }

  pub made_shows : (ps : List (Piece L F S)) (new : Contents L F S) → AreMade y ps new → SoundItems y IsLink IsFolder IsSeparator (new_items ps)
      → ShowItems y new (shown name_cmp (new_items ps))
  made_shows _ _ made_nothing q = show_nothing
  made_shows _ _ (made_link {x = x} {n = n} {ps = ps} {rest = rest} key address tree m) q =
      let good = link_good x.0 n x.1 key address q.0 in
      subst (λ k. ShowItems y (link (link_for y x.0 x.1 n) rest) ((k, x.2) ∷ shown name_cmp (new_items ps))) good.key
      (show_link (subst (λ a. IsLinkTree a x.2) (sym good.address) tree) (made_shows ps rest m q.1))
  made_shows _ _ (made_folder {x = x} {u = u} {lists = lists} {ps = ps} {inside = inside} {rest = rest} key tree below is_tree mine m) q =
      let old = inside_of y x.1 in
      subst (λ k. ShowItems y (folder (folder_for y x.0 x.1) inside rest) ((k, x.2) ∷ shown name_cmp (new_items ps))) (folder_key x.0 x.1 key q.0)
      (show_folder (made_shows (pieces y lists old) inside mine (pieces_sound y IsLink IsFolder IsSeparator lists old (inside_sound x.0 x.1 q.0)))
      (item_tree old lists u below is_tree) tree (made_shows ps rest m q.1))
  made_shows _ _ (made_separator {ps = ps} {rest = rest} m) q = hide_separator (made_shows ps rest m q)

  -- what is written anew for a tree has it
  pub put_get : (old : Contents L F S) (t : Tree) (new : Contents L F S) → AreSound IsLink IsFolder IsSeparator old → AreWrittenAnew y old t new
      → IsContentsTree y new t
  put_get old t new sound is =
      record {
        items = shown name_cmp (new_items (pieces y is.lists old));
        show = made_shows (pieces y is.lists old) new is.made (pieces_sound y IsLink IsFolder IsSeparator is.lists old sound);
        tree = item_tree old is.lists t is.below is.tree;
      }
