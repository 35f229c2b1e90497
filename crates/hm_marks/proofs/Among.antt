-- The tree of a folder has all of it; and what a tree has of a folder, one link or folder after the other.
use Rattle.std.proofs.Common.{◌≡◌, ◌≤◌, ◌-◌, ◌||◌, T, ℕ, suc, Bool, true, false, true≢false, cond, List, [], ◌∷◌, ◌++◌, length, Option, Some, None, refl, sym, ap, ◌∙◌, subst, append_assoc, arith}
use Rattle.std.specs.Prelude.{Contains}
use Rattle.std.specs.declared.cmp.Ordering.{Ordering}
use Rattle.std.specs.declared.cmp.Ordering.TheVariants.{Less, Equal, Greater}
use Rattle.std.specs.FinMap.{find, is_sorted}
use Rattle.std.specs.FinMap.Entries.{below_all, is_some-find}
use Rattle.std.specs.List.{AllByRecursion, IsDistinct}
use Rattle.std.specs.Option.{is_some, unwrap_or}
use Rattle.std.specs.Ordering.{eq_by_cmp, is_eq, is_lt}
use Rattle.std.specs.Set.{is_member}
use Rattle.std.proofs.lemmas.Cmp.{tied_itself, eq_by_cmp_equiv}
use Rattle.std.proofs.lemmas.List.{length-map}
use Rattle.std.proofs.lemmas.List.Elements.{Contains-append_right}
use Rattle.std.proofs.lemmas.Map.Made.{length-le_from_is_member}
use Rattle.std.proofs.lemmas.Option.{same_Some, none-some}
use Rattle.hm_tree.specs.Names.{Name, name_cmp}
use Rattle.hm_tree.specs.Nodes.{Tree, edges, first, second}
use Rattle.hm_tree.proofs.Sorted.{name_total}
use Rattle.hm_tree_parts.specs.Lists.{HasItems}
use Rattle.hm_book_items.specs.Items.{of_key, below_key, IsGrouped}
use Rattle.hm_book_items.specs.ItemTrees.{Lists, AreLists, IsItemTree}
use Rattle.hm_book_items.specs.Plans.{keys_of}
use Rattle.hm_book_items.proofs.ReadBack.{of_key-append}
use Rattle.hm_marks.specs.Contents.{Contents, nothing, link, folder, separator}
use Rattle.hm_marks.specs.Layouts.{Layout, items_of}
use Rattle.hm_marks.specs.FolderTrees.{IsLinkTree, IsFolderTree, ShowItems, show_nothing, show_link, show_folder, hide_separator, IsContentsTree}
use Rattle.hm_marks.specs.Among.{IsAmong, HasFewKeys, HasEach, has_nothing, has_link, has_folder, past_separator, HasLeft, HasAll}

-- ---- one item

-- the list below a key
record IsBelow (k : Name) (es : List (Name × Tree)) (items : List Tree) : Type 0 where
  list : Tree
  is : find name_cmp k es ≡ Some list
  has : HasItems list items

below_both : (k : Name) (es : List (Name × Tree)) (ls : Lists) (items : List Tree) → AreLists es ls → find name_cmp k ls ≡ Some items → IsBelow k es items
below_both k [] [] items h at = absurd (none-some items at)
below_both k [] (l ∷ ls) items h at = absurd h
below_both k (e ∷ es) [] items h at = absurd h
below_both k (e ∷ es) (l ∷ ls) items h at = go (eq_by_cmp name_cmp k l.0) (ap (eq_by_cmp name_cmp k) h.0.0) (λ at. below_both k es ls items h.1 at) at
  where
    go : (b : Bool) → eq_by_cmp name_cmp k e.0 ≡ b → (find name_cmp k ls ≡ Some items → IsBelow k es items) → cond b (Some l.1) (find name_cmp k ls) ≡ Some items
        → IsBelow k (e ∷ es) items
    go true tied more at =
        record {
          list = e.1;
          is = ap (λ t. cond t (Some e.1) (find name_cmp k es)) tied;
          has = subst (HasItems e.1) (same_Some l.1 items at) h.0.1;
        }
    go false tied more at =
        let r = more at in record { list = r.list; is = ap (λ t. cond t (Some e.1) (find name_cmp k es)) tied ∙ r.is; has = r.has }

module _ (k : Name) (whole t : Tree) where
  among_lists : (ls : Lists) → AreLists (edges whole) ls → Contains (below_key name_cmp k ls) t → IsAmong k whole t
  among_lists ls below there = go (find name_cmp k ls) refl there
    where
      go : (o : Option (List Tree)) → find name_cmp k ls ≡ o → Contains (unwrap_or o []) t → IsAmong k whole t
      go None at there = let none = there.1 in absurd (omega arith)
      go (Some items) at there =
          let b = below_both k (edges whole) ls items below at in
          record { list = b.list; items = items; list_is = b.is; has = b.has; there = there }

  of_its_key : (before after : List (Name × Tree)) → Contains (of_key name_cmp k (before ++ (k, t) ∷ after)) t
  of_its_key before after =
      let tied : eq_by_cmp name_cmp k k ≡ true = ap is_eq (tied_itself name_total k) in
      let are : of_key name_cmp k (before ++ (k, t) ∷ after) ≡ of_key name_cmp k before ++ t ∷ of_key name_cmp k after =
      of_key-append name_cmp k before ((k, t) ∷ after)
      ∙ ap (λ b. of_key name_cmp k before ++ cond b (t ∷ of_key name_cmp k after) (of_key name_cmp k after)) tied in
      subst (λ (xs : List Tree). Contains xs t) (sym are)
      (Contains-append_right (of_key name_cmp k before) (t ∷ of_key name_cmp k after) t (0, omega arith, refl))

  among_items : (before after : List (Name × Tree)) → IsItemTree (before ++ (k, t) ∷ after) whole → IsAmong k whole t
  among_items before after is =
      among_lists is.lists is.below (subst (λ (xs : List Tree). Contains xs t) (sym (is.grouped.each k)) (of_its_key before after))

-- ---- no more keys than items

less : (r : Ordering) → T (is_lt r) → is_eq r ≡ false
less Less p = refl
less Equal p = absurd p
less Greater p = absurd p

-- keys that rise are distinct
apart : (k : Name) (ls : Lists) → T (below_all name_cmp k ls) → AllByRecursion (λ j. eq_by_cmp name_cmp k j ≡ false) (keys_of ls)
apart k [] h = tt
apart k (l ∷ ls) h = (less (name_cmp k l.0) (first _ _ h), apart k ls (second _ _ h))

distinct : (ls : Lists) → T (is_sorted name_cmp ls) → IsDistinct (eq_by_cmp name_cmp) (keys_of ls)
unfolding IsDistinct
distinct [] h = tt
distinct (l ∷ ls) h = (apart l.0 ls (first _ _ h), distinct ls (second _ _ h))

-- items with a key are there only where one of the items has it
has_key : (k : Name) (items : List (Name × Tree)) → (of_key name_cmp k items ≡ [] → ⊥) → is_member (eq_by_cmp name_cmp) (keys_of items) k ≡ true
has_key k [] some = absurd (some refl)
has_key k (x ∷ items) some = go (eq_by_cmp name_cmp k x.0) some (has_key k items)
  where
    go : (b : Bool) → (cond b (x.1 ∷ of_key name_cmp k items) (of_key name_cmp k items) ≡ [] → ⊥)
        → ((of_key name_cmp k items ≡ [] → ⊥) → is_member (eq_by_cmp name_cmp) (keys_of items) k ≡ true)
        → (b || is_member (eq_by_cmp name_cmp) (keys_of items) k) ≡ true
    go true some more = refl
    go false some more = more some

-- a key of the lists is one of the items
from_lists : (items : List (Name × Tree)) (ls : Lists) → IsGrouped name_cmp items ls → (k : Name) → is_member (eq_by_cmp name_cmp) (keys_of ls) k ≡ true
    → is_member (eq_by_cmp name_cmp) (keys_of items) k ≡ true
from_lists items ls is k there = has_key k items (λ none. go (find name_cmp k ls) refl (is.each k ∙ none))
  where
    go : (o : Option (List Tree)) → find name_cmp k ls ≡ o → below_key name_cmp k ls ≡ [] → ⊥
    go None at none = true≢false (sym there ∙ sym (is_some-find name_cmp k ls) ∙ ap is_some at)
    go (Some l) at none =
        is.tree_is.filled k (at ∙ ap (λ (l : List Tree). Some l) (sym (ap (λ (o : Option (List Tree)). unwrap_or o []) at) ∙ none))

few_lists : (items : List (Name × Tree)) (ls : Lists) → IsGrouped name_cmp items ls → length ls ≤ length items
few_lists items ls is =
    let keys = length-le_from_is_member (eq_by_cmp_equiv name_total) (keys_of ls) (keys_of items) (distinct ls is.tree_is.sorted) (from_lists items ls is) in
    let one : length (keys_of ls) ≡ length ls = length-map ls (λ l. l.0) in
    let other : length (keys_of items) ≡ length items = length-map items (λ x. x.0) in
    omega (arith, keys, one, other)

as_long : (es : List (Name × Tree)) (ls : Lists) → AreLists es ls → length es ≡ length ls
as_long [] [] h = refl
as_long [] (l ∷ ls) h = absurd h
as_long (e ∷ es) [] h = absurd h
as_long (e ∷ es) (l ∷ ls) h = ap suc (as_long es ls h.1)

-- ---- all of a folder

module _ {L F S : Type 0} (y : Layout L F) where
  as_many : (c : Contents L F S) (items : List (Name × Tree)) → ShowItems y c items → length items ≡ length (items_of y c)
  as_many _ _ show_nothing = refl
  as_many _ _ (show_link {rest = rest} {items = items} is m) = ap suc (as_many rest items m)
  as_many _ _ (show_folder {rest = rest} {items = items} inside tree is m) = ap suc (as_many rest items m)
  as_many _ _ (hide_separator {rest = rest} {items = items} m) = as_many rest items m

  few_keys : (c : Contents L F S) (items : List (Name × Tree)) (t : Tree) → ShowItems y c items → IsItemTree items t → HasFewKeys y t c
  few_keys c items t show is =
      let keys = as_long (edges t) is.lists is.below in
      let few = few_lists items is.lists is.grouped in
      let many = as_many c items show in
      omega (arith, keys, few, many)

  has_each : (before : List (Name × Tree)) (c : Contents L F S) (items : List (Name × Tree)) (whole : Tree) → ShowItems y c items
      → IsItemTree (before ++ items) whole → HasEach y whole c
  has_each before _ _ whole show_nothing is = has_nothing
  has_each before _ _ whole (show_link {l = l} {rest = rest} {t = t} {items = items} tree m) is =
      let x : Name × Tree = (y.link_key l, t) in
      has_link tree (among_items x.0 whole t before items is)
      (has_each (before ++ x ∷ []) rest items whole m (subst (λ (xs : List (Name × Tree)). IsItemTree xs whole) (sym (append_assoc before (x ∷ []) items)) is))
  has_each before _ _ whole (show_folder {f = f} {inside = c} {rest = rest} {u = u} {t = t} {inner = inner} {items = items} inside tree below m) is =
      let x : Name × Tree = (y.folder_key f, t) in
      has_folder below (among_items x.0 whole t before items is) (has_each [] c inner u inside tree) (few_keys c inner u inside tree)
      (has_each (before ++ x ∷ []) rest items whole m (subst (λ (xs : List (Name × Tree)). IsItemTree xs whole) (sym (append_assoc before (x ∷ []) items)) is))
  has_each before _ _ whole (hide_separator {rest = rest} {items = items} m) is = past_separator (has_each before rest items whole m is)

  pub tree_has_all : (c : Contents L F S) (t : Tree) → IsContentsTree y c t → HasAll y t c
  tree_has_all c t is = record { each = has_each [] c is.items t is.show is.tree; enough = few_keys c is.items t is.show is.tree }

  -- ---- one after the other

  -- behind all there is nothing left to be missing
  pub none_missing : (whole : Tree) (n : ℕ) → HasLeft {S = S} y whole n nothing → n ≡ 0
  none_missing whole n has = let few = has.enough in omega arith

  pub past_rule : (whole : Tree) (n : ℕ) (s : S) (rest : Contents L F S) → HasLeft y whole n (separator s rest) → HasLeft y whole n rest
  past_rule whole n s rest has = record { each = go has.each; enough = has.enough }
    where
      go : HasEach y whole (separator s rest) → HasEach y whole rest
      go (past_separator more) = more

  module _ (whole : Tree) (n : ℕ) (l : L) (rest : Contents L F S) (has : HasLeft y whole n (link l rest)) where
    -- the link itself is there
    pub link_there : ((t : Tree) → IsLinkTree (y.address l) t → IsAmong (y.link_key l) whole t → ⊥) → ⊥
    link_there lacks = go has.each
      where
        go : HasEach y whole (link l rest) → ⊥
        go (has_link {t = t} tree among more) = lacks t tree among

    pub past_link : HasLeft y whole (n - 1) rest
    past_link = record { each = go has.each; enough = let few = has.enough in omega arith }
      where
        go : HasEach y whole (link l rest) → HasEach y whole rest
        go (has_link tree among more) = more

  module _ (whole : Tree) (n : ℕ) (f : F) (inside rest : Contents L F S) (has : HasLeft y whole n (folder f inside rest)) where
    -- so is the folder
    pub folder_there : ((u t : Tree) → IsFolderTree u t → IsAmong (y.folder_key f) whole t → ⊥) → ⊥
    folder_there lacks = go has.each
      where
        go : HasEach y whole (folder f inside rest) → ⊥
        go (has_folder {u = u} {t = t} tree among inner few more) = lacks u t tree among

    -- where there is one folder of its key alone, that one has all of it
    pub one_has_all : (v : Tree) → ((u t : Tree) → IsFolderTree u t → IsAmong (y.folder_key f) whole t → u ≡ v) → HasAll y v inside
    one_has_all v one = go has.each
      where
        go : HasEach y whole (folder f inside rest) → HasAll y v inside
        go (has_folder {u = u} {t = t} tree among inner few more) =
            subst (λ (w : Tree). HasAll y w inside) (one u t tree among) (record { each = inner; enough = few })

    pub past_folder : HasLeft y whole (n - 1) rest
    past_folder = record { each = go has.each; enough = let few = has.enough in omega arith }
      where
        go : HasEach y whole (folder f inside rest) → HasEach y whole rest
        go (has_folder tree among inner few more) = more
