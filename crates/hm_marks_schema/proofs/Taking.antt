-- What the items of a folder from before take, whatever a format keeps of a link and of a folder.
use Rattle.std.proofs.Common.{◌≡◌, ◌+◌, ◌*◌, ◌<◌, ◌≤◌, ℕ, zero, suc, List, [], ◌∷◌, ◌++◌, map, length, slice_get, get_or, drop, take, Option, Some, None, refl, sym, ap, ◌∙◌, subst, arith, append_assoc, append-nil}
use Rattle.std.specs.Prelude.{IfSome}
use Rattle.std.specs.Borrow.{Bor}
use Rattle.std.proofs.lemmas.List.{map-append, take_more, length-map, get_or-map}
use denote.Param.Weighed.{most}
use Rattle.hm_tree.specs.Names.{Name, name_cmp}
use Rattle.hm_tree.specs.Nodes.{Tree, depth, edges}
use Rattle.hm_tree.proofs.Depths.{depth_below}
use Rattle.hm_tree_parts.proofs.OneEdge.{below-edge}
use Rattle.hm_tree.proofs.Sorted.{name_total, name_one}
use Rattle.hm_book_items.specs.Items.{of_key, below_key, survivor, fresh, added, Each, IsTree}
use Rattle.hm_book_items.specs.Plans.{numbered, keys_of}
use Rattle.hm_book_items.specs.ItemTrees.{Lists, AreLists, lists_depth}
use Rattle.hm_book_items.specs.Taken.{list_at}
use Rattle.hm_book_items.proofs.Numbers.{counted_read}
use Rattle.hm_book_items.proofs.Laws.{lists_once}
use Rattle.hm_book_items.proofs.ListDepths.{depth_lists}
use Rattle.hm_book_items.proofs.Fitting.{below_fits, each_got, each-drop}
use Rattle.hm_marks.specs.Contents.{Item}
use Rattle.hm_marks.specs.FolderTrees.{folder_name, IsFolderTree}
use Rattle.hm_marks.specs.Layouts.{Layout}
use Rattle.hm_marks.specs.Pieces.{NewItem, an_item, surviving}
use Rattle.hm_marks_schema.specs.Members.{IsAt, IsGood, IsFolderOf}
use Rattle.hm_marks_schema.specs.Taken.{AreGood}
use Rattle.hm_marks_schema.proofs.Nodes.{folder_alike}
use Rattle.hm_marks_schema.proofs.SomeAnew.{all_good}

-- the tree that an item behind others takes, which have these keys
abbrev pub tree_for : {C : Type 0} → Lists → List (Name × C) → Name → Option Tree
tree_for lists before k = slice_get (below_key name_cmp k lists) (length (of_key name_cmp k (numbered 0 (keys_of before))))

pub keys_more : {C : Type 0} (before : List (Name × C)) (x : Name × C) → keys_of before ++ x.0 ∷ [] ≡ keys_of (before ++ x ∷ [])
keys_more {C} before x = sym (map-append (λ (x : Name × C). x.0) before (x ∷ []))

-- it is good
pub good_for : {C : Type 0} (n : ℕ) (lists : Lists) (before : List (Name × C)) (k : Name) (t : Tree)
    → Each name_cmp (λ (l : Name × List Tree). Each name_cmp (IsGood n l.0) l.1) lists → Some t ≡ tree_for lists before k → IsGood n k t
good_for n lists before k t good is =
    subst (λ o. IfSome o (IsGood n k)) (sym is)
    (each_got name_cmp name_total name_one (IsGood n) (λ k (i : ℕ). Unit {0}) (IsGood n k) (length (of_key name_cmp k (numbered 0 (keys_of before)))) (below_key name_cmp k lists)
    (below_fits name_cmp name_total name_one (IsGood n) (λ k (i : ℕ). Unit {0}) k lists good))

-- ---- new items

good_at : (n : ℕ) (lists : Lists) (edge : ℕ) → edge < length lists → Each name_cmp (λ (l : Name × List Tree). Each name_cmp (IsGood n l.0) l.1) lists
    → Each name_cmp (IsGood n (list_at lists edge).0) (list_at lists edge).1
good_at n [] edge lt good = absurd (omega (arith, lt))
good_at n (l ∷ lists) zero lt good = good.0
good_at n (l ∷ lists) (suc edge) lt good = good_at n lists edge (omega (arith, lt)) good.1

pub good_left : (n : ℕ) (lists : Lists) (edge count : ℕ) → edge < length lists → Each name_cmp (λ (l : Name × List Tree). Each name_cmp (IsGood n l.0) l.1) lists
    → Each name_cmp (IsGood n (list_at lists edge).0) (drop count (list_at lists edge).1)
good_left n lists edge count lt good =
    each-drop name_cmp name_total name_one (IsGood n) (λ k (i : ℕ). Unit {0}) (IsGood n (list_at lists edge).0) count (list_at lists edge).1
    (good_at n lists edge lt good)

-- the deepest of good trees is less deep than the number
pub most_good : (n : ℕ) (k : Name) (ts : List Tree) → Each name_cmp (IsGood (suc n) k) ts → most depth ts ≤ n
most_good n k [] good = omega arith
most_good n k (t ∷ ts) good = let less = good.0.less in let rest = most_good n k ts good.1 in omega (arith, less, rest)

pub deep_in : (ts : List Tree) (i : ℕ) (t : Tree) → i < length ts → t ≡ get_or ts i t → depth t ≤ most depth ts
deep_in [] i t lt is = absurd (omega (arith, lt))
deep_in (u ∷ ts) zero t lt is = let same : depth t ≡ depth u = ap depth is in omega (arith, same)
deep_in (u ∷ ts) (suc i) t lt is = let h = deep_in ts i t (omega (arith, lt)) is in omega (arith, h)

pub good_in : (n : ℕ) (k : Name) (ts : List Tree) (i : ℕ) (t : Tree) → i < length ts → t ≡ get_or ts i t → Each name_cmp (IsGood n k) ts → IsGood n k t
good_in n k [] i t lt is good = absurd (omega (arith, lt))
good_in n k (u ∷ ts) zero t lt is good = subst (IsGood n k) (sym is) good.0
good_in n k (u ∷ ts) (suc i) t lt is good = good_in n k ts i t (omega (arith, lt)) is good.1

-- what stands in a folder is less deep than its item
pub less_than : (u t : Tree) → IsFolderTree u t → suc (suc (suc (4 * depth u))) < 4 * depth t
less_than u t is = let less = depth_below folder_name t u (below-edge folder_name u t is) in omega (arith, less)

-- ---- trees that are lent

abbrev now_of : List (Bor Tree) → List Tree
now_of bs = map (λ (b : Bor Tree). b.now) bs

pub next_fresh : (bs : List (Bor Tree)) (i : ℕ) (b : Bor Tree) → i < length bs → b ≡ get_or bs i b → (i < length (now_of bs)) × (b.now ≡ get_or (now_of bs) i b.now)
next_fresh bs i b lt is =
    let many = length-map bs (λ (b : Bor Tree). b.now) in (
      omega (arith, many, lt),
      ap (λ (b : Bor Tree). b.now) is ∙ sym (get_or-map (λ (b : Bor Tree). b.now) bs i b b.now (omega (arith, many, lt))),
    )

-- ---- all that there is to show

pub left_good : {C : Type 0} (lists : Lists) (before : List (Name × C)) → AreGood lists → (edge : ℕ) → edge < length lists → (left : List Tree) (k : Name) → (list_at lists edge).0 ≡ k
    → left ≡ drop (length (of_key name_cmp (list_at lists edge).0 (numbered 0 (keys_of before)))) (list_at lists edge).1
    → Each name_cmp (IsGood (suc (lists_depth depth lists)) k) left
left_good lists before good edge lt left k key is =
    subst (λ k. Each name_cmp (IsGood (suc (lists_depth depth lists)) k) left) key
    (subst (Each name_cmp (IsGood (suc (lists_depth depth lists)) (list_at lists edge).0)) (sym is)
    (good_left (suc (lists_depth depth lists)) lists edge (length (of_key name_cmp (list_at lists edge).0 (numbered 0 (keys_of before)))) lt good))

pub lists_good : (t : Tree) → IsAt 1 t → IsFolderOf (IsAt 3) t
lists_good t at = folder_alike.into t at

pub record AreKnown (lists : Lists) : Type 0 where
  pub tree : IsTree name_cmp lists
  pub good : AreGood lists

pub known_good : (t : Tree) → IsAt 1 t → (lists : Lists) → AreLists (edges t) lists → AreKnown lists
known_good t at lists below =
    let h = lists_good t at in
    let same : h.lists ≡ lists = lists_once (edges t) h.lists lists h.below below in
    subst AreKnown same
    (record {
      tree = h.tree;
      good = all_good (suc (lists_depth depth h.lists)) (edges t) h.lists h.below h.keys h.items (let deep = depth_lists (edges t) h.lists h.below in omega (arith, deep));
    })

-- ---- what survives, and what is new

module _ {L F S : Type 0} (y : Layout L F) where
  abbrev Fresh : Name → List Tree → List (NewItem L F S)
  Fresh k ts = fresh name_cmp k ts

  tree_is : (lists : Lists) (before : List (Name × Item L F S)) (k : Name) → tree_for lists before k ≡ slice_get (below_key name_cmp k lists) (length (of_key name_cmp k before))
  tree_is lists before k = ap (slice_get (below_key name_cmp k lists)) (counted_read k 0 before)

  pub survives : (lists : Lists) (before : List (Name × Item L F S)) (x : Name × Item L F S) (t : Tree) → Some t ≡ tree_for lists before x.0
      → surviving y lists before x ≡ an_item (x.0, Some x.1, t) ∷ []
  survives lists before x t is = ap (λ o. map an_item (survivor name_cmp x o)) (sym (is ∙ tree_is lists before x.0))

  pub goes : (lists : Lists) (before : List (Name × Item L F S)) (x : Name × Item L F S) → None ≡ tree_for lists before x.0 → surviving y lists before x ≡ []
  goes lists before x is = ap (λ o. map an_item (survivor name_cmp x o)) (sym (is ∙ tree_is lists before x.0))

  fresh-append : (k : Name) (ts us : List Tree) → Fresh k (ts ++ us) ≡ Fresh k ts ++ Fresh k us
  fresh-append k [] us = refl
  fresh-append k (t ∷ ts) us = ap (λ (l : List (NewItem L F S)). (k, None, t) ∷ l) (fresh-append k ts us)

  pub fresh_more : (k : Name) (bs : List (Bor Tree)) (i : ℕ) (b : Bor Tree) → i < length bs → b ≡ get_or bs i b
      → map an_item (Fresh k (now_of (take i bs))) ++ an_item (k, None, b.now) ∷ [] ≡ map an_item (Fresh k (now_of (take (i + 1) bs)))
  fresh_more k bs i b lt is =
      sym (map-append an_item (Fresh k (now_of (take i bs))) ((k, None, b.now) ∷ []))
      ∙ ap (λ (l : List (NewItem L F S)). map an_item l) (sym (fresh-append k (now_of (take i bs)) (b.now ∷ []))
      ∙ ap (Fresh k) (sym (map-append (λ (b : Bor Tree). b.now) (take i bs) (b ∷ []))
      ∙ ap now_of (ap (λ (c : Bor Tree). take i bs ++ c ∷ []) is ∙ sym (take_more bs i b lt))))

  abbrev Added : List (Name × Item L F S) → Lists → List (NewItem L F S)
  Added before lists = added name_cmp before lists

  added-append : (before : List (Name × Item L F S)) (ls ms : Lists) → Added before (ls ++ ms) ≡ Added before ls ++ Added before ms
  added-append before [] ms = refl
  added-append before (l ∷ ls) ms =
      let mine = Fresh l.0 (drop (length (of_key name_cmp l.0 before)) l.1) in
      ap (λ xs. mine ++ xs) (added-append before ls ms) ∙ sym (append_assoc mine (Added before ls) (Added before ms))

  left_is : (before : List (Name × Item L F S)) (lists : Lists) (edge : ℕ) (left : List Tree)
      → left ≡ drop (length (of_key name_cmp (list_at lists edge).0 (numbered 0 (keys_of before)))) (list_at lists edge).1
      → left ≡ drop (length (of_key name_cmp (list_at lists edge).0 before)) (list_at lists edge).1
  left_is before lists edge left is = is ∙ ap (λ n. drop n (list_at lists edge).1) (counted_read (list_at lists edge).0 0 before)

  pub next_added : (before : List (Name × Item L F S)) (lists : Lists) (edge : ℕ) → edge < length lists → (k : Name) (left : List Tree) → (list_at lists edge).0 ≡ k
      → left ≡ drop (length (of_key name_cmp (list_at lists edge).0 (numbered 0 (keys_of before)))) (list_at lists edge).1
      → map an_item (Added before (take edge lists)) ++ map an_item (Fresh k left) ≡ map an_item (Added before (take (edge + 1) lists))
  next_added before lists edge lt k left key is =
      let mine = Fresh (list_at lists edge).0 (drop (length (of_key name_cmp (list_at lists edge).0 before)) (list_at lists edge).1) in
      let same : Fresh k left ≡ mine ++ [] =
      (λ i. Fresh (sym key i) (left_is before lists edge left is i)) ∙ sym (append-nil mine) in
      sym (map-append an_item (Added before (take edge lists)) (Fresh k left))
      ∙ ap (λ (l : List (NewItem L F S)). map an_item l)
      (ap (λ l. Added before (take edge lists) ++ l) same ∙ sym (added-append before (take edge lists) (list_at lists edge ∷ []))
      ∙ ap (Added before) (sym (take_more lists edge ([], []) lt)))
