-- A lens for each item of a list fits lists up to a depth where the lens fits the items up to each lower one.
use Rattle.std.proofs.Common.{ℕ, ◌<◌, ◌≤◌, Option, Some, None, IfSome, sym, subst, arith}
use Rattle.hm_tree.specs.Nodes.{Tree, below, depth}
use Rattle.hm_tree.specs.Archives.{under}
use Rattle.hm_tree.proofs.Depths.{depth_below}
use Rattle.hm_terms.specs.Lenses.{Lens, items, Setting}
use Rattle.hm_tree_parts.specs.Lists.{head, tail, IsItem, ListOf, no_items, an_item, IsList}
use Rattle.hm_terms.specs.Shown.{Shows, by_items_none, by_items_more}
use Rattle.hm_terms.specs.Put.{Puts, put_items_none, put_items_more}
use Rattle.hm_terms.specs.Kept.{Keeps, keeps_items_from_none, keeps_items_to_none, keeps_items_more}
use Rattle.hm_terms_laws.specs.Bounded.{FitsTo}
use Rattle.hm_tree_parts.proofs.OneList.{below-head, below-tail, below-nil, one_head, one_tail, nil_item, some_item, some_nil}
use Rattle.hm_terms.proofs.Laws.{shown_one, put_one}
use Rattle.hm_tree_parts.specs.Lists.{ItemIn, SomeItems}

-- ---- lists

module _ (C : Tree → Type 0) where
  pub item_parts : {t : Tree} (x r : Tree) → ListOf C t → IsItem x r t → ItemIn C x r
  item_parts x r (no_items {t = t} e) f = absurd (nil_item x r t e f)
  item_parts x r (an_item {x = y} {r = s} {t = t} e h rest) f = record {
    first = subst C (one_head y s x r t e f) h;
    rest = subst (ListOf C)
        (one_tail y s x r t e f) rest;
  }

  pub is_list : {t : Tree} → ListOf C t → IsList t
  is_list (no_items e) = no_items e
  is_list (an_item e h r) = an_item e tt (is_list r)

  under_head : (b : Option Tree) → IfSome b (ListOf C) → IfSome (under head b) C
  under_head None h = tt
  under_head (Some b) h = go h
    where
      go : {b : Tree} → ListOf C b → IfSome (below head b) C
      go (no_items {t = t} e) = subst (λ o. IfSome o C) (sym (below-nil t e head)) tt
      go (an_item {x = x} {r = r} {t = t} e h rest) = subst (λ o. IfSome o C) (sym (below-head x r t e)) h

  under_tail : (b : Option Tree) → IfSome b (ListOf C) → IfSome (under tail b) (ListOf C)
  under_tail None h = tt
  under_tail (Some b) h = go h
    where
      go : {b : Tree} → ListOf C b → IfSome (below tail b) (ListOf C)
      go (no_items {t = t} e) = subst (λ o. IfSome o (ListOf C)) (sym (below-nil t e tail)) tt
      go (an_item {x = x} {r = r} {t = t} e h rest) = subst (λ o. IfSome o (ListOf C)) (sym (below-tail x r t e)) rest

  list_before : (b : Option Tree) → IfSome b (ListOf C) → IfSome b IsList
  list_before None h = tt
  list_before (Some b) h = is_list h

module _ (S : Setting) (l : Lens) (C A : Tree → Type 0) (n : ℕ) (f : (m : ℕ) → m < n → FitsTo m S l C A) where
  low_head : (x r t : Tree) → IsItem x r t → depth t ≤ n → depth x < n
  low_head x r t e low = let less = depth_below head t x (below-head x r t e) in omega arith

  low_tail : (x r t : Tree) → IsItem x r t → depth t ≤ n → depth r ≤ n
  low_tail x r t e low = let less = depth_below tail t r (below-tail x r t e) in omega arith

  same : (x : Tree) → depth x ≤ depth x
  same x = omega arith

  record Shown (c : Tree) : Type 0 where
    view : Tree
    is : Shows S (items l) c view
    inside : ListOf A view

  list_shows : {c : Tree} → ListOf C c → depth c ≤ n → Shown c
  list_shows (no_items {t = c} e) low = let v = some_nil in record { view = v.0; is = by_items_none e v.1; inside = no_items v.1 }
  list_shows (an_item {x = x} {r = r} {t = c} e h rest) low =
      let one = (f (depth x) (low_head x r c e low)).shows x (same x) h in
      let others = list_shows rest (low_tail x r c e low) in
      let v = some_item one.tree others.view in
      record { view = v.0; is = by_items_more e one.is others.is v.1; inside = an_item v.1 one.inside others.inside }

  record IsPut (v : Tree) (b : Option Tree) : Type 0 where
    tree : Tree
    is : Puts S (items l) v b tree
    inside : ListOf C tree

  list_puts : {v : Tree} → ListOf A v → (b : Option Tree) → depth v ≤ n → IfSome b (ListOf C) → IsPut v b
  list_puts (no_items {t = v} e) b low g = let c = some_nil in record { tree = c.0; is = put_items_none (list_before C b g) e c.1; inside = no_items c.1 }
  list_puts (an_item {x = x} {r = r} {t = v} e h rest) b low g =
      let one = (f (depth x) (low_head x r v e low)).puts x (under head b) (same x) h (under_head C b g) in
      let others = list_puts rest (under tail b) (low_tail x r v e low) (under_tail C b g) in
      let c = some_item one.tree others.tree in
      record { tree = c.0; is = put_items_more (list_before C b g) e one.is others.is c.1; inside = an_item c.1 one.inside others.inside }

  list_back : {c v : Tree} → depth c ≤ n → ListOf C c → Shows S (items l) c v → Puts S (items l) v (Some c) c
  list_back low h (by_items_none {c = c} {v = v} e g) = put_items_none (is_list C h) g e
  list_back low i (by_items_more {c = c} {h = h} {t = t} {v = v} {x = x} {r = r} e p q g) =
      let parts = item_parts C h t i e in
      put_items_more (is_list C i) g
      (subst (λ b. Puts S l x b h) (sym (below-head h t c e)) ((f (depth h) (low_head h t c e low)).get_put h x (same h) parts.first p))
      (subst (λ b. Puts S (items l) r b t) (sym (below-tail h t c e)) (list_back (low_tail h t c e low) parts.rest q))
      e

  list_forth : {v c : Tree} {b : Option Tree} → depth v ≤ n → ListOf A v → IfSome b (ListOf C) → Puts S (items l) v b c → Shows S (items l) c v
  list_forth low i g (put_items_none o e k) = by_items_none k e
  list_forth low i g (put_items_more {a = v} {x = x} {r = r} {h = h} {t = t} {b = b} o e p q k) =
      let parts = item_parts A x r i e in
      by_items_more k ((f (depth x) (low_head x r v e low)).put_get x (under head b) h (same x) parts.first (under_head C b g) p)
      (list_forth (low_tail x r v e low) parts.rest (under_tail C b g) q) e

  list_kept : {v b c : Tree} → depth v ≤ n → ListOf A v → ListOf C b → Puts S (items l) v (Some b) c → Keeps S (items l) b c
  list_kept low i g (put_items_none o e k) = keeps_items_to_none k
  list_kept low i (no_items e) (put_items_more o g p q k) = keeps_items_from_none e
  list_kept low i (an_item {x = y} {r = s} {t = b} is first rest) (put_items_more {a = v} {x = x} {r = r} {h = h} {t = t} o e p q k) =
      let parts = item_parts A x r i e in
      keeps_items_more is k
      ((f (depth x) (low_head x r v e low)).keeps x y h (same x) parts.first first (subst (λ o. Puts S l x o h) (below-head y s b is) p))
      (list_kept (low_tail x r v e low) parts.rest rest (subst (λ o. Puts S (items l) r o t) (below-tail y s b is) q))

  pub fits_items : FitsTo n S (items l) (ListOf C) (ListOf A)
  fits_items = record {
    shows = λ c low h. let v = list_shows h low in shown_one S (items l) c v.view v.inside v.is;
    puts = λ v b low h g. let c = list_puts h b low g in put_one S (items l) v b c.tree c.inside c.is;
    get_put = λ c v low h s. list_back low h s;
    put_get = λ v b c low h g p. list_forth low h g p;
    keeps = λ v b c low h g p. list_kept low h g p;
  }

-- ---- a lens that fits two sets fits smaller ones that it doesn't leave

module _ (n : ℕ) (S : Setting) (l : Lens) (C A C2 A2 : Tree → Type 0) (c : (t : Tree) → C2 t → C t) (a : (t : Tree) → A2 t → A t)
    (stays : (t v : Tree) → C2 t → A v → Shows S l t v → A2 v) (returns : (v t : Tree) (b : Option Tree) → A2 v → C t → Puts S l v b t → C2 t) where
  some_less : (b : Option Tree) → IfSome b C2 → IfSome b C
  some_less None h = tt
  some_less (Some b) h = c b h

  pub fits_less : FitsTo n S l C A → FitsTo n S l C2 A2
  fits_less f = record {
    shows = λ t low h. let o = f.shows t low (c t h) in record { tree = o.tree; is = o.is; inside = stays t o.tree h o.inside o.is; only = o.only };
    puts = λ v b low h g. let o = f.puts v b low (a v h)
        (some_less b g) in record { tree = o.tree; is = o.is; inside = returns v o.tree b h o.inside o.is; only = o.only };
    get_put = λ t v low h s. f.get_put t v low (c t h) s;
    put_get = λ v b t low h g p. f.put_get v b t low (a v h) (some_less b g) p;
    keeps = λ v b t low h g p. f.keeps v b t low (a v h) (c b g) p;
  }

-- lists with an item at least
module _ (S : Setting) (l : Lens) (C A : Tree → Type 0) (n : ℕ) (f : (m : ℕ) → m < n → FitsTo m S l C A) where
  whole : (S : Tree → Type 0) (t : Tree) → SomeItems S t → ListOf S t
  whole S t h = an_item h.is h.in_set.first h.in_set.rest

  item_shown : {c v : Tree} (x r : Tree) → IsItem x r c → ListOf A v → Shows S (items l) c v → SomeItems A v
  item_shown x r e i (by_items_none {c = c} g k) = absurd (nil_item x r c g e)
  item_shown x r e i (by_items_more {x = y} {r = s} g p q k) = record { first = y; rest = s; is = k; in_set = item_parts A y s i k }

  item_put : {v c : Tree} {b : Option Tree} (x r : Tree) → IsItem x r v → ListOf C c → Puts S (items l) v b c → SomeItems C c
  item_put x r e i (put_items_none {a = v} o g k) = absurd (nil_item x r v g e)
  item_put x r e i (put_items_more {h = y} {t = s} o g p q k) = record { first = y; rest = s; is = k; in_set = item_parts C y s i k }

  pub fits_some_items : FitsTo n S (items l) (SomeItems C) (SomeItems A)
  fits_some_items = fits_less n S (items l) (ListOf C) (ListOf A) (SomeItems C) (SomeItems A) (whole C) (whole A)
      (λ t v h i s. item_shown h.first h.rest h.is i s) (λ v t b h i p. item_put h.first h.rest h.is i p) (fits_items S l C A n f)
