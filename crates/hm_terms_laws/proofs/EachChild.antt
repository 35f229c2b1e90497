-- A lens for each child fits up to a depth where the lens fits up to each lower one.
use Rattle.std.proofs.Common.{◌≡◌, ℕ, ◌<◌, ◌≤◌, List, Option, Some, None, IfSome, refl, sym, subst, arith}
use Rattle.hm_tree.specs.Names.{Name}
use Rattle.hm_tree.specs.Nodes.{Tree, below, depth}
use Rattle.hm_tree.specs.Archives.{under}
use Rattle.hm_tree.proofs.Depths.{depth_below}
use Rattle.hm_terms.specs.Lenses.{Lens, each, Setting}
use Rattle.hm_tree_parts.specs.Edges.{names}
use Rattle.hm_terms.specs.Shown.{Shows, by_each}
use Rattle.hm_terms.specs.Put.{Puts, put_each}
use Rattle.hm_terms.specs.Kept.{Keeps, keeps_each}
use Rattle.hm_terms.specs.Fitting.{IsOne}
use Rattle.hm_terms_laws.specs.Bounded.{FitsTo}
use Rattle.hm_tree_parts.proofs.Maps.{beside}
use Rattle.hm_terms_laws.proofs.Beside.{some_tree_beside}
use Rattle.hm_terms.proofs.Laws.{shown_one, put_one}
use Rattle.hm_tree_parts.specs.Sets.{Built}

module _ (S : Setting) (l : Lens) (N : List Name → Type 0) (C A : Name → Tree → Type 0) (n : ℕ)
    (f : (k : Name) (m : ℕ) → m < n → FitsTo m S l (C k) (A k)) where
  low_child : (t : Tree) → depth t ≤ n → (k : Name) (x : Tree) → below k t ≡ Some x → depth x < n
  low_child t low k x at = let less = depth_below k t x at in omega arith

  same : (x : Tree) → depth x ≤ depth x
  same x = omega arith

  under_in : (k : Name) (b : Option Tree) → IfSome b (Built N C) → IfSome (under k b) (C k)
  under_in k None h = tt
  under_in k (Some b) h = go (below k b) refl
    where
      go : (x : Option Tree) → below k b ≡ x → IfSome x (C k)
      go None e = tt
      go (Some x) e = h.children k x e

  same_names : (t u : Tree) → names t ≡ names u → N (names t) → N (names u)
  same_names t u e h = subst N e h

  each_shows : (c : Tree) → depth c ≤ n → Built N C c → IsOne (Built N A) (Shows S (each l) c)
  each_shows c low h =
      let made = some_tree_beside (λ k x y. Shows S l x y × A k y) c
      (λ k x at. let one = (f k (depth x) (low_child c low k x at)).shows x (same x) (h.children k x at) in (one.tree, (one.is, one.inside))) in
      shown_one S (each l) c made.0 (record {
        names_in = same_names c made.0 made.1.same h.names_in;
        children = λ k y at. let x = beside made.0 c (sym made.1.same) k y at in (made.1.each k x.0 y x.1 at).1;
      }) (by_each made.1.same (λ k x y at there. (made.1.each k x y at there).0))

  each_puts : (v : Tree) (b : Option Tree) → depth v ≤ n → Built N A v → IfSome b (Built N C) → IsOne (Built N C) (Puts S (each l) v b)
  each_puts v b low h g =
      let made = some_tree_beside (λ k x y. Puts S l x (under k b) y × C k y) v
      (λ k x at. let one = (f k (depth x) (low_child v low k x at)).puts x (under k b) (same x) (h.children k x at) (under_in k b g) in
      (one.tree, (one.is, one.inside))) in
      put_one S (each l) v b made.0 (record {
        names_in = same_names v made.0 made.1.same h.names_in;
        children = λ k y at. let x = beside made.0 v (sym made.1.same) k y at in (made.1.each k x.0 y x.1 at).1;
      }) (put_each made.1.same (λ k x y at there. (made.1.each k x y at there).0))

  pub fits_each : FitsTo n S (each l) (Built N C) (Built N A)
  fits_each = record { shows = each_shows; puts = each_puts; get_put = back; put_get = forth; keeps = kept }
    where
      back : (c v : Tree) → depth c ≤ n → Built N C c → Shows S (each l) c v → Puts S (each l) v (Some c) c
      back c v low h (by_each e s) = put_each (sym e) (λ k y x at there.
          subst (λ b. Puts S l y b x) (sym there)
          ((f k (depth x) (low_child c low k x there)).get_put x y (same x) (h.children k x there) (s k x y there at)))

      forth : (v : Tree) (b : Option Tree) (c : Tree) → depth v ≤ n → Built N A v → IfSome b (Built N C) → Puts S (each l) v b c
          → Shows S (each l) c v
      forth v b c low h g (put_each e p) = by_each (sym e) (λ k x y at there.
          (f k (depth y) (low_child v low k y there)).put_get y (under k b) x (same y) (h.children k y there) (under_in k b g) (p k y x there at))

      kept : (v b c : Tree) → depth v ≤ n → Built N A v → Built N C b → Puts S (each l) v (Some b) c → Keeps S (each l) b c
      kept v b c low h g (put_each e p) = keeps_each (λ k x y at there.
          let view = beside c v (sym e) k y there in
          (f k (depth view.0) (low_child v low k view.0 view.1)).keeps view.0 x y (same view.0) (h.children k view.0 view.1) (g.children k x at)
          (subst (λ o. Puts S l view.0 o y) at (p k view.0 y view.1 there)))
