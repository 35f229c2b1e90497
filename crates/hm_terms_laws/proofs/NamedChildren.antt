-- A lens for the child of each of some names fits up to a depth where each of them fits up to each lower one, and where the
-- other children are the same trees in both sets.
use Rattle.std.proofs.Common.{◌≡◌, ℕ, ◌<◌, ◌≤◌, List, Option, Some, None, IfSome, is_some, refl, sym, ap, subst, ◌∙◌, arith}
use mathlib.Core.Bool.{true≢false}
use Rattle.std.proofs.lemmas.Option.{same_Some, none-some}
use Rattle.hm_tree.specs.Names.{Name}
use Rattle.hm_tree.specs.Nodes.{Tree, below, depth}
use Rattle.hm_tree.specs.Archives.{under}
use Rattle.hm_tree.proofs.Depths.{depth_below}
use Rattle.hm_terms.specs.Lenses.{Lens, Lenses, among, lens_at, Setting}
use Rattle.hm_tree_parts.specs.Edges.{names}
use Rattle.hm_terms.specs.Shown.{Shows, by_among}
use Rattle.hm_terms.specs.Put.{Puts, put_among}
use Rattle.hm_terms.specs.Kept.{Keeps, keeps_among}
use Rattle.hm_terms.specs.Fitting.{IsOne}
use Rattle.hm_terms_laws.specs.Bounded.{FitsTo}
use Rattle.hm_tree_parts.proofs.Maps.{beside, below_names}
use Rattle.hm_terms_laws.proofs.Beside.{some_tree_beside}
use Rattle.hm_tree_parts.specs.Sets.{Built}
use Rattle.hm_terms.proofs.Laws.{shown_one, put_one}

-- through the lens of its name, or the same where there is none
record Through (R : Lens → Tree → Tree → Type 0) (l : Option Lens) (x y : Tree) : Type 0 where
  named : (k : Lens) → l ≡ Some k → R k x y
  other : l ≡ None → y ≡ x

module _ (S : Setting) (ls : Lenses) (N : List Name → Type 0) (C A : Name → Tree → Type 0) (n : ℕ)
    (f : (k : Name) (l : Lens) → lens_at k ls ≡ Some l → (m : ℕ) → m < n → FitsTo m S l (C k) (A k))
    (to : (k : Name) → lens_at k ls ≡ None → (x : Tree) → C k x → A k x) (back : (k : Name) → lens_at k ls ≡ None → (x : Tree) → A k x → C k x) where
  low_child : (t : Tree) → depth t ≤ n → (k : Name) (x : Tree) → below k t ≡ Some x → depth x < n
  low_child t low k x at = let less = depth_below k t x at in omega arith

  itself : (x : Tree) → depth x ≤ depth x
  itself x = omega arith

  under_in : (k : Name) (b : Option Tree) → IfSome b (Built N C) → IfSome (under k b) (C k)
  under_in k None h = tt
  under_in k (Some b) h = go (below k b) refl
    where
      go : (x : Option Tree) → below k b ≡ x → IfSome x (C k)
      go None e = tt
      go (Some x) e = h.children k x e

  same_names : (t u : Tree) → names t ≡ names u → N (names t) → N (names u)
  same_names t u e h = subst N e h

  -- what stands beside each child is the same where its name has no lens
  others : (R : Name → Lens → Tree → Tree → Type 0) (t u : Tree) → names t ≡ names u
      → ((k : Name) (x y : Tree) → below k t ≡ Some x → below k u ≡ Some y → Through (R k) (lens_at k ls) x y)
      → (k : Name) → lens_at k ls ≡ None → below k u ≡ below k t
  others R t u e all k none = go (below k t) (below k u) refl refl
    where
      there : is_some (below k t) ≡ is_some (below k u)
      there = below_names t u e k

      go : (x y : Option Tree) → below k t ≡ x → below k u ≡ y → y ≡ x
      go None None at beside_it = refl
      go None (Some y) at beside_it = absurd (true≢false (sym (ap is_some (sym at) ∙ there ∙ ap is_some beside_it)))
      go (Some x) None at beside_it = absurd (true≢false (ap is_some (sym at) ∙ there ∙ ap is_some beside_it))
      go (Some x) (Some y) at beside_it = ap Some ((all k x y at beside_it).other none)

  -- ---- showing

  shown_child : (c : Tree) → depth c ≤ n → Built N C c → (k : Name) (x : Tree) → below k c ≡ Some x
      → (y : Tree) × (Through (Shows S) (lens_at k ls) x y × A k y)
  shown_child c low h k x at = go (lens_at k ls) refl
    where
      go : (l : Option Lens) → lens_at k ls ≡ l → (y : Tree) × (Through (Shows S) (lens_at k ls) x y × A k y)
      go None e = (x, (record { named = λ l is. absurd (none-some l (sym e ∙ is)); other = λ _. refl }, to k e x (h.children k x at)))
      go (Some l) e =
          let one = (f k l e (depth x) (low_child c low k x at)).shows x (itself x) (h.children k x at) in (
            one.tree,
            (
              record {
                named = λ m is. subst (λ l. Shows S l x one.tree) (same_Some l m (sym e ∙ is)) one.is;
                other = λ none. absurd (none-some l (sym none ∙ e));
              },
              one.inside,
            ),
          )

  among_shows : (c : Tree) → depth c ≤ n → Built N C c → IsOne (Built N A) (Shows S (among ls) c)
  among_shows c low h =
      let made = some_tree_beside (λ k x y. Through (Shows S) (lens_at k ls) x y × A k y) c (shown_child c low h) in
      shown_one S (among ls) c made.0 (record {
        names_in = same_names c made.0 made.1.same h.names_in;
        children = λ k y at. let x = beside made.0 c (sym made.1.same) k y at in (made.1.each k x.0 y x.1 at).1;
      }) (by_among made.1.same (λ k l x y is at there. (made.1.each k x y at there).0.named l is)
      (others (λ k. Shows S) c made.0 made.1.same (λ k x y at there. (made.1.each k x y at there).0)))

  -- ---- putting

  put_child : (v : Tree) (b : Option Tree) → depth v ≤ n → Built N A v → IfSome b (Built N C) → (k : Name) (x : Tree) → below k v ≡ Some x
      → (y : Tree) × (Through (λ l x y. Puts S l x (under k b) y) (lens_at k ls) x y × C k y)
  put_child v b low h g k x at = go (lens_at k ls) refl
    where
      go : (l : Option Lens) → lens_at k ls ≡ l → (y : Tree) × (Through (λ l x y. Puts S l x (under k b) y) (lens_at k ls) x y × C k y)
      go None e = (x, (record { named = λ l is. absurd (none-some l (sym e ∙ is)); other = λ _. refl }, back k e x (h.children k x at)))
      go (Some l) e =
          let one = (f k l e (depth x) (low_child v low k x at)).puts x (under k b) (itself x) (h.children k x at) (under_in k b g) in (
            one.tree,
            (
              record {
                named = λ m is. subst (λ l. Puts S l x (under k b) one.tree) (same_Some l m (sym e ∙ is)) one.is;
                other = λ none. absurd (none-some l (sym none ∙ e));
              },
              one.inside,
            ),
          )

  among_puts : (v : Tree) (b : Option Tree) → depth v ≤ n → Built N A v → IfSome b (Built N C) → IsOne (Built N C) (Puts S (among ls) v b)
  among_puts v b low h g =
      let made = some_tree_beside (λ k x y. Through (λ l x y. Puts S l x (under k b) y) (lens_at k ls) x y × C k y) v (put_child v b low h g) in
      put_one S (among ls) v b made.0 (record {
        names_in = same_names v made.0 made.1.same h.names_in;
        children = λ k y at. let x = beside made.0 v (sym made.1.same) k y at in (made.1.each k x.0 y x.1 at).1;
      }) (put_among made.1.same (λ k l x y is at there. (made.1.each k x y at there).0.named l is)
      (others (λ k l x y. Puts S l x (under k b) y) v made.0 made.1.same (λ k x y at there. (made.1.each k x y at there).0)))

  pub fits_among : FitsTo n S (among ls) (Built N C) (Built N A)
  fits_among = record { shows = among_shows; puts = among_puts; get_put = there_and_back; put_get = forth; keeps = kept }
    where
      there_and_back : (c v : Tree) → depth c ≤ n → Built N C c → Shows S (among ls) c v → Puts S (among ls) v (Some c) c
      there_and_back c v low h (by_among e s o) = put_among (sym e)
          (λ k l y x is at there. subst (λ b. Puts S l y b x) (sym there)
          ((f k l is (depth x) (low_child c low k x there)).get_put x y (itself x) (h.children k x there) (s k l x y is there at)))
          (λ k none. sym (o k none))

      forth : (v : Tree) (b : Option Tree) (c : Tree) → depth v ≤ n → Built N A v → IfSome b (Built N C) → Puts S (among ls) v b c
          → Shows S (among ls) c v
      forth v b c low h g (put_among e p o) = by_among (sym e)
          (λ k l x y is at there. (f k l is (depth y) (low_child v low k y there)).put_get y (under k b) x (itself y) (h.children k y there)
          (under_in k b g) (p k l y x is there at))
          (λ k none. sym (o k none))

      kept : (v b c : Tree) → depth v ≤ n → Built N A v → Built N C b → Puts S (among ls) v (Some b) c → Keeps S (among ls) b c
      kept v b c low h g (put_among e p o) = keeps_among (λ k l x y is at there.
          let view = beside c v (sym e) k y there in
          (f k l is (depth view.0) (low_child v low k view.0 view.1)).keeps view.0 x y (itself view.0) (h.children k view.0 view.1) (g.children k x at)
          (subst (λ o. Puts S l view.0 o y) at (p k l view.0 y is view.1 there)))
