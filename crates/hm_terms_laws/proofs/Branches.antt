-- A conditional fits where its two lenses fit the two sides of its source, and, by the view, the two sides of its view.
use Rattle.std.proofs.Common.{◌≡◌, ℕ, ◌≤◌, Option, Some, None, IfSome, refl, sym, subst, ◌∙◌}
use Rattle.std.proofs.lemmas.Option.{none-some}
use Rattle.hm_tree.specs.Names.{Name}
use Rattle.hm_tree.specs.Nodes.{Tree, below, depth}
use Rattle.hm_tree.specs.Archives.{under}
use Rattle.hm_terms.specs.Lenses.{Lens, on_concrete, on_view, Setting}
use Rattle.hm_terms.specs.Before.{with_name, without_name}
use Rattle.hm_terms.specs.Shown.{Shows, by_concrete_has, by_concrete_none, by_view_has, by_view_none}
use Rattle.hm_terms.specs.Put.{Puts, put_concrete_has, put_concrete_none, put_view_has, put_view_none}
use Rattle.hm_terms.specs.Kept.{Keeps, keeps_concrete_has, keeps_concrete_none, keeps_view_has, keeps_view_none, keeps_view_in, keeps_view_out}
use Rattle.hm_terms.specs.Fitting.{IsOne}
use Rattle.hm_terms_laws.specs.Bounded.{FitsTo}
use Rattle.hm_terms.proofs.Laws.{shown_one, put_one}
use Rattle.hm_tree_parts.specs.Sets.{Side, with_it, without_it, IsBranched}

module _ (n : Name) (C C1 C2 : Tree → Type 0) (c : IsBranched n C C1 C2) where
  pub on_one : (t x : Tree) → C t → below n t ≡ Some x → C1 t
  on_one t x h at = go (c.side t h)
    where
      go : Side n C C1 C2 t → C1 t
      go (with_it e i) = i
      go (without_it e i) = absurd (none-some x (sym e ∙ at))

  pub on_two : (t : Tree) → C t → below n t ≡ None → C2 t
  on_two t h at = go (c.side t h)
    where
      go : Side n C C1 C2 t → C2 t
      go (with_it {x = x} e i) = absurd (none-some x (sym at ∙ e))
      go (without_it e i) = i

  pub with_in : (b : Option Tree) → IfSome b C → IfSome (with_name n b) C1
  with_in None h = tt
  with_in (Some b) h = go (c.side b h)
    where
      go : Side n C C1 C2 b → IfSome (with_name n (Some b)) C1
      go (with_it e i) = rw e i
      go (without_it e i) = rw e tt

  pub without_in : (b : Option Tree) → IfSome b C → IfSome (without_name n b) C2
  without_in None h = tt
  without_in (Some b) h = go (c.side b h)
    where
      go : Side n C C1 C2 b → IfSome (without_name n (Some b)) C2
      go (with_it e i) = rw e tt
      go (without_it e i) = rw e i

pub with_has : (n : Name) (b x : Tree) → below n b ≡ Some x → with_name n (Some b) ≡ Some b
with_has n b x e = rw e refl

pub without_lacks : (n : Name) (b : Tree) → below n b ≡ None → without_name n (Some b) ≡ Some b
without_lacks n b e = rw e refl

-- ---- by the concrete tree alone
module _ (S : Setting) (n : Name) (l k : Lens) (C C1 C2 A : Tree → Type 0) (c : IsBranched n C C1 C2) (d : ℕ) (f : FitsTo d S l C1 A)
    (g : FitsTo d S k C2 A) where
  concrete_shows : (t : Tree) → depth t ≤ d → C t → IsOne A (Shows S (on_concrete n l k) t)
  concrete_shows t low h = go (c.side t h)
    where
      go : Side n C C1 C2 t → IsOne A (Shows S (on_concrete n l k) t)
      go (with_it e i) = let o = f.shows t low i in shown_one S (on_concrete n l k) t o.tree o.inside (by_concrete_has e o.is)
      go (without_it e i) = let o = g.shows t low i in shown_one S (on_concrete n l k) t o.tree o.inside (by_concrete_none e o.is)

  concrete_puts : (v : Tree) (b : Option Tree) → depth v ≤ d → A v → IfSome b C → IsOne C (Puts S (on_concrete n l k) v b)
  concrete_puts v None low h i = let o = g.puts v None low h tt in put_one S (on_concrete n l k) v None o.tree (c.two o.tree o.inside)
      (put_concrete_none refl o.is)
  concrete_puts v (Some b) low h i = go (c.side b i)
    where
      go : Side n C C1 C2 b → IsOne C (Puts S (on_concrete n l k) v (Some b))
      go (with_it e j) = let o = f.puts v (Some b) low h j in put_one S (on_concrete n l k) v (Some b) o.tree (c.one o.tree o.inside)
          (put_concrete_has e o.is)
      go (without_it e j) = let o = g.puts v (Some b) low h j in put_one S (on_concrete n l k) v (Some b) o.tree (c.two o.tree o.inside)
          (put_concrete_none e o.is)

  one_before : (b : Option Tree) (x : Tree) → IfSome b C → under n b ≡ Some x → IfSome b C1
  one_before None x i e = tt
  one_before (Some b) x i e = on_one n C C1 C2 c b x i e

  two_before : (b : Option Tree) → IfSome b C → under n b ≡ None → IfSome b C2
  two_before None i e = tt
  two_before (Some b) i e = on_two n C C1 C2 c b i e

  pub fits_concrete : FitsTo d S (on_concrete n l k) C A
  fits_concrete = record { shows = concrete_shows; puts = concrete_puts; get_put = back; put_get = forth; keeps = kept }
    where
      back : (t v : Tree) → depth t ≤ d → C t → Shows S (on_concrete n l k) t v → Puts S (on_concrete n l k) v (Some t) t
      back t v low h (by_concrete_has {x = x} e s) = put_concrete_has e (f.get_put t v low (on_one n C C1 C2 c t x h e) s)
      back t v low h (by_concrete_none e s) = put_concrete_none e (g.get_put t v low (on_two n C C1 C2 c t h e) s)

      forth : (v : Tree) (b : Option Tree) (t : Tree) → depth v ≤ d → A v → IfSome b C → Puts S (on_concrete n l k) v b t
          → Shows S (on_concrete n l k) t v
      forth v b t low h i (put_concrete_has {x = x} e p) =
          let j = one_before b x i e in
          let o = f.puts v b low h j in
          let at = c.one_has t (subst C1 (sym (o.only t p)) o.inside) in
          by_concrete_has at.1 (f.put_get v b t low h j p)
      forth v b t low h i (put_concrete_none e p) =
          let j = two_before b i e in
          let o = g.puts v b low h j in
          by_concrete_none (c.two_lacks t (subst C2 (sym (o.only t p)) o.inside)) (g.put_get v b t low h j p)

      kept : (v b t : Tree) → depth v ≤ d → A v → C b → Puts S (on_concrete n l k) v (Some b) t → Keeps S (on_concrete n l k) b t
      kept v b t low h i (put_concrete_has {x = x} e p) =
          let j = on_one n C C1 C2 c b x i e in
          let o = f.puts v (Some b) low h j in
          let at = c.one_has t (subst C1 (sym (o.only t p)) o.inside) in
          keeps_concrete_has e at.1 (f.keeps v b t low h j p)
      kept v b t low h i (put_concrete_none e p) =
          let j = on_two n C C1 C2 c b i e in
          let o = g.puts v (Some b) low h j in
          keeps_concrete_none e (c.two_lacks t (subst C2 (sym (o.only t p)) o.inside)) (g.keeps v b t low h j p)

-- ---- by the view too
module _ (S : Setting) (n m : Name) (l k : Lens) (C C1 C2 A A1 A2 : Tree → Type 0) (c : IsBranched n C C1 C2) (a : IsBranched m A A1 A2) (d : ℕ)
    (f : FitsTo d S l C1 A1) (g : FitsTo d S k C2 A2) where
  view_shows : (t : Tree) → depth t ≤ d → C t → IsOne A (Shows S (on_view n m l k) t)
  view_shows t low h = go (c.side t h)
    where
      go : Side n C C1 C2 t → IsOne A (Shows S (on_view n m l k) t)
      go (with_it e i) = let o = f.shows t low i in shown_one S (on_view n m l k) t o.tree (a.one o.tree o.inside) (by_view_has e o.is)
      go (without_it e i) = let o = g.shows t low i in shown_one S (on_view n m l k) t o.tree (a.two o.tree o.inside) (by_view_none e o.is)

  view_puts : (v : Tree) (b : Option Tree) → depth v ≤ d → A v → IfSome b C → IsOne C (Puts S (on_view n m l k) v b)
  view_puts v b low h i = go (a.side v h)
    where
      go : Side m A A1 A2 v → IsOne C (Puts S (on_view n m l k) v b)
      go (with_it e j) = let o = f.puts v (with_name n b) low j (with_in n C C1 C2 c b i) in put_one S (on_view n m l k) v b o.tree
          (c.one o.tree o.inside) (put_view_has e o.is)
      go (without_it e j) = let o = g.puts v (without_name n b) low j (without_in n C C1 C2 c b i) in put_one S (on_view n m l k) v b o.tree
          (c.two o.tree o.inside) (put_view_none e o.is)

  -- what is put of a view with m has n, and of one without m hasn't n
  view_one : (v : Tree) (b : Option Tree) (t y : Tree) → depth v ≤ d → A v → IfSome b C → below m v ≡ Some y → Puts S l v (with_name n b) t
      → (x : Tree) × (below n t ≡ Some x)
  view_one v b t y low h i e p = let o = f.puts v (with_name n b) low (on_one m A A1 A2 a v y h e) (with_in n C C1 C2 c b i) in c.one_has t
      (subst C1 (sym (o.only t p)) o.inside)

  view_two : (v : Tree) (b : Option Tree) (t : Tree) → depth v ≤ d → A v → IfSome b C → below m v ≡ None → Puts S k v (without_name n b) t
      → below n t ≡ None
  view_two v b t low h i e p = let o = g.puts v (without_name n b) low (on_two m A A1 A2 a v h e) (without_in n C C1 C2 c b i) in c.two_lacks t
      (subst C2 (sym (o.only t p)) o.inside)

  pub fits_view : FitsTo d S (on_view n m l k) C A
  fits_view = record { shows = view_shows; puts = view_puts; get_put = back; put_get = forth; keeps = kept }
    where
      back : (t v : Tree) → depth t ≤ d → C t → Shows S (on_view n m l k) t v → Puts S (on_view n m l k) v (Some t) t
      back t v low h (by_view_has {x = x} e s) =
          let i = on_one n C C1 C2 c t x h e in
          let o = f.shows t low i in
          let at = a.one_has v (subst A1 (sym (o.only v s)) o.inside) in
          put_view_has at.1 (subst (λ b. Puts S l v b t) (sym (with_has n t x e)) (f.get_put t v low i s))
      back t v low h (by_view_none e s) =
          let i = on_two n C C1 C2 c t h e in
          let o = g.shows t low i in
          put_view_none (a.two_lacks v (subst A2 (sym (o.only v s)) o.inside))
          (subst (λ b. Puts S k v b t) (sym (without_lacks n t e)) (g.get_put t v low i s))

      forth : (v : Tree) (b : Option Tree) (t : Tree) → depth v ≤ d → A v → IfSome b C → Puts S (on_view n m l k) v b t
          → Shows S (on_view n m l k) t v
      forth v b t low h i (put_view_has {x = y} e p) = let at = view_one v b t y low h i e p in by_view_has at.1
          (f.put_get v (with_name n b) t low (on_one m A A1 A2 a v y h e) (with_in n C C1 C2 c b i) p)
      forth v b t low h i (put_view_none e p) = by_view_none (view_two v b t low h i e p)
          (g.put_get v (without_name n b) t low (on_two m A A1 A2 a v h e) (without_in n C C1 C2 c b i) p)

      kept : (v b t : Tree) → depth v ≤ d → A v → C b → Puts S (on_view n m l k) v (Some b) t → Keeps S (on_view n m l k) b t
      kept v b t low h i (put_view_has {x = y} e p) = go (c.side b i) (view_one v (Some b) t y low h i e p)
        where
          go : Side n C C1 C2 b → (x : Tree) × (below n t ≡ Some x) → Keeps S (on_view n m l k) b t
          go (with_it {x = x} has j) at = keeps_view_has has at.1
              (f.keeps v b t low (on_one m A A1 A2 a v y h e) j (subst (λ b. Puts S l v b t) (with_has n b x has) p))
          go (without_it none j) at = keeps_view_in none at.1
      kept v b t low h i (put_view_none e p) = go (c.side b i) (view_two v (Some b) t low h i e p)
        where
          go : Side n C C1 C2 b → below n t ≡ None → Keeps S (on_view n m l k) b t
          go (with_it has j) at = keeps_view_out has at
          go (without_it none j) at = keeps_view_none none at
              (g.keeps v b t low (on_two m A A1 A2 a v h e) j (subst (λ b. Puts S k v b t) (without_lacks n b none) p))
