-- A lens fits where it fits up to each depth.
use Rattle.std.proofs.Common.{◌≡◌, ℕ, ◌≤◌, Option, Some, None, IfSome, sym, subst, ◌∙◌, arith}
use Rattle.std.proofs.lemmas.Option.{same_Some}
use Rattle.hm_tree.specs.Names.{Name}
use Rattle.hm_tree.specs.Nodes.{Tree, depth}
use Rattle.hm_terms.specs.Lenses.{Lens, call, Setting, body_of}
use Rattle.hm_terms.specs.Shown.{Shows, by_call}
use Rattle.hm_terms.specs.Put.{Puts, put_call}
use Rattle.hm_terms.specs.Kept.{Keeps, keeps_call}
use Rattle.hm_terms.specs.Fitting.{IsOne, Fits}
use Rattle.hm_terms.proofs.Laws.{shown_one, put_one}
use Rattle.hm_terms_laws.specs.Bounded.{FitsTo}

module _ (S : Setting) where
  -- at every depth, and up to each depth
  module _ (l : Lens) (C A : Tree → Type 0) where
    pub fits_to : Fits S l C A → (n : ℕ) → FitsTo n S l C A
    fits_to f n = record {
      shows = λ c low h. f.shows c h;
      puts = λ v b low h g. f.puts v b h g;
      get_put = λ c v low h s. f.get_put c v h s;
      put_get = λ v b c low h g p. f.put_get v b c h g p;
      keeps = λ v b c low h g p. f.keeps v b c h g p;
    }

    pub fits_all : ((n : ℕ) → FitsTo n S l C A) → Fits S l C A
    fits_all f = record {
      shows = λ c h. (f (depth c)).shows c (omega arith) h;
      puts = λ v b h g. (f (depth v)).puts v b (omega arith) h g;
      get_put = λ c v h s. (f (depth c)).get_put c v (omega arith) h s;
      put_get = λ v b c h g p. (f (depth v)).put_get v b c (omega arith) h g p;
      keeps = λ v b c h g p. (f (depth v)).keeps v b c (omega arith) h g p;
    }

    pub shown_inside : Fits S l C A → (c v : Tree) → C c → Shows S l c v → A v
    shown_inside f c v h s = let one = f.shows c h in subst A (sym (one.only v s)) one.inside

    pub put_inside : Fits S l C A → (v : Tree) (b : Option Tree) (c : Tree) → A v → IfSome b C → Puts S l v b c → C c
    put_inside f v b c h g p = let one = f.puts v b h g in subst C (sym (one.only c p)) one.inside

  -- sets with the same members are alike
  module _ (n : ℕ) (l : Lens) (C A C2 A2 : Tree → Type 0) (c : (t : Tree) → C2 t → C t) (c2 : (t : Tree) → C t → C2 t) (a : (t : Tree) → A2 t → A t)
      (a2 : (t : Tree) → A t → A2 t) where
    one_same : (In In2 : Tree → Type 0) → ((t : Tree) → In t → In2 t) → (Is : Tree → Type 0) → IsOne In Is → IsOne In2 Is
    one_same In In2 to Is o = record { tree = o.tree; is = o.is; inside = to o.tree o.inside; only = o.only }

    some_same : (b : Option Tree) → IfSome b C2 → IfSome b C
    some_same None h = tt
    some_same (Some b) h = c b h

    pub fits_same : FitsTo n S l C A → FitsTo n S l C2 A2
    fits_same f = record {
      shows = λ t low h. one_same A A2 a2 (Shows S l t) (f.shows t low (c t h));
      puts = λ v b low h g. one_same C C2 c2 (Puts S l v b) (f.puts v b low (a v h) (some_same b g));
      get_put = λ t v low h s. f.get_put t v low (c t h) s;
      put_get = λ v b t low h g p. f.put_get v b t low (a v h) (some_same b g) p;
      keeps = λ v b t low h g p. f.keeps v b t low (a v h) (c b g) p;
    }

  -- ---- a call fits where the body does
  module _ (n : Name) (l : Lens) (is : body_of S.definitions n ≡ Some l) (d : ℕ) (C A : Tree → Type 0) (f : FitsTo d S l C A) where
    pub fits_call : FitsTo d S (call n) C A
    fits_call = record {
      shows = λ c low h. let one = f.shows c low h in shown_one S (call n) c one.tree one.inside (by_call is one.is);
      puts = λ v b low h g. let one = f.puts v b low h g in put_one S (call n) v b one.tree one.inside (put_call is one.is);
      get_put = back;
      put_get = forth;
      keeps = kept;
    }
      where
        back : (c v : Tree) → depth c ≤ d → C c → Shows S (call n) c v → Puts S (call n) v (Some c) c
        back c v low h (by_call {l = k} e s) = put_call is (f.get_put c v low h (subst (λ k. Shows S k c v) (same_Some k l (sym e ∙ is)) s))

        forth : (v : Tree) (b : Option Tree) (c : Tree) → depth v ≤ d → A v → IfSome b C → Puts S (call n) v b c → Shows S (call n) c v
        forth v b c low h g (put_call {l = k} e p) = by_call is (f.put_get v b c low h g (subst (λ k. Puts S k v b c) (same_Some k l (sym e ∙ is)) p))

        kept : (v b c : Tree) → depth v ≤ d → A v → C b → Puts S (call n) v (Some b) c → Keeps S (call n) b c
        kept v b c low h g (put_call {l = k} e p) = keeps_call is (f.keeps v b c low h g (subst (λ k. Puts S k v (Some b) c) (same_Some k l (sym e
            ∙ is)) p))
