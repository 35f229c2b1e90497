-- A fork fits where its two lenses fit the two parts.
use Rattle.std.proofs.Common.{◌≡◌, ◌⊎◌, ◌+◌, ℕ, ◌≤◌, max, Bool, true, false, cond, not, List, [], ◌∷◌, T, Option, Some, None, IfSome, refl, sym, ap, subst, ◌∙◌, arith, inl, inr}
use Rattle.std.specs.Option.{option_or, option_map}
use Rattle.std.specs.List.{filter}
use Rattle.std.specs.FinSet.{contains}
use Rattle.std.specs.FinMap.{find}
use Rattle.std.specs.Str.{is_utf8}
use Rattle.hm_tree.proofs.Parted.{part_edges}
use Rattle.hm_tree.proofs.Texts.{text_tested}
use Rattle.std.specs.Ordering.{eq_by_cmp}
use denote.Param.Weighed.{most}
use Rattle.hm_tree.specs.Names.{Name, name_cmp}
use Rattle.hm_tree.specs.Nodes.{Tree, edges, below, depth, with_edge, are_texts, edges_texts, first, second}
use Rattle.hm_tree.specs.NodeLaws.{edges_are, depth-node, depth-edges}
use Rattle.hm_tree.proofs.Sorted.{below_with}
use Rattle.hm_schema.specs.Values.{Names}
use Rattle.hm_terms.specs.Lenses.{Lens, fork, Setting}
use Rattle.hm_tree.specs.Parts.{part, Joins}
use Rattle.hm_terms.specs.Shown.{Shows, by_fork}
use Rattle.hm_terms.specs.Put.{Puts, put_fork}
use Rattle.hm_terms.specs.Kept.{Keeps, keeps_fork}
use Rattle.hm_terms.specs.Fitting.{IsOne}
use Rattle.hm_terms_laws.specs.Bounded.{FitsTo}
use Rattle.hm_tree_parts.proofs.Maps.{same_children}
use Rattle.hm_tree.proofs.Parted.{below-part}
use Rattle.hm_terms.proofs.Laws.{shown_one, put_one}
use Rattle.hm_tree_parts.specs.Sets.{IsWithin, IsSplitSet}

-- ---- parts and what is joined of them

most_filter : (w : Name × Tree → ℕ) (p : Name × Tree → Bool) (es : List (Name × Tree)) → most w (filter p es) ≤ most w es
most_filter w p [] = omega arith
most_filter w p (e ∷ es) = go (p e) (most_filter w p es)
  where
    go : (b : Bool) → most w (filter p es) ≤ most w es → most w (cond b (e ∷ filter p es) (filter p es)) ≤ max (w e) (most w es)
    go true h = omega arith
    go false h = omega arith

pub depth-part : (p : Name → Bool) (t : Tree) → depth (part p t) ≤ depth t
depth-part p t =
    let e = depth-node (filter (λ (e : Name × Tree). p e.0) (edges t)) (part_edges p t) in
    let l = most_filter (λ e. depth e.1 + 1) (λ (e : Name × Tree). p e.0) (edges t) in
    let d = depth-edges t in
    omega arith

-- the parts of a tree make the tree
pub parts_join : (p : Name → Bool) (t : Tree) → Joins (part p t) (part (λ n. not (p n)) t) t
parts_join p t = record {
  apart = λ k. apart k (p k) (below-part p t k) (below-part (λ n. not (p n)) t k);
  all = λ k. all k (p k) (below-part p t k)
      (below-part (λ n. not (p n)) t k);
}
  where
    apart : (k : Name) (b : Bool) → below k (part p t) ≡ cond b (below k t) None → below k (part (λ n. not (p n)) t) ≡ cond (not b) (below k t) None
        → (below k (part p t) ≡ None) ⊎ (below k (part (λ n. not (p n)) t) ≡ None)
    apart k true e f = inr f
    apart k false e f = inl e

    or_none : (x : Option Tree) → x ≡ option_or x None
    or_none None = refl
    or_none (Some x) = refl

    all : (k : Name) (b : Bool) → below k (part p t) ≡ cond b (below k t) None → below k (part (λ n. not (p n)) t) ≡ cond (not b) (below k t) None
        → below k t ≡ option_or (below k (part p t)) (below k (part (λ n. not (p n)) t))
    all k true e f = rw (e, f) (or_none (below k t))
    all k false e f = rw (e, f) refl

module _ (p : Name → Bool) (x y t : Tree) (one : IsWithin p x) (two : IsWithin (λ n. not (p n)) y) where
  pub inside_is : Joins x y t → part p t ≡ x
  inside_is j = same_children (part p t) x (λ k. below-part p t k ∙ go k (p k) refl)
    where
      or_none : (x : Option Tree) → option_or x None ≡ x
      or_none None = refl
      or_none (Some x) = refl

      go : (k : Name) (b : Bool) → p k ≡ b → cond b (below k t) None ≡ below k x
      go k true e = j.all k ∙ ap (option_or (below k x)) (two k (ap not e)) ∙ or_none (below k x)
      go k false e = sym (one k e)

  pub outside_is : Joins x y t → part (λ n. not (p n)) t ≡ y
  outside_is j = same_children (part (λ n. not (p n)) t) y (λ k. below-part (λ n. not (p n)) t k ∙ go k (p k) refl)
    where
      go : (k : Name) (b : Bool) → p k ≡ b → cond (not b) (below k t) None ≡ below k y
      go k true e = sym (two k (ap not e))
      go k false e = j.all k ∙ ap (λ x. option_or x (below k y)) (one k e)

  joined : List (Name × Tree) → Tree
  joined [] = y
  joined (e ∷ es) = with_edge e.0 e.1 (joined es)

  below_joined : (k : Name) (es : List (Name × Tree)) → T (are_texts es) → below k (joined es) ≡ option_or (find name_cmp k es) (below k y)
  unfolding joined
  below_joined k [] h = refl
  below_joined k (e ∷ es) h = below_with k e.0 e.1 (joined es) (text_tested e.0 (first _ _ h))
      ∙ ap (cond (eq_by_cmp name_cmp k e.0) (Some e.1)) (below_joined k es (second (is_utf8 e.0) _ h)) ∙ go (eq_by_cmp name_cmp k e.0)
    where
      go : (b : Bool) → cond b (Some e.1) (option_or (find name_cmp k es) (below k y)) ≡ option_or (cond b (Some e.1) (find name_cmp k es)) (below k y)
      go true = refl
      go false = refl

  pub some_join : (t : Tree) × Joins x y t
  some_join = (joined (edges x), record { apart = λ k. apart k (p k) refl; all = λ k. below_joined k (edges x) (edges_texts (edges x) (edges_are x)) })
    where
      apart : (k : Name) (b : Bool) → p k ≡ b → (below k x ≡ None) ⊎ (below k y ≡ None)
      apart k true e = inr (two k (ap not e))
      apart k false e = inl (one k e)

-- ---- the law: C and A are the trees whose parts are in the sets of the two lenses

module _ (S : Setting) (P Q : Names) (l k : Lens) (C C1 C2 A A1 A2 : Tree → Type 0) (c : IsSplitSet (contains P) C C1 C2)
    (a : IsSplitSet (contains Q) A A1 A2) (n : ℕ) (f : FitsTo n S l C1 A1) (g : FitsTo n S k C2 A2) where
  abbrev out : (Name → Bool) → Name → Bool
  out q = λ n. not (q n)

  low : (q : Name → Bool) (t : Tree) → depth t ≤ n → depth (part q t) ≤ n
  low q t h = let d = depth-part q t in omega arith

  -- joined parts are in the set, and have these parts
  record Whole (In : Tree → Type 0) (q : Name → Bool) (x y t : Tree) : Type 0 where
    is_inside : part q t ≡ x
    is_outside : part (out q) t ≡ y
    is_in : In t

  whole : (In In1 In2 : Tree → Type 0) (q : Name → Bool) → IsSplitSet q In In1 In2 → (x y t : Tree) → In1 x → In2 y → Joins x y t → Whole In q x y t
  whole In In1 In2 q s x y t hx hy j =
      let one = inside_is q x y t (s.in_one x hx) (s.in_two y hy) j in
      let two = outside_is q x y t (s.in_one x hx) (s.in_two y hy) j in
      record { is_inside = one; is_outside = two; is_in = s.whole t (subst In1 (sym one) hx) (subst In2 (sym two) hy) }

  before_one : (b : Option Tree) → IfSome b C → IfSome (option_map (part (contains P)) b) C1
  before_one None h = tt
  before_one (Some b) h = c.inside b h

  before_two : (b : Option Tree) → IfSome b C → IfSome (option_map (part (out (contains P))) b) C2
  before_two None h = tt
  before_two (Some b) h = c.outside b h

  fork_shows : (t : Tree) → depth t ≤ n → C t → IsOne A (Shows S (fork P Q l k) t)
  fork_shows t h i =
      let one = f.shows (part (contains P) t) (low _ t h) (c.inside t i) in
      let two = g.shows (part (out (contains P)) t) (low _ t h) (c.outside t i) in
      let j = some_join (contains Q) one.tree two.tree one.tree (a.in_one _ one.inside) (a.in_two _ two.inside) in
      let w = whole A A1 A2 (contains Q) a one.tree two.tree j.0 one.inside two.inside j.1 in
      shown_one S (fork P Q l k) t j.0 w.is_in (by_fork one.is two.is j.1)

  fork_puts : (v : Tree) (b : Option Tree) → depth v ≤ n → A v → IfSome b C → IsOne C (Puts S (fork P Q l k) v b)
  fork_puts v b h i o =
      let one = f.puts (part (contains Q) v) (option_map (part (contains P)) b) (low _ v h) (a.inside v i) (before_one b o) in
      let two = g.puts (part (out (contains Q)) v) (option_map (part (out (contains P))) b) (low _ v h) (a.outside v i) (before_two b o) in
      let j = some_join (contains P) one.tree two.tree one.tree (c.in_one _ one.inside) (c.in_two _ two.inside) in
      let w = whole C C1 C2 (contains P) c one.tree two.tree j.0 one.inside two.inside j.1 in
      put_one S (fork P Q l k) v b j.0 w.is_in (put_fork one.is two.is j.1)

  pub fits_fork : FitsTo n S (fork P Q l k) C A
  fits_fork = record { shows = fork_shows; puts = fork_puts; get_put = back; put_get = forth; keeps = kept }
    where
      back : (t v : Tree) → depth t ≤ n → C t → Shows S (fork P Q l k) t v → Puts S (fork P Q l k) v (Some t) t
      back t v h i (by_fork {x = x} {y = y} s r j) =
          let one = f.shows (part (contains P) t) (low _ t h) (c.inside t i) in
          let two = g.shows (part (out (contains P)) t) (low _ t h) (c.outside t i) in
          let w = whole A A1 A2 (contains Q) a x y v (subst A1 (sym (one.only x s)) one.inside) (subst A2 (sym (two.only y r)) two.inside) j in
          put_fork
          (subst (λ x. Puts S l x (Some (part (contains P) t)) (part (contains P) t)) (sym w.is_inside)
          (f.get_put (part (contains P) t) x (low _ t h) (c.inside t i) s))
          (subst (λ y. Puts S k y (Some (part (out (contains P)) t)) (part (out (contains P)) t)) (sym w.is_outside)
          (g.get_put (part (out (contains P)) t) y (low _ t h) (c.outside t i) r))
          (parts_join (contains P) t)

      put_whole : (v : Tree) (b : Option Tree) (t x y : Tree) → depth v ≤ n → A v → IfSome b C
          → Puts S l (part (contains Q) v) (option_map (part (contains P)) b) x
          → Puts S k (part (out (contains Q)) v) (option_map (part (out (contains P))) b) y → Joins x y t → Whole C (contains P) x y t
      put_whole v b t x y h i o s r j =
          let one = f.puts (part (contains Q) v) (option_map (part (contains P)) b) (low _ v h) (a.inside v i) (before_one b o) in
          let two = g.puts (part (out (contains Q)) v) (option_map (part (out (contains P))) b) (low _ v h) (a.outside v i) (before_two b o) in
          whole C C1 C2 (contains P) c x y t (subst C1 (sym (one.only x s)) one.inside) (subst C2 (sym (two.only y r)) two.inside) j

      forth : (v : Tree) (b : Option Tree) (t : Tree) → depth v ≤ n → A v → IfSome b C → Puts S (fork P Q l k) v b t → Shows S (fork P Q l k) t v
      forth v b t h i o (put_fork {x = x} {y = y} s r j) =
          let w = put_whole v b t x y h i o s r j in
          by_fork
          (subst (λ x. Shows S l x (part (contains Q) v)) (sym w.is_inside)
          (f.put_get (part (contains Q) v) (option_map (part (contains P)) b) x (low _ v h) (a.inside v i) (before_one b o) s))
          (subst (λ y. Shows S k y (part (out (contains Q)) v)) (sym w.is_outside)
          (g.put_get (part (out (contains Q)) v) (option_map (part (out (contains P))) b) y (low _ v h) (a.outside v i) (before_two b o) r))
          (parts_join (contains Q) v)

      kept : (v b t : Tree) → depth v ≤ n → A v → C b → Puts S (fork P Q l k) v (Some b) t → Keeps S (fork P Q l k) b t
      kept v b t h i o (put_fork {x = x} {y = y} s r j) =
          let w = put_whole v (Some b) t x y h i o s r j in
          keeps_fork
          (subst (λ x. Keeps S l (part (contains P) b) x) (sym w.is_inside)
          (f.keeps (part (contains Q) v) (part (contains P) b) x (low _ v h) (a.inside v i) (c.inside b o) s))
          (subst (λ y. Keeps S k (part (out (contains P)) b) y) (sym w.is_outside)
          (g.keeps (part (out (contains Q)) v) (part (out (contains P)) b) y (low _ v h) (a.outside v i) (c.outside b o) r))
