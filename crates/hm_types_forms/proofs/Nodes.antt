-- Nodes over other things: what is said of names, shapes and twins stays, and where a name leads is mapped.
use Rattle.std.proofs.Common.{◌≡◌, ◌↔◌, ◌&&◌, Bool, true, false, cond, T, IsSomeAnd, is_some, List, [], ◌∷◌, map, Option, Some, None, All, refl, sym, ap, subst, ◌∙◌}
use Rattle.std.specs.Option.{option_map, option_or}
use Rattle.std.specs.Ordering.{eq_by_cmp, is_lt}
use Rattle.std.specs.FinMap.{find, is_sorted}
use Rattle.std.proofs.lemmas.Option.{none-some}
use Rattle.hm_tree.specs.declared.class.Class.{Class}
use Rattle.hm_tree.specs.Classes.{IsInClass}
use Rattle.hm_tree.specs.Names.{Name, name_cmp}
use Rattle.hm_tree.specs.Nodes.{below_all, first, second, both}
use Rattle.hm_schema.specs.declared.node.Shape.{Shape}
use Rattle.hm_schema.specs.Values.{NodeOver, is_listed, child_of}
use Rattle.hm_schema.specs.Permitted.{Takes}
use Rattle.hm_schema.specs.WellFormed.{IsWellFormedShape}
use Rattle.hm_schema.proofs.NamesOf.{tie_one}
use Rattle.hm_schema.proofs.Shapes.{Sits, alike}
use Rattle.hm_types_forms.specs.Forms.{Step, named, others, over, next_of}
use Rattle.hm_types_forms.specs.Sound.{IsSoundNode}

module _ {I J : Type 0} (f : Step → I → J) where
  pub find_over : (k : Name) (cs : List (Name × I))
      → find name_cmp k (map (λ c. (c.0, f (named c.0) c.1)) cs) ≡ option_map (f (named k)) (find name_cmp k cs)
  find_over k [] = refl
  find_over k (c ∷ cs) = go (eq_by_cmp name_cmp k c.0) refl (find_over k cs)
    where
      go : (b : Bool) → eq_by_cmp name_cmp k c.0 ≡ b
          → find name_cmp k (map (λ c. (c.0, f (named c.0) c.1)) cs) ≡ option_map (f (named k)) (find name_cmp k cs)
          → cond b (Some (f (named c.0) c.1)) (find name_cmp k (map (λ c. (c.0, f (named c.0) c.1)) cs))
          ≡ option_map (f (named k)) (cond b (Some c.1) (find name_cmp k cs))
      go true e rest = ap (λ n. Some (f (named n) c.1)) (sym (tie_one k c.0 e))
      go false e rest = rest

  abbrev led : Class × I → Class × J
  led o = (o.0, f others o.1)

  module _ (n : NodeOver I) where
    pub listed_over : (k : Name) → is_listed (over f n) k ≡ is_listed n k
    listed_over k = ap is_some (find_over k n.children) ∙ go (find name_cmp k n.children)
      where
        go : (x : Option I) → is_some (option_map (f (named k)) x) ≡ is_some x
        go None = refl
        go (Some i) = refl

    other_over : (o : Option (Class × I)) → option_map (λ (p : Class × J). p.1) (option_map led o)
        ≡ option_map (f others) (option_map (λ (p : Class × I). p.1) o)
    other_over None = refl
    other_over (Some o) = refl

    pub next_over : (s : Step) → next_of (over f n) s ≡ option_map (f s) (next_of n s)
    next_over (named k) = find_over k n.children
    next_over others = other_over n.other

    takes_over : (k : Name) → Takes (over f n) k ↔ Takes n k
    takes_over k = go n.other
      where
        go : (o : Option (Class × I)) → IsSomeAnd (option_map led o) (λ (p : Class × J). IsInClass p.0 k) ↔ IsSomeAnd o (λ (p : Class × I). IsInClass p.0 k)
        go None = (λ h. h, λ h. h)
        go (Some o) = (λ h. h, λ h. h)

    pub sits_over : (a : Shape) → Sits (over f n) n a
    sits_over a = alike listed_over takes_over

    pub well_over : All (IsWellFormedShape n) n.shapes → All (IsWellFormedShape (over f n)) n.shapes
    well_over well i d lt =
        let w = well i d lt in
        record { listed = λ k h. listed_over k ∙ w.listed k h; apart = w.apart; ordered = w.ordered; none = λ e. w.none (go n.other e) }
      where
        go : (o : Option (Class × I)) → option_map led o ≡ None → o ≡ None
        go None e = refl
        go (Some o) e = absurd (none-some _ (sym e))

  above_over : (k : Name) (cs : List (Name × I)) → below_all k (map (λ c. (c.0, f (named c.0) c.1)) cs) ≡ below_all k cs
  above_over k [] = refl
  above_over k (c ∷ cs) = ap (λ b. is_lt (name_cmp k c.0) && b) (above_over k cs)

  pub sorted_over : (cs : List (Name × I)) → T (is_sorted name_cmp cs) → T (is_sorted name_cmp (map (λ c. (c.0, f (named c.0) c.1)) cs))
  sorted_over [] h = h
  sorted_over (c ∷ cs) h = both _ _ (subst T (sym (above_over c.0 cs)) (first _ _ h)) (sorted_over cs (second _ _ h))

  pub sound_over : (n : NodeOver I) → IsSoundNode n → IsSoundNode (over f n)
  sound_over n s = record { ascending = sorted_over n.children s.ascending; some = s.some; well = well_over n s.well; own = s.own }

-- ---- where the names of a tree lead

-- the step to a name
abbrev pub step_to : {I : Type 0} → NodeOver I → Name → Step
step_to n k = cond (is_listed n k) (named k) others

pub child_next : {I : Type 0} (n : NodeOver I) (k : Name) → child_of n k ≡ next_of n (step_to n k)
child_next n k = go (find name_cmp k n.children) refl
  where
    go : (x : Option _) → find name_cmp k n.children ≡ x → option_or x (next_of n others) ≡ next_of n (cond (is_some x) (named k) others)
    go None e = refl
    go (Some i) e = sym e

pub child_over : {I J : Type 0} (f : Step → I → J) (n : NodeOver I) (k : Name) → child_of (over f n) k ≡ option_map (f (step_to n k)) (child_of n k)
child_over f n k = child_next (over f n) k ∙ ap (λ b. next_of (over f n) (cond b (named k) others)) (listed_over f n k) ∙ next_over f n (step_to n k)
    ∙ ap (option_map (f (step_to n k))) (sym (child_next n k))
