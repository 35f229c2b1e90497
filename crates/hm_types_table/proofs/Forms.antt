-- The form that a node of a table stands for, and that of a node that is added to it.
use Rattle.std.proofs.Common.{◌≡◌, Bool, true, false, cond, T, is_some, List, [], ◌∷◌, ◌++◌, length, map, slice_get, Option, Some, None, refl, sym, ap, subst, ◌∙◌, option_and_then}
use Rattle.std.specs.Option.{option_map}
use Rattle.std.specs.Ordering.{eq_by_cmp}
use Rattle.std.specs.FinMap.{find, is_sorted}
use Rattle.std.specs.FinMap.Entries.{same_entries}
use Rattle.std.proofs.lemmas.Option.{same_Some}
use Rattle.hm_tree.specs.declared.class.Class.{Class}
use Rattle.hm_tree.specs.Names.{Name, name_cmp}
use Rattle.hm_tree.proofs.Sorted.{name_total, name_one}
use Rattle.hm_schema.specs.declared.node.NodeId.{NodeId}
use Rattle.hm_schema.specs.Values.{NodeOver, NodeValue, is_listed}
use Rattle.hm_schema.specs.WellFormed.{IsWellFormedNode}
use Rattle.hm_schema.proofs.NamesOf.{tie_one}
use Rattle.hm_types_forms.specs.Forms.{Form, Step, named, others, Way, over, label_of, next_of, under, node_of, formed, form}
use Rattle.hm_types_table.specs.Tables.{Nodes, AreFormed, keys, opened}
use Rattle.hm_types_table.proofs.Places.{at_last}
use Rattle.hm_types_table.proofs.Grown.{opened_extends, formed_at}
use Rattle.hm_types_table.proofs.Keys.{sorted_same}

-- ---- a node over other things

module _ {I J : Type 0} (f : Step → I → J) where
  pub find_over : (k : Name) (cs : List (Name × I)) → find name_cmp k (map (λ c. (c.0, f (named c.0) c.1)) cs) ≡ option_map (f (named k)) (find name_cmp k cs)
  find_over k [] = refl
  find_over k (c ∷ cs) = go (eq_by_cmp name_cmp k c.0) refl (find_over k cs)
    where
      go : (b : Bool) → eq_by_cmp name_cmp k c.0 ≡ b
          → find name_cmp k (map (λ c. (c.0, f (named c.0) c.1)) cs) ≡ option_map (f (named k)) (find name_cmp k cs)
          → cond b (Some (f (named c.0) c.1)) (find name_cmp k (map (λ c. (c.0, f (named c.0) c.1)) cs))
          ≡ option_map (f (named k)) (cond b (Some c.1) (find name_cmp k cs))
      go true t e = ap (λ k. Some (f (named k) c.1)) (sym (tie_one k c.0 t))
      go false t e = e

  keys_over : (cs : List (Name × I)) → keys (map (λ c. (c.0, f (named c.0) c.1)) cs) ≡ keys cs
  keys_over [] = refl
  keys_over (c ∷ cs) = ap (λ l. c.0 ∷ l) (keys_over cs)

  pub sorted_over : (cs : List (Name × I)) → T (is_sorted name_cmp cs) → T (is_sorted name_cmp (map (λ c. (c.0, f (named c.0) c.1)) cs))
  sorted_over cs h = subst T (sym (sorted_same (map (λ c. (c.0, f (named c.0) c.1)) cs) cs (keys_over cs))) h

  pub is_listed_over : (n : NodeOver I) (k : Name) → is_listed (over f n) k ≡ is_listed n k
  is_listed_over n k = ap is_some (find_over k n.children) ∙ go (find name_cmp k n.children)
    where
      go : (x : Option I) → is_some (option_map (f (named k)) x) ≡ is_some x
      go None = refl
      go (Some i) = refl

  pub next_over : (n : NodeOver I) (s : Step) → next_of (over f n) s ≡ option_map (f s) (next_of n s)
  next_over n (named k) = find_over k n.children
  next_over n others = go n.other
    where
      go : (o : Option (Class × I)) → option_map (λ (o : Class × J). o.1) (option_map (λ (o : Class × I). (o.0, f others o.1)) o)
          ≡ option_map (f others) (option_map (λ (o : Class × I). o.1) o)
      go None = refl
      go (Some o) = refl

  pub label_over : (n : NodeOver I) → label_of (over f n) ≡ label_of n
  label_over n =
      let cs = children n.children in
      let o = other n.other in
      λ i. record { shapes = n.shapes; children = cs i; other = o i; twins = n.twins }
    where
      children : (cs : List (Name × I)) → map {B = Name × Unit {0}} (λ c. (c.0, tt)) (map {B = Name × J} (λ c. (c.0, f (named c.0) c.1)) cs)
          ≡ map {B = Name × Unit {0}} (λ c. (c.0, tt)) cs
      children [] = refl
      children (c ∷ cs) = ap (λ l. (c.0, tt) ∷ l) (children cs)

      other : (o : Option (Class × I)) → option_map {U = Class × Unit {0}} (λ o. (o.0, tt)) (option_map {U = Class × J} (λ o. (o.0, f others o.1)) o)
          ≡ option_map {U = Class × Unit {0}} (λ o. (o.0, tt)) o
      other None = refl
      other (Some o) = refl

-- ---- the node that a form begins with

-- a form that begins at a node begins with it, where its names rise
pub node_of-formed : (n : NodeOver Form) → T (is_sorted name_cmp n.children) → node_of (formed n) ≡ Some n
node_of-formed n h =
    let cs = children in
    let o = other n.other refl in
    ap Some (λ i. record { shapes = n.shapes; children = cs i; other = o i; twins = n.twins })
  where
    other : (o : Option (Class × Form)) → n.other ≡ o
        → option_map (λ (o : Class × Unit {0}). (o.0, under others (formed n))) (option_map (λ (o : Class × Form). (o.0, tt)) o) ≡ o
    other None e = refl
    other (Some o) e = ap (λ (x : Option Form). Some (o.0, λ w. option_and_then (λ u. u w) x)) (ap (option_map (λ o. o.1)) e)

    children : map {B = Name × Form} (λ c. (c.0, under (named c.0) (formed n))) (label_of n).children ≡ n.children
    children = same_entries name_cmp name_total name_one (map {B = Name × Form} (λ c. (c.0, under (named c.0) (formed n))) (label_of n).children) n.children
        (sorted_over (λ s i. under s (formed n)) (label_of n).children (sorted_over (λ s i. tt) n.children h)) h
        (λ k. find_over (λ s i. under s (formed n)) k (label_of n).children ∙ ap (option_map (λ i. under (named k) (formed n))) (find_over (λ s i. tt) k n.children)
        ∙ go k (find name_cmp k n.children) refl)
      where
        go : (k : Name) (x : Option Form) → find name_cmp k n.children ≡ x
            → option_map (λ (i : Unit {0}). under (named k) (formed n)) (option_map (λ (u : Form). tt) x) ≡ x
        go k None e = refl
        go k (Some u) e = ap (λ (x : Option Form). Some (λ w. option_and_then (λ u. u w) x)) e

-- ---- a node that stands at a place

module _ (nodes : Nodes) (i : NodeId) (n : NodeValue) (e : slice_get nodes i.place ≡ Some n) where
  pub form_is : form nodes i ≡ formed (opened nodes n)
  form_is = λ p w. at w p
    where
      through : (w : Way) (x : Option NodeId) → option_and_then (λ j. form nodes j w) x
          ≡ option_and_then (λ (u : Form). u w) (option_map (form nodes) x)
      through w None = refl
      through w (Some j) = refl

      at : (w : Way) → form nodes i w ≡ formed (opened nodes n) w
      at [] = ap (option_map label_of) e ∙ ap Some (sym (label_over (λ s. form nodes) n))
      at (s ∷ w) = ap (option_and_then (λ n. option_and_then (λ j. form nodes j w) (next_of n s))) e
          ∙ through w (next_of n s) ∙ ap (option_and_then (λ (u : Form). u w)) (sym (next_over (λ s. form nodes) n s))

  pub label_is : form nodes i [] ≡ Some (label_of n)
  label_is = ap (option_map label_of) e

  pub node_is : AreFormed nodes → node_of (form nodes i) ≡ Some (opened nodes n)
  node_is h = ap node_of form_is ∙ node_of-formed (opened nodes n) (sorted_over (λ s. form nodes) n.children (formed_at nodes i n h e).ascending)

  -- what isn't said of it isn't said of the node of its form
  pub not_node : AreFormed nodes → (P : NodeOver Form → Type 0) → (P (opened nodes n) → ⊥) → (w : NodeOver Form) → node_of (form nodes i) ≡ Some w → P w → ⊥
  not_node h P fails w is p = fails (subst P (same_Some w (opened nodes n) (sym is ∙ node_is h)) p)

-- ---- a node that is added

-- it is formed over what its edges lead to in the table from before
module _ (old new : Nodes) (h : AreFormed old) (x : NodeValue) (w : IsWellFormedNode (length old) x) (is : new ≡ old ++ x ∷ []) where
  pub form_added : (j : NodeId) → j.place ≡ length old → form new j ≡ formed (opened old x)
  form_added j at =
      form_is new j x (ap (slice_get new) at ∙ ap (λ nodes. slice_get nodes (length old)) is ∙ at_last old x)
      ∙ ap formed (opened_extends old new h (record { more = x ∷ []; is = is }) x w)
