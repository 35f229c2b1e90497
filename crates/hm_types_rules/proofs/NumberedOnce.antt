-- A form is written as one schema.
use Rattle.std.proofs.Common.{◌≡◌, ◌⊎◌, ℕ, zero, suc, List, [], ◌∷◌, ◌++◌, length, slice_get, Option, Some, All, Contains, refl, sym, ap, subst, ◌∙◌, arith, inl, inr}
use Rattle.std.specs.List.{AllZip}
use Rattle.std.proofs.lemmas.Option.{same_Some, none-some}
use Rattle.std.proofs.lemmas.List.Elements.{All-contains}
use Rattle.hm_tree.specs.declared.class.Class.{Class}
use Rattle.hm_tree.specs.Names.{Name}
use Rattle.hm_schema.specs.declared.node.NodeId.{NodeId}
use Rattle.hm_schema.specs.Values.{NodeOver, NodeValue, SchemaValue}
use Rattle.hm_schema.specs.Tidied.{tidied}
use Rattle.hm_schema.specs.Sameness.{AreOthers, no_others, others}
use Rattle.hm_types_forms.specs.Forms.{Form}
use Rattle.hm_types_forms.specs.SameForms.{IsSame}
use Rattle.hm_types_rules.specs.Numbering.{Visits, done, again, first, forms_below, IsNumberOf, IsDistinct, none_left, repeated, new, StandsFor, IsNumbered}
use Rattle.hm_types_rules.proofs.Determined.{node_one}
use Rattle.hm_types_forms.proofs.SameForms.{same_back, same_then}

-- ---- the visits

pub visits_once : {seen todo a b : List Form} → Visits seen todo a → Visits seen todo b → a ≡ b
visits_once done done = refl
visits_once (again c s h) (again d r g) = visits_once h g
visits_once (again {u = u} {v = v} {seen = seen} c s h) (first none is g) = absurd (All-contains (λ v. ¬ (IsSame u v)) seen v none c s)
visits_once (first none is g) (again {u = u} {v = v} {seen = seen} c s h) = absurd (All-contains (λ v. ¬ (IsSame u v)) seen v none c s)
visits_once (first {u = u} {n = n} {seen = seen} {todo = todo} none is h) (first {n = m} {all = b} none2 is2 g) =
    visits_once h (subst (λ n. Visits (seen ++ u ∷ []) (forms_below (tidied n) ++ todo) b) (node_one u m n is2 is) g)

-- no two of some forms are the same
record AreApart (order : List Form) : Type 0 where
  apart : (i j : ℕ) (x y : Form) → slice_get order i ≡ Some x → slice_get order j ≡ Some y → IsSame x y → i ≡ j

-- what stands at a place of a list with one more element
at_end : {X : Type 0} (xs : List X) (x y : X) (i : ℕ) → slice_get (xs ++ x ∷ []) i ≡ Some y
    → ((slice_get xs i ≡ Some y) × Contains xs y) ⊎ ((i ≡ length xs) × (x ≡ y))
at_end [] x y zero e = inr (refl, same_Some x y e)
at_end [] x y (suc i) e = absurd (none-some y e)
at_end (z ∷ xs) x y zero e = inl (e, (0, omega arith, same_Some z y e))
at_end (z ∷ xs) x y (suc i) e = elim (at_end xs x y i e) [
  | inl h ↦ inl (h.0, (suc h.1.0, (let lt = h.1.1 in omega arith), h.1.2))
  | inr h ↦ inr (ap suc h.0, h.1)
]

one_more_apart : (seen : List Form) (u : Form) → AreApart seen → All (λ v. ¬ (IsSame u v)) seen → AreApart (seen ++ u ∷ [])
one_more_apart seen u h none = record { apart = λ i j x y e f s. go i j x y (at_end seen u x i e) (at_end seen u y j f) s }
  where
    never : (x y : Form) → Contains seen x → u ≡ y → IsSame x y → ⊥
    never x y c e s = All-contains (λ v. ¬ (IsSame u v)) seen x none c (subst (λ y. IsSame y x) (sym e) (same_back s))

    go : (i j : ℕ) (x y : Form) → ((slice_get seen i ≡ Some x) × Contains seen x) ⊎ ((i ≡ length seen) × (u ≡ x))
        → ((slice_get seen j ≡ Some y) × Contains seen y) ⊎ ((j ≡ length seen) × (u ≡ y)) → IsSame x y → i ≡ j
    go i j x y (inl a) (inl b) s = h.apart i j x y a.0 b.0 s
    go i j x y (inl a) (inr b) s = absurd (never x y a.1 b.1 s)
    go i j x y (inr a) (inl b) s = absurd (never y x b.1 a.1 (same_back s))
    go i j x y (inr a) (inr b) s = a.0 ∙ sym b.0

visits_apart : {seen todo all : List Form} → Visits seen todo all → AreApart seen → AreApart all
visits_apart done h = h
visits_apart (again c s v) h = visits_apart v h
visits_apart (first {u = u} {seen = seen} none is v) h = visits_apart v (one_more_apart seen u h none)

-- ---- the numbers

module _ (order : List Form) (apart : AreApart order) where
  number_once : (u : Form) (i j : NodeId) → IsNumberOf order u i → IsNumberOf order u j → i ≡ j
  number_once u i j h k = ap (λ (n : ℕ). record { place = n }) (apart.apart i.place j.place h.visited k.visited h.is k.is (same_then (same_back h.same) k.same))

  children_once : (cs : List (Name × Form)) (ds es : List (Name × NodeId)) → AllZip (λ c d. (c.0 ≡ d.0) × IsNumberOf order c.1 d.1) cs ds
      → AllZip (λ c d. (c.0 ≡ d.0) × IsNumberOf order c.1 d.1) cs es → ds ≡ es
  children_once [] [] [] h g = refl
  children_once [] [] (e ∷ es) h g = absurd g
  children_once [] (d ∷ ds) es h g = absurd h
  children_once (c ∷ cs) [] es h g = absurd h
  children_once (c ∷ cs) (d ∷ ds) [] h g = absurd g
  children_once (c ∷ cs) (d ∷ ds) (e ∷ es) h g =
      λ i. ((sym h.0.0 ∙ g.0.0) i, number_once c.1 d.1 e.1 h.0.1 g.0.1 i) ∷ children_once cs ds es h.1 g.1 i

  others_once : {o : Option (Class × Form)} {x y : Option (Class × NodeId)} → AreOthers (IsNumberOf order) o x → AreOthers (IsNumberOf order) o y → x ≡ y
  others_once no_others no_others = refl
  others_once (others {c = c} {i = u} {j = i} r) (others {j = j} s) = ap (λ n. Some (c, n)) (number_once u i j r s)

-- ---- the shapes

distinct_once : {X : Type 0} {seen xs ys zs : List X} → IsDistinct seen xs ys → IsDistinct seen xs zs → ys ≡ zs
distinct_once none_left none_left = refl
distinct_once (repeated c h) (repeated d g) = distinct_once h g
distinct_once (repeated c h) (new n g) = absurd (n c)
distinct_once (new n h) (repeated c g) = absurd (n c)
distinct_once (new {x = x} n h) (new m g) = ap (λ l. x ∷ l) (distinct_once h g)

-- ---- the nodes

module _ (order : List Form) (apart : AreApart order) where
  node_once : (u : Form) (n m : NodeValue) → StandsFor order n u → StandsFor order m u → n ≡ m
  node_once u n m h k = λ i. record {
    shapes = shapes i;
    children = children i;
    other = other i;
    twins = twins i;
  }
    where
      same : h.node ≡ k.node
      same = node_one u h.node k.node h.is k.is

      shapes : n.shapes ≡ m.shapes
      shapes = distinct_once (subst (λ x. IsDistinct [] (tidied x).shapes n.shapes) same h.shapes) k.shapes

      children : n.children ≡ m.children
      children = children_once order apart (tidied k.node).children n.children m.children
          (subst (λ x. AllZip (λ c d. (c.0 ≡ d.0) × IsNumberOf order c.1 d.1) (tidied x).children n.children) same h.children) k.children

      other : n.other ≡ m.other
      other = others_once order apart (subst (λ x. AreOthers (IsNumberOf order) (tidied x).other n.other) same h.other) k.other

      twins : n.twins ≡ m.twins
      twins = h.twins ∙ ap (λ (x : NodeOver Form). x.twins) same ∙ sym k.twins

  nodes_once : (ns ms : List NodeValue) (us : List Form) → AllZip (StandsFor order) ns us → AllZip (StandsFor order) ms us → ns ≡ ms
  nodes_once [] [] [] h g = refl
  nodes_once [] [] (u ∷ us) h g = absurd h
  nodes_once [] (m ∷ ms) [] h g = absurd g
  nodes_once [] (m ∷ ms) (u ∷ us) h g = absurd h
  nodes_once (n ∷ ns) ms [] h g = absurd h
  nodes_once (n ∷ ns) [] (u ∷ us) h g = absurd g
  nodes_once (n ∷ ns) (m ∷ ms) (u ∷ us) h g = λ i. node_once u n m h.0 g.0 i ∷ nodes_once ns ms us h.1 g.1 i

pub numbered_once : (u : Form) (s t : SchemaValue) → IsNumbered u s → IsNumbered u t → s ≡ t
numbered_once u s t h k = λ i. record { nodes = nodes i; root = root i }
  where
    order : h.order ≡ k.order
    order = visits_once h.visits k.visits

    apart : AreApart k.order
    apart = visits_apart k.visits (record { apart = λ i j x y e f s. absurd (none-some x e) })

    nodes : s.nodes ≡ t.nodes
    nodes = nodes_once k.order apart s.nodes t.nodes k.order (subst (λ o. AllZip (StandsFor o) s.nodes o) order h.nodes) k.nodes

    root : s.root ≡ t.root
    root = ap (λ (n : ℕ). record { place = n }) (h.root ∙ sym k.root)
