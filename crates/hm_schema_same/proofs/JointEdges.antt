-- Where the edges of tidied nodes lead in the graph of two schemas.
use Rattle.std.proofs.Common.{◌≡◌, ℕ, ◌+◌, ◌-◌, ◌<◌, ◌≤◌, inl, inr, Bool, true, false, cond, List, [], ◌∷◌, ◌++◌, length, map, filter, slice_get, All, IfSome, Option, Some, None, refl, sym, ap, subst, ◌∙◌, arith}
use Rattle.std.specs.List.{AllZip}
use Rattle.std.specs.Option.{option_map}
use Rattle.std.proofs.lemmas.Bool.{cases_lt, lt-ltb, le-ltb}
use Rattle.std.proofs.lemmas.List.Elements.{All-nil, All-cons, All-head, All-tail, All-filter}
use Rattle.std.proofs.lemmas.Option.{same_Some}
use Rattle.hm_tree.specs.declared.class.Class.{Class}
use Rattle.hm_tree.specs.Names.{Name}
use Rattle.hm_schema.specs.declared.node.NodeId.{NodeId}
use Rattle.hm_schema.specs.Values.{NodeValue, SchemaValue}
use Rattle.hm_schema.specs.Tidied.{tidied, lets_some_in, stands}
use Rattle.hm_schema.specs.WellFormed.{IsWellFormed, IsWellFormedNode}
use Rattle.hm_schema.specs.Sameness.{AreOthers}
use Rattle.hm_schema.specs.Sameness.AreOthers.{no_others, others}
use Rattle.hm_schema_same.specs.JointGraphs.{LeadBelow, begins, edges_from, other_edge}
use Rattle.hm_schema.proofs.References.{well_formed_at}
use Rattle.hm_schema_same.proofs.JointGraphs.{slice_get_front, slice_get_behind}

-- ---- they lead to nodes of their schema

other_below : (bound first count : ℕ) (o : Option (Class × NodeId)) → first + count ≤ bound → IfSome o (λ o. o.1.place < count)
    → IfSome o (λ o. first + o.1.place < bound)
other_below bound first count None le h = h
other_below bound first count (Some o) le h = let lt : o.1.place < count = h in omega arith

pub tidied_below : (bound first count : ℕ) (n : NodeValue) → IsWellFormedNode count n → first + count ≤ bound → LeadBelow bound first (tidied n)
tidied_below bound first count n h le = go (lets_some_in n)
  where
    each : (cs : List (Name × NodeId)) → All (λ c. c.1.place < count) cs → All (λ c. first + c.1.place < bound) cs
    each cs all i d lt = let p = all i d lt in omega (arith, p)

    go : (b : Bool) → LeadBelow bound first (record {
      shapes = n.shapes;
      children = cond b n.children (filter (λ c. stands n c.0) n.children);
      other = cond b n.other None;
      twins = n.twins;
    })
    go true = record { children = each n.children h.children; other = other_below bound first count n.other le h.other }
    go false = record {
      children = each (filter (λ c. stands n c.0) n.children) (All-filter (λ c. stands n c.0) (λ (c : Name × NodeId). c.1.place < count) n.children h.children);
      other = tt;
    }

pub edges_below : (bound first : ℕ) (n : NodeValue) → LeadBelow bound first n → All (λ k. k < bound) (edges_from first n)
edges_below bound first n h = front n.children h.children
  where
    behind : (o : Option (Class × NodeId)) → IfSome o (λ o. first + o.1.place < bound) → All (λ k. k < bound) (other_edge first o)
    behind None p = All-nil (λ k. k < bound)
    behind (Some o) p = All-cons (λ k. k < bound) (first + o.1.place) [] p (All-nil (λ k. k < bound))

    front : (cs : List (Name × NodeId)) → All (λ c. first + c.1.place < bound) cs
        → All (λ k. k < bound) (map (λ c. first + c.1.place) cs ++ other_edge first n.other)
    front [] all = behind n.other h.other
    front (c ∷ cs) all =
        let P : Name × NodeId → Type 0 = λ c. first + c.1.place < bound in
        All-cons (λ k. k < bound) (first + c.1.place) (map (λ c. first + c.1.place) cs ++ other_edge first n.other) (All-head P c cs all)
        (front cs (All-tail P c cs all))

-- ---- the nodes of both schemas

module _ (one two : SchemaValue) where
  pub begins_first : (i : ℕ) → i < length one.nodes → begins (length one.nodes) i ≡ 0
  begins_first i lt = ap (λ b. cond b 0 (length one.nodes)) (lt-ltb i (length one.nodes) lt)

  pub begins_second : (j : ℕ) → begins (length one.nodes) (length one.nodes + j) ≡ length one.nodes
  begins_second j = ap (λ b. cond b 0 (length one.nodes)) (le-ltb (length one.nodes + j) (length one.nodes) (omega arith))

  pub lead_below : IsWellFormed one → IsWellFormed two → (bound : ℕ) → length one.nodes + length two.nodes ≤ bound → (i : ℕ) (n : NodeValue)
      → slice_get (one.nodes ++ two.nodes) i ≡ Some n → LeadBelow bound (begins (length one.nodes) i) (tidied n)
  lead_below h k bound le i n at =
      elim (cases_lt i (length one.nodes)) [
        | inl lt ↦
            let there : slice_get one.nodes i ≡ Some n = sym (slice_get_front one.nodes two.nodes i lt) ∙ at in
            subst (λ first. LeadBelow bound first (tidied n)) (sym (begins_first i lt))
            (tidied_below bound 0 (length one.nodes) n (well_formed_at one (record { place = i }) n h there) (omega arith))
        | inr past ↦
            let is : length one.nodes + (i - length one.nodes) ≡ i = omega arith in
            let there : slice_get two.nodes (i - length one.nodes) ≡ Some n = sym (slice_get_behind one.nodes two.nodes (i - length one.nodes))
            ∙ ap (slice_get (one.nodes ++ two.nodes)) is ∙ at in
            subst (λ i. LeadBelow bound (begins (length one.nodes) i) (tidied n)) is
            (subst (λ first. LeadBelow bound first (tidied n)) (sym (begins_second (i - length one.nodes)))
            (tidied_below bound (length one.nodes) (length two.nodes) n
            (well_formed_at two (record { place = i - length one.nodes }) n k there) (omega arith)))
      ]

-- ---- edges place by place

module _ (S : ℕ → ℕ → Type 0) (T : NodeId → NodeId → Type 0) (first second : ℕ) where
  -- from pairs of edges to pairs of children and of what all other names lead to
  pub paired_children : {P : NodeId → Type 0} → ((a b : NodeId) → P a → S (first + a.place) (second + b.place) → T a b)
      → (cs ds : List (Name × NodeId)) (xs ys : List ℕ) → map (λ c. c.0) cs ≡ map (λ d. d.0) ds → All (λ c. P c.1) cs
      → AllZip S (map (λ c. first + c.1.place) cs ++ xs) (map (λ d. second + d.1.place) ds ++ ys)
      → AllZip (λ c d. (c.0 ≡ d.0) × T c.1 d.1) cs ds × AllZip S xs ys
  paired_children f [] [] xs ys e all z = (tt, z)
  paired_children f [] (d ∷ ds) xs ys e all z = cc
  paired_children f (c ∷ cs) [] xs ys e all z = cc
  paired_children {P} f (c ∷ cs) (d ∷ ds) xs ys e all z =
      let Q : Name × NodeId → Type 0 = λ c. P c.1 in
      let names : map (λ (c : Name × NodeId). c.0) cs ≡ map (λ (d : Name × NodeId). d.0) ds = cc in
      let name : c.0 ≡ d.0 = cc in
      let rest = paired_children {P = P} f cs ds xs ys names (All-tail Q c cs all) z.1 in
      (((name, f c.1 d.1 (All-head Q c cs all) z.0), rest.0), rest.1)

  pub paired_others : {P : NodeId → Type 0} → ((a b : NodeId) → P a → S (first + a.place) (second + b.place) → T a b)
      → (o p : Option (Class × NodeId)) → option_map (λ o. o.0) o ≡ option_map (λ p. p.0) p → IfSome o (λ o. P o.1)
      → AllZip S (other_edge first o) (other_edge second p) → AreOthers T o p
  paired_others f None None e h z = no_others
  paired_others f None (Some p) e h z = cc
  paired_others f (Some o) None e h z = cc
  paired_others f (Some o) (Some p) e h z =
      let class : o.0 ≡ p.0 = same_Some _ _ e in
      subst (λ c. AreOthers T (Some o) (Some (c, p.1))) class (others (f o.1 p.1 h z.0))

  -- and back
  pub paired_edges : ((a b : NodeId) → T a b → S (first + a.place) (second + b.place)) → (cs ds : List (Name × NodeId))
      (o p : Option (Class × NodeId)) → AllZip (λ c d. (c.0 ≡ d.0) × T c.1 d.1) cs ds → AreOthers T o p
      → AllZip S (map (λ c. first + c.1.place) cs ++ other_edge first o) (map (λ d. second + d.1.place) ds ++ other_edge second p)
  paired_edges f [] [] o p z no_others = tt
  paired_edges f [] [] o p z (others {c} {i} {j} r) = (f i j r, tt)
  paired_edges f [] (d ∷ ds) o p z w = absurd z
  paired_edges f (c ∷ cs) [] o p z w = absurd z
  paired_edges f (c ∷ cs) (d ∷ ds) o p z w = (f c.1 d.1 z.0.1, paired_edges f cs ds o p z.1 w)

  pub same_names : (cs ds : List (Name × NodeId)) → AllZip (λ c d. (c.0 ≡ d.0) × T c.1 d.1) cs ds → map (λ c. c.0) cs ≡ map (λ d. d.0) ds
  same_names [] [] z = refl
  same_names [] (d ∷ ds) z = absurd z
  same_names (c ∷ cs) [] z = absurd z
  same_names (c ∷ cs) (d ∷ ds) z = let name = z.0.0 in let rest = same_names cs ds z.1 in λ t. name t ∷ rest t

  pub same_class : (o p : Option (Class × NodeId)) → AreOthers T o p → option_map (λ o. o.0) o ≡ option_map (λ p. p.0) p
  same_class o p no_others = refl
  same_class o p (others r) = refl
