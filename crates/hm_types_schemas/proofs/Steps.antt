-- The steps of a visit.
use Rattle.std.proofs.Common.{◌≡◌, ℕ, ◌<◌, ◌==◌, ◌||◌, Bool, true, false, cond, List, [], ◌∷◌, ◌++◌, length, map, get_or, reverse, slice_get, Option, Some, None, IfSome, All, inl, inr, refl, sym, ap, subst, ◌∙◌, arith}
use Rattle.std.proofs.lemmas.Bool.Decides.{Decides-eqb}
use Rattle.std.proofs.lemmas.List.{map-append, reverse-append}
use Rattle.std.proofs.lemmas.List.Elements.{All-nil, All-cons, All-head, All-tail, All-append, All-map}
use Rattle.std.proofs.lemmas.Option.{same_Some, none-some, slice_get-map, slice_get_within, slice_get-get_or}
use Rattle.std.specs.Option.{option_map}
use Rattle.hm_tree.specs.declared.class.Class.{Class}
use Rattle.hm_tree.specs.Names.{Name}
use Rattle.hm_schema.specs.declared.node.NodeId.{NodeId}
use Rattle.hm_schema.specs.Values.{NodeValue}
use Rattle.hm_schema.specs.Tidied.{tidied, lets_some_in, stands}
use Rattle.hm_schema.specs.WellFormed.{IsWellFormedNode}
use Rattle.hm_types_forms.specs.Forms.{Form, form, over}
use Rattle.hm_types_forms.specs.SameForms.{IsSame}
use Rattle.hm_types_rules.specs.Numbering.{Visits, again, first, forms_below}
use Rattle.hm_types_forms.proofs.SameMembers.{tidied_over}
use Rattle.hm_types_table.specs.Tables.{Nodes, AreFormed, opened}
use Rattle.hm_types_table.specs.Classes.{HaveClasses}
use Rattle.hm_types_table.proofs.Forms.{node_is}
use Rattle.hm_types_table.proofs.Grown.{formed_at}
use Rattle.hm_types_schemas.specs.Ends.{other_ends, ends, left}
use Rattle.hm_types_schemas.specs.Marks.{Marks, mark_at, class_of}
use Rattle.hm_types_schemas.specs.Visiting.{IsMarked, IsVisit}
use Rattle.hm_types_schemas.proofs.Places.{at_front, at_last, at_push, all_read, contains_at}
use Rattle.hm_types_schemas.proofs.Left.{below_ends, ends_over, ends_left}

-- the forms below a node that is opened are those of its ends
pub forms_are : (nodes : Nodes) (n : NodeValue) → forms_below (tidied (opened nodes n)) ≡ map (form nodes) (ends (tidied n))
forms_are nodes n =
    ap forms_below (tidied_over (λ s j. form nodes j) n) ∙ below_ends (over (λ s j. form nodes j) (tidied n)) ∙ ends_over (form nodes) (tidied n)

-- a stack from its top
pub popped : {X : Type 0} (todo rest : List X) (x : X) → todo ≡ rest ++ x ∷ [] → reverse todo ≡ x ∷ reverse rest
popped todo rest x e = ap reverse e ∙ reverse-append rest (x ∷ [])

-- the edges of a well formed node lead to nodes
module _ (count : ℕ) (n : NodeValue) (h : IsWellFormedNode count n) where
  left_inside : (all : Bool) (cs : List (Name × NodeId)) → All (λ (c : Name × NodeId). c.1.place < count) cs
      → All (λ (j : NodeId). j.place < count) (map (λ (c : Name × NodeId). c.1) (left all n cs))
  left_inside all [] f = All-nil (λ (j : NodeId). j.place < count)
  left_inside all (c ∷ cs) f = go (all || stands n c.0) (left_inside all cs (All-tail (λ (c : Name × NodeId). c.1.place < count) c cs f))
    where
      go : (b : Bool) → All (λ (j : NodeId). j.place < count) (map (λ (c : Name × NodeId). c.1) (left all n cs))
          → All (λ (j : NodeId). j.place < count) (map (λ (c : Name × NodeId). c.1) (cond b (c ∷ left all n cs) (left all n cs)))
      go true g = All-cons (λ (j : NodeId). j.place < count) c.1 (map (λ (c : Name × NodeId). c.1) (left all n cs))
          (All-head (λ (c : Name × NodeId). c.1.place < count) c cs f) g
      go false g = g

  other_inside : (b : Bool) (o : Option (Class × NodeId)) → IfSome o (λ o. o.1.place < count) → All (λ (j : NodeId). j.place < count) (other_ends (cond b o None))
  other_inside true None f = All-nil (λ (j : NodeId). j.place < count)
  other_inside true (Some o) f = All-cons (λ (j : NodeId). j.place < count) o.1 [] f (All-nil (λ (j : NodeId). j.place < count))
  other_inside false o f = All-nil (λ (j : NodeId). j.place < count)

  pub ends_inside : All (λ (j : NodeId). j.place < count) (ends (tidied n))
  ends_inside = subst (All (λ (j : NodeId). j.place < count)) (sym (ends_left n))
      (All-append (λ (j : NodeId). j.place < count) (map (λ (c : Name × NodeId). c.1) (left (lets_some_in n) n n.children))
      (other_ends (cond (lets_some_in n) n.other None)) (left_inside (lets_some_in n) n.children h.children)
      (other_inside (lets_some_in n) n.other h.other))

-- ---- the visit

module _ (nodes : Nodes) (formed : AreFormed nodes) (classes : List ℕ) (has : HaveClasses nodes classes) (root : NodeId) where
  pub visit_begins : root.place < length nodes → (order : List NodeId) (marks : Marks) (todo : List NodeId) → order ≡ [] → marks ≡ [] → todo ≡ root ∷ []
      → IsVisit nodes classes root order marks todo
  visit_begins lt order marks todo none empty one =
      subst (λ order. IsVisit nodes classes root order marks todo) (sym none)
      (subst (λ marks. IsVisit nodes classes root [] marks todo) (sym empty)
      (subst (IsVisit nodes classes root [] []) (sym one) (record {
        inside = All-nil (λ (j : NodeId). j.place < length nodes);
        waiting = All-cons (λ (j : NodeId). j.place < length nodes) root [] lt (All-nil (λ (j : NodeId). j.place < length nodes));
        marked = λ k j e. absurd (none-some j e);
        known = λ c k e. absurd (none-some k e);
        visits = λ all v. v;
      })))

  class_is : (j : NodeId) → j.place < length nodes → slice_get classes j.place ≡ Some (class_of classes j)
  class_is j lt = slice_get-get_or classes j.place 0 (omega (arith, lt, has.size))

  pub same_class : (i j : NodeId) → i.place < length nodes → j.place < length nodes → class_of classes i ≡ class_of classes j
      → IsSame (form nodes i) (form nodes j)
  same_class i j one two e = (has.same i j (class_of classes i) (class_of classes j) (class_is i one) (class_is j two)).0 e

  pub class_same : (i j : NodeId) → i.place < length nodes → j.place < length nodes → IsSame (form nodes i) (form nodes j)
      → class_of classes i ≡ class_of classes j
  class_same i j one two s = (has.same i j (class_of classes i) (class_of classes j) (class_is i one) (class_is j two)).1 s

  module _ (order : List NodeId) (marks : Marks) (todo rest : List NodeId) (id : NodeId) (h : IsVisit nodes classes root order marks todo)
      (pop : todo ≡ rest ++ id ∷ []) where
    waiting : All (λ (j : NodeId). j.place < length nodes) (id ∷ reverse rest)
    waiting = subst (All (λ (j : NodeId). j.place < length nodes)) (popped todo rest id pop) h.waiting

    pub id_inside : id.place < length nodes
    id_inside = All-head (λ (j : NodeId). j.place < length nodes) id (reverse rest) waiting

    rest_inside : All (λ (j : NodeId). j.place < length nodes) (reverse rest)
    rest_inside = All-tail (λ (j : NodeId). j.place < length nodes) id (reverse rest) waiting

    next_visits : (all : List Form) → Visits (map (form nodes) order) (form nodes id ∷ map (form nodes) (reverse rest)) all
        → Visits [] (form nodes root ∷ []) all
    next_visits all v = h.visits all (subst (λ (l : List NodeId). Visits (map (form nodes) order) (map (form nodes) l) all) (sym (popped todo rest id pop)) v)

    pub visit_again : (k : ℕ) → mark_at marks (class_of classes id) ≡ Some k → IsVisit nodes classes root order marks rest
    visit_again k at =
        let w = h.known (class_of classes id) k at in
        let inside = all_read (λ (j : NodeId). j.place < length nodes) order k w.node w.is h.inside in
        record {
          inside = h.inside;
          waiting = rest_inside;
          marked = h.marked;
          known = h.known;
          visits = λ all v. next_visits all (again
              (contains_at (map (form nodes) order) k (form nodes w.node) (slice_get-map (form nodes) order k ∙ ap (option_map (form nodes)) w.is))
              (same_class id w.node id_inside inside (sym w.class)) v);
        }

    module _ (n : NodeValue) (is : slice_get nodes id.place ≡ Some n) (none : mark_at marks (class_of classes id) ≡ None) (after : Marks)
        (put : (c : ℕ) → mark_at after c ≡ cond (c == class_of classes id) (Some (length order)) (mark_at marks c)) (more : List NodeId)
        (pushed : reverse more ≡ ends (tidied n) ++ reverse rest) where
      at_class : (c : ℕ) → c ≡ class_of classes id → mark_at after c ≡ Some (length order)
      at_class c e = put c ∙ ap (λ b. cond b (Some (length order)) (mark_at marks c)) ((Decides-eqb c (class_of classes id)).1 e)

      elsewhere : (c : ℕ) (b : Bool) → (c == class_of classes id) ≡ b → ¬ (c ≡ class_of classes id) → mark_at after c ≡ mark_at marks c
      elsewhere c true e off = absurd (off ((Decides-eqb c (class_of classes id)).0 e))
      elsewhere c false e off = put c ∙ ap (λ b. cond b (Some (length order)) (mark_at marks c)) e

      marked : (k : ℕ) (j : NodeId) → slice_get (order ++ id ∷ []) k ≡ Some j → mark_at after (class_of classes j) ≡ Some k
      marked k j e = elim (at_push order id j k e) [
        | inl f ↦
            let was = h.marked k j f in
            elsewhere (class_of classes j) (class_of classes j == class_of classes id) refl
            (λ same. none-some k (sym none ∙ ap (mark_at marks) (sym same) ∙ was)) ∙ was
        | inr f ↦ at_class (class_of classes j) (ap (class_of classes) (sym f.1)) ∙ ap Some f.0
      ]

      known : (c k : ℕ) → mark_at after c ≡ Some k → IsMarked classes (order ++ id ∷ []) c k
      known c k e = go (c == class_of classes id) refl
        where
          go : (b : Bool) → (c == class_of classes id) ≡ b → IsMarked classes (order ++ id ∷ []) c k
          go true f =
              let same : c ≡ class_of classes id = (Decides-eqb c (class_of classes id)).0 f in
              let end : length order ≡ k = same_Some (length order) k (sym (at_class c same) ∙ e) in
              record { node = id; is = ap (slice_get (order ++ id ∷ [])) (sym end) ∙ at_last order id; class = sym same }
          go false f =
              let w = h.known c k (sym (put c ∙ ap (λ b. cond b (Some (length order)) (mark_at marks c)) f) ∙ e) in
              record { node = w.node; is = at_front order (id ∷ []) k (slice_get_within order k w.node w.is) ∙ w.is; class = w.class }

      new_one : All (λ v. ¬ (IsSame (form nodes id) v)) (map (form nodes) order)
      new_one = All-map (λ v. ¬ (IsSame (form nodes id) v)) (form nodes) order (off order (λ k j e. (
        h.marked k j e,
        all_read (λ (j : NodeId). j.place < length nodes) order k j e h.inside,
      )))
        where
          never : (j : NodeId) (k : ℕ) → mark_at marks (class_of classes j) ≡ Some k → j.place < length nodes → ¬ (IsSame (form nodes id) (form nodes j))
          never j k at lt s = none-some k (sym none ∙ ap (mark_at marks) (class_same id j id_inside lt s) ∙ at)

          off : (js : List NodeId) → ((k : ℕ) (j : NodeId) → slice_get js k ≡ Some j → (mark_at marks (class_of classes j) ≡ Some k) × (j.place < length nodes))
              → All (λ j. ¬ (IsSame (form nodes id) (form nodes j))) js
          off js f k d lt = let w = f k (get_or js k d) (slice_get-get_or js k d lt) in never (get_or js k d) k w.0 w.1

      pub visit_first : IsVisit nodes classes root (order ++ id ∷ []) after more
      visit_first = record {
        inside = All-append (λ (j : NodeId). j.place < length nodes) order (id ∷ []) h.inside
            (All-cons (λ (j : NodeId). j.place < length nodes) id [] id_inside (All-nil (λ (j : NodeId). j.place < length nodes)));
        waiting = subst (All (λ (j : NodeId). j.place < length nodes)) (sym pushed)
            (All-append (λ (j : NodeId). j.place < length nodes) (ends (tidied n)) (reverse rest)
            (ends_inside (length nodes) n (formed_at nodes id n formed is)) rest_inside);
        marked = marked;
        known = known;
        visits = λ all v. next_visits all (first new_one (node_is nodes id n is formed)
            (subst (λ l. Visits (map (form nodes) order ++ form nodes id ∷ []) l all)
            (ap (map (form nodes)) pushed ∙ map-append (form nodes) (ends (tidied n)) (reverse rest)
            ∙ ap (λ l. l ++ map (form nodes) (reverse rest)) (sym (forms_are nodes n)))
            (subst (λ l. Visits l (map (form nodes) (reverse more)) all) (map-append (form nodes) order (id ∷ [])) v)));
      }
