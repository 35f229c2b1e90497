-- A node that stands for a form is tidied.
use Rattle.std.proofs.Common.{◌≡◌, Bool, true, false, cond, List, [], ◌∷◌, filter, Option, None, refl, sym, ap, subst, ◌∙◌}
use Rattle.std.specs.List.{AllZip}
use Rattle.hm_tree.specs.declared.class.Class.{Class}
use Rattle.hm_tree.specs.Names.{Name}
use Rattle.hm_schema.specs.declared.node.NodeId.{NodeId}
use Rattle.hm_schema.specs.Values.{NodeValue}
use Rattle.hm_schema.specs.Tidied.{tidied, lets_in, lets_some_in, has_name, stands}
use Rattle.hm_schema.specs.Sameness.{HaveEqual, AreOthers, no_others}
use Rattle.hm_types_forms.specs.Forms.{Form}
use Rattle.hm_types_rules.specs.Numbering.{IsNumberOf, StandsFor}
use Rattle.hm_types_rules.proofs.Distinct.{distinct_equal, any_equal}

-- each entry of a list has a name that passes
abbrev AllPass : {X : Type 0} → (Name → Bool) → List (Name × X) → Type 0
AllPass p [] = Unit {0}
AllPass p (c ∷ cs) = (p c.0 ≡ true) × AllPass p cs

module _ {X : Type 0} (p : Name → Bool) where
  filtered_pass : (cs : List (Name × X)) → AllPass p (filter (λ c. p c.0) cs)
  filtered_pass [] = tt
  filtered_pass (c ∷ cs) = go (p c.0) refl (filtered_pass cs)
    where
      go : (b : Bool) → p c.0 ≡ b → AllPass p (filter (λ (c : Name × X). p c.0) cs)
          → AllPass p (cond b (c ∷ filter (λ (c : Name × X). p c.0) cs) (filter (λ (c : Name × X). p c.0) cs))
      go true e h = (e, h)
      go false e h = h

  all_kept : (cs : List (Name × X)) → AllPass p cs → filter (λ (c : Name × X). p c.0) cs ≡ cs
  all_kept [] h = refl
  all_kept (c ∷ cs) h = ap (λ b. cond b (c ∷ filter (λ (c : Name × X). p c.0) cs) (filter (λ (c : Name × X). p c.0) cs)) h.0
      ∙ ap (λ l. c ∷ l) (all_kept cs h.1)

module _ (order : List Form) where
  zip_pass : (p q : Name → Bool) → ((k : Name) → p k ≡ q k) → (cs : List (Name × Form)) (ds : List (Name × NodeId))
      → AllZip (λ c d. (c.0 ≡ d.0) × IsNumberOf order c.1 d.1) cs ds → AllPass p cs → AllPass q ds
  zip_pass p q f [] [] z h = tt
  zip_pass p q f [] (d ∷ ds) z h = absurd z
  zip_pass p q f (c ∷ cs) [] z h = absurd z
  zip_pass p q f (c ∷ cs) (d ∷ ds) z h = (sym (f d.0) ∙ ap p (sym z.0.0) ∙ h.0, zip_pass p q f cs ds z.1 h.1)

  no_other : {y : Option (Class × NodeId)} → AreOthers (IsNumberOf order) None y → y ≡ None
  no_other no_others = refl

  module _ (n : NodeValue) (u : Form) (s : StandsFor order n u) where
    shapes_equal : HaveEqual s.node.shapes n.shapes
    shapes_equal = distinct_equal s.node.shapes n.shapes s.shapes

    lets_equal : lets_some_in s.node ≡ lets_some_in n
    lets_equal = any_equal lets_in s.node.shapes n.shapes shapes_equal

    stands_equal : (k : Name) → stands s.node k ≡ stands n k
    stands_equal k = any_equal (λ a. has_name a k) s.node.shapes n.shapes shapes_equal

    by_lets : (b : Bool) → lets_some_in s.node ≡ b → tidied n ≡ n
    by_lets true e = λ i. let f = sym lets_equal ∙ e in record {
      shapes = n.shapes;
      children = cond (f i) n.children (filter (λ c. stands n c.0) n.children);
      other = cond (f i) n.other None;
      twins = n.twins;
    }
    by_lets false e =
        let f = sym lets_equal ∙ e in
        let pass = zip_pass (stands s.node) (stands n) stands_equal (tidied s.node).children n.children s.children
        (subst (λ b. AllPass (stands s.node) (cond b s.node.children (filter (λ c. stands s.node c.0) s.node.children))) (sym e)
        (filtered_pass (stands s.node) s.node.children)) in
        let other = no_other (subst (λ b. AreOthers (IsNumberOf order) (cond b s.node.other None) n.other) e s.other) in
        (λ i. record {
          shapes = n.shapes;
          children = cond (f i) n.children (filter (λ c. stands n c.0) n.children);
          other = cond (f i) n.other None;
          twins = n.twins;
        }) ∙ (λ i. record { shapes = n.shapes; children = all_kept (stands n) n.children pass i; other = sym other i; twins = n.twins })

    pub node_tidied : tidied n ≡ n
    node_tidied = by_lets (lets_some_in s.node) refl
