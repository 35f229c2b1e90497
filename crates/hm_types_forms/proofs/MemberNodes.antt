-- The members of a form are the trees that stand at the node at which it begins.
use Rattle.std.proofs.Common.{◌≡◌, Bool, true, false, cond, T, is_some, List, [], ◌∷◌, map, Option, Some, None, option_and_then, refl, sym, ap, subst, ◌∙◌}
use mathlib.Core.Bool.{true≢false}
use Rattle.std.specs.Option.{option_map}
use Rattle.std.specs.declared.cmp.Ordering.{Ordering}
use Rattle.std.specs.declared.cmp.Ordering.TheVariants.{Less, Equal, Greater}
use Rattle.std.specs.Ordering.{eq_by_cmp, is_lt}
use Rattle.std.specs.FinMap.{find, is_sorted}
use Rattle.std.proofs.lemmas.Option.{same_Some}
use Rattle.std.proofs.lemmas.Cmp.{tied_itself}
use Rattle.hm_tree.specs.declared.class.Class.{Class}
use Rattle.hm_tree.specs.Names.{Name, name_cmp}
use Rattle.hm_tree.specs.Nodes.{Tree, below, below_all, first, second}
use Rattle.hm_tree.proofs.Sorted.{name_total}
use Rattle.hm_schema.specs.Values.{NodeOver, child_of}
use Rattle.hm_schema.proofs.NamesOf.{tie_one}
use Rattle.hm_schema.specs.Standing.{IsBelow, Stands, Alike}
use Rattle.hm_types_forms.specs.Forms.{Form, Step, named, others, next_of, under, node_of, formed}
use Rattle.hm_types_forms.specs.Members.{Member, member}

-- ---- the node of a form that begins at a node

-- each entry of the second list is found in the first
abbrev pub AllFound : {X : Type 0} → List (Name × X) → List (Name × X) → Type 0
AllFound all [] = Unit {0}
AllFound all (c ∷ cs) = (find name_cmp c.0 all ≡ Some c.1) × AllFound all cs

-- what is below a name isn't that name
not_that : (k m : Name) → T (is_lt (name_cmp k m)) → eq_by_cmp name_cmp m k ≡ false
not_that k m h = go (eq_by_cmp name_cmp m k) refl
  where
    itself : eq_by_cmp name_cmp k k ≡ true
    itself = rw (tied_itself name_total k) refl

    less : (o : Ordering) → name_cmp k k ≡ o → T (is_lt o) → ⊥
    less Less e h = true≢false (sym itself ∙ rw e refl)
    less Equal e h = h
    less Greater e h = h

    go : (b : Bool) → eq_by_cmp name_cmp m k ≡ b → eq_by_cmp name_cmp m k ≡ false
    go true e = absurd (less (name_cmp k k) refl (subst (λ m. T (is_lt (name_cmp k m))) (tie_one m k e) h))
    go false e = e

module _ {X : Type 0} where
  behind_more : (c : Name × X) (all cs : List (Name × X)) → T (below_all c.0 cs) → AllFound all cs → AllFound (c ∷ all) cs
  behind_more c all [] h f = tt
  behind_more c all (d ∷ cs) h f =
      (ap (λ b. cond b (Some c.1) (find name_cmp d.0 all)) (not_that c.0 d.0 (first _ _ h)) ∙ f.0, behind_more c all cs (second _ _ h) f.1)

  pub all_found : (cs : List (Name × X)) → T (is_sorted name_cmp cs) → AllFound cs cs
  all_found [] h = tt
  all_found (c ∷ cs) h = (rw (tied_itself name_total c.0) refl, behind_more c cs cs (first _ _ h) (all_found cs (second _ _ h)))

module _ (n : NodeOver Form) where
  -- what is found under a step of a form that begins at the node
  pub formed_under : (s : Step) (v : Form) → next_of n s ≡ Some v → under s (formed n) ≡ v
  formed_under s v e = ap (λ (o : Option Form). λ w. option_and_then (λ u. u w) o) e

  same_children : (cs : List (Name × Form)) → AllFound n.children cs
      → map (λ (c : Name × Unit {0}). (c.0, under (named c.0) (formed n))) (map (λ c. (c.0, tt)) cs) ≡ cs
  same_children [] f = refl
  same_children (c ∷ cs) f = λ i. (c.0, formed_under (named c.0) c.1 f.0 i) ∷ same_children cs f.1 i

  same_other : (o : Option (Class × Form)) → n.other ≡ o
      → option_map (λ (o : Class × Unit {0}). (o.0, under others (formed n))) (option_map (λ (o : Class × Form). (o.0, tt)) o) ≡ o
  same_other None e = refl
  same_other (Some o) e = λ i. Some (o.0, formed_under others o.1 (ap (option_map (λ (o : Class × Form). o.1)) e) i)

  pub node_formed : T (is_sorted name_cmp n.children) → node_of (formed n) ≡ Some n
  node_formed h = λ i. Some (record {
    shapes = n.shapes;
    children = same_children n.children (all_found n.children h) i;
    other = same_other n.other refl i;
    twins = n.twins;
  })

-- ---- members

module _ (u : Form) (n : NodeOver Form) (is : node_of u ≡ Some n) where
  member_stands : {t : Tree} → Member u t → Stands Member n t
  member_stands {t} (member {n = m} e p w there f) = subst (λ n. Stands Member n t) (same_Some m n (sym e ∙ is)) (record {
    permitted = p;
    twins = w;
    children = λ k x at. below_it k x at (child_of m k) refl;
  })
    where
      below_it : (k : Name) (x : Tree) → below k t ≡ Some x → (c : Option Form) → child_of m k ≡ c → IsBelow Member m k x
      below_it k x at None e = absurd (true≢false (sym (there k x at) ∙ ap is_some e))
      below_it k x at (Some v) e = record { child = v; is = e; inside = f k x v at e }

  stands_member : {t : Tree} → Stands Member n t → Member u t
  stands_member s = member is s.permitted s.twins (λ k x at. ap is_some (s.children k x at).is)
      (λ k x v at e. let b = s.children k x at in subst (λ v. Member v x) (same_Some b.child v (sym b.is ∙ e)) b.inside)

  pub members_alike : Alike (Member u) (Stands Member n)
  members_alike = record { into = λ t h. member_stands h; from = λ t h. stands_member h }

pub formed_alike : (n : NodeOver Form) → T (is_sorted name_cmp n.children) → Alike (Member (formed n)) (Stands Member n)
formed_alike n h = members_alike (formed n) n (node_formed n h)
