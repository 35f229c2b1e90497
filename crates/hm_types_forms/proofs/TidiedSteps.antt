-- Where the steps of nodes and of tidied nodes lead, and what is found there.
use Rattle.std.proofs.Common.{◌≡◌, ℕ, ◌<◌, Bool, true, false, cond, T, is_some, List, [], ◌∷◌, filter, slice_get, Option, Some, None, IfSome, refl, sym, ap, subst, ◌∙◌, option_and_then}
use Rattle.std.specs.Option.{option_map}
use Rattle.std.specs.FinMap.{find, is_sorted}
use Rattle.std.specs.FinMap.Entries.{find-where_key, is_sorted-where_key}
use Rattle.std.proofs.lemmas.Option.{same_Some, none-some}
use Rattle.hm_tree.specs.declared.class.Class.{Class}
use Rattle.hm_tree.specs.Names.{Name, name_cmp}
use Rattle.hm_tree.proofs.Sorted.{name_one}
use Rattle.hm_schema.proofs.NamesOf.{found_value}
use Rattle.hm_schema.specs.WellFormed.{IsWellFormedNode}
use Rattle.hm_schema.specs.declared.node.NodeId.{NodeId}
use Rattle.hm_schema.specs.Values.{NodeOver, NodeValue}
use Rattle.hm_schema.specs.Tidied.{tidied, lets_some_in, stands}
use Rattle.hm_types_forms.specs.Forms.{Step, named, others, Way, label_of, next_of, under, form}
use Rattle.hm_types_forms.specs.SameForms.{tidy, has_step}
use Rattle.hm_types_forms.proofs.Nodes.{next_over}
use Rattle.hm_types_forms.proofs.SameMembers.{tidied_over}

-- a step of a well formed node leads to a node that is there
pub next_in_range : (count : ℕ) (n : NodeValue) (s : Step) (j : NodeId) → IsWellFormedNode count n → next_of n s ≡ Some j → j.place < count
next_in_range count n (named k) j h e = found_value (λ (k : Name) (j : NodeId). j.place < count) n.children h.children k j e
next_in_range count n others j h e = go n.other h.other e
  where
    go : (o : Option (Class × NodeId)) → IfSome o (λ o. o.1.place < count) → option_map (λ (o : Class × NodeId). o.1) o ≡ Some j → j.place < count
    go None h e = absurd (none-some j e)
    go (Some o) h e = subst (λ (j : NodeId). j.place < count) (same_Some o.1 j e) h

module _ {I : Type 0} (n : NodeOver I) where
  left_found : (k : Name) → find name_cmp k (filter (λ (c : Name × I). stands n c.0) n.children) ≡ cond (stands n k) (find name_cmp k n.children) None
  left_found k = find-where_key name_cmp (stands n) k (λ x tied. sym (ap (stands n) (name_one k x tied))) n.children

  -- they lead where they lead from the node as it is
  pub tidied_next : (s : Step) (j : I) → next_of (tidied n) s ≡ Some j → next_of n s ≡ Some j
  tidied_next (named k) j = by (lets_some_in n)
    where
      found : (b : Bool) → cond b (find name_cmp k n.children) None ≡ Some j → find name_cmp k n.children ≡ Some j
      found true e = e
      found false e = absurd (none-some j e)

      by : (b : Bool) → find name_cmp k (cond b n.children (filter (λ (c : Name × I). stands n c.0) n.children)) ≡ Some j
          → find name_cmp k n.children ≡ Some j
      by true e = e
      by false e = found (stands n k) (sym (left_found k) ∙ e)
  tidied_next others j = by (lets_some_in n)
    where
      by : (b : Bool) → option_map (λ (o : Class × I). o.1) (cond b n.other None) ≡ Some j → option_map (λ (o : Class × I). o.1) n.other ≡ Some j
      by true e = e
      by false e = absurd (none-some j e)

  -- the names that are left ascend
  pub tidied_sorted : T (is_sorted name_cmp n.children) → T (is_sorted name_cmp (tidied n).children)
  tidied_sorted h = by (lets_some_in n)
    where
      by : (b : Bool) → T (is_sorted name_cmp (cond b n.children (filter (λ (c : Name × I). stands n c.0) n.children)))
      by true = h
      by false = is_sorted-where_key name_cmp (stands n) n.children h

  -- the label of the node, tidied, has the same steps
  pub label_tidied : tidied (label_of n) ≡ label_of (tidied n)
  label_tidied = tidied_over (λ s i. tt) n

  pub label_step : (s : Step) → is_some (next_of (tidied (label_of n)) s) ≡ is_some (next_of (tidied n) s)
  label_step s = ap (λ l. is_some (next_of l s)) label_tidied ∙ ap is_some (next_over (λ s i. tt) (tidied n) s) ∙ go (next_of (tidied n) s)
    where
      go : (x : Option I) → is_some (option_map {U = Unit {0}} (λ i. tt) x) ≡ is_some x
      go None = refl
      go (Some i) = refl

-- ---- what is found on the way from a node of a list

module _ (nodes : List NodeValue) (i : NodeId) (n : NodeValue) (at : slice_get nodes i.place ≡ Some n) where
  pub form_under : (s : Step) (j : NodeId) → next_of n s ≡ Some j → under s (form nodes i) ≡ form nodes j
  form_under s j e = λ t w.
      (ap (option_and_then (λ n. option_and_then (λ j. form nodes j w) (next_of n s))) at ∙ ap (option_and_then (λ j. form nodes j w)) e) t

  steps : (s : Step) → has_step (option_map tidied (form nodes i [])) s ≡ is_some (next_of (tidied n) s)
  steps s = ap (λ x. has_step (option_map tidied (option_map label_of x)) s) at ∙ label_step n s

  pub tidy_here : tidy (form nodes i) [] ≡ Some (tidied (label_of n))
  tidy_here = ap (λ x. option_map tidied (option_map label_of x)) at

  pub tidy_gone : (s : Step) (w : Way) → next_of (tidied n) s ≡ None → tidy (form nodes i) (s ∷ w) ≡ None
  tidy_gone s w e = ap (λ b. cond b (tidy (under s (form nodes i)) w) None) (steps s ∙ ap is_some e)

  pub tidy_taken : (s : Step) (w : Way) (j : NodeId) → next_of (tidied n) s ≡ Some j → tidy (form nodes i) (s ∷ w) ≡ tidy (form nodes j) w
  tidy_taken s w j e = ap (λ b. cond b (tidy (under s (form nodes i)) w) None) (steps s ∙ ap is_some e)
      ∙ ap (λ u. tidy u w) (form_under s j (tidied_next n s j e))
