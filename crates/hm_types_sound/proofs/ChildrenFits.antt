-- Lenses on children and on items fit the members of a form and of their view, where the lenses inside do.
use Rattle.std.proofs.Common.{◌≡◌, ◌↔◌, ◌<◌, ℕ, zero, suc, Bool, true, false, cond, IsTrue, is_some, List, Option, Some, None, refl, sym, ap, subst, ◌∙◌}
use mathlib.Core.Bool.{true≢false}
use Rattle.std.specs.Option.{option_map}
use Rattle.std.specs.List.{list_any}
use Rattle.std.specs.FinSet.{contains, from_list}
use Rattle.std.proofs.lemmas.List.Folds.{list_any-from_Any}
use Rattle.std.proofs.lemmas.Option.{same_Some, none-some}
use Rattle.hm_tree.specs.Names.{Name}
use Rattle.hm_tree.specs.Nodes.{Tree}
use Rattle.hm_schema.specs.declared.node.Shape.{Shape}
use Rattle.hm_schema.specs.Values.{Names, NodeOver, is_listed, child_of}
use Rattle.hm_schema.specs.Permitted.{Fits, Permits, names_of}
use Rattle.hm_schema.specs.Tidied.{has_name, lets_in, is_positive}
use Rattle.hm_terms.specs.Lenses.{Lens, Lenses, each, among, items, lens_at, Setting}
use Rattle.hm_tree_parts.specs.Edges.{names}
use Rattle.hm_tree_parts.specs.Lists.{ListOf}
use Rattle.hm_terms_laws.specs.Bounded.{FitsTo}
use Rattle.hm_tree_parts.specs.Sets.{Built}
use Rattle.hm_tree_parts.specs.Lists.{SomeItems}
use Rattle.hm_terms_laws.proofs.EachChild.{fits_each}
use Rattle.hm_terms_laws.proofs.NamedChildren.{fits_among}
use Rattle.hm_terms_laws.proofs.Items.{fits_items, fits_some_items}
use Rattle.hm_schema.specs.Standing.{IsBelow, Alike}
use Rattle.hm_schema.proofs.Shapes.{all_listed, fits_across, sits_back}
use Rattle.hm_schema.proofs.StandingTrees.{alike_then, has_below}
use Rattle.hm_schema_lists.proofs.Plain.{plain_alike}
use Rattle.hm_types_forms.specs.Forms.{Form, Label, Step, named, others, over, under, node_of, can_be}
use Rattle.hm_types_forms.specs.Members.{Member}
use Rattle.hm_types_forms.specs.Sound.{IsSound}
use Rattle.hm_types_rules.specs.Typing.{IsPlain, AreListed, IsList, IsItems, list_form, items_form}
use Rattle.hm_types_forms.proofs.Nodes.{step_to, child_over, sits_over}
use Rattle.hm_types_forms.proofs.MemberNodes.{members_alike}
use Rattle.hm_types_rules.proofs.ListForms.{list_members, items_members, list_form_members, items_form_members}
use Rattle.hm_types_sound.proofs.ForkFits.{fits_alike}

-- ---- a name that is permitted can be there

module _ {I : Type 0} (n : NodeOver I) (ks : Names) (k : Name) (at : IsTrue (contains ks k)) where
  shape_can : (a : Shape) → Fits n a ks → (b : Bool) → is_listed n k ≡ b → (cond b (has_name a k) (lets_in a)) ≡ true
  shape_can a f true l = f.listed.allowed k at l
  shape_can a f false off = go a.most refl
    where
      go : (m : Option ℕ) → a.most ≡ m → is_positive a.most ≡ true
      go None e = ap is_positive e
      go (Some zero) e = absurd (true≢false (sym (all_listed n ks a e f k at) ∙ off))
      go (Some (suc m)) e = ap is_positive e

  pub permitted_can : Permits n ks → can_be n (step_to n k) ≡ true
  permitted_can p = go (is_listed n k) refl
    where
      some : (q : Shape → Bool) → ((a : Shape) → Fits n a ks → q a ≡ true) → list_any q n.shapes ≡ true
      some q f = list_any-from_Any q n.shapes (p.0, p.1, p.2, p.3, f p.1 p.4)

      go : (b : Bool) → is_listed n k ≡ b → can_be n (cond b (named k) others) ≡ true
      go true l = some (λ a. has_name a k) (λ a f. shape_can a f true l)
      go false off = some lets_in (λ a f. shape_can a f false off)

-- ---- what stands below a name of a form

module _ (u : Form) (a : Label) (p : IsPlain u a) where
  abbrev here : NodeOver Form
  here = over (λ s i. under s u) a

  here_is : node_of u ≡ Some here
  here_is = ap (option_map (over (λ s i. under s u))) p.is

  child_here : (k : Name) → child_of here k ≡ option_map (λ (i : Unit {0}). under (step_to a k) u) (child_of a k)
  child_here k = child_over (λ s i. under s u) a k

  module _ (k : Name) where
    -- where nothing is led to nothing stands there
    below_none : child_of a k ≡ None → (x : Tree) → IsBelow Member here k x → ⊥
    below_none e x b = none-some b.child (sym (child_here k ∙ ap (option_map (λ (i : Unit {0}). under (step_to a k) u)) e) ∙ b.is)

    below_some : (i : Unit {0}) → child_of a k ≡ Some i → Alike (IsBelow Member here k) (Member (under (step_to a k) u))
    below_some i e =
        let leads : child_of here k ≡ Some (under (step_to a k) u) = child_here k ∙ ap (option_map (λ (i : Unit {0}). under (step_to a k) u)) e in
        record {
          into = λ x b. subst (λ v. Member v x) (same_Some b.child (under (step_to a k) u) (sym b.is ∙ leads)) b.inside;
          from = λ x m. record { child = under (step_to a k) u; is = leads; inside = m };
        }

  permits_here : (ks : Names) → Permits here ks ↔ Permits a ks
  permits_here ks = (
    λ h. let f = fits_across here a h.1 ks (sits_over (λ s i. under s u) a h.1) h.4 in (h.0, h.1, h.2, h.3, f),
    λ h. let f = fits_across a here h.1 ks (sits_back here a h.1 (sits_over (λ s i. under s u) a h.1)) h.4 in (h.0, h.1, h.2, h.3, f),
  )

-- the names that a label permits, and what may stand below one of them that can be there
abbrev NamesOf : Label → List Name → Type 0
NamesOf a ks = Permits a (from_list ks)

record Below (u : Form) (a : Label) (p : IsPlain u a) (k : Name) (x : Tree) : Type 0 where
  below : IsBelow Member (here u a p) k x
  can : can_be a (step_to a k) ≡ true

module _ (u : Form) (a : Label) (p : IsPlain u a) where
  built : Alike (Member u) (Built (NamesOf a) (Below u a p))
  built = alike_then (members_alike u (here u a p) (here_is u a p)) (alike_then (plain_alike Member (here u a p) p.plain) (record {
    into = λ t b. record {
      names_in = (permits_here u a p (from_list (names t))).0 b.names_in;
      children = λ k x at. record {
        below = b.children k x at;
        can = permitted_can a (names_of t) k (has_below t k x at) ((permits_here u a p (from_list (names t))).0 b.names_in);
      };
    };
    from = λ t b. record {
      names_in = (permits_here u a p (from_list (names t))).1 b.names_in;
      children = λ k x at. (b.children k x at).below;
    };
  }))

-- a lens fits two empty sets
fits_none : (S : Setting) (d : ℕ) (l : Lens) (C A : Tree → Type 0) → ((t : Tree) → C t → ⊥) → ((t : Tree) → A t → ⊥) → FitsTo d S l C A
fits_none S d l C A c a = record {
  shows = λ t low h. absurd (c t h);
  puts = λ v b low h g. absurd (a v h);
  get_put = λ t v low h s. absurd (c t h);
  put_get = λ v b t low h g p. absurd (a v h);
  keeps = λ v b t low h g p. absurd (a v h);
}

module _ (S : Setting) (d : ℕ) (u v : Form) (a : Label) (p : IsPlain u a) (q : IsPlain v a) where
  -- below a name the lens inside fits, where it can be there
  child_fits : (l : Lens) (m : ℕ) (k : Name) → (can_be a (step_to a k) ≡ true → FitsTo m S l (Member (under (step_to a k) u)) (Member (under (step_to a k) v)))
      → FitsTo m S l (Below u a p k) (Below v a q k)
  child_fits l m k f = go (can_be a (step_to a k)) refl (child_of a k) refl
    where
      with_can : (w : Form) (r : IsPlain w a) → can_be a (step_to a k) ≡ true → Alike (Below w a r k) (IsBelow Member (here w a r) k)
      with_can w r e = record { into = λ x b. b.below; from = λ x b. record { below = b; can = e } }

      go : (b : Bool) → can_be a (step_to a k) ≡ b → (o : Option (Unit {0})) → child_of a k ≡ o → FitsTo m S l (Below u a p k) (Below v a q k)
      go false e o c = fits_none S m l (Below u a p k) (Below v a q k) (λ x b. true≢false (sym b.can ∙ e)) (λ x b. true≢false (sym b.can ∙ e))
      go true e None c = fits_none S m l (Below u a p k) (Below v a q k) (λ x b. below_none u a p k c x b.below) (λ x b. below_none v a q k c x b.below)
      go true e (Some i) c = fits_alike S m l (Member (under (step_to a k) u)) (Member (under (step_to a k) v)) (Below u a p k) (Below v a q k)
          (alike_then (with_can u p e) (below_some u a p k i c)) (alike_then (with_can v q e) (below_some v a q k i c)) (f e)

  pub each_fits : (l : Lens) → ((m : ℕ) → m < d → (s : Step) → can_be a s ≡ true → FitsTo m S l (Member (under s u)) (Member (under s v)))
      → FitsTo d S (each l) (Member u) (Member v)
  each_fits l f = fits_alike S d (each l) (Built (NamesOf a) (Below u a p)) (Built (NamesOf a) (Below v a q)) (Member u) (Member v) (built u a p) (built v a q)
      (fits_each S l (NamesOf a) (Below u a p) (Below v a q) d (λ k m lt. child_fits l m k (λ e. f m lt (step_to a k) e)))

  pub among_fits : (ls : Lenses) → AreListed a ls
      → ((k : Name) (l : Lens) → lens_at k ls ≡ Some l → (m : ℕ) → m < d → FitsTo m S l (Member (under (named k) u)) (Member (under (named k) v)))
      → ((k : Name) → lens_at k ls ≡ None → under (named k) v ≡ under (named k) u) → under others v ≡ under others u
      → FitsTo d S (among ls) (Member u) (Member v)
  among_fits ls o f g r = fits_alike S d (among ls) (Built (NamesOf a) (Below u a p)) (Built (NamesOf a) (Below v a q)) (Member u) (Member v)
      (built u a p) (built v a q)
      (fits_among S ls (NamesOf a) (Below u a p) (Below v a q) d
      (λ k l at m lt. child_fits l m k (λ e.
      subst (λ s. FitsTo m S l (Member (under s u)) (Member (under s v))) (sym (to_name k (o k (ap is_some at)))) (f k l at m lt)))
      (λ k none x b. record { below = carried u v p q k (sym (rest k none)) x b.below; can = b.can })
      (λ k none x b. record { below = carried v u q p k (rest k none) x b.below; can = b.can }))
    where
      to_name : (k : Name) → IsTrue (is_listed a k) → step_to a k ≡ named k
      to_name k l = ap (λ b. cond b (named k) others) l

      rest : (k : Name) → lens_at k ls ≡ None → under (step_to a k) v ≡ under (step_to a k) u
      rest k none = go (is_listed a k)
        where
          go : (b : Bool) → under (cond b (named k) others) v ≡ under (cond b (named k) others) u
          go true = g k none
          go false = r

      carried : (w z : Form) (i : IsPlain w a) (j : IsPlain z a) (k : Name) → under (step_to a k) w ≡ under (step_to a k) z → (x : Tree)
          → IsBelow Member (here w a i) k x → IsBelow Member (here z a j) k x
      carried w z i j k e x b = record {
        child = b.child;
        is = child_here z a j k ∙ ap (λ f. option_map (λ (i : Unit {0}). f) (child_of a k)) (sym e) ∙ sym (child_here w a i k) ∙ b.is;
        inside = b.inside;
      }

-- ---- items

module _ (S : Setting) (d : ℕ) (l : Lens) (u x y : Form) (b : Bool) (h : IsSound u) (f : (m : ℕ) → m < d → FitsTo m S l (Member x) (Member y)) where
  pub list_fits : IsList u x b → FitsTo d S (items l) (Member u) (Member (list_form b y))
  list_fits is = fits_alike S d (items l) (ListOf (Member x)) (ListOf (Member y)) (Member u) (Member (list_form b y))
      (list_members u x b is h) (list_form_members b y) (fits_items S l (Member x) (Member y) d f)

  pub some_items_fits : IsItems u x b → FitsTo d S (items l) (Member u) (Member (items_form b y))
  some_items_fits is = fits_alike S d (items l) (SomeItems (Member x)) (SomeItems (Member y)) (Member u) (Member (items_form b y))
      (items_members u x b is h) (items_form_members b y) (fits_some_items S l (Member x) (Member y) d f)
