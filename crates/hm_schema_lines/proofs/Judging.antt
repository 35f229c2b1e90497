-- When a line is bad, by what it says.
use Rattle.std.proofs.Common.{◌≡◌, ◌≢◌, ◌⊎◌, inl, inr, ℕ, suc, ◌<◌, Bool, true, false, List, [], ◌∷◌, ◌++◌, length, take, drop, Option, Some, None, refl, sym, ap, ◌∙◌, subst, count_by, arith}
use Rattle.std.specs.Prelude.{codes, ◌==◌, IsTrue, is_some, not}
use mathlib.Core.Bool.{true≢false}
use Rattle.std.specs.List.{Contains}
use Rattle.std.proofs.lemmas.List.{take-append-drop}
use Rattle.hm_tree.specs.Names.{Name}
use Rattle.hm_schema_lines.specs.declared.firsts.Naming.TheVariants.{Nodes, Edges}
use Rattle.hm_schema_lines.specs.NodeLines.{is_inside, NodeLineValue, node, edge, other, shape}
use Rattle.hm_schema_lines.specs.Entries.{EntryValue, says}
use Rattle.hm_schema_lines.specs.Firsts.{place_in, begun_name, listed_name, node_names, edge_names}
use Rattle.hm_schema_lines.specs.BadLines.{Says, named, begins_node, is_shape, up_to_node, earlier, around, behind, nodes_before, Declares, Lists, SpeaksOfOthers, HasShape, IsNode, names_of_shape, HasDouble, IsNoneCounted, IsBadNodeLine, in_no_node, declared_twice, declares_empty, names_no_node, listed_twice, others_twice, unlisted_name, name_twice, least_above_most, no_others_to_count, no_shape, too_many_nodes, too_many_shapes}
use Rattle.std.proofs.lemmas.Bool.Decides.{nat_tests}
use Rattle.hm_schema_lines.proofs.Sections.{drop_more, around_next, from_here}
use Rattle.hm_schema_lines.proofs.Places.{there, not_there, first_at, not_before, names_around}
use Rattle.hm_schema_lines.proofs.Declared.{count_cons, empty_or}
use Rattle.hm_schema_lines.proofs.Made.{brought, brings}

-- ---- what a good line of its kind holds

abbrev GoodRest : List EntryValue → ℕ → NodeLineValue → Type 0
GoodRest es i (node w) = ¬ (Declares (take i es) w) × (w ≢ codes "Empty") × ¬ (¬ (HasShape (behind es i))) × (nodes_before es i < 1000)
GoodRest es i (edge k w) = ¬ (Lists (earlier es i) k)
GoodRest es i (other c w) = ¬ (SpeaksOfOthers (earlier es i))
GoodRest es i (shape s) =
    ((k : Name) → Contains (names_of_shape s) k → ¬ (¬ (Lists (around es i) k)))
    × ¬ (HasDouble (names_of_shape s))
    × ((most : ℕ) → s.count.most ≡ Some most → ¬ (most < s.count.least))
    × (¬ (IsNoneCounted s.count) → ¬ (¬ (SpeaksOfOthers (around es i))))
    × (count_by is_shape (earlier es i) < 256)

pub record IsGood (es : List EntryValue) (i : ℕ) (x : NodeLineValue) : Type 0 where
  pub housed : is_inside x ≡ true → ¬ (nodes_before es i ≡ 0)
  pub names : (w : Name) → named x ≡ Some w → IsNode es w
  pub rest : GoodRest es i x

module _ (es : List EntryValue) (i : ℕ) (x : NodeLineValue) (says_it : Says es i x) (good : IsGood es i x) where
  same : (y : NodeLineValue) → Says es i y → y ≡ x
  same y h = let both : Some (says y) ≡ Some (says x) = sym h ∙ says_it in cc

  rest_of : (y : NodeLineValue) → Says es i y → GoodRest es i y
  rest_of y h = subst (GoodRest es i) (sym (same y h)) good.rest

  pub not_bad : IsBadNodeLine es i → ⊥
  not_bad (in_no_node {x = y} h inside none) = good.housed (ap is_inside (sym (same y h)) ∙ inside) none
  not_bad (declared_twice {w} h twice) = (rest_of (node w) h).0 twice
  not_bad (declares_empty h) = (rest_of (node (codes "Empty")) h).1 refl
  not_bad (names_no_node {x = y} {w} h name none) = none (good.names w (ap named (sym (same y h)) ∙ name))
  not_bad (listed_twice {k} {w} h twice) = rest_of (edge k w) h twice
  not_bad (others_twice {c} {w} h twice) = rest_of (other c w) h twice
  not_bad (unlisted_name {s} {k} h there none) = (rest_of (shape s) h).0 k there none
  not_bad (name_twice {s} h twice) = (rest_of (shape s) h).1 twice
  not_bad (least_above_most {s} {most} h is above) = (rest_of (shape s) h).2 most is above
  not_bad (no_others_to_count {s} h counted none) = (rest_of (shape s) h).3 counted none
  not_bad (no_shape {w} h none) = (rest_of (node w) h).2 none
  not_bad (too_many_nodes {w} h many) = let few = (rest_of (node w) h).3 in omega arith
  not_bad (too_many_shapes {s} h many) = let few = (rest_of (shape s) h).4 in omega arith

-- a bad line is of a node
pub bad_says : (es : List EntryValue) (i : ℕ) → IsBadNodeLine es i → (x : NodeLineValue) × Says es i x
bad_says es i (in_no_node {x} is h k) = (x, is)
bad_says es i (declared_twice {w} is h) = (node w, is)
bad_says es i (declares_empty is) = (node (codes "Empty"), is)
bad_says es i (names_no_node {x} is h k) = (x, is)
bad_says es i (listed_twice {k} {w} is h) = (edge k w, is)
bad_says es i (others_twice {c} {w} is h) = (other c w, is)
bad_says es i (unlisted_name {s} is h k) = (shape s, is)
bad_says es i (name_twice {s} is h) = (shape s, is)
bad_says es i (least_above_most {s} is h k) = (shape s, is)
bad_says es i (no_others_to_count {s} is h k) = (shape s, is)
bad_says es i (no_shape {w} is h) = (node w, is)
bad_says es i (too_many_nodes {w} is h) = (node w, is)
bad_says es i (too_many_shapes {s} is h) = (shape s, is)

-- ---- a name among those before a line

says_node : (e : EntryValue) (w : Name) → begun_name e ≡ Some w → e ≡ says (node w)
says_node (says (node v)) w h = let name : v ≡ w = cc in ap (λ z. says (node z)) name
says_node e w h = let f : ⊥ = cc in absurd f

says_edge : (e : EntryValue) (k : Name) → listed_name e ≡ Some k → (w : Name) × (e ≡ says (edge k w))
says_edge (says (edge l v)) k h = let name : l ≡ k = cc in (v, ap (λ z. says (edge z v)) name)
says_edge e k h = let f : ⊥ = cc in absurd f

pub declares : (es : List EntryValue) (w : Name) → Contains (node_names es) w → Declares es w
declares es w c = let f = brings begun_name es w c in subst (Contains es) (says_node f.0 w f.2) f.1

pub is_declared : (es : List EntryValue) (w : Name) → Declares es w → Contains (node_names es) w
is_declared es w = brought begun_name es (says (node w)) w refl

pub lists : (es : List EntryValue) (k : Name) → Contains (edge_names es) k → Lists es k
lists es k c = let f = brings listed_name es k c in let e = says_edge f.0 k f.2 in (e.0, subst (Contains es) e.1 f.1)

pub is_listed : (es : List EntryValue) (k : Name) → Lists es k → Contains (edge_names es) k
is_listed es k l = brought listed_name es (says (edge k l.0)) k refl l.1

pub length_names : (es : List EntryValue) → length (node_names es) ≡ count_by begins_node es
length_names [] = refl
length_names (e ∷ es) = by e (length_names es)
  where
    by : (e : EntryValue) → length (node_names es) ≡ count_by begins_node es → length (node_names (e ∷ es)) ≡ count_by begins_node (e ∷ es)
    by (says (node w)) more = let c = count_cons begins_node (says (node w)) es true refl in omega arith
    by e more = let c = count_cons begins_node e es false refl in omega arith

-- a node may be named where it isn't so that it may not
pub is_node : (es : List EntryValue) (w : Name) → ¬ (¬ (IsNode es w)) → IsNode es w
is_node es w some = go (place_in w (node_names es)) refl (empty_or w)
  where
    go : (o : Option ℕ) → place_in w (node_names es) ≡ o → (w ≡ codes "Empty") ⊎ ((w ≡ codes "Empty") → ⊥) → IsNode es w
    go (Some p) e either = inl (declares es w (there w (node_names es) p e))
    go None e (inl same) = inr same
    go None e (inr differ) = absurd
        (some (λ n. elim n as (λ _. ⊥) [ inl d ↦ not_there w (node_names es) e (is_declared es w d) | inr same ↦ differ same ]))

-- ---- whether a node line is the first of its name

module _ (es : List EntryValue) (i : ℕ) (w : Name) (is : Says es i (node w)) where
  pub all_names : node_names es ≡ node_names (take i es) ++ w ∷ node_names (drop (suc i) es)
  all_names = ap node_names (sym (take-append-drop i es) ∙ ap (λ z. take i es ++ z) (drop_more es i (says (node w)) is))
      ∙ names_around Nodes (take i es) (drop (suc i) es) (says (node w)) w refl

  pub declared_first : ¬ (Declares (take i es) w) → place_in w (node_names es) ≡ Some (nodes_before es i)
  declared_first h = ap (place_in w) all_names ∙ first_at w (node_names (take i es)) (node_names (drop (suc i) es))
      (λ c. h (declares (take i es) w c)) ∙ ap Some (length_names (take i es))

  pub declared_again : place_in w (node_names es) ≡ Some (nodes_before es i) → ¬ (Declares (take i es) w)
  declared_again h d = not_before w (node_names (take i es)) (node_names (drop (suc i) es))
      (ap (place_in w) (sym all_names) ∙ h ∙ ap Some (sym (length_names (take i es)))) (is_declared (take i es) w d)

  -- else it was declared before
  pub twice_declared : (place_in w (node_names es) ≡ Some (nodes_before es i) → ⊥) → Declares (take i es) w
  twice_declared h = go (place_in w (node_names (take i es))) refl
    where
      go : (o : Option ℕ) → place_in w (node_names (take i es)) ≡ o → Declares (take i es) w
      go (Some p) e = declares (take i es) w (there w (node_names (take i es)) p e)
      go None e = absurd (h (declared_first (λ d. not_there w (node_names (take i es)) e (is_declared (take i es) w d))))

-- ---- whether a listed name is the first of its kind in its node

module _ (es : List EntryValue) (i : ℕ) (k w : Name) (is : Says es i (edge k w)) where
  names_of_node : edge_names (around es (suc i)) ≡ edge_names (earlier es i) ++ k ∷ edge_names (up_to_node (drop (suc i) es))
  names_of_node =
      ap edge_names (around_next es i (says (edge k w)) is refl ∙ ap (λ z. earlier es i ++ z) (from_here es i (says (edge k w)) is false refl))
      ∙ names_around Edges (earlier es i) (up_to_node (drop (suc i) es)) (says (edge k w)) k refl

  pub listed_first : ¬ (Lists (earlier es i) k) → place_in k (edge_names (around es (suc i))) ≡ Some (length (edge_names (earlier es i)))
  listed_first h = ap (place_in k) names_of_node ∙ first_at k (edge_names (earlier es i)) (edge_names (up_to_node (drop (suc i) es)))
      (λ c. h (lists (earlier es i) k c))

  pub listed_again : place_in k (edge_names (around es (suc i))) ≡ Some (length (edge_names (earlier es i))) → ¬ (Lists (earlier es i) k)
  listed_again h l = not_before k (edge_names (earlier es i)) (edge_names (up_to_node (drop (suc i) es)))
      (ap (place_in k) (sym names_of_node) ∙ h) (is_listed (earlier es i) k l)

  pub twice_listed : (place_in k (edge_names (around es (suc i))) ≡ Some (length (edge_names (earlier es i))) → ⊥) → Lists (earlier es i) k
  twice_listed h = go (place_in k (edge_names (earlier es i))) refl
    where
      go : (o : Option ℕ) → place_in k (edge_names (earlier es i)) ≡ o → Lists (earlier es i) k
      go (Some p) e = lists (earlier es i) k (there k (edge_names (earlier es i)) p e)
      go None e = absurd (h (listed_first (λ l. not_there k (edge_names (earlier es i)) e (is_listed (earlier es i) k l))))

-- ---- tests and what they tell

pub equals : (n m : ℕ) → n ≡ m → (n == m) ≡ true
equals n m h = grind (arith, nat_tests)

-- a test that is turned
pub turned : {P : Type 0} (b : Bool) → (IsTrue b → ¬ P) → (¬ (IsTrue b) → P) → (IsTrue (not b) → P) × (P → IsTrue (not b))
turned true h k = (λ f. absurd (true≢false (sym f)), λ p. absurd (h refl p))
turned false h k = (λ f. k (λ z. true≢false (sym z)), λ p. refl)

pub always : {P : Type 0} → P → (IsTrue true → P) × (P → IsTrue true)
always p = (λ t. p, λ q. refl)

pub never : {P : Type 0} → ¬ P → (IsTrue false → P) × (P → IsTrue false)
never no_p = (λ f. absurd (true≢false (sym f)), λ p. absurd (no_p p))

pub one_name : (P : Name → Type 0) (v : Name) → P v → (w : Name) → Some v ≡ Some w → P w
one_name P v p w e = let same : v ≡ w = cc in subst P same p

-- ---- tables

module _ (table : Option ℕ) (q : Name) (names : List Name) (is : table ≡ place_in q names) where
  pub found : IsTrue (is_some table) → Contains names q
  found some = go table refl some
    where
      go : (o : Option ℕ) → table ≡ o → IsTrue (is_some o) → Contains names q
      go None e some = let f : ⊥ = true≢false (sym some) in absurd f
      go (Some p) e some = there q names p (sym is ∙ e)

  pub findable : Contains names q → IsTrue (is_some table)
  findable c = go table refl
    where
      go : (o : Option ℕ) → table ≡ o → IsTrue (is_some o)
      go None e = absurd (not_there q names (sym is ∙ e) c)
      go (Some p) e = refl
