-- When nodes match by what their edges lead to.
use Rattle.std.proofs.Common.{◌≡◌, Bool, true, false, cond, List, [], ◌∷◌, map, Option, Some, None, refl, sym, ap, subst, ◌∙◌}
use Rattle.std.specs.Option.{option_map}
use Rattle.std.specs.List.{AllZip}
use Rattle.std.specs.Ordering.{eq_by_cmp}
use Rattle.std.specs.FinMap.{find}
use Rattle.std.proofs.lemmas.Option.{same_Some}
use Rattle.hm_tree.specs.declared.class.Class.{Class}
use Rattle.hm_tree.specs.Names.{Name, name_cmp}
use Rattle.hm_schema.specs.Values.{NodeOver}
use Rattle.hm_schema.specs.Sameness.{AreOthers, no_others, others, Match}
use Rattle.hm_schema.specs.Labels.{HaveOneLabel}
use Rattle.hm_types_forms.specs.Forms.{Step, named, others as to_others, label_of, next_of}
use Rattle.hm_types_forms.proofs.MemberNodes.{AllFound}

-- the names of a list of names with what they lead to
abbrev keys : {X : Type 0} → List (Name × X) → List Name
keys cs = map (λ c. c.0) cs

pub keys_bare : {X : Type 0} (cs : List (Name × X)) → keys (map {B = Name × Unit {0}} (λ c. (c.0, tt)) cs) ≡ keys cs
keys_bare [] = refl
keys_bare (c ∷ cs) = ap (λ l. c.0 ∷ l) (keys_bare cs)

-- ---- labels

module _ {I J : Type 0} where
  bare_class : (o : Option (Class × I)) (p : Option (Class × J)) → option_map (λ (o : Class × Unit {0}). o.0) (option_map (λ o. (o.0, tt)) o)
      ≡ option_map (λ (o : Class × Unit {0}). o.0) (option_map (λ o. (o.0, tt)) p) → option_map (λ o. o.0) o ≡ option_map (λ o. o.0) p
  bare_class None None e = refl
  bare_class None (Some p) e = cc
  bare_class (Some o) None e = cc
  bare_class (Some o) (Some p) e = e

  class_bare : (o : Option (Class × I)) (p : Option (Class × J)) → option_map (λ o. o.0) o ≡ option_map (λ o. o.0) p
      → option_map (λ (o : Class × Unit {0}). o.0) (option_map (λ o. (o.0, tt)) o)
      ≡ option_map (λ (o : Class × Unit {0}). o.0) (option_map (λ o. (o.0, tt)) p)
  class_bare None None e = refl
  class_bare None (Some p) e = cc
  class_bare (Some o) None e = cc
  class_bare (Some o) (Some p) e = e

  module _ (n : NodeOver I) (m : NodeOver J) where
    -- nodes have one label where they have without what their edges lead to
    pub label_from_bare : HaveOneLabel (label_of n) (label_of m) → HaveOneLabel n m
    label_from_bare h = record {
      shapes = h.shapes;
      names = sym (keys_bare n.children) ∙ h.names ∙ keys_bare m.children;
      class = bare_class n.other m.other h.class;
      twins = h.twins;
    }

    pub bare_from_label : HaveOneLabel n m → HaveOneLabel (label_of n) (label_of m)
    bare_from_label h = record {
      shapes = h.shapes;
      names = keys_bare n.children ∙ h.names ∙ sym (keys_bare m.children);
      class = class_bare n.other m.other h.class;
      twins = h.twins;
    }

-- ---- from a match

module _ {I J : Type 0} (R : I → J → Type 0) where
  matched_names : (cs : List (Name × I)) (ds : List (Name × J)) → AllZip (λ c d. (c.0 ≡ d.0) × R c.1 d.1) cs ds → keys cs ≡ keys ds
  matched_names [] [] z = refl
  matched_names [] (d ∷ ds) z = absurd z
  matched_names (c ∷ cs) [] z = absurd z
  matched_names (c ∷ cs) (d ∷ ds) z = let name = z.0.0 in let rest = matched_names cs ds z.1 in λ t. name t ∷ rest t

  matched_class : {o : Option (Class × I)} {p : Option (Class × J)} → AreOthers R o p → option_map (λ o. o.0) o ≡ option_map (λ p. p.0) p
  matched_class no_others = refl
  matched_class (others r) = refl

  -- both lead nowhere, or to what is related
  pub data Both : Option I → Option J → Type 0 where
    neither : Both None None
    both : {a : I} {b : J} → R a b → Both (Some a) (Some b)

  matched_named : (k : Name) (cs : List (Name × I)) (ds : List (Name × J)) → AllZip (λ c d. (c.0 ≡ d.0) × R c.1 d.1) cs ds
      → Both (find name_cmp k cs) (find name_cmp k ds)
  matched_named k [] [] z = neither
  matched_named k [] (d ∷ ds) z = absurd z
  matched_named k (c ∷ cs) [] z = absurd z
  matched_named k (c ∷ cs) (d ∷ ds) z =
      subst (λ m. Both (cond (eq_by_cmp name_cmp k c.0) (Some c.1) (find name_cmp k cs)) (cond (eq_by_cmp name_cmp k m) (Some d.1) (find name_cmp k ds)))
      z.0.0 (go (eq_by_cmp name_cmp k c.0) (matched_named k cs ds z.1))
    where
      go : (b : Bool) → Both (find name_cmp k cs) (find name_cmp k ds) → Both (cond b (Some c.1) (find name_cmp k cs)) (cond b (Some d.1) (find name_cmp k ds))
      go true rest = both z.0.1
      go false rest = rest

  matched_others : {o : Option (Class × I)} {p : Option (Class × J)} → AreOthers R o p → Both (option_map (λ o. o.1) o) (option_map (λ p. p.1) p)
  matched_others no_others = neither
  matched_others (others r) = both r

  module _ (n : NodeOver I) (m : NodeOver J) (h : Match R n m) where
    pub match_label : HaveOneLabel n m
    match_label = record { shapes = h.shapes; names = matched_names n.children m.children h.children; class = matched_class h.other; twins = h.twins }

    pub match_step : (s : Step) → Both (next_of n s) (next_of m s)
    match_step (named k) = matched_named k n.children m.children h.children
    match_step to_others = matched_others h.other

-- ---- to a match, from one label

module _ {I J : Type 0} (R : I → J → Type 0) where
  -- by what is found under each name
  found_children : (cs all : List (Name × I)) (ds every : List (Name × J)) → AllFound all cs → AllFound every ds → keys cs ≡ keys ds
      → ((k : Name) (a : I) (b : J) → find name_cmp k all ≡ Some a → find name_cmp k every ≡ Some b → R a b)
      → AllZip (λ c d. (c.0 ≡ d.0) × R c.1 d.1) cs ds
  found_children [] all [] every h g e f = tt
  found_children [] all (d ∷ ds) every h g e f = cc
  found_children (c ∷ cs) all [] every h g e f = cc
  found_children (c ∷ cs) all (d ∷ ds) every h g e f =
      let name : c.0 ≡ d.0 = cc in
      let names : keys cs ≡ keys ds = cc in (
        (name, f c.0 c.1 d.1 h.0 (subst (λ k. find name_cmp k every ≡ Some d.1) (sym name) g.0)),
        found_children cs all ds every h.1 g.1 names f,
      )

  pub found_others : (o : Option (Class × I)) (p : Option (Class × J)) → option_map (λ o. o.0) o ≡ option_map (λ p. p.0) p
      → ((a : I) (b : J) → option_map (λ o. o.1) o ≡ Some a → option_map (λ p. p.1) p ≡ Some b → R a b) → AreOthers R o p
  found_others None None e f = no_others
  found_others None (Some p) e f = cc
  found_others (Some o) None e f = cc
  found_others (Some o) (Some p) e f =
      let class : o.0 ≡ p.0 = same_Some _ _ e in
      subst (λ c. AreOthers R (Some o) (Some (c, p.1))) class (others (f o.1 p.1 refl refl))

  module _ (n : NodeOver I) (m : NodeOver J) (label : HaveOneLabel n m) where
    pub match_found : AllFound n.children n.children → AllFound m.children m.children
        → ((s : Step) (a : I) (b : J) → next_of n s ≡ Some a → next_of m s ≡ Some b → R a b) → Match R n m
    match_found h g f = record {
      shapes = label.shapes;
      children = found_children n.children n.children m.children m.children h g label.names (λ k. f (named k));
      other = found_others n.other m.other label.class (f to_others);
      twins = label.twins;
    }

-- of nothing more than a label
module _ {I J : Type 0} where
  equal_names : (cs : List (Name × I)) (ds : List (Name × J)) → keys cs ≡ keys ds → AllZip (λ c d. (c.0 ≡ d.0) × Unit {0}) cs ds
  equal_names [] [] e = tt
  equal_names [] (d ∷ ds) e = cc
  equal_names (c ∷ cs) [] e = cc
  equal_names (c ∷ cs) (d ∷ ds) e =
      let name : c.0 ≡ d.0 = cc in
      let names : keys cs ≡ keys ds = cc in
      ((name, tt), equal_names cs ds names)

  pub match_one : (n : NodeOver I) (m : NodeOver J) → HaveOneLabel n m → Match (λ i j. Unit {0}) n m
  match_one n m label = record {
    shapes = label.shapes;
    children = equal_names n.children m.children label.names;
    other = found_others (λ i j. Unit {0}) n.other m.other label.class (λ a b e q. tt);
    twins = label.twins;
  }
