-- What nodes that match lead to, in a row, and when nodes match by the numbers of that.
use Rattle.std.proofs.Common.{◌≡◌, ℕ, List, [], ◌∷◌, ◌++◌, map, Option, Some, None, sym, subst, ◌∙◌}
use Rattle.std.specs.Option.{option_map}
use Rattle.std.specs.List.{AllZip}
use Rattle.std.proofs.lemmas.List.{map-append}
use Rattle.std.proofs.lemmas.Option.{same_Some}
use Rattle.hm_tree.specs.declared.class.Class.{Class}
use Rattle.hm_tree.specs.Names.{Name}
use Rattle.hm_schema.specs.Values.{NodeOver}
use Rattle.hm_schema.specs.Sameness.{AreOthers, no_others, others, Match}
use Rattle.hm_schema.specs.Labels.{HaveOneLabel}
use Rattle.hm_types_table.specs.Tables.{keys}
use Rattle.hm_types_table.specs.Classes.{ends, other_ends}

module _ {I J : Type 0} (R : I → J → Type 0) where
  matched_ends : (cs : List (Name × I)) (ds : List (Name × J)) (xs : List I) (ys : List J) → AllZip (λ c d. (c.0 ≡ d.0) × R c.1 d.1) cs ds
      → AllZip R xs ys → AllZip R (map (λ c. c.1) cs ++ xs) (map (λ d. d.1) ds ++ ys)
  matched_ends [] [] xs ys z r = r
  matched_ends [] (d ∷ ds) xs ys z r = absurd z
  matched_ends (c ∷ cs) [] xs ys z r = absurd z
  matched_ends (c ∷ cs) (d ∷ ds) xs ys z r = (z.0.1, matched_ends cs ds xs ys z.1 r)

  matched_other_ends : {o : Option (Class × I)} {p : Option (Class × J)} → AreOthers R o p → AllZip R (other_ends o) (other_ends p)
  matched_other_ends no_others = tt
  matched_other_ends (others r) = (r, tt)

  module _ (n : NodeOver I) (m : NodeOver J) (h : Match R n m) where
    pub match_ends : AllZip R (ends n) (ends m)
    match_ends = matched_ends n.children m.children (other_ends n.other) (other_ends m.other) h.children (matched_other_ends h.other)

-- by numbers of what edges lead to
module _ {I J : Type 0} (f : I → ℕ) (g : J → ℕ) where
  equal_children : (cs : List (Name × I)) (ds : List (Name × J)) (xs ys : List ℕ) → keys cs ≡ keys ds
      → map f (map (λ c. c.1) cs) ++ xs ≡ map g (map (λ d. d.1) ds) ++ ys
      → AllZip (λ c d. (c.0 ≡ d.0) × (f c.1 ≡ g d.1)) cs ds × (xs ≡ ys)
  equal_children [] [] xs ys e q = (tt, q)
  equal_children [] (d ∷ ds) xs ys e q = cc
  equal_children (c ∷ cs) [] xs ys e q = cc
  equal_children (c ∷ cs) (d ∷ ds) xs ys e q =
      let name : c.0 ≡ d.0 = cc in
      let names : keys cs ≡ keys ds = cc in
      let number : f c.1 ≡ g d.1 = cc in
      let numbers : map f (map (λ (c : Name × I). c.1) cs) ++ xs ≡ map g (map (λ (d : Name × J). d.1) ds) ++ ys = cc in
      let rest = equal_children cs ds xs ys names numbers in
      (((name, number), rest.0), rest.1)

  equal_others : (o : Option (Class × I)) (p : Option (Class × J)) → option_map (λ o. o.0) o ≡ option_map (λ p. p.0) p
      → map f (other_ends o) ≡ map g (other_ends p) → AreOthers (λ a b. f a ≡ g b) o p
  equal_others None None e q = no_others
  equal_others None (Some p) e q = cc
  equal_others (Some o) None e q = cc
  equal_others (Some o) (Some p) e q =
      let class : o.0 ≡ p.0 = same_Some _ _ e in
      let number : f o.1 ≡ g p.1 = cc in
      subst (λ c. AreOthers (λ a b. f a ≡ g b) (Some o) (Some (c, p.1))) class (others number)

  module _ (n : NodeOver I) (m : NodeOver J) (label : HaveOneLabel n m) where
    pub match_equal : map f (ends n) ≡ map g (ends m) → Match (λ a b. f a ≡ g b) n m
    match_equal q =
        let both = equal_children n.children m.children (map f (other_ends n.other)) (map g (other_ends m.other)) label.names
        (sym (map-append f (map (λ c. c.1) n.children) (other_ends n.other)) ∙ q ∙ map-append g (map (λ c. c.1) m.children) (other_ends m.other)) in
        record { shapes = label.shapes; children = both.0; other = equal_others n.other m.other label.class both.1; twins = label.twins }
