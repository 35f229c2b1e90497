-- The trees of a schema are the members of the form of its root.
use Rattle.std.proofs.Common.{◌≡◌, ◌<◌, ℕ, suc, IfSome, Bool, true, false, cond, List, [], ◌∷◌, length, map, filter, slice_get, Option, Some, None, refl, sym, ap, subst, ◌∙◌}
use Rattle.std.specs.Option.{option_map}
use Rattle.std.specs.List.{AllZip}
use Rattle.hm_tree.specs.declared.class.Class.{Class}
use Rattle.hm_tree.specs.Names.{Name}
use Rattle.hm_schema.specs.declared.node.NodeId.{NodeId}
use Rattle.hm_schema.specs.Values.{SchemaValue}
use Rattle.hm_schema.specs.WellFormed.{IsWellFormed}
use Rattle.hm_schema.specs.Tidied.{lets_some_in, stands}
use Rattle.hm_schema.specs.Sameness.{AreOthers, no_others, others}
use Rattle.hm_schema.proofs.Lists.{all_read}
use Rattle.hm_schema.specs.Standing.{Alike}
use Rattle.hm_schema.proofs.StandingTrees.{Inside, members_alike as place_alike}
use Rattle.hm_schema.proofs.SameNodes.{IsMatched, matched_alike}
use Rattle.hm_types_forms.specs.Forms.{Form, node_of, form}
use Rattle.hm_types_forms.specs.Members.{Member}
use Rattle.hm_types_forms.specs.Sound.{IsSound}
use Rattle.hm_types_forms.proofs.MemberNodes.{members_alike}
use Rattle.hm_types_forms.proofs.SoundForms.{node_sound}
use Rattle.hm_types_table.specs.Tables.{opened}
use Rattle.hm_types_table.proofs.Grown.{formed_at}
use Rattle.hm_types_table.proofs.Forms.{node_is}
use Rattle.hm_types_terms.proofs.Entries.{there}

module _ (s : SchemaValue) (well : IsWellFormed s) (sound : (i : NodeId) → IsSound (form s.nodes i)) where
  -- a node of the schema, and its form
  record IsFormOf (i : NodeId) (u : Form) : Type 0 where
    in_range : i.place < length s.nodes
    is : u ≡ form s.nodes i

  children : (test : Name → Bool) (cs : List (Name × NodeId)) → ((p : ℕ) (c : Name × NodeId) → slice_get cs p ≡ Some c → c.1.place < length s.nodes) → (all : Bool)
      → AllZip (λ c d. (c.0 ≡ d.0) × IsFormOf c.1 d.1) (cond all cs (filter (λ c. test c.0) cs))
      (cond all (map {B = Name × Form} (λ c. (c.0, form s.nodes c.1)) cs) (filter (λ (c : Name × Form). test c.0) (map {B = Name × Form} (λ c. (c.0, form s.nodes c.1)) cs)))
  children test [] inside true = tt
  children test [] inside false = tt
  children test (c ∷ cs) inside true =
      ((refl, record { in_range = inside 0 c refl; is = refl }), children test cs (λ p d e. inside (suc p) d e) true)
  children test (c ∷ cs) inside false = go (test c.0) (children test cs (λ p d e. inside (suc p) d e) false)
    where
      go : (b : Bool) → AllZip (λ c d. (c.0 ≡ d.0) × IsFormOf c.1 d.1) (filter (λ c. test c.0) cs)
          (filter (λ (c : Name × Form). test c.0) (map {B = Name × Form} (λ c. (c.0, form s.nodes c.1)) cs))
          → AllZip (λ c d. (c.0 ≡ d.0) × IsFormOf c.1 d.1) (cond b (c ∷ filter (λ c. test c.0) cs) (filter (λ c. test c.0) cs))
          (cond b ((c.0, form s.nodes c.1) ∷ filter (λ (c : Name × Form). test c.0) (map {B = Name × Form} (λ c. (c.0, form s.nodes c.1)) cs))
          (filter (λ (c : Name × Form). test c.0) (map {B = Name × Form} (λ c. (c.0, form s.nodes c.1)) cs)))
      go true rest = ((refl, record { in_range = inside 0 c refl; is = refl }), rest)
      go false rest = rest

  others_match : (o : Option (Class × NodeId)) → IfSome o (λ o. o.1.place < length s.nodes) → (all : Bool)
      → AreOthers IsFormOf (cond all o None) (cond all (option_map {U = Class × Form} (λ o. (o.0, form s.nodes o.1)) o) None)
  others_match None lt true = no_others
  others_match None lt false = no_others
  others_match (Some o) lt true = others (record { in_range = lt; is = refl })
  others_match (Some o) lt false = no_others

  matched : (i : NodeId) (u : Form) → IsFormOf i u → IsMatched IsFormOf (Inside s) Member i u
  matched i u f =
      let n = there s.nodes i.place f.in_range in
      let w = formed_at s.nodes i n.0 well.nodes n.1 in
      let is : node_of u ≡ Some (opened s.nodes n.0) = ap node_of f.is ∙ node_is s.nodes i n.0 n.1 well.nodes in
      record {
        first = n.0;
        second = opened s.nodes n.0;
        stands_first = place_alike s i n.0 n.1;
        stands_second = members_alike u (opened s.nodes n.0) is;
        well_first = w.shapes;
        well_second = (node_sound u (opened s.nodes n.0) is (subst IsSound (sym f.is) (sound i))).well;
        match = record {
          shapes = λ x. (λ c. c, λ c. c);
          children = children (stands n.0) n.0.children (λ p c e. all_read (λ (c : Name × NodeId). c.1.place < length s.nodes) n.0.children p c e w.children) (lets_some_in n.0);
          other = others_match n.0.other w.other (lets_some_in n.0);
          twins = λ x. (λ c. c, λ c. c);
        };
      }

  pub root_trees : Alike (Inside s s.root) (Member (form s.nodes s.root))
  root_trees = matched_alike IsFormOf (Inside s) Member matched s.root (form s.nodes s.root) (record { in_range = well.root; is = refl })
