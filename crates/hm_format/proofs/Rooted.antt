-- The node that is named is one of those that are declared.
use Rattle.std.proofs.Common.{◌≡◌, ℕ, ◌<◌, Bool, true, false, not, cond, ◌&&◌, nat_lt, List, [], ◌∷◌, map, length, Some, None, refl, sym, subst}
use Rattle.std.specs.Prelude.{codes}
use Rattle.std.specs.List.{list_all}
use Rattle.std.specs.FinMap as map
use Rattle.hm_tree.specs.Names.{Name, name_cmp}
use Rattle.hm_schema.specs.declared.node.Node.{Node}
use Rattle.hm_schema.specs.Values.{OptionsValue, NodeValue, node_value, schema_value}
use Rattle.hm_schema.specs.WellFormed.{IsWellFormed}
use Rattle.hm_format.specs.Options.{Rule, is_among, is_declared, values_of}
use Rattle.hm_format.specs.Plain.{plain_rules, plain_schema, root_place, IsAccepted}
use Rattle.hm_format.proofs.Accepted.{obey_all, none_missing, place_below}

front : (a b : Bool) → (a && b) ≡ true → a ≡ true
front true b e = refl
front false b e = e

first_among : (names : List Name) (k : Name) (ks : List Name) → list_all (is_declared names) (k ∷ ks) ≡ true → is_among names k ≡ true
first_among names k ks e = front _ _ (front (is_declared names k) (list_all (is_declared names) ks) e)

named : (r : Name × Rule) (names values : List Name) → cond (not (nat_lt 0 (length values))) (Some r) None ≡ None
    → list_all (is_declared names) values ≡ true → root_place values names < length names
named r names [] e all = let no : ⊥ = cc in absurd no
named r names (k ∷ ks) e all = place_below k names (first_among names k ks all)

abbrev root_rule : Rule
root_rule = record { most = Some 1; required = true; declared = true }

known : map.find name_cmp (codes "root") plain_rules ≡ Some root_rule
unfolding name_cmp
known = refl

pub root_below : (o : OptionsValue) → IsAccepted o → (plain_schema o).root.place < length o.types
root_below o accepted =
    let values = obey_all plain_rules o accepted.none_bad (codes "root") root_rule known in
    subst (λ n. (plain_schema o).root.place < n) accepted.sound.named
    (named (codes "root", root_rule) o.type_names (values_of o.pairs (codes "root")) (none_missing plain_rules o accepted.none_bad) (values.allowed refl))

pub formed : (o : OptionsValue) (nodes : List Node) (place : ℕ) → map node_value nodes ≡ o.types → place ≡ (plain_schema o).root.place → IsAccepted o
    → IsWellFormed (schema_value nodes (record { place = place }))
formed o nodes place copied is accepted =
    subst (λ (all : List NodeValue). IsWellFormed (record { nodes = all; root = record { place = place } })) (sym copied)
    (record {
      nodes = λ i d lt. (accepted.sound.types i d lt).0;
      root = subst (λ p. p < length o.types) (sym is) (root_below o accepted);
    })
