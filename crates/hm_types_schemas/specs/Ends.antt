-- Where the edges of a node lead.
use Rattle.std.specs.Prelude.{Bool, ◌||◌, List, [], ◌∷◌, ◌++◌, map, filter, Option, Some, None}
use Rattle.hm_tree.specs.declared.class.Class.{Class}
use Rattle.hm_tree.specs.Names.{Name}
use Rattle.hm_schema.specs.Values.{NodeOver}
use Rattle.hm_schema.specs.Tidied.{stands}

abbrev pub other_ends : {I : Type 0} → Option (Class × I) → List I
other_ends None = []
other_ends (Some o) = o.1 ∷ []

-- by its listed names in ascending order, and then by all other names
abbrev pub ends : {I : Type 0} → NodeOver I → List I
ends n = map (λ c. c.1) n.children ++ other_ends n.other

-- the listed names that are left of some of a node: all of them, or those that stand in a shape
abbrev pub left : {I : Type 0} → Bool → NodeOver I → List (Name × I) → List (Name × I)
left all n cs = filter (λ c. all || stands n c.0) cs
