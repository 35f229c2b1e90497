-- What a node of a table stands for, whatever table it is in: what is found on each way down from it.
use Rattle.std.specs.Prelude.{Bool, List, [], ◌∷◌, map, Option, Some, slice_get, option_and_then}
use Rattle.std.specs.Option.{option_map}
use Rattle.std.specs.FinMap.{find}
use Rattle.hm_tree.specs.Names.{Name, name_cmp}
use Rattle.hm_schema.specs.declared.node.NodeId.{NodeId}
use Rattle.hm_schema.specs.Values.{NodeOver, NodeValue}
use Rattle.hm_schema.specs.Tidied.{stands, lets_some_in}

-- a step down from a node: to a name that it lists, or to all other names
pub data Step : Type 0 where
  named : Name → Step
  others : Step

abbrev pub Way : Type 0
Way = List Step

-- a node without what its edges lead to
abbrev pub Label : Type 0
Label = NodeOver (Unit {0})

abbrev pub over : {I J : Type 0} → (Step → I → J) → NodeOver I → NodeOver J
over f n = record {
  shapes = n.shapes;
  children = map (λ c. (c.0, f (named c.0) c.1)) n.children;
  other = option_map (λ o. (o.0, f others o.1)) n.other;
  twins = n.twins;
}

abbrev pub label_of : {I : Type 0} → NodeOver I → Label
label_of n = over (λ s i. tt) n

-- where a step leads from a node
abbrev pub next_of : {I : Type 0} → NodeOver I → Step → Option I
next_of n (named k) = find name_cmp k n.children
next_of n others = option_map (λ o. o.1) n.other

-- a form: the label that is found on each way down, if the way is there
abbrev pub Form : Type 0
Form = Way → Option Label

-- what is found from a step on
abbrev pub under : Step → Form → Form
under s u = λ w. u (s ∷ w)

-- the node at which a form begins, over the forms that its edges lead to
abbrev pub node_of : Form → Option (NodeOver Form)
node_of u = option_map (over (λ s i. under s u)) (u [])

-- the form that begins at a node
abbrev pub formed : NodeOver Form → Form
formed n [] = Some (label_of n)
formed n (s ∷ w) = option_and_then (λ u. u w) (next_of n s)

-- what a place of a table stands for
abbrev pub form : List NodeValue → NodeId → Form
form nodes i [] = option_map label_of (slice_get nodes i.place)
form nodes i (s ∷ w) = option_and_then (λ n. option_and_then (λ j. form nodes j w) (next_of n s)) (slice_get nodes i.place)

-- what stands at a node may have the step
abbrev pub can_be : {I : Type 0} → NodeOver I → Step → Bool
can_be n (named k) = stands n k
can_be n others = lets_some_in n
