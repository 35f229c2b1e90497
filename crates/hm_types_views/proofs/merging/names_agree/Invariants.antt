use Rattle.std.proofs.Common.{◌≡◌, Some, All, take, slice_get}
use Rattle.std.specs.FinMap.{find}
use Rattle.hm_tree.specs.Names.{Name, name_cmp}
use Rattle.hm_schema.specs.Values.{NodeValue}
use Rattle.hm_types_views.specs.Hiding.{LeadToSame}
use Rattle.hm_types_views.proofs.merging.names_agree.Given as goal

abbrev pub invariant-loop-name : goal.invariant-loop-name
invariant-loop-name l = (n m : NodeValue) → slice_get l.table l.one.place ≡ Some n → slice_get l.table l.two.place ≡ Some m
    → All (λ (k : Name). LeadToSame l.table (find name_cmp k n.children) (find name_cmp k m.children)) (take l.name-index l.name-items)
