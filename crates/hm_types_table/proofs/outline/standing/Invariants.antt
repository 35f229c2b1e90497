use Rattle.std.proofs.Common.{◌≡◌, map, take}
use Rattle.std.specs.List.{list_any}
use Rattle.hm_schema.specs.Tidied.{has_name}
use Rattle.hm_types_table.proofs.outline.standing.Given as goal

abbrev pub invariant-loop-name : goal.invariant-loop-name
invariant-loop-name l = l.standing.items ≡ map (λ k. list_any (λ a. has_name a k) l.kind.shapes.items) (take l.name-index l.name-items)
