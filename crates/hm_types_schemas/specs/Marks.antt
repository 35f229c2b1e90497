-- Numbers of classes, as a list that has them at the places of the classes.
use Rattle.std.specs.Prelude.{ℕ, List, Option, slice_get, slice_index_or, option_and_then}
use Rattle.std.specs.Option.{unwrap_or}
use Rattle.hm_schema.specs.declared.node.NodeId.{NodeId}

abbrev pub Marks : Type 0
Marks = List (Option ℕ)

-- the number of a class, where it has one
abbrev pub mark_at : Marks → ℕ → Option ℕ
mark_at marks c = option_and_then (λ m. m) (slice_get marks c)

-- the class of a node
abbrev pub class_of : List ℕ → NodeId → ℕ
class_of classes j = slice_index_or classes j.place 0

-- the number of the class of a node
abbrev pub number_of : List ℕ → Marks → NodeId → NodeId
number_of classes marks j = record { place = unwrap_or (mark_at marks (class_of classes j)) 0 }
