-- A text whose tree has names that aren't permitted.
use Rattle.std.proofs.Common.{◌≡◌, ℕ, List, Option, Some, subst}
use Rattle.hm_tree.specs.Nodes.{Tree}
use Rattle.hm_tree.specs.States.{Path, state}
use Rattle.hm_tree_text.specs.Files.{IsTreeText}
use Rattle.hm_schema.specs.Values.{SchemaValue}
use Rattle.hm_schema.specs.Membership.{IsAnswer}
use Rattle.hm_format.specs.Plain.{IsOutsideText}

pub outside_given : (s : SchemaValue) (bytes : List ℕ) (t : Tree) (found : Option Path) (p : Path) → found ≡ Some p → IsTreeText t bytes
    → IsAnswer s s.root (state (Some t)) found → IsOutsideText s bytes p
outside_given s bytes t found p e text h =
    record { tree = t; text = text; first = subst (λ (o : Option Path). IsAnswer s s.root (state (Some t)) o) e h }
