-- What a folder's members are without its children.
use Rattle.std.proofs.Common.{◌≡◌, ℕ, List, [], Some, ap}
use Rattle.std.specs.Prelude.{option_and_then, unwrap_or}
use Rattle.hm_tree.specs.Cleaned.{cleaned}
use Rattle.serde_json.specs.Data.{array, object, Items, Members}
use Rattle.serde_json.specs.Find.{as_str, as_array}
use Rattle.serde_json.proofs.Views.{get_member-put, get_member-put_other}
use Rattle.hm_json_nodes.specs.Nodes.{children_key, text_at, children_of, filled, name_at, name_key}

-- a text elsewhere stays
pub text_filled : (k : List ℕ) (ds : Items) (ms : Members) → (k ≡ children_key → ⊥) → text_at k (object (filled ds ms)) ≡ text_at k (object ms)
text_filled k ds ms other = ap (option_and_then as_str) (get_member-put_other k children_key (array ds) ms other)

pub name_filled : (ds : Items) (ms : Members) → name_at name_key (filled ds ms) ≡ name_at name_key ms
name_filled ds ms = ap (λ o. cleaned (unwrap_or o [])) (text_filled name_key ds ms (λ e. let bad : ⊥ = cc in bad))

pub children_filled : (ds : Items) (ms : Members) → children_of (object (filled ds ms)) ≡ Some ds
children_filled ds ms = ap (option_and_then as_array) (get_member-put children_key (array ds) ms)
