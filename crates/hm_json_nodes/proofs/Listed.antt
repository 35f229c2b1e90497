-- The nodes below a folder are those of its children.
use Rattle.std.proofs.Common.{◌≡◌, true, [], Option, Some, None, Ordering, Less, Equal, Greater, nat_cmp, refl, ap, ◌∙◌}
use Rattle.std.specs.Prelude.{unwrap_or, option_map, option_and_then}
use Rattle.std.specs.Ordering.{match_ordering}
use Rattle.std.specs.Cmp.Lexicographic.{slice_cmp}
use Rattle.serde_json.specs.Data.{Data, null, boolean, number, string, array, object, Items, Members, no_members, member}
use Rattle.serde_json.specs.Find.{get_member, as_array}
use Rattle.hm_json_nodes.specs.Nodes.{children_key, children_of, is_folder}
use Rattle.hm_json_nodes.specs.Numbers.{listed, below, items_listed, children_listed}

found_listed : (ms : Members) → children_listed ms ≡ unwrap_or (option_map items_listed (get_member children_key ms)) []
found_listed no_members = refl
found_listed (member k d ms) = go (slice_cmp nat_cmp children_key k) (found_listed ms)
  where
    go : (o : Ordering) → children_listed ms ≡ unwrap_or (option_map items_listed (get_member children_key ms)) []
        → match_ordering o (children_listed ms) (items_listed d) (children_listed ms)
        ≡ unwrap_or (option_map items_listed (match_ordering o (get_member children_key ms) (Some d) (get_member children_key ms))) []
    go Less h = h
    go Equal h = refl
    go Greater h = h

array_listed : (o : Option Data) (ds : Items) → option_and_then as_array o ≡ Some ds → unwrap_or (option_map items_listed o) [] ≡ listed ds
array_listed None ds e = absurd cc
array_listed (Some null) ds e = absurd cc
array_listed (Some (boolean b)) ds e = absurd cc
array_listed (Some (number n)) ds e = absurd cc
array_listed (Some (string s)) ds e = absurd cc
array_listed (Some (array es)) ds e = ap (λ o. listed (unwrap_or o es)) e
array_listed (Some (object ms)) ds e = absurd cc

pub children_are_listed : (ms : Members) (ds : Items) → children_of (object ms) ≡ Some ds → children_listed ms ≡ listed ds
children_are_listed ms ds e = found_listed ms ∙ array_listed (get_member children_key ms) ds e

pub below_folder : (ms : Members) (ds : Items) → is_folder (object ms) ≡ true → children_of (object ms) ≡ Some ds → below (object ms) ≡ listed ds
below_folder ms ds kind e = rw kind (children_are_listed ms ds e)
