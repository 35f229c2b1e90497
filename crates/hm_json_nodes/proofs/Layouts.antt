-- Nodes of JSON are read as they are made.
use Rattle.std.proofs.Common.{◌≡◌, ℕ, List, [], Some, refl, ap, ◌∙◌}
use Rattle.std.specs.Prelude.{option_and_then, is_some, unwrap_or}
use Rattle.std.specs.Str.{bytes_eq}
use Rattle.std.proofs.lemmas.Bool.{and_parts, and_from}
use Rattle.hm_tree.specs.Cleaned.{cleaned}
use Rattle.hm_marks.specs.Layouts.{IsLayout}
use Rattle.hm_json_documents.proofs.Members.{put_twice}
use Rattle.serde_json.specs.Data.{string, object, Members, put}
use Rattle.serde_json.specs.Find.{as_str}
use Rattle.serde_json.proofs.Views.{get_member-put, get_member-put_other}
use Rattle.hm_json_nodes.specs.Nodes.{type_key, name_key, url_key, text_at, has_type, json, IsLink, IsFolder, AreAlike}

-- an address that is put is there, and other texts stay
address_there : (n : List ℕ) (ms : Members) → text_at url_key (object (put url_key (string n) ms)) ≡ Some n
address_there n ms = ap (option_and_then as_str) (get_member-put url_key (string n) ms)

other_text : (k n : List ℕ) (ms : Members) → (k ≡ url_key → ⊥) → text_at k (object (put url_key (string n) ms)) ≡ text_at k (object ms)
other_text k n ms other = ap (option_and_then as_str) (get_member-put_other k url_key (string n) ms other)

same_type : (n : List ℕ) (ms : Members) → text_at type_key (object (put url_key (string n) ms)) ≡ text_at type_key (object ms)
same_type n ms = other_text type_key n ms (λ e. let bad : ⊥ = cc in bad)

same_name : (n : List ℕ) (ms : Members) → text_at name_key (object (put url_key (string n) ms)) ≡ text_at name_key (object ms)
same_name n ms = other_text name_key n ms (λ e. let bad : ⊥ = cc in bad)

-- a link with another address is one
link_still : (n : List ℕ) (ms : Members) → IsLink ms → IsLink (put url_key (string n) ms)
link_still n ms is =
    let parts = and_parts (has_type url_key (object ms)) _ is in
    and_from _ _ (ap (λ o. bytes_eq (unwrap_or o []) url_key) (same_type n ms) ∙ parts.0)
    (and_from _ _ (ap is_some (same_name n ms) ∙ (and_parts (is_some (text_at name_key (object ms))) _ parts.1).0) (ap is_some (address_there n ms)))

pub json_layout : IsLayout json IsLink IsFolder AreAlike
json_layout = record {
  new_key = λ k n key address. key;
  new_address = λ k n key address. address;
  new_stands = λ k n key address. refl;
  same_key = λ ms n is address. ap (λ o. cleaned (unwrap_or o [])) (same_name n ms);
  other_address = λ ms n is address. ap (λ o. cleaned (unwrap_or o [])) (address_there n ms) ∙ address;
  still_stands = λ ms n is address. link_still n ms is;
  still_alike = λ ms n is address d. put_twice url_key d (string n) ms;
  new_folder_key = λ k key. key;
  new_folder_stands = λ k key. record { kind = refl; empty = refl };
}
