-- Another address is found in the place of the first one.
use Rattle.std.proofs.Common.{◌≡◌, ℕ, Bool, true, false, cond, List, [], ◌∷◌, Some, refl, ap, ◌∙◌}
use Rattle.std.specs.Prelude.{is_some}
use Rattle.std.specs.List.{AllByRecursion}
use Rattle.std.proofs.lemmas.Bool.{and_parts, and_from}
use Rattle.hm_marks_tokens.specs.Bytes.{has_quote, is_white}
use Rattle.hm_marks_tokens.specs.Attributes.{Attribute, value_bytes, IsAttribute, AreAttributes, is_address, first_address, with_value, with_first_address, attributes_of, are_attributes, address_of, are_of_link, with_address}
use Rattle.hm_marks_tokens.proofs.AllAttributes.{are_found, found_attributes}

pub first_again : (bytes : List ℕ) (xs : List Attribute) → is_some (first_address xs) ≡ true → first_address (with_first_address bytes xs) ≡ Some bytes
first_again bytes [] some = let bad : ⊥ = cc in absurd bad
first_again bytes (a ∷ xs) some = go (is_address a) refl some (first_again bytes xs)
  where
    go : (t : Bool) → is_address a ≡ t → is_some (cond t (Some (value_bytes a.value)) (first_address xs)) ≡ true
        → (is_some (first_address xs) ≡ true → first_address (with_first_address bytes xs) ≡ Some bytes)
        → first_address (cond t (with_value a bytes ∷ xs) (a ∷ with_first_address bytes xs)) ≡ Some bytes
    go true e h more = rw e refl
    go false e h more = rw e (more h)

each_again : (bytes : List ℕ) (xs : List Attribute) → has_quote bytes ≡ false → AllByRecursion IsAttribute xs
    → AllByRecursion IsAttribute (with_first_address bytes xs)
each_again bytes [] none each = tt
each_again bytes (a ∷ xs) none each = go (is_address a) (each_again bytes xs none each.1)
  where
    go : (t : Bool) → AllByRecursion IsAttribute (with_first_address bytes xs)
        → AllByRecursion IsAttribute (cond t (with_value a bytes ∷ xs) (a ∷ with_first_address bytes xs))
    go true more = (record { apart = each.0.apart; white = each.0.white; named = each.0.named; name = each.0.name; value = none }, each.1)
    go false more = (each.0, more)

module _ (address bytes : List ℕ) (none : has_quote address ≡ false) where
  -- the attributes are those, with the other address
  pub attributes_again : are_attributes bytes ≡ true
      → AreAttributes (with_address address bytes) (with_first_address address (attributes_of bytes).0) (attributes_of bytes).1
  attributes_again are =
      let old = found_attributes bytes are in
      record { are = refl; each = each_again address (attributes_of bytes).0 none old.each; white = old.white }

  found_again : are_attributes bytes ≡ true
      → attributes_of (with_address address bytes) ≡ (with_first_address address (attributes_of bytes).0, (attributes_of bytes).1)
  found_again are =
      are_found (with_address address bytes) (with_first_address address (attributes_of bytes).0) (attributes_of bytes).1 (attributes_again are)

  pub address_again : are_of_link bytes ≡ true → address_of (with_address address bytes) ≡ Some address
  address_again link =
      let parts = and_parts (are_attributes bytes) (is_some (address_of bytes)) link in
      ap (λ (r : List Attribute × List ℕ). first_address r.0) (found_again parts.0) ∙ first_again address (attributes_of bytes).0 parts.1

  pub still_attributes : are_attributes bytes ≡ true → are_attributes (with_address address bytes) ≡ true
  still_attributes are = ap (λ (r : List Attribute × List ℕ). is_white r.1) (found_again are) ∙ are

  pub still_of_link : are_of_link bytes ≡ true → are_of_link (with_address address bytes) ≡ true
  still_of_link link =
      let parts = and_parts (are_attributes bytes) (is_some (address_of bytes)) link in
      and_from (are_attributes (with_address address bytes)) (is_some (address_of (with_address address bytes)))
      (still_attributes parts.0) (ap is_some (address_again link))
