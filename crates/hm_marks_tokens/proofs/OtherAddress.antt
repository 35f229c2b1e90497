-- Attributes with another address, an attribute after the other.
use Rattle.std.proofs.Common.{◌≡◌, ℕ, ◌-◌, true, false, cond, List, ◌∷◌, ◌++◌, length, take, sym, ap, ◌∙◌, arith}
use Rattle.std.proofs.lemmas.List.{append_assoc, length-append, take_at}
use Rattle.hm_marks_tokens.specs.Attributes.{Attribute, spelled_attribute, spelled_attributes, IsFirst, is_address, with_value, with_first_address, attributes_of, with_address}
use Rattle.hm_marks_tokens.proofs.AllAttributes.{none_found, none_more, one_more, found_all}

-- all attributes and what stands behind them, with another address
abbrev spelled_with : List ℕ → List Attribute × List ℕ → List ℕ
spelled_with address r = spelled_attributes (with_first_address address r.0) ++ r.1

module _ (address bytes : List ℕ) (a : Attribute) (rest : List ℕ) (first : IsFirst bytes a rest) where
  -- an attribute that has no address stays before the others
  pub stays_before : is_address a ≡ false → with_address address bytes ≡ spelled_attribute a ++ with_address address rest
  stays_before other =
      ap (spelled_with address) (one_more bytes a rest first)
      ∙ ap (λ t. spelled_attributes (cond t (with_value a address ∷ (attributes_of rest).0) (a ∷ with_first_address address (attributes_of rest).0)) ++ (attributes_of rest).1) other
      ∙ append_assoc (spelled_attribute a) (spelled_attributes (with_first_address address (attributes_of rest).0)) (attributes_of rest).1

  -- where one has it, the others stay behind it
  pub changes_here : is_address a ≡ true → with_address address bytes ≡ spelled_attribute (with_value a address) ++ rest
  changes_here is =
      ap (spelled_with address) (one_more bytes a rest first)
      ∙ ap (λ t. spelled_attributes (cond t (with_value a address ∷ (attributes_of rest).0) (a ∷ with_first_address address (attributes_of rest).0)) ++ (attributes_of rest).1) is
      ∙ append_assoc (spelled_attribute (with_value a address)) (spelled_attributes (attributes_of rest).0) (attributes_of rest).1
      ∙ ap (λ l. spelled_attribute (with_value a address) ++ l) (sym (found_all rest).are)

  -- the bytes of an attribute are those that stand before what is behind it
  pub spelled_before : take (length bytes - length rest) bytes ≡ spelled_attribute a
  spelled_before =
      let all = ap length first.are ∙ length-append (spelled_attribute a) rest in
      ap (take (length bytes - length rest)) first.are ∙ take_at (spelled_attribute a) rest (length bytes - length rest) (omega (arith, all))

-- bytes that begin with no attribute stay
pub stays_behind : (address bytes : List ℕ) → ((a : Attribute) (rest : List ℕ) → IsFirst bytes a rest → ⊥) → with_address address bytes ≡ bytes
stays_behind address bytes none = ap (spelled_with address) (none_more bytes (none_found bytes none))
