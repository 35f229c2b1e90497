-- Attributes with another address are UTF-8, where they were before and the address is.
use Rattle.std.proofs.Common.{ℕ, zero, suc, Bool, true, false, cond, List, [], ◌∷◌, ◌++◌, length, Option, Some, None, refl, sym, subst, arith}
use Rattle.std.specs.Prelude.{IfSome}
use Rattle.std.specs.Str.{IsUtf8}
use Rattle.std.proofs.lemmas.List.{append_assoc}
use Rattle.std.proofs.lemmas.Str.{IsUtf8-append}
use Rattle.hm_marks_schema.proofs.Utf8Keys.{word_utf8}
use Rattle.hm_marks_tokens.specs.Bytes.{quote, equals}
use Rattle.hm_marks_tokens.specs.Attributes.{Value, bare, quoted, run, Attribute, spelled_value, spelled_attribute, spelled_attributes, IsFirst, is_address, with_value, with_first_address, attribute_at, first_and, attributes_within, attributes_of, with_address}
use Rattle.hm_marks_tokens.proofs.AttributesRead.{found_first}
use Rattle.hm_netscape_entries.proofs.Cut.{IsSeam, AreUtf8, parts, white_seam}

-- the bytes of attributes, and what stands behind them
abbrev all_bytes : List Attribute → List ℕ → List ℕ
all_bytes xs ending = spelled_attributes xs ++ ending

value_seam : (v : Value) → IsSeam (spelled_value v)
unfolding IsSeam
value_seam bare = tt
value_seam (quoted bytes) = omega arith
value_seam (run bytes) = omega arith

module _ (address : List ℕ) (utf8 : IsUtf8 address) where
  -- one attribute
  one_text : (a : Attribute) → IsUtf8 (spelled_attribute a) → IsUtf8 (spelled_attribute (with_value a address))
  one_text a is =
      let front = a.blank ++ a.name in
      let named = (parts front (spelled_value a.value) (value_seam a.value) (subst IsUtf8 (sym (append_assoc a.blank a.name (spelled_value a.value))) is)).0 in
      let closing = IsUtf8-append address (quote ∷ []) utf8 (word_utf8 (quote ∷ []) refl) in
      let value = IsUtf8-append (equals ∷ quote ∷ []) (address ++ quote ∷ []) (word_utf8 (equals ∷ quote ∷ []) refl) closing in
      subst IsUtf8 (append_assoc a.blank a.name (equals ∷ quote ∷ (address ++ quote ∷ []))) (IsUtf8-append front (equals ∷ quote ∷ (address ++ quote ∷ [])) named value)

  -- an attribute in front of others
  in_front : (a : Attribute) (xs : List Attribute) (ending : List ℕ) → IsUtf8 (spelled_attribute a) → IsUtf8 (all_bytes xs ending) → IsUtf8 (all_bytes (a ∷ xs) ending)
  in_front a xs ending one more =
      subst IsUtf8 (sym (append_assoc (spelled_attribute a) (spelled_attributes xs) ending)) (IsUtf8-append (spelled_attribute a) (all_bytes xs ending) one more)

  -- as they were, and with the other address
  abbrev BothTexts : List Attribute × List ℕ → Type 0
  BothTexts r = AreUtf8 (all_bytes r.0 r.1) (all_bytes (with_first_address address r.0) r.1)

  within_texts : (n : ℕ) (bytes : List ℕ) → IsUtf8 bytes → BothTexts (attributes_within n bytes)
  within_texts zero bytes is = (is, is)
  within_texts (suc n) bytes is = go (attribute_at bytes) (found_first bytes) (λ l u. within_texts n l u)
    where
      go : (o : Option (Attribute × List ℕ)) → IfSome o (λ f. IsFirst bytes f.0 f.1) → ((l : List ℕ) → IsUtf8 l → BothTexts (attributes_within n l))
          → BothTexts (first_and (attributes_within n) bytes o)
      go None h more = (is, is)
      go (Some f) h more =
          let a = f.0 in
          let xs = (attributes_within n f.1).0 in
          let ending = (attributes_within n f.1).1 in
          let two = parts (spelled_attribute a) f.1 (white_seam f.1 h.ends) (subst IsUtf8 h.are is) in
          let rest = more f.1 two.1 in
          (in_front a xs ending two.0 rest.0, chosen (is_address a) a xs ending two.0 rest)
        where
          chosen : (t : Bool) (a : Attribute) (xs : List Attribute) (ending : List ℕ) → IsUtf8 (spelled_attribute a) → BothTexts (xs, ending)
              → IsUtf8 (all_bytes (cond t (with_value a address ∷ xs) (a ∷ with_first_address address xs)) ending)
          chosen true a xs ending one rest = in_front (with_value a address) xs ending (one_text a one) rest.0
          chosen false a xs ending one rest = in_front a (with_first_address address xs) ending one rest.1

  pub with_address_text : (bytes : List ℕ) → IsUtf8 bytes → IsUtf8 (with_address address bytes)
  unfolding attributes_of
  with_address_text bytes is = (within_texts (length bytes) bytes is).1
