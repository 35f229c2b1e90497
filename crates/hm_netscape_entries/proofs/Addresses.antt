-- Addresses are UTF-8, and the attribute of the bookmarks bar is found.
use Rattle.std.proofs.Common.{◌≡◌, ℕ, zero, suc, Bool, true, false, cond, ◌||◌, List, [], ◌∷◌, ◌++◌, length, Option, Some, None, sym, ap, ◌∙◌, subst, arith}
use Rattle.std.specs.Prelude.{IfSome}
use Rattle.std.specs.List.{list_any}
use Rattle.std.specs.Str.{IsUtf8}
use Rattle.std.proofs.lemmas.List.{append_assoc}
use Rattle.std.proofs.lemmas.Str.{IsUtf8-nil}
use Rattle.hm_marks_tokens.specs.Bytes.{quote, equals}
use Rattle.hm_marks_tokens.specs.Attributes.{Value, bare, quoted, run, Attribute, value_bytes, spelled_value, spelled_attribute, IsFirst, is_address, first_address, attribute_at, first_and, attributes_within, attributes_of, address_of}
use Rattle.hm_marks_tokens.proofs.AttributesRead.{found_first}
use Rattle.hm_marks_tokens.proofs.AllAttributes.{none_found, none_more, one_more}
use Rattle.hm_netscape_entries.specs.Toolbars.{is_toolbar_attribute, is_toolbar}
use Rattle.hm_netscape_entries.proofs.Cut.{parts, around, behind_ascii, white_seam}

-- ---- addresses

value_utf8 : (front : List ℕ) (v : Value) → IsUtf8 (front ++ spelled_value v) → IsUtf8 (value_bytes v)
value_utf8 front bare utf8 = IsUtf8-nil
value_utf8 front (quoted bytes) utf8 =
    let tail = (around front equals (quote ∷ (bytes ++ quote ∷ [])) (omega arith) utf8).1 in
    (around bytes quote [] (omega arith) (behind_ascii quote (bytes ++ quote ∷ []) (omega arith) tail)).0
value_utf8 front (run bytes) utf8 = (around front equals bytes (omega arith) utf8).1

within_utf8 : (n : ℕ) (bytes : List ℕ) → IsUtf8 bytes → IfSome (first_address (attributes_within n bytes).0) IsUtf8
within_utf8 zero bytes utf8 = tt
within_utf8 (suc n) bytes utf8 = go (attribute_at bytes) (found_first bytes) (λ l u. within_utf8 n l u)
  where
    go : (o : Option (Attribute × List ℕ)) → IfSome o (λ f. IsFirst bytes f.0 f.1)
        → ((l : List ℕ) → IsUtf8 l → IfSome (first_address (attributes_within n l).0) IsUtf8)
        → IfSome (first_address (first_and (attributes_within n) bytes o).0) IsUtf8
    go None h more = tt
    go (Some f) h more =
        let a = f.0 in
        let two = parts (spelled_attribute a) f.1 (white_seam f.1 h.ends) (subst IsUtf8 h.are utf8) in
        let value = value_utf8 (a.blank ++ a.name) a.value (subst IsUtf8 (sym (append_assoc a.blank a.name (spelled_value a.value))) two.0) in
        chosen (is_address a) a value (more f.1 two.1)
      where
        chosen : (t : Bool) (a : Attribute) → IsUtf8 (value_bytes a.value) → IfSome (first_address (attributes_within n f.1).0) IsUtf8
            → IfSome (cond t (Some (value_bytes a.value)) (first_address (attributes_within n f.1).0)) IsUtf8
        chosen true a value rest = value
        chosen false a value rest = rest

pub address_utf8 : (bytes : List ℕ) → IsUtf8 bytes → IfSome (address_of bytes) IsUtf8
unfolding attributes_of
address_utf8 bytes utf8 = within_utf8 (length bytes) bytes utf8

-- ---- the bookmarks bar

module _ (bytes : List ℕ) (a : Attribute) (rest : List ℕ) (first : IsFirst bytes a rest) where
  found_toolbar : is_toolbar bytes ≡ (is_toolbar_attribute a || is_toolbar rest)
  found_toolbar = ap (λ (r : List Attribute × List ℕ). list_any is_toolbar_attribute r.0) (one_more bytes a rest first)

  pub toolbar_here : is_toolbar_attribute a ≡ true → is_toolbar bytes ≡ true
  toolbar_here is = found_toolbar ∙ ap (λ t. t || is_toolbar rest) is

  pub toolbar_behind : is_toolbar_attribute a ≡ false → is_toolbar bytes ≡ is_toolbar rest
  toolbar_behind is = found_toolbar ∙ ap (λ t. t || is_toolbar rest) is

pub no_toolbar : (bytes : List ℕ) → ((a : Attribute) (rest : List ℕ) → IsFirst bytes a rest → ⊥) → is_toolbar bytes ≡ false
no_toolbar bytes none = ap (λ (r : List Attribute × List ℕ). list_any is_toolbar_attribute r.0) (none_more bytes (none_found bytes none))
