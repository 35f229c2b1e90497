-- The folded names in a set of texts, and a text that is put among them.
use Rattle.std.proofs.Common.{◌≡◌, ℕ, ◌<◌, Bool, true, false, cond, not, ◌||◌, List, [], ◌∷◌, ◌++◌, length, get_or, slice_get, Some, String, string_bytes, string_eq, bytes_eq, refl, sym, ap, subst, ◌∙◌, arith}
use Rattle.std.specs.declared.alloc.Global.{Global}
use Rattle.std.specs.List.{list_any}
use Rattle.std.specs.List.Sorted.{IsStrictlySortedBy}
use Rattle.std.specs.Cmp.Lexicographic.{bytes_decides}
use Rattle.std.proofs.lemmas.Bool.{cond-true, cond-false, not-true, not-false}
use Rattle.std.proofs.lemmas.List.{map-append, get_or-map, length-map}
use Rattle.std.proofs.lemmas.Option.{slice_get_within, get_or_from_slice_get}
use Rattle.hm_tree.specs.Names.{Name, name_cmp}
use Rattle.hm_alike.specs.Alike.{folded}
use Rattle.hm_alike.specs.Groups.{AreGroups, bytes_of, with_name}
use Rattle.hm_alike.proofs.Grouped.{grouped_there, grouped_new}

-- a text with the same bytes is among the texts
any_bytes : (text : String Global) (keys : List (String Global)) → list_any (bytes_eq (string_bytes text)) (bytes_of keys) ≡ list_any (string_eq text) keys
any_bytes text [] = refl
any_bytes text (k ∷ keys) = ap (λ b. string_eq text k || b) (any_bytes text keys)

-- what a call says of a text that was put into a set
pub record IsPut (old new : List (String Global)) (text : String Global) (place : ℕ) (is_new : Bool) : Type 0 where
  pub added : is_new ≡ not (list_any (string_eq text) old)
  pub keys : new ≡ cond (list_any (string_eq text) old) old (old ++ text ∷ [])
  pub stored : (k : String Global) × (slice_get new place ≡ Some k) × (string_eq text k ≡ true)

module _ {old new : List (String Global)} {text : String Global} {place : ℕ} where
  pub there_keys : IsPut old new text place false → new ≡ old
  there_keys put = put.keys ∙ cond-true (list_any (string_eq text) old) _ _ (not-false _ (sym put.added))

  new_keys : IsPut old new text place true → (new ≡ old ++ text ∷ []) × (list_any (string_eq text) old ≡ false)
  new_keys put = let none = not-true _ (sym put.added) in (put.keys ∙ cond-false (list_any (string_eq text) old) _ _ none, none)

  pub there_place : IsPut old new text place false → (place < length old) × (get_or (bytes_of old) place [] ≡ string_bytes text)
  there_place put =
      let key = put.stored.0 in
      let at : slice_get old place ≡ Some key = subst (λ ks. slice_get ks place ≡ Some key) (there_keys put) put.stored.1 in
      let lt = slice_get_within old place key at in
      let is : string_bytes text ≡ string_bytes key = (bytes_decides (string_bytes text) (string_bytes key)).0 put.stored.2 in
      (lt, get_or-map string_bytes old place key [] lt ∙ ap string_bytes (get_or_from_slice_get old place key key at) ∙ sym is)

  -- the groups with a name whose folded name is that text
  pub add_there : (names : List Name) (n : Name) (groups groups' : List (List Name)) → IsPut old new text place false → string_bytes text ≡ folded n
      → groups' ≡ with_name groups place n → AreGroups names (bytes_of old) groups → AreGroups (names ++ n ∷ []) (bytes_of new) groups'
  add_there names n groups groups' put is e g =
      let at = there_place put in
      let more = grouped_there names n (bytes_of old) groups place g (omega (arith, at.0, length-map old string_bytes)) (at.1 ∙ is) in
      subst (λ gs. AreGroups (names ++ n ∷ []) (bytes_of new) gs) (sym e)
      (subst (λ ks. AreGroups (names ++ n ∷ []) (bytes_of ks) (with_name groups place n)) (sym (there_keys put)) more)

  pub add_new : (names : List Name) (n : Name) (groups groups' : List (List Name)) → IsPut old new text place true → string_bytes text ≡ folded n
      → groups' ≡ groups ++ (n ∷ []) ∷ [] → IsStrictlySortedBy name_cmp (names ++ n ∷ []) → AreGroups names (bytes_of old) groups
      → AreGroups (names ++ n ∷ []) (bytes_of new) groups'
  add_new names n groups groups' put is e rise g =
      let keys = new_keys put in
      let texts : bytes_of new ≡ bytes_of old ++ folded n ∷ [] =
      ap bytes_of keys.0 ∙ map-append string_bytes old (text ∷ []) ∙ ap (λ t. bytes_of old ++ t ∷ []) is in
      let none : list_any (bytes_eq (folded n)) (bytes_of old) ≡ false =
      ap (λ t. list_any (bytes_eq t) (bytes_of old)) (sym is) ∙ any_bytes text old ∙ keys.1 in
      subst (λ gs. AreGroups (names ++ n ∷ []) (bytes_of new) gs) (sym e)
      (subst (λ ts. AreGroups (names ++ n ∷ []) ts (groups ++ (n ∷ []) ∷ [])) (sym texts) (grouped_new names n (bytes_of old) groups g none rise))
