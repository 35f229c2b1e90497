-- Links and folders are read as they are made.
use Rattle.std.proofs.Common.{◌≡◌, ℕ, Bool, true, false, cond, List, [], ◌∷◌, ◌++◌, Some, codes, refl, sym, ap, ◌∙◌, subst}
use Rattle.std.specs.Option.{is_some, unwrap_or}
use Rattle.std.specs.List.{list_any}
use Rattle.std.proofs.lemmas.Bool.{and_parts, and_from}
use Rattle.std.proofs.lemmas.List.{append-nil}
use Rattle.hm_tree.specs.Names.{Name}
use Rattle.hm_tree.specs.Classes.{IsClean}
use Rattle.hm_tree.specs.Cleaned.{cleaned}
use Rattle.hm_marks.specs.Layouts.{IsLayout}
use Rattle.hm_marks_tokens.specs.Bytes.{has_quote, is_white}
use Rattle.hm_marks_tokens.specs.Entities.{escaped}
use Rattle.hm_marks_tokens.specs.Attributes.{Attribute, quoted, value_bytes, spelled_attributes, IsAttribute, AreAttributes, is_address, first_address, with_value, with_first_address, attributes_of, are_attributes, address_of, are_of_link, with_address}
use Rattle.hm_marks_tokens.specs.Grammar.{Entry}
use Rattle.hm_marks_tokens.proofs.Escaped.{escaped_read, escaped_plain}
use Rattle.hm_marks_tokens.proofs.AllAttributes.{are_found, found_attributes}
use Rattle.hm_marks_tokens.proofs.Readdressed.{attributes_again, address_again, still_attributes}
use Rattle.hm_netscape_entries.specs.Entries.{text_of, address_in, new_attributes, new_entry, html, IsEntry, IsLinkEntry, AreReaddressed, IsSameLink}

-- a clean name is read as it was
text_again : (k : Name) → IsClean k → text_of (escaped k) ≡ k
text_again k clean = ap cleaned (escaped_read k) ∙ clean

-- ---- a new link

href : Name → Attribute
href n = record { blank = 32 ∷ []; name = codes "HREF"; value = quoted (escaped n) }

href_stands : (n : Name) → IsAttribute (href n)
unfolding href
href_stands n =
    record {
      apart = λ e. let bad : ⊥ = cc in bad;
      white = refl;
      named = λ e. let bad : ⊥ = cc in bad;
      name = refl;
      value = (escaped_plain n).quote;
    }

new_are : (n : Name) → AreAttributes (new_attributes n) (href n ∷ []) []
unfolding href
new_are n =
    record {
      are = ap (λ l. codes " HREF=\"" ++ l) (sym (append-nil (escaped n ++ codes "\""))) ∙ sym (append-nil (spelled_attributes (href n ∷ [])));
      each = (href_stands n, tt);
      white = refl;
    }

new_found : (n : Name) → attributes_of (new_attributes n) ≡ (href n ∷ [], [])
new_found n = are_found (new_attributes n) (href n ∷ []) [] (new_are n)

new_address : (n : Name) → address_of (new_attributes n) ≡ Some (escaped n)
unfolding href
new_address n = ap (λ (r : List Attribute × List ℕ). first_address r.0) (new_found n)

address_read : (attributes : List ℕ) (n : Name) → IsClean n → address_of attributes ≡ Some (escaped n) → address_in attributes ≡ n
address_read attributes n clean is = ap (λ o. text_of (unwrap_or o [])) is ∙ text_again n clean

no_attributes : are_attributes [] ≡ true
unfolding attributes_of
no_attributes = refl

-- ---- another address

-- attributes of which one is an address, up to the first one and behind it
record IsSplit (xs : List Attribute) (value : List ℕ) : Type 0 where
  before : List Attribute
  first : Attribute
  behind : List Attribute
  others : list_any is_address before ≡ false
  is : is_address first ≡ true
  were : xs ≡ before ++ first ∷ behind
  are : with_first_address value xs ≡ before ++ with_value first value ∷ behind

split : (xs : List Attribute) (value : List ℕ) → is_some (first_address xs) ≡ true → IsSplit xs value
split [] value some = let bad : ⊥ = cc in absurd bad
split (a ∷ xs) value some = go (is_address a) refl some (split xs value)
  where
    go : (t : Bool) → is_address a ≡ t → is_some (cond t (Some (value_bytes a.value)) (first_address xs)) ≡ true
        → (is_some (first_address xs) ≡ true → IsSplit xs value) → IsSplit (a ∷ xs) value
    go true e some more =
        record {
          before = [];
          first = a;
          behind = xs;
          others = refl;
          is = e;
          were = refl;
          are = ap (λ t. cond t (with_value a value ∷ xs) (a ∷ with_first_address value xs)) e;
        }
    go false e some more =
        let r = more some in
        record {
          before = a ∷ r.before;
          first = r.first;
          behind = r.behind;
          others = rw e r.others;
          is = r.is;
          were = ap (λ l. a ∷ l) r.were;
          are = ap (λ t. cond t (with_value a value ∷ xs) (a ∷ with_first_address value xs)) e ∙ ap (λ l. a ∷ l) r.are;
        }

are_readdressed : (value bytes : List ℕ) → has_quote value ≡ false → are_of_link bytes ≡ true → AreReaddressed bytes (with_address value bytes)
are_readdressed value bytes none link =
    let parts = and_parts (are_attributes bytes) (is_some (address_of bytes)) link in
    let s = split (attributes_of bytes).0 value parts.1 in
    record {
      before = s.before;
      first = s.first;
      behind = s.behind;
      ending = (attributes_of bytes).1;
      value = value;
      others = s.others;
      is = s.is;
      were = subst (λ xs. AreAttributes bytes xs (attributes_of bytes).1) s.were (found_attributes bytes parts.0);
      are = subst (λ xs. AreAttributes (with_address value bytes) xs (attributes_of bytes).1) s.are (attributes_again value bytes none parts.0);
    }

-- ---- all

of_link : (e : Entry) → IsLinkEntry e → are_of_link e.attributes ≡ true
of_link e is = and_from (are_attributes e.attributes) (is_some (address_of e.attributes)) is.entry.attributes is.address

entry_stands : (attributes : List ℕ) (k : Name) → are_attributes attributes ≡ true → IsEntry (new_entry attributes k)
entry_stands attributes k are = record { attributes = are; title = (escaped_plain k).less; note = tt }

pub html_layout : IsLayout html IsLinkEntry IsEntry IsSameLink
html_layout = record {
  new_key = λ k n ck cn. text_again k ck;
  new_address = λ k n ck cn. address_read (new_attributes n) n cn (new_address n);
  new_stands = λ k n ck cn.
      record {
        entry = entry_stands (new_attributes n) k (ap (λ (r : List Attribute × List ℕ). is_white r.1) (new_found n));
        address = ap is_some (new_address n);
      };
  same_key = λ e n is cn. refl;
  other_address = λ e n is cn.
      address_read (with_address (escaped n) e.attributes) n cn (address_again (escaped n) e.attributes ((escaped_plain n).quote) (of_link e is));
  still_stands = λ e n is cn.
      record {
        entry = record {
          attributes = still_attributes (escaped n) e.attributes ((escaped_plain n).quote) is.entry.attributes;
          title = is.entry.title;
          note = is.entry.note;
        };
        address = ap is_some (address_again (escaped n) e.attributes ((escaped_plain n).quote) (of_link e is));
      };
  still_alike = λ e n is cn.
      record { attributes = are_readdressed (escaped n) e.attributes ((escaped_plain n).quote) (of_link e is); title = refl; note = refl };
  new_folder_key = λ k ck. text_again k ck;
  new_folder_stands = λ k ck. entry_stands [] k no_attributes;
}
