-- A field that is made for texts shows them, and a field that is to show its own texts stays.
use Rattle.std.proofs.Common.{◌≡◌, ℕ, suc, ◌≤◌, ◌+◌, Bool, true, false, not, cond, List, [], ◌∷◌, length, get_or, map, filter, slice_get, refl, sym, ap, ◌∙◌, subst, arith}
use Rattle.std.specs.Prelude.{All, IsUtf8}
use Rattle.std.specs.FinSet.{FinSet, contains, len, insert, empty, from_list, contains-empty, len-insert, len-empty}
use Rattle.std.proofs.lemmas.Option.{slice_get-get_or}
use Rattle.std.proofs.lemmas.List.Elements.{All-nil, All-cons, All-append, All-filter}
use Rattle.std.proofs.lemmas.Str.{IsUtf8-nil}
use Rattle.hm_tree.specs.Names.{Name, name_cmp}
use Rattle.hm_tree.specs.Classes.{IsFilled}
use Rattle.hm_tree.specs.Cleaned.{cleaned}
use Rattle.hm_tree.specs.Sets.{ascending}
use Rattle.hm_tree.proofs.Sorted.{name_total}
use Rattle.hm_tree.proofs.Ascending.{set_of-ascending, contains-ascending}
use Rattle.hm_tree.proofs.Classed.{cleaned-cleaned, filled_text, text_filled}
use Rattle.hm_tree.proofs.CleanText.{cleaned_utf8}
use Rattle.hm_schema.proofs.NamesOf.{all_len}
use Rattle.hm_csv_fields.specs.Pieces.{pieces}
use Rattle.hm_csv_fields.specs.Texts.{is_shown, shown, stays, new_pieces}
use Rattle.hm_tree.specs.Sets.{new_names}
use Rattle.hm_csv_fields.proofs.Laws.{rewritten_texts, pieces_utf8, written_utf8}
use Rattle.hm_book_cards.specs.Cards.{Suits, IsSound}
use Rattle.hm_csv_columns.specs.Fields.{pieces_of, texts_shown, same_texts, first_of, made, field_for}
use Rattle.hm_csv_columns.proofs.SameNames.{equal, itself}
use Rattle.hm_tree.proofs.NameSets.{of_list}

-- ---- sets of one text

same_sets : (one other : FinSet name_cmp) → same_texts one other ≡ true → one ≡ other
same_sets one other e =
    sym (set_of-ascending one) ∙ ap (λ ns. from_list {R = name_cmp} ns) (equal (ascending one) (ascending other) e) ∙ set_of-ascending other

-- ---- what is made shows the texts

module _ (set : FinSet name_cmp) where
  one_made : Suits false set → (ns : List Name) → ascending set ≡ ns → texts_shown false (first_of ns) ≡ set
  unfolding cleaned
  one_made suits [] e = ap (λ ns. from_list {R = name_cmp} ns) (sym e) ∙ set_of-ascending set
  one_made suits (t ∷ []) e =
      let filled : IsFilled t = suits.filled t (contains-ascending set 0 t (ap (λ l. slice_get l 0) e)) in
      ap (λ b. from_list {R = name_cmp} (map cleaned (cond b (t ∷ []) []))) (text_filled t filled)
      ∙ ap (λ (k : Name). from_list {R = name_cmp} (k ∷ [])) filled.clean
      ∙ ap (λ ns. from_list {R = name_cmp} ns) (sym e) ∙ set_of-ascending set
  one_made suits (t ∷ u ∷ ns) e =
      let few = suits.few refl in
      let many = all_len set ∙ ap length e in
      absurd (omega (arith, few, many))

pub field_shows : (many : Bool) (field : List ℕ) (set : FinSet name_cmp) → Suits many set → texts_shown many (field_for many field set) ≡ set
field_shows many field set suits = go (same_texts (texts_shown many field) set) refl
  where
    made_shows : (many : Bool) → Suits many set → texts_shown many (made many field set) ≡ set
    made_shows true suits = rewritten_texts field set suits.filled
    made_shows false suits = one_made set suits (ascending set) refl

    go : (same : Bool) → same_texts (texts_shown many field) set ≡ same → texts_shown many (cond same field (made many field set)) ≡ set
    go true e = same_sets (texts_shown many field) set e
    go false e = made_shows many suits

pub field_stays : (many : Bool) (field : List ℕ) → field_for many field (texts_shown many field) ≡ field
field_stays many field =
    ap (λ b. cond b field (made many field (texts_shown many field))) (itself (ascending (texts_shown many field)))

-- ---- texts are UTF-8, and so is what is made

all_map : {X Y : Type 0} (P : Y → Type 0) (f : X → Y) (xs : List X) → All (λ x. P (f x)) xs → All P (map f xs)
all_map P f [] h = All-nil P
all_map P f (x ∷ xs) h = All-cons P (f x) (map f xs) (h 0 x (omega arith)) (all_map P f xs (λ k d lt. h (suc k) d (omega (arith, lt))))

pieces_text : (many : Bool) (field : List ℕ) → IsUtf8 field → All IsUtf8 (pieces_of many field)
pieces_text true field text = pieces_utf8 field text
pieces_text false field text = All-cons IsUtf8 field [] text (All-nil IsUtf8)

-- the texts of a field that is UTF-8
pub texts_sound : (many : Bool) (field : List ℕ) → IsUtf8 field → IsSound (texts_shown many field)
texts_sound many field text =
    of_list IsUtf8 (shown (pieces_of many field))
    (all_map IsUtf8 cleaned (filter is_shown (pieces_of many field))
    (All-filter is_shown (λ (p : List ℕ). IsUtf8 (cleaned p)) (pieces_of many field) (λ k d lt. cleaned_utf8 _ (pieces_text many field text k d lt))))

-- a text that is shown isn't of spaces alone
shown_filled : (ps : List (List ℕ)) → All IsFilled (shown ps)
shown_filled [] = All-nil IsFilled
shown_filled (p ∷ ps) = go (is_shown p) refl (shown_filled ps)
  where
    go : (b : Bool) → is_shown p ≡ b → All IsFilled (map cleaned (filter is_shown ps)) → All IsFilled (map cleaned (cond b (p ∷ filter is_shown ps) (filter is_shown ps)))
    go true e rest = All-cons IsFilled (cleaned p) (map cleaned (filter is_shown ps)) (filled_text (cleaned p) (cleaned-cleaned p) e) rest
    go false e rest = rest

few_shown : (field : List ℕ) → len (texts_shown false field) ≤ 1
few_shown field = go (is_shown field)
  where
    go : (b : Bool) → len (from_list {R = name_cmp} (map cleaned (cond b (field ∷ []) []))) ≤ 1
    go true =
        let one = len-insert name_total (empty {R = name_cmp}) (cleaned field) in
        let none = contains-empty name_cmp (cleaned field) in
        let zero_len = len-empty name_cmp in
        let is : len (insert (empty {R = name_cmp}) (cleaned field)) ≡ 0 + 1 = one ∙ (λ i. cond (none i) (zero_len i) (zero_len i + 1)) in
        omega (arith, is)
    go false = let none = len-empty name_cmp in omega (arith, none)

pub texts_suit : (many : Bool) (field : List ℕ) → IsUtf8 field → Suits many (texts_shown many field)
texts_suit many field text = record {
  sound = texts_sound many field text;
  filled = of_list IsFilled (shown (pieces_of many field)) (shown_filled (pieces_of many field));
  few = λ one. subst (λ b. len (texts_shown b field) ≤ 1) (sym one) (few_shown field);
}

set_text : (set : FinSet name_cmp) → IsSound set → All IsUtf8 (ascending set)
set_text set sound i k lt = sound (get_or (ascending set) i k) (contains-ascending set i (get_or (ascending set) i k) (slice_get-get_or (ascending set) i k lt))

first_text : (names : List Name) → All IsUtf8 names → IsUtf8 (first_of names)
first_text [] all = IsUtf8-nil
first_text (n ∷ ns) all = all 0 n (omega arith)

pub field_text : (many : Bool) (field : List ℕ) (set : FinSet name_cmp) → IsUtf8 field → IsSound set → IsUtf8 (field_for many field set)
field_text many field set text sound = go (same_texts (texts_shown many field) set) many
  where
    go : (same many : Bool) → IsUtf8 (cond same field (made many field set))
    go true many = text
    go false false = first_text (ascending set) (set_text set sound)
    go false true =
        written_utf8 (new_pieces field set)
        (All-append IsUtf8 (filter (stays set) (pieces field)) (new_names (texts_shown true field) set)
        (All-filter (stays set) IsUtf8 (pieces field) (pieces_utf8 field text))
        (All-filter (λ k. not (contains (texts_shown true field) k)) IsUtf8 (ascending set) (set_text set sound)))
