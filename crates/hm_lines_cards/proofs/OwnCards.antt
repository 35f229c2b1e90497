-- What lines show is a card, and lines that are to show their own card stay.
use Rattle.std.proofs.Common.{◌≡◌, ℕ, zero, suc, ◌+◌, ◌≤◌, Bool, true, false, cond, List, [], ◌∷◌, length, drop, slice_get, Option, Some, None, refl, ap, ◌∙◌, subst, arith}
use Rattle.std.specs.Prelude.{All, IsUtf8}
use Rattle.std.specs.Option.{unwrap_or}
use Rattle.std.specs.List.{cons_option}
use Rattle.std.specs.FinSet.{contains, len, insert, empty, from_list, contains-empty, len-insert, len-empty}
use Rattle.std.proofs.lemmas.Option.{none-some, same_Some}
use Rattle.std.proofs.lemmas.List.Elements.{All-nil, All-cons, All-head, All-tail}
use Rattle.std.proofs.lemmas.Str.{IsUtf8-drop}
use Rattle.hm_tree.specs.Names.{Name, name_cmp}
use Rattle.hm_tree.specs.Nodes.{edges_rise}
use Rattle.hm_tree.specs.Classes.{IsFilled}
use Rattle.hm_tree.specs.Cleaned.{cleaned}
use Rattle.hm_tree.proofs.Sorted.{name_total, found_in_order}
use Rattle.hm_tree.proofs.Classed.{cleaned-cleaned, filled_text}
use Rattle.hm_tree.proofs.CleanText.{cleaned_utf8}
use Rattle.hm_lines.specs.declared.content.LineParts.{LineParts}
use Rattle.hm_lines.specs.Values.{unescaped, text_of}
use Rattle.hm_lines.proofs.Laws.{unescaped_utf8}
use Rattle.hm_tree.specs.Classes.{is_text}
use Rattle.hm_book_cards.specs.Cards.{Shown, Suits, AllSuit, IsCard, texts_at, no_texts}
use Rattle.hm_book_cards.proofs.Laws.{card_texts}
use Rattle.hm_book_cards.proofs.CardTrees.{suit_edges, suit_sound}
use Rattle.hm_lines_cards.specs.Lines.{Line, AreProperties, HasParts, IsLine, is_of, filled, text_in, text_shown, texts_of, set_of, texts_by, card_of, AreFew}
use Rattle.hm_lines_cards.specs.Rewriting.{Property}
use Rattle.hm_lines_cards.proofs.Parts.{value_boundary}
use Rattle.hm_tree.proofs.NameSets.{of_list}

-- ---- the texts of lines suit

-- what a line shows is UTF-8, clean and not of spaces alone
record IsText (t : Name) : Type 0 where
  text : IsUtf8 t
  filled : IsFilled t

text_is : (q : Name) (l : Line) → IsLine l → IsUtf8 l.0 → (t : Name) → text_shown q l ≡ Some t → IsText t
text_is q l is utf8 t e = go (is_of q l) e
  where
    of_value : (value : List ℕ) → IsUtf8 value → filled (text_of value) ≡ Some t → IsText t
    of_value value text e = by (is_text (text_of value)) refl e
      where
        by : (b : Bool) → is_text (text_of value) ≡ b → cond b (Some (text_of value)) None ≡ Some t → IsText t
        by true some e =
            subst IsText (same_Some (text_of value) t e)
            (record { text = cleaned_utf8 (unescaped value) (unescaped_utf8 value text); filled = filled_text (text_of value) (cleaned-cleaned (unescaped value)) some })
        by false some e = absurd (none-some t e)

    of_parts : (o : Option LineParts) → HasParts l.0 o → text_in l.0 o ≡ Some t → IsText t
    of_parts None is e = absurd (none-some t e)
    of_parts (Some parts) is e = of_value (drop parts.value_from l.0) (IsUtf8-drop l.0 parts.value_from utf8 (value_boundary l.0 parts is utf8)) e

    go : (b : Bool) → cond b (text_in l.0 l.1) None ≡ Some t → IsText t
    go true e = of_parts l.1 is e
    go false e = absurd (none-some t e)

texts_are : (q : Name) (ls : List Line) → All IsLine ls → All (λ (l : Line). IsUtf8 l.0) ls → All IsText (texts_of q ls)
texts_are q [] is utf8 = All-nil IsText
texts_are q (l ∷ ls) is utf8 = go (text_shown q l) refl (texts_are q ls (All-tail IsLine l ls is) (All-tail (λ (l : Line). IsUtf8 l.0) l ls utf8))
  where
    go : (o : Option Name) → text_shown q l ≡ o → All IsText (texts_of q ls) → All IsText (cons_option o (texts_of q ls))
    go None e rest = rest
    go (Some t) e rest = All-cons IsText t (texts_of q ls) (text_is q l (All-head IsLine l ls is) (All-head (λ (l : Line). IsUtf8 l.0) l ls utf8) t e) rest

pub texts_utf8 : (q : Name) (ls : List Line) → All IsLine ls → All (λ (l : Line). IsUtf8 l.0) ls → All IsUtf8 (texts_of q ls)
texts_utf8 q ls is utf8 = λ k d lt. (texts_are q ls is utf8 k d lt).text

-- the set of one name at the most
few_len : (names : List Name) → length names ≤ 1 → len (from_list {R = name_cmp} names) ≤ 1
few_len [] few = let none = len-empty name_cmp in omega (arith, none)
few_len (k ∷ []) few =
    let one = len-insert name_total (empty {R = name_cmp}) k in
    let none = contains-empty name_cmp k in
    let zero_len = len-empty name_cmp in
    let is : len (insert (empty {R = name_cmp}) k) ≡ 0 + 1 = one ∙ (λ i. cond (none i) (zero_len i) (zero_len i + 1)) in
    omega (arith, is)
few_len (k ∷ n ∷ names) few = absurd (omega (arith, few))

module _ (lines : List Line) (is : All IsLine lines) (utf8 : All (λ (l : Line). IsUtf8 l.0) lines) where
  set_suits : (q : Property) → (q.1 ≡ false → length (texts_of q.0 lines) ≤ 1) → Suits q.1 (set_of q.0 lines)
  set_suits q few = record {
    sound = of_list IsUtf8 (texts_of q.0 lines) (λ k d lt. (texts_are q.0 lines is utf8 k d lt).text);
    filled = of_list IsFilled (texts_of q.0 lines) (λ k d lt. (texts_are q.0 lines is utf8 k d lt).filled);
    few = λ one. few_len (texts_of q.0 lines) (few one);
  }

  all_suit : (ps : Shown) → AreFew ps lines → AllSuit ps (texts_by ps lines)
  all_suit [] few = tt
  all_suit (p ∷ ps) few = (
    (refl, set_suits p (All-head (λ (p : Property). p.1 ≡ false → length (texts_of p.0 lines) ≤ 1) p ps few)),
    all_suit ps (All-tail (λ (p : Property). p.1 ≡ false → length (texts_of p.0 lines) ≤ 1) p ps few),
  )

  module _ (properties : Shown) (are : AreProperties properties) (few : AreFew properties lines) where
    -- the card that lines show is one
    pub shown_card : IsCard properties (card_of properties lines)
    shown_card = record { texts = texts_by properties lines; suit = all_suit properties few; is = refl }

    -- it has the texts of each property
    pub own_texts : (i : ℕ) (q : Property) → slice_get properties i ≡ Some q → texts_at q.0 (card_of properties lines) ≡ set_of q.0 lines
    own_texts i q at =
        let suit = all_suit properties few in
        let edges = suit_edges properties (texts_by properties lines) suit are.names in
        card_texts (texts_by properties lines) edges (suit_sound properties (texts_by properties lines) suit) q.0
        ∙ ap (λ o. unwrap_or o no_texts) (found_in_order (texts_by properties lines) (edges_rise (texts_by properties lines) edges) i (q.0, set_of q.0 lines) (there properties i at))
      where
        there : (ps : Shown) (i : ℕ) → slice_get ps i ≡ Some q → slice_get (texts_by ps lines) i ≡ Some (q.0, set_of q.0 lines)
        there [] i at = absurd (none-some q at)
        there (p ∷ ps) zero at = ap (λ (r : Property). Some (r.0, set_of r.0 lines)) (same_Some p q at)
        there (p ∷ ps) (suc i) at = there ps i at
