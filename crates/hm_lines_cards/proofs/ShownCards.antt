-- The lines that are rewritten for a card show it.
use Rattle.std.proofs.Common.{◌≡◌, ℕ, zero, suc, ◌+◌, ◌≤◌, Bool, true, false, cond, List, [], ◌∷◌, ◌++◌, length, get_or, slice_get, Some, refl, sym, ap, ◌∙◌, subst, arith}
use Rattle.std.specs.Prelude.{All}
use Rattle.std.specs.Option.{is_none}
use Rattle.std.specs.List.{flat_map, cons_option}
use Rattle.std.specs.FinSet.{FinSet, from_list}
use Rattle.std.proofs.lemmas.Bool.{ne_eqb, eq-eqb}
use Rattle.std.proofs.lemmas.Option.{none-some, same_Some, slice_get-get_or, slice_get_within, get_or_from_slice_get}
use Rattle.std.proofs.lemmas.List.{append-nil}
use Rattle.std.proofs.lemmas.List.Elements.{filter_map-append, All-head, All-tail}
use Rattle.hm_tree.specs.Names.{Name, name_cmp}
use Rattle.hm_tree.specs.Nodes.{Tree}
use Rattle.hm_tree.specs.Classes.{IsFilled}
use Rattle.hm_tree.specs.Sets.{ascending}
use Rattle.hm_tree.proofs.Ascending.{contains-ascending, set_of-ascending}
use Rattle.hm_tree.specs.Sets.{new_names}
use Rattle.hm_book_cards.specs.Cards.{Shown, Suits, AllSuit, IsCard, card_tree, texts_at}
use Rattle.hm_book_cards.specs.Cards as cards
use Rattle.hm_book_cards.proofs.Laws.{card_again}
use Rattle.hm_lines_cards.specs.Lines.{Line, AreProperties, IsLine, text_shown, texts_of, set_of, texts_by, card_of, AreFew}
use Rattle.hm_lines_cards.specs.Rewriting.{Property, target, first_in, is_at, line_at, rewritten_from, new_texts, lines_for, rewritten}
use Rattle.hm_lines_cards.proofs.Texts.{one_list, all_texts}
use Rattle.hm_lines_cards.proofs.LentLines.{front_all, rest_all}
use Rattle.hm_lines_cards.proofs.Targets.{IsTarget, has_target, no_target, target_is, no_lines}
use Rattle.hm_lines_cards.proofs.KeptTexts.{many_kept, one_kept, one_there, from_append}
use Rattle.hm_lines_cards.proofs.AddedTexts.{set_filled, added_texts}
use Rattle.hm_schema.proofs.NamesOf.{all_len}

-- ---- one property

module _ (properties : Shown) (are : AreProperties properties) (card : Tree) (lines : List Line) (is : All IsLine lines) (i : ℕ) (q : Property)
    (at : slice_get properties i ≡ Some q) (suits : Suits q.1 (texts_at q.0 card)) (few : q.1 ≡ false → length (texts_of q.0 lines) ≤ 1) where
  abbrev set : FinSet name_cmp
  set = texts_at q.0 card

  abbrev kept : List Line
  kept = rewritten_from properties card lines 0 lines

  all_shown : texts_of q.0 (rewritten properties card lines) ≡ texts_of q.0 kept ++ new_texts card lines q
  all_shown =
      filter_map-append (text_shown q.0) kept (flat_map (lines_for card lines) properties)
      ∙ ap (λ ts. texts_of q.0 kept ++ ts) (added_texts card lines q (set_filled set suits.filled) properties are i at)

  shows_many : q.1 ≡ true → set_of q.0 (rewritten properties card lines) ≡ set
  shows_many many =
      ap (λ ts. from_list {R = name_cmp} ts)
      (all_shown
      ∙ (λ j.
      many_kept properties are card lines i q at many 0 lines is j
      ++ cond (many j) (new_names (set_of q.0 lines) set) (cond (is_none (target q.0 lines)) (ascending set) [])))
      ∙ all_texts (texts_of q.0 lines) set

  first_filled : (t : Name) → first_in set ≡ Some t → IsFilled t
  first_filled t e = suits.filled t (contains-ascending set 0 t e)

  -- where it has a line
  module _ (one : q.1 ≡ false) (t : IsTarget q.0 lines) where
    elsewhere : (place : ℕ) → (length t.before ≡ place → ⊥) → is_at place (target q.0 lines) ≡ false
    elsewhere place differ = ap (is_at place) t.at ∙ ne_eqb (length t.before) place differ

    there : is_at (0 + length t.before) (target q.0 lines) ≡ true
    there = ap (is_at (0 + length t.before)) t.at ∙ eq-eqb (length t.before) (0 + length t.before) (omega arith)

    parted_is : All IsLine (t.before ++ t.here ∷ t.after)
    parted_is = subst (All IsLine) t.are is

    behind_is : All IsLine (t.here ∷ t.after)
    behind_is = rest_all IsLine t.before (t.here ∷ t.after) parted_is

    kept_before : texts_of q.0 (rewritten_from properties card lines 0 t.before) ≡ []
    kept_before =
        one_kept properties are card lines i q at one 0 t.before (front_all IsLine t.before (t.here ∷ t.after) parted_is) (λ k lt. elsewhere (0 + k) (λ e. omega (arith, e, lt)))
        ∙ t.none_before

    kept_after : texts_of q.0 (rewritten_from properties card lines ((0 + length t.before) + 1) t.after) ≡ []
    kept_after =
        one_kept properties are card lines i q at one ((0 + length t.before) + 1) t.after (All-tail IsLine t.here t.after behind_is)
        (λ k lt. elsewhere (((0 + length t.before) + 1) + k) (λ e. omega (arith, e)))
        ∙ t.none_after

    kept_here : texts_of q.0 (line_at properties card lines (0 + length t.before) t.here) ≡ cons_option (first_in set) []
    kept_here =
        one_there properties are card lines i q at one t.here (All-head IsLine t.here t.after behind_is) t.of (0 + length t.before) there first_filled

    kept_one : texts_of q.0 kept ≡ ascending set
    kept_one =
        ap (λ ls. texts_of q.0 (rewritten_from properties card lines 0 ls)) t.are
        ∙ ap (texts_of q.0) (from_append properties card lines 0 t.before (t.here ∷ t.after))
        ∙ filter_map-append (text_shown q.0) (rewritten_from properties card lines 0 t.before)
        (line_at properties card lines (0 + length t.before) t.here ++ rewritten_from properties card lines ((0 + length t.before) + 1) t.after)
        ∙ ap (λ ts. ts ++ texts_of q.0 (line_at properties card lines (0 + length t.before) t.here ++ rewritten_from properties card lines ((0 + length t.before) + 1) t.after)) kept_before
        ∙ filter_map-append (text_shown q.0) (line_at properties card lines (0 + length t.before) t.here) (rewritten_from properties card lines ((0 + length t.before) + 1) t.after)
        ∙ (λ j. kept_here j ++ kept_after j) ∙ append-nil (cons_option (first_in set) [])
        ∙ one_list (ascending set) (let long = all_len set in let most = suits.few one in omega (arith, long, most))

    no_new : new_texts card lines q ≡ []
    no_new = (λ j. cond (one j) (new_names (set_of q.0 lines) set) (cond (is_none (t.at j)) (ascending set) []))

  pub shows_one : q.1 ≡ false → texts_of q.0 (rewritten properties card lines) ≡ ascending set
  shows_one one = elim (target_is q.0 lines (few one)) [
    | has_target t ↦ all_shown ∙ (λ j. kept_one one t j ++ no_new one t j) ∙ append-nil (ascending set)
    | no_target e none ↦
        all_shown
        ∙ (λ j.
        (one_kept properties are card lines i q at one 0 lines is (λ k lt. ap (is_at (0 + k)) e) ∙ no_lines q.0 lines none) j
        ++ cond (one j) (new_names (set_of q.0 lines) set) (cond (is_none (e j)) (ascending set) []))
  ]

  pub shows_set : set_of q.0 (rewritten properties card lines) ≡ set
  shows_set = go q.1 refl
    where
      go : (many : Bool) → q.1 ≡ many → set_of q.0 (rewritten properties card lines) ≡ set
      go true e = shows_many e
      go false e = ap (λ ts. from_list {R = name_cmp} ts) (shows_one e) ∙ set_of-ascending set

  pub still_few : q.1 ≡ false → length (texts_of q.0 (rewritten properties card lines)) ≤ 1
  still_few one = let is_one = ap length (shows_one one) in let long = all_len set in let most = suits.few one in omega (arith, is_one, long, most)

-- ---- all properties

pub suit_at : (shown : Shown) (t : Tree) → AllSuit shown (cards.texts_of shown t) → (i : ℕ) (q : Property) → slice_get shown i ≡ Some q → Suits q.1 (texts_at q.0 t)
suit_at [] t all i q at = absurd (none-some q at)
suit_at (p ∷ shown) t all zero q at = subst (λ (r : Property). Suits r.1 (texts_at r.0 t)) (same_Some p q at) all.0.1
suit_at (p ∷ shown) t all (suc i) q at = suit_at shown t all.1 i q at

pub few_at : (properties : Shown) (lines : List Line) → AreFew properties lines → (i : ℕ) (q : Property) → slice_get properties i ≡ Some q → q.1 ≡ false
    → length (texts_of q.0 lines) ≤ 1
few_at properties lines few i q at =
    subst (λ (p : Property). p.1 ≡ false → length (texts_of p.0 lines) ≤ 1) (get_or_from_slice_get properties i q q at) (few i q (slice_get_within properties i q at))

all_sets : (ps : Shown) (lines : List Line) (card : Tree) → ((i : ℕ) (q : Property) → slice_get ps i ≡ Some q → set_of q.0 lines ≡ texts_at q.0 card)
    → texts_by ps lines ≡ cards.texts_of ps card
all_sets [] lines card each = refl
all_sets (p ∷ ps) lines card each = λ j. (p.0, each 0 p refl j) ∷ all_sets ps lines card (λ i q at. each (suc i) q at) j

module _ (properties : Shown) (are : AreProperties properties) (card : Tree) (is_card : IsCard properties card) (lines : List Line) (is : All IsLine lines) (few : AreFew properties lines) where
  suits : (i : ℕ) (q : Property) → slice_get properties i ≡ Some q → Suits q.1 (texts_at q.0 card)
  suits i q at = suit_at properties card (card_again properties card are.names is_card).0 i q at

  -- the lines that are rewritten for a card show it
  pub rewritten_shows : card_of properties (rewritten properties card lines) ≡ card
  rewritten_shows =
      ap card_tree (all_sets properties (rewritten properties card lines) card
      (λ i q at. shows_set properties are card lines is i q at (suits i q at) (few_at properties lines few i q at)))
      ∙ sym (card_again properties card are.names is_card).1

  -- and no property shows many texts that may not
  pub rewritten_few : AreFew properties (rewritten properties card lines)
  rewritten_few i d lt =
      let q = get_or properties i d in
      let at = slice_get-get_or properties i d lt in
      still_few properties are card lines is i (get_or properties i d) at (suits i (get_or properties i d) at) (few_at properties lines few i (get_or properties i d) at)
