-- What new lines show.
use Rattle.std.proofs.Common.{◌≡◌, ℕ, zero, suc, Bool, true, false, not, cond, T, List, [], ◌∷◌, ◌++◌, get_or, map, slice_get, Some, refl, sym, ap, ◌∙◌, subst}
use Rattle.std.specs.Prelude.{All}
use Rattle.std.specs.Option.{is_none}
use Rattle.std.specs.List.{flat_map, cons_option}
use Rattle.std.specs.FinSet.{FinSet, contains}
use Rattle.std.proofs.lemmas.Bool.{false_from_ne_true}
use Rattle.std.proofs.lemmas.Option.{none-some, same_Some, slice_get-get_or, slice_get_within, get_or_from_slice_get}
use Rattle.std.proofs.lemmas.List.{append-nil}
use Rattle.std.proofs.lemmas.List.Elements.{filter_map-append, All-nil, All-head, All-tail, All-filter}
use Rattle.hm_tree.specs.Names.{Name, name_cmp}
use Rattle.hm_tree.specs.Nodes.{Tree, are_edges, edges_below, edges_tail}
use Rattle.hm_tree.specs.Classes.{IsFilled}
use Rattle.hm_tree.specs.Sets.{ascending}
use Rattle.hm_tree.proofs.Ascending.{contains-ascending}
use Rattle.hm_lines.specs.Content.{IsWord}
use Rattle.hm_tree.specs.Sets.{new_names}
use Rattle.hm_book_cards.specs.Cards.{Shown, texts_at}
use Rattle.hm_lines_cards.specs.Lines.{Line, IsCapital, AreProperties, is_of, text_shown, texts_of, set_of}
use Rattle.hm_lines_cards.specs.Rewriting.{Property, target, new_line, new_texts, lines_for}
use Rattle.hm_lines_cards.proofs.PropertyNames.{one_property, apart}
use Rattle.hm_lines_cards.proofs.MadeLines.{new_is_of, new_shows}
use Rattle.hm_lines_cards.proofs.KeptTexts.{not_of}

-- the lines of a property show its texts
own_texts : (q : Name) → IsWord q → (ts : List Name) → All IsFilled ts → texts_of q (map (new_line q) ts) ≡ ts
own_texts q word [] all = refl
own_texts q word (t ∷ ts) all =
    (λ i. cons_option (new_shows q word t (All-head IsFilled t ts all) i) (own_texts q word ts (All-tail IsFilled t ts all) i))

-- and nothing below another name
other_texts : (q p : Name) → All IsCapital q → All IsCapital p → IsWord p → (p ≡ q → ⊥) → (ts : List Name) → texts_of q (map (new_line p) ts) ≡ []
other_texts q p one other word differ [] = refl
other_texts q p one other word differ (t ∷ ts) =
    let none : is_of q (new_line p t) ≡ false =
    false_from_ne_true (is_of q (new_line p t)) (λ e. differ (one_property p q (new_line p t) other one (new_is_of p word t) e)) in
    (λ i. cons_option (not_of q (new_line p t) none i) (other_texts q p one other word differ ts i))

-- ---- the texts that are new

pub set_filled : (set : FinSet name_cmp) → ((k : Name) → contains set k ≡ true → IsFilled k) → All IsFilled (ascending set)
set_filled set filled i k lt = filled (get_or (ascending set) i k) (contains-ascending set i (get_or (ascending set) i k) (slice_get-get_or (ascending set) i k lt))

new_filled : (card : Tree) (all : List Line) (q : Property) → All IsFilled (ascending (texts_at q.0 card)) → All IsFilled (new_texts card all q)
new_filled card all q filled = go q.1 (is_none (target q.0 all))
  where
    go : (many none : Bool) → All IsFilled (cond many (new_names (set_of q.0 all) (texts_at q.0 card)) (cond none (ascending (texts_at q.0 card)) []))
    go true none = All-filter (λ k. not (contains (set_of q.0 all) k)) IsFilled (ascending (texts_at q.0 card)) filled
    go false true = filled
    go false false = All-nil IsFilled

-- ---- the new lines of all properties

module _ (card : Tree) (all : List Line) (q : Name) (capital : All IsCapital q) where
  none_added : (ps : Shown) → All (λ (p : Property). IsWord p.0) ps → All (λ (p : Property). All IsCapital p.0) ps
      → ((i : ℕ) (p : Property) → slice_get ps i ≡ Some p → p.0 ≡ q → ⊥) → texts_of q (flat_map (lines_for card all) ps) ≡ []
  none_added [] words capitals differ = refl
  none_added (p ∷ ps) words capitals differ =
      filter_map-append (text_shown q) (lines_for card all p) (flat_map (lines_for card all) ps)
      ∙ (λ i.
      other_texts q p.0 capital (All-head (λ (p : Property). All IsCapital p.0) p ps capitals) (All-head (λ (p : Property). IsWord p.0) p ps words) (differ 0 p refl)
      (new_texts card all p) i
      ++ none_added ps (All-tail (λ (p : Property). IsWord p.0) p ps words) (All-tail (λ (p : Property). All IsCapital p.0) p ps capitals) (λ j. differ (suc j)) i)

module _ (card : Tree) (all : List Line) (q : Property) (filled : All IsFilled (ascending (texts_at q.0 card))) where
  added : (ps : Shown) → T (are_edges ps) → All (λ (p : Property). IsWord p.0) ps → All (λ (p : Property). All IsCapital p.0) ps → (i : ℕ) → slice_get ps i ≡ Some q
      → texts_of q.0 (flat_map (lines_for card all) ps) ≡ new_texts card all q
  added [] names words capitals i at = absurd (none-some q at)
  added (p ∷ ps) names words capitals zero at =
      let same = same_Some p q at in
      let word = subst (λ (r : Property). IsWord r.0) same (All-head (λ (p : Property). IsWord p.0) p ps words) in
      let capital = subst (λ (r : Property). All IsCapital r.0) same (All-head (λ (p : Property). All IsCapital p.0) p ps capitals) in
      filter_map-append (text_shown q.0) (lines_for card all p) (flat_map (lines_for card all) ps)
      ∙ (λ i.
      texts_of q.0 (lines_for card all (same i))
      ++ none_added card all q.0 capital ps (All-tail (λ (p : Property). IsWord p.0) p ps words) (All-tail (λ (p : Property). All IsCapital p.0) p ps capitals)
      (λ j e there back. apart p.0 ps (edges_below p ps names) j e there (ap (λ (r : Property). r.0) same ∙ sym back)) i)
      ∙ append-nil (texts_of q.0 (lines_for card all q)) ∙ own_texts q.0 word (new_texts card all q) (new_filled card all q filled)
  added (p ∷ ps) names words capitals (suc j) at =
      let capital = subst (λ (r : Property). All IsCapital r.0) (get_or_from_slice_get (p ∷ ps) (suc j) q q at) (capitals (suc j) q (slice_get_within (p ∷ ps) (suc j) q at)) in
      filter_map-append (text_shown q.0) (lines_for card all p) (flat_map (lines_for card all) ps)
      ∙ (λ i.
      other_texts q.0 p.0 capital (All-head (λ (p : Property). All IsCapital p.0) p ps capitals) (All-head (λ (p : Property). IsWord p.0) p ps words)
      (apart p.0 ps (edges_below p ps names) j q at) (new_texts card all p) i
      ++ added ps (edges_tail p ps names) (All-tail (λ (p : Property). IsWord p.0) p ps words) (All-tail (λ (p : Property). All IsCapital p.0) p ps capitals) j at i)

  pub added_texts : (properties : Shown) → AreProperties properties → (i : ℕ) → slice_get properties i ≡ Some q
      → texts_of q.0 (flat_map (lines_for card all) properties) ≡ new_texts card all q
  added_texts properties are i at = added properties are.names are.words are.capitals i at
