-- Lines of no property stay, in their order.
use Rattle.std.proofs.Common.{◌≡◌, ℕ, suc, ◌+◌, Bool, true, false, cond, List, [], ◌∷◌, ◌++◌, map, filter, slice_get, Option, Some, None, refl, sym, ap, ◌∙◌, subst}
use Rattle.std.specs.Prelude.{All}
use Rattle.std.specs.Option.{is_none}
use Rattle.std.specs.List.{flat_map}
use Rattle.std.proofs.lemmas.Option.{slice_get_within, get_or_from_slice_get}
use Rattle.std.proofs.lemmas.List.{append-nil}
use Rattle.std.proofs.lemmas.List.Elements.{All-head, All-tail, filter-append}
use Rattle.hm_tree.specs.Names.{Name}
use Rattle.hm_tree.specs.Nodes.{Tree}
use Rattle.hm_lines.specs.Content.{IsWord}
use Rattle.hm_book_cards.specs.Cards.{Shown, texts_at}
use Rattle.hm_lines_cards.specs.Lines.{Line, AreProperties, IsLine, text_shown}
use Rattle.hm_lines_cards.specs.Rewriting.{Property, stays, if_stays, with_value, is_same, one_line, first_in, target, line_for, is_at, property_of, line_in, line_at, rewritten_from, new_line, new_texts, lines_for, rewritten}
use Rattle.hm_lines_cards.proofs.PropertyNames.{property_found}
use Rattle.hm_lines_cards.proofs.MadeLines.{same_property, new_is_of}

-- with another value a line is of the same property
same_one : (ps : Shown) (l : Line) → IsLine l → (t : Name) → property_of ps (with_value l.0 l.1 t) ≡ property_of ps l
same_one [] l is t = refl
same_one (p ∷ ps) l is t = λ i. cond (same_property p.0 l is t i) (Some p) (same_one ps l is t i)

-- a line is of no property
abbrev pub is_hidden : Shown → Line → Bool
is_hidden properties line = is_none (property_of properties line)

-- one without parts is of none
pub unparted_hidden : (ps : Shown) (line : List ℕ) → property_of ps (line, None) ≡ None
unparted_hidden [] line = refl
unparted_hidden (p ∷ ps) line = unparted_hidden ps line

module _ (properties : Shown) (are : AreProperties properties) (card : Tree) (all : List Line) where
  abbrev hidden : List Line → List Line
  hidden ls = filter (is_hidden properties) ls

  gone : (l : Line) (p : Property) → property_of properties l ≡ Some p → hidden (l ∷ []) ≡ []
  gone l p e = ap (λ o. cond (is_none o) (l ∷ []) []) e

  module _ (l : Line) (is : IsLine l) (p : Property) (e : property_of properties l ≡ Some p) where
    gone_made : (t : Name) → hidden (with_value l.0 l.1 t ∷ []) ≡ []
    gone_made t = gone (with_value l.0 l.1 t) p (same_one properties l is t ∙ e)

    gone_stays : (b : Bool) → hidden (if_stays b l) ≡ []
    gone_stays true = gone l p e
    gone_stays false = refl

    gone_one : (new old : Option Name) → hidden (one_line new old l) ≡ []
    gone_one None None = gone l p e
    gone_one None (Some k) = refl
    gone_one (Some t) old = go (is_same old t)
      where
        go : (b : Bool) → hidden (cond b l (with_value l.0 l.1 t) ∷ []) ≡ []
        go true = gone l p e
        go false = gone_made t

    gone_for : (q : Property) (at : Bool) → hidden (line_for q (texts_at q.0 card) at l) ≡ []
    gone_for q at = go q.1 at
      where
        go : (many at : Bool) → hidden (line_for (q.0, many) (texts_at q.0 card) at l) ≡ []
        go true at = gone_stays (stays (texts_at q.0 card) (text_shown q.0 l))
        go false true = gone_one (first_in (texts_at q.0 card)) (text_shown q.0 l)
        go false false = gone l p e

  line_hidden : (l : Line) → IsLine l → (place : ℕ) → hidden (line_at properties card all place l) ≡ hidden (l ∷ [])
  line_hidden l is place = go (property_of properties l) refl
    where
      go : (o : Option Property) → property_of properties l ≡ o → hidden (line_in o card all place l) ≡ hidden (l ∷ [])
      go None e = refl
      go (Some p) e = gone_for l is p e p (is_at place (target p.0 all)) ∙ sym (gone l p e)

  kept_hidden : (place : ℕ) (ls : List Line) → All IsLine ls → hidden (rewritten_from properties card all place ls) ≡ hidden ls
  kept_hidden place [] lines = refl
  kept_hidden place (l ∷ ls) lines =
      filter-append (is_hidden properties) (line_at properties card all place l) (rewritten_from properties card all (place + 1) ls)
      ∙ (λ i. line_hidden l (All-head IsLine l ls lines) place i ++ kept_hidden (place + 1) ls (All-tail IsLine l ls lines) i)
      ∙ sym (filter-append (is_hidden properties) (l ∷ []) ls)

  new_of : (p : Property) → ((t : Name) → property_of properties (new_line p.0 t) ≡ Some p) → (ts : List Name) → hidden (map (new_line p.0) ts) ≡ []
  new_of p found [] = refl
  new_of p found (t ∷ ts) = ap (λ o. cond (is_none o) (new_line p.0 t ∷ hidden (map (new_line p.0) ts)) (hidden (map (new_line p.0) ts))) (found t) ∙ new_of p found ts

  none_new : (ps : Shown) → ((i : ℕ) (p : Property) → slice_get ps i ≡ Some p → (t : Name) → property_of properties (new_line p.0 t) ≡ Some p)
      → hidden (flat_map (lines_for card all) ps) ≡ []
  none_new [] found = refl
  none_new (p ∷ ps) found =
      filter-append (is_hidden properties) (lines_for card all p) (flat_map (lines_for card all) ps)
      ∙ (λ i. new_of p (found 0 p refl) (new_texts card all p) i ++ none_new ps (λ j. found (suc j)) i)

  new_found : (i : ℕ) (p : Property) → slice_get properties i ≡ Some p → (t : Name) → property_of properties (new_line p.0 t) ≡ Some p
  new_found i p at t =
      property_found properties are i p at (new_line p.0 t)
      (new_is_of p.0 (subst (λ (r : Property). IsWord r.0) (get_or_from_slice_get properties i p p at) (are.words i p (slice_get_within properties i p at))) t)

  hidden_kept : All IsLine all → hidden (rewritten properties card all) ≡ hidden all
  hidden_kept lines =
      filter-append (is_hidden properties) (rewritten_from properties card all 0 all) (flat_map (lines_for card all) properties)
      ∙ (λ i. kept_hidden 0 all lines i ++ none_new properties new_found i) ∙ append-nil (hidden all)

-- the lines of no property
pub hidden_stay : (properties : Shown) → AreProperties properties → (card : Tree) (lines : List Line) → All IsLine lines
    → filter (is_hidden properties) (rewritten properties card lines) ≡ filter (is_hidden properties) lines
hidden_stay properties are card lines is = hidden_kept properties are card lines is
