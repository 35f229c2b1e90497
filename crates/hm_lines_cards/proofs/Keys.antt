-- The texts below a name that no property has stay.
use Rattle.std.proofs.Common.{◌≡◌, ℕ, cond, List, [], ◌∷◌, filter, slice_get, Option, Some, None, refl, sym, ap, ◌∙◌, subst}
use Rattle.std.specs.Prelude.{All}
use Rattle.std.specs.Option.{is_none}
use Rattle.std.specs.List.{cons_option}
use Rattle.std.proofs.lemmas.Bool.{false_from_ne_true}
use Rattle.std.proofs.lemmas.Option.{slice_get_within, get_or_from_slice_get}
use Rattle.hm_tree.specs.Names.{Name}
use Rattle.hm_tree.specs.Nodes.{Tree}
use Rattle.hm_book_cards.specs.Cards.{Shown}
use Rattle.hm_lines_cards.specs.Lines.{Line, IsCapital, AreProperties, IsLine, is_of, text_shown, texts_of}
use Rattle.hm_lines_cards.specs.Rewriting.{Property, property_of, rewritten}
use Rattle.hm_lines_cards.proofs.PropertyNames.{one_property, found_there}
use Rattle.hm_lines_cards.proofs.KeptTexts.{not_of}
use Rattle.hm_lines_cards.proofs.HiddenLines.{is_hidden, hidden_stay}

module _ (properties : Shown) (are : AreProperties properties) (key : Name) (capital : All IsCapital key)
    (apart : (i : ℕ) (p : Property) → slice_get properties i ≡ Some p → p.0 ≡ key → ⊥) where
  -- a line of a property shows nothing below it
  nothing_there : (l : Line) (p : Property) → property_of properties l ≡ Some p → text_shown key l ≡ None
  nothing_there l p e =
      let found = found_there (λ (p : Property). is_of p.0 l) properties p e in
      let capitals : All IsCapital p.0 =
      subst (λ (r : Property). All IsCapital r.0) (get_or_from_slice_get properties found.0 p p found.1.0)
      (are.capitals found.0 p (slice_get_within properties found.0 p found.1.0)) in
      not_of key l (false_from_ne_true (is_of key l) (λ of. apart found.0 p found.1.0 (one_property p.0 key l capitals capital found.1.1 of)))

  -- so that it's what lines of no property show
  of_hidden : (ls : List Line) → texts_of key (filter (is_hidden properties) ls) ≡ texts_of key ls
  of_hidden [] = refl
  of_hidden (l ∷ ls) = go (property_of properties l) refl (of_hidden ls)
    where
      go : (o : Option Property) → property_of properties l ≡ o → texts_of key (filter (is_hidden properties) ls) ≡ texts_of key ls
          → texts_of key (cond (is_none o) (l ∷ filter (is_hidden properties) ls) (filter (is_hidden properties) ls)) ≡ cons_option (text_shown key l) (texts_of key ls)
      go None e rest = ap (cons_option (text_shown key l)) rest
      go (Some p) e rest = rest ∙ sym (ap (λ o. cons_option o (texts_of key ls)) (nothing_there l p e))

  -- and what is rewritten shows the same there
  pub key_stays : (card : Tree) (lines : List Line) → All IsLine lines → texts_of key (rewritten properties card lines) ≡ texts_of key lines
  key_stays card lines is = sym (of_hidden (rewritten properties card lines)) ∙ ap (texts_of key) (hidden_stay properties are card lines is) ∙ of_hidden lines
