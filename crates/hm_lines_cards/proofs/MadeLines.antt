-- What lines with new values show, and that they are lines.
use Rattle.std.proofs.Common.{◌≡◌, ℕ, ◌+◌, ◌-◌, true, cond, List, [], ◌∷◌, ◌++◌, length, take, drop, Option, Some, None, refl, sym, ap, ◌∙◌, subst, arith}
use Rattle.std.proofs.lemmas.List.{append_assoc, length-append, take_at, drop_at}
use Rattle.std.specs.Str.{str_eq_ignore_ascii_case}
use Rattle.hm_tree.specs.Names.{Name}
use Rattle.hm_tree.specs.Classes.{IsFilled}
use Rattle.hm_lines.specs.declared.content.LineParts.{LineParts}
use Rattle.hm_lines.specs.Content.{colon, IsContentLine, IsWord}
use Rattle.hm_lines.specs.Values.{escaped, text_of}
use Rattle.hm_lines.proofs.Laws.{escaped_text}
use Rattle.hm_lines.proofs.Laws as lines
use Rattle.hm_tree.specs.Classes.{is_text}
use Rattle.hm_tree.proofs.Classed.{text_filled}
use Rattle.hm_lines_cards.specs.Lines.{Line, HasParts, IsLine, name_in, is_named, is_of, filled, text_shown}
use Rattle.hm_lines_cards.specs.Rewriting.{with_value, new_line}
use Rattle.hm_lines_cards.proofs.Parts.{front, front_taken, value_dropped, with_other, name_is}
use Rattle.hm_lines_cards.proofs.PropertyNames.{itself}

pub filled_is : (t : Name) → IsFilled t → filled t ≡ Some t
filled_is t h = ap (λ b. cond b (Some t) None) (ap is_text (sym h.clean) ∙ text_filled t h)

-- an escaped text is shown
escaped_shown : (t : Name) → IsFilled t → filled (text_of (escaped t)) ≡ Some t
escaped_shown t h = ap (λ (k : Name). filled k) (escaped_text t h.clean) ∙ filled_is t h

abbrev pub parts_of : Name → LineParts
parts_of p = record { name_from = 0; name_to = length p; value_from = length p + 1 }

module _ (p : Name) (word : IsWord p) (t : Name) where
  pub made_new : IsContentLine (p ++ colon ∷ escaped t) (parts_of p)
  made_new = lines.new_line p (escaped t) word

  pub new_is_of : is_of p (new_line p t) ≡ true
  new_is_of =
      ap (λ n. str_eq_ignore_ascii_case n p) (take_at p (colon ∷ escaped t) (length p - 0) (omega arith)) ∙ itself p

  new_value : drop (length p + 1) (p ++ colon ∷ escaped t) ≡ escaped t
  new_value =
      ap (drop (length p + 1)) (sym (append_assoc p (colon ∷ []) (escaped t)))
      ∙ drop_at (p ++ colon ∷ []) (escaped t) (length p + 1) (length-append p (colon ∷ []))

  pub new_shows : IsFilled t → text_shown p (new_line p t) ≡ Some t
  new_shows h =
      ap (λ b. cond b (filled (text_of (drop (length p + 1) (p ++ colon ∷ escaped t)))) None) new_is_of
      ∙ ap (λ v. filled (text_of v)) new_value ∙ escaped_shown t h

-- the text of a line is in its place
module _ (line : List ℕ) (parts : LineParts) (is : IsContentLine line parts) (t : Name) where
  front_is : take parts.value_from line ++ escaped t ≡ front line parts is ++ escaped t
  front_is = ap (λ f. f ++ escaped t) (front_taken line parts is)

  pub made_line : IsContentLine (take parts.value_from line ++ escaped t) parts
  made_line = subst (λ l. IsContentLine l parts) (sym front_is) (with_other line parts is (escaped t))

  same_name : name_in (take parts.value_from line ++ escaped t) parts ≡ name_in line parts
  same_name =
      ap (λ l. name_in l parts) front_is ∙ name_is (front line parts is ++ escaped t) parts (with_other line parts is (escaped t))
      ∙ sym (name_is line parts is)

  made_value : drop parts.value_from (take parts.value_from line ++ escaped t) ≡ escaped t
  made_value = ap (drop parts.value_from) front_is ∙ value_dropped (front line parts is ++ escaped t) parts (with_other line parts is (escaped t))

pub made_is_line : (l : Line) → IsLine l → (t : Name) → IsLine (with_value l.0 l.1 t)
made_is_line l is t = go l.1 is
  where
    go : (o : Option LineParts) → HasParts l.0 o → IsLine (with_value l.0 o t)
    go None is = tt
    go (Some parts) is = made_line l.0 parts is t

-- it's of the same property
pub same_property : (q : Name) (l : Line) → IsLine l → (t : Name) → is_of q (with_value l.0 l.1 t) ≡ is_of q l
same_property q l is t = go l.1 is
  where
    go : (o : Option LineParts) → HasParts l.0 o → is_of q (with_value l.0 o t) ≡ is_named q l.0 o
    go None is = refl
    go (Some parts) is = ap (λ n. str_eq_ignore_ascii_case n q) (same_name l.0 parts is t)

-- and shows its text
pub made_shows : (q : Name) (l : Line) → IsLine l → is_of q l ≡ true → (t : Name) → IsFilled t → text_shown q (with_value l.0 l.1 t) ≡ Some t
made_shows q l is of t h = go l.1 is of
  where
    go : (o : Option LineParts) → HasParts l.0 o → is_named q l.0 o ≡ true → text_shown q (with_value l.0 o t) ≡ Some t
    go None is of = let bad : ⊥ = cc in absurd bad
    go (Some parts) is of =
        ap (λ b. cond b (filled (text_of (drop parts.value_from (take parts.value_from l.0 ++ escaped t)))) None)
        (ap (λ n. str_eq_ignore_ascii_case n q) (same_name l.0 parts is t) ∙ of)
        ∙ ap (λ v. filled (text_of v)) (made_value l.0 parts is t) ∙ escaped_shown t h
