-- What lines show below the name of a property when each became what it is to be.
use Rattle.std.proofs.Common.{◌≡◌, ℕ, suc, ◌+◌, ◌<◌, Bool, true, false, cond, List, [], ◌∷◌, ◌++◌, length, filter, slice_get, Option, Some, None, refl, sym, ap, ◌∙◌, subst, arith}
use Rattle.std.specs.Prelude.{All}
use Rattle.std.specs.Ordering.{eq_by_cmp}
use Rattle.std.specs.List.{cons_option}
use Rattle.std.specs.FinSet.{FinSet, contains}
use Rattle.std.proofs.lemmas.List.{append_assoc}
use Rattle.std.proofs.lemmas.List.Elements.{filter_map-append, filter-append, All-head, All-tail}
use Rattle.hm_tree.specs.Names.{Name, name_cmp}
use Rattle.hm_tree.specs.Nodes.{Tree}
use Rattle.hm_tree.specs.Classes.{IsFilled}
use Rattle.hm_schema.proofs.NamesOf.{tie_one}
use Rattle.hm_book_cards.specs.Cards.{Shown, texts_at}
use Rattle.hm_lines_cards.specs.Lines.{Line, AreProperties, IsLine, is_of, text_in, text_shown, texts_of}
use Rattle.hm_lines_cards.specs.Rewriting.{Property, stays, if_stays, with_value, is_same, one_line, first_in, target, line_for, is_at, property_of, line_in, line_at, rewritten_from}
use Rattle.hm_lines_cards.proofs.PropertyNames.{property_found}
use Rattle.hm_lines_cards.proofs.MadeLines.{same_property, made_shows}

-- the texts of one line
pub one_text : (q : Name) (l : Line) (o : Option Name) → text_shown q l ≡ o → texts_of q (l ∷ []) ≡ cons_option o []
one_text q l o e = ap (λ o. cons_option o []) e

pub not_of : (q : Name) (l : Line) → is_of q l ≡ false → text_shown q l ≡ None
not_of q l e = ap (λ b. cond b (text_in l.0 l.1) None) e

pub line_first : (q : Name) (l : Line) (ls : List Line) → texts_of q (l ∷ ls) ≡ texts_of q (l ∷ []) ++ texts_of q ls
line_first q l ls = filter_map-append (text_shown q) (l ∷ []) ls

-- ---- a line of another property

module _ (q : Name) (l : Line) (is : IsLine l) (e : is_of q l ≡ false) where
  none_of : texts_of q (l ∷ []) ≡ []
  none_of = one_text q l None (not_of q l e)

  none_made : (t : Name) → texts_of q (with_value l.0 l.1 t ∷ []) ≡ []
  none_made t = one_text q (with_value l.0 l.1 t) None (not_of q (with_value l.0 l.1 t) (same_property q l is t ∙ e))

  none_stays : (b : Bool) → texts_of q (if_stays b l) ≡ []
  none_stays true = none_of
  none_stays false = refl

  none_one : (new old : Option Name) → texts_of q (one_line new old l) ≡ []
  none_one None None = none_of
  none_one None (Some k) = refl
  none_one (Some t) old = go (is_same old t)
    where
      go : (b : Bool) → texts_of q (cond b l (with_value l.0 l.1 t) ∷ []) ≡ []
      go true = none_of
      go false = none_made t

  none_if : (b : Bool) (new old : Option Name) → texts_of q (cond b (one_line new old l) (l ∷ [])) ≡ []
  none_if true new old = none_one new old
  none_if false new old = none_of

  none_in : (o : Option Property) (card : Tree) (all : List Line) (place : ℕ) → texts_of q (line_in o card all place l) ≡ []
  none_in None card all place = none_of
  none_in (Some p) card all place = go p.1
    where
      go : (many : Bool) → texts_of q (line_for (p.0, many) (texts_at p.0 card) (is_at place (target p.0 all)) l) ≡ []
      go true = none_stays (stays (texts_at p.0 card) (text_shown p.0 l))
      go false = none_if (is_at place (target p.0 all)) (first_in (texts_at p.0 card)) (text_shown p.0 l)

-- ---- a line of the property

-- of many texts it stays where its text is one of the set
stays_text : (q : Name) (l : Line) (set : FinSet name_cmp) → texts_of q (if_stays (stays set (text_shown q l)) l) ≡ filter (contains set) (texts_of q (l ∷ []))
stays_text q l set = go (text_shown q l) refl
  where
    go : (o : Option Name) → text_shown q l ≡ o → texts_of q (if_stays (stays set o) l) ≡ filter (contains set) (cons_option o [])
    go None e = one_text q l None e
    go (Some t) e = by (contains set t)
      where
        by : (b : Bool) → texts_of q (if_stays b l) ≡ cond b (t ∷ []) []
        by true = one_text q l (Some t) e
        by false = refl

-- of one text it shows the text that it's to show
module _ (q : Name) (l : Line) (is : IsLine l) (of : is_of q l ≡ true) where
  one_shows : (new : Option Name) → ((t : Name) → new ≡ Some t → IsFilled t) → texts_of q (one_line new (text_shown q l) l) ≡ cons_option new []
  one_shows new filled = go new (text_shown q l) refl filled
    where
      by : (t old : Name) → text_shown q l ≡ Some old → IsFilled t → (b : Bool) → eq_by_cmp name_cmp old t ≡ b
          → texts_of q (cond b l (with_value l.0 l.1 t) ∷ []) ≡ t ∷ []
      by t old e h true same = one_text q l (Some t) (e ∙ ap Some (tie_one old t same))
      by t old e h false other = one_text q (with_value l.0 l.1 t) (Some t) (made_shows q l is of t h)

      go : (new old : Option Name) → text_shown q l ≡ old → ((t : Name) → new ≡ Some t → IsFilled t) → texts_of q (one_line new old l) ≡ cons_option new []
      go None None e filled = one_text q l None e
      go None (Some k) e filled = refl
      go (Some t) None e filled = one_text q (with_value l.0 l.1 t) (Some t) (made_shows q l is of t (filled t refl))
      go (Some t) (Some old) e filled = by t old e (filled t refl) (eq_by_cmp name_cmp old t) refl

-- ---- all lines, one by one

module _ (properties : Shown) (are : AreProperties properties) (card : Tree) (all : List Line) (i : ℕ) (q : Property) (at : slice_get properties i ≡ Some q) where
  abbrev set : FinSet name_cmp
  set = texts_at q.0 card

  other : (l : Line) → IsLine l → is_of q.0 l ≡ false → (place : ℕ) → texts_of q.0 (line_at properties card all place l) ≡ []
  other l is e place = none_in q.0 l is e (property_of properties l) card all place

  mine : (l : Line) → is_of q.0 l ≡ true → (place : ℕ) → line_at properties card all place l ≡ line_for q set (is_at place (target q.0 all)) l
  mine l of place = ap (λ o. line_in o card all place l) (property_found properties are i q at l of)

  many_one : q.1 ≡ true → (l : Line) → IsLine l → (place : ℕ) → texts_of q.0 (line_at properties card all place l) ≡ filter (contains set) (texts_of q.0 (l ∷ []))
  many_one many l is place = go (is_of q.0 l) refl
    where
      go : (b : Bool) → is_of q.0 l ≡ b → texts_of q.0 (line_at properties card all place l) ≡ filter (contains set) (texts_of q.0 (l ∷ []))
      go true e =
          ap (texts_of q.0)
          (mine l e place
          ∙ ap (λ b. cond b (if_stays (stays set (text_shown q.0 l)) l) (cond (is_at place (target q.0 all)) (one_line (first_in set) (text_shown q.0 l) l) (l ∷ []))) many)
          ∙ stays_text q.0 l set
      go false e = other l is e place ∙ sym (ap (filter (contains set)) (none_of q.0 l is e))

  pub many_kept : q.1 ≡ true → (place : ℕ) (ls : List Line) → All IsLine ls
      → texts_of q.0 (rewritten_from properties card all place ls) ≡ filter (contains set) (texts_of q.0 ls)
  many_kept many place [] lines = refl
  many_kept many place (l ∷ ls) lines =
      filter_map-append (text_shown q.0) (line_at properties card all place l) (rewritten_from properties card all (place + 1) ls)
      ∙ (λ j. many_one many l (All-head IsLine l ls lines) place j ++ many_kept many (place + 1) ls (All-tail IsLine l ls lines) j)
      ∙ sym (ap (filter (contains set)) (line_first q.0 l ls) ∙ filter-append (contains set) (texts_of q.0 (l ∷ [])) (texts_of q.0 ls))

  elsewhere : q.1 ≡ false → (l : Line) → IsLine l → (place : ℕ) → is_at place (target q.0 all) ≡ false
      → texts_of q.0 (line_at properties card all place l) ≡ texts_of q.0 (l ∷ [])
  elsewhere one l is place apart = go (is_of q.0 l) refl
    where
      go : (b : Bool) → is_of q.0 l ≡ b → texts_of q.0 (line_at properties card all place l) ≡ texts_of q.0 (l ∷ [])
      go true e =
          ap (texts_of q.0)
          (mine l e place
          ∙ (λ j. cond (one j) (if_stays (stays set (text_shown q.0 l)) l) (cond (apart j) (one_line (first_in set) (text_shown q.0 l) l) (l ∷ []))))
      go false e = other l is e place ∙ sym (none_of q.0 l is e)

  pub one_kept : q.1 ≡ false → (place : ℕ) (ls : List Line) → All IsLine ls → ((k : ℕ) → k < length ls → is_at (place + k) (target q.0 all) ≡ false)
      → texts_of q.0 (rewritten_from properties card all place ls) ≡ texts_of q.0 ls
  one_kept one place [] lines apart = refl
  one_kept one place (l ∷ ls) lines apart =
      let here : place + 0 ≡ place = omega arith in
      filter_map-append (text_shown q.0) (line_at properties card all place l) (rewritten_from properties card all (place + 1) ls)
      ∙ (λ j. elsewhere one l (All-head IsLine l ls lines) place (subst (λ p. is_at p (target q.0 all) ≡ false) here (apart 0 (omega arith))) j
      ++ one_kept one (place + 1) ls (All-tail IsLine l ls lines)
      (λ k lt. let next : place + suc k ≡ (place + 1) + k = omega arith in subst (λ p. is_at p (target q.0 all) ≡ false) next (apart (suc k) (omega (arith, lt)))) j)
      ∙ sym (line_first q.0 l ls)

  pub one_there : q.1 ≡ false → (l : Line) → IsLine l → is_of q.0 l ≡ true → (place : ℕ) → is_at place (target q.0 all) ≡ true
      → ((t : Name) → first_in set ≡ Some t → IsFilled t) → texts_of q.0 (line_at properties card all place l) ≡ cons_option (first_in set) []
  one_there one l is of place here filled =
      ap (texts_of q.0)
      (mine l of place
      ∙ (λ j. cond (one j) (if_stays (stays set (text_shown q.0 l)) l) (cond (here j) (one_line (first_in set) (text_shown q.0 l) l) (l ∷ []))))
      ∙ one_shows q.0 l is of (first_in set) filled

-- lines one behind the other
pub from_append : (properties : Shown) (card : Tree) (all : List Line) (place : ℕ) (xs ys : List Line)
    → rewritten_from properties card all place (xs ++ ys) ≡ rewritten_from properties card all place xs ++ rewritten_from properties card all (place + length xs) ys
from_append properties card all place [] ys = let e : place ≡ place + 0 = omega arith in ap (λ j. rewritten_from properties card all j ys) e
from_append properties card all place (x ∷ xs) ys =
    let e : (place + 1) + length xs ≡ place + suc (length xs) = omega arith in
    ap (λ ls. line_at properties card all place x ++ ls)
    (from_append properties card all (place + 1) xs ys ∙ ap (λ j. rewritten_from properties card all (place + 1) xs ++ rewritten_from properties card all j ys) e)
    ∙ sym (append_assoc (line_at properties card all place x) (rewritten_from properties card all (place + 1) xs) (rewritten_from properties card all (place + suc (length xs)) ys))
