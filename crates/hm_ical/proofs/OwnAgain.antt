-- What stands in an event that is to show another card, are its own properties and components again.
use Rattle.std.proofs.Common.{◌≡◌, ℕ, ◌+◌, ◌-◌, Bool, true, false, not, ◌&&◌, ◌||◌, cond, codes, List, [], ◌∷◌, ◌++◌, length, map, Option, Some, None, refl, sym, ap, ◌∙◌, subst, arith}
use Rattle.std.specs.Prelude.{All}
use Rattle.std.specs.List.{flat_map}
use Rattle.std.proofs.lemmas.List.{append_assoc, append-nil, take_at}
use Rattle.std.proofs.lemmas.List.Elements.{All-nil, All-cons, All-append, All-head, All-tail}
use Rattle.hm_tree.specs.Names.{Name}
use Rattle.hm_tree.specs.Nodes.{Tree}
use Rattle.hm_lines.specs.declared.content.LineParts.{LineParts}
use Rattle.hm_lines.specs.Content.{colon, IsWord}
use Rattle.hm_lines.specs.Values.{escaped}
use Rattle.hm_book_cards.specs.Cards.{Shown, texts_at}
use Rattle.hm_lines_cards.specs.Lines.{Line, is_of, text_shown}
use Rattle.hm_lines_cards.specs.Rewriting.{Property, stays, if_stays, with_value, is_same as same_text, one_line, first_in, target, line_for, is_at, property_of, line_in, line_at, rewritten_from, new_line, new_texts, lines_for}
use Rattle.hm_lines_cards.proofs.Laws.{parts_of, made_new, made_is_line, same_property}
use Rattle.hm_lines_files.specs.Components.{Bytes}
use Rattle.hm_ical.specs.Lines.{is_same, is_bare, is_barred, IsProperty}
use Rattle.hm_ical.specs.Events.{other_line, AreOwn, nothing, property, component}

-- a property of the event itself, with its parts
pub record IsOwn (line : Line) : Type 0 where
  pub parts : LineParts
  pub are : line.1 ≡ Some parts
  pub is : IsProperty line.0 parts

own_in_front : (xs ys : List Line) → All IsOwn xs → AreOwn ys → AreOwn (xs ++ ys)
own_in_front [] ys all rest = rest
own_in_front (x ∷ xs) ys all rest =
    let one = All-head IsOwn x xs all in
    let made : AreOwn ((x.0, Some one.parts) ∷ (xs ++ ys)) = property one.is (own_in_front xs ys (All-tail IsOwn x xs all) rest) in
    subst (λ (o : Option LineParts). AreOwn ((x.0, o) ∷ (xs ++ ys))) (sym one.are) made

own_append : {xs : List Line} (ys : List Line) → AreOwn xs → AreOwn ys → AreOwn (xs ++ ys)
own_append ys nothing two = two
own_append ys (property is rest) two = property is (own_append ys rest two)
own_append ys (component {inner = inner} {lines = lines} name c rest) two =
    subst AreOwn (sym (append_assoc (map other_line inner) lines ys)) (component name c (own_append ys rest two))

-- ---- properties again

-- which properties are barred, is known of their names and of where their parts are
barred_as : (a b : Bytes) (p : LineParts) → ((q : Name) → is_of q (a, Some p) ≡ is_of q (b, Some p)) → is_barred a p ≡ is_barred b p
barred_as a b p same =
    λ i. (same (codes "BEGIN") i || same (codes "END") i) || (same (codes "VERSION") i && not (is_bare p))

-- with another value
valued : (line : Bytes) (parts : LineParts) → IsProperty line parts → (t : Name) → IsOwn (with_value line (Some parts) t)
valued line parts is t = record {
  parts = parts;
  are = refl;
  is = record {
    content = made_is_line (line, Some parts) is.content t;
    free = barred_as (with_value line (Some parts) t).0 line parts (λ q. same_property q (line, Some parts) is.content t) ∙ is.free;
  };
}

-- names that aren't those around properties
pub record IsFree (name : Name) : Type 0 where
  pub begin : is_same name (codes "BEGIN") ≡ false
  pub end : is_same name (codes "END") ≡ false
  pub version : is_same name (codes "VERSION") ≡ false

-- a new line is of its property
pub new_of : (name q : Name) (t : Name) → is_of q (new_line name t) ≡ is_same name q
new_of name q t = ap (λ n. is_same n q) (take_at name (colon ∷ escaped t) (length name - 0) (omega arith))

pub new_own : (name : Name) → IsWord name → IsFree name → (t : Name) → IsOwn (new_line name t)
new_own name word free t = record {
  parts = parts_of name;
  are = refl;
  is = record {
    content = made_new name word t;
    free = λ i.
        ((new_of name (codes "BEGIN") t ∙ free.begin) i || (new_of name (codes "END") t ∙ free.end) i)
        || ((new_of name (codes "VERSION") t ∙ free.version) i && not (is_bare (parts_of name)));
  };
}

-- ---- what becomes of lines

module _ (shown : Shown) (card : Tree) (all : List Line) where
  one : (line : Line) → IsOwn line → All IsOwn (line ∷ [])
  one line is = All-cons IsOwn line [] is (All-nil IsOwn)

  module _ (line : Bytes) (parts : LineParts) (is : IsProperty line parts) where
    abbrev whole : Line
    whole = (line, Some parts)

    own_is : IsOwn (line, Some parts)
    own_is = record { parts = parts; are = refl; is = is }

    in_one : (new old : Option Name) → All IsOwn (one_line new old (line, Some parts))
    in_one None None = one (line, Some parts) own_is
    in_one None (Some k) = All-nil IsOwn
    in_one (Some t) old = go (same_text old t)
      where
        go : (b : Bool) → All IsOwn (cond b (line, Some parts) (with_value line (Some parts) t) ∷ [])
        go true = one (line, Some parts) own_is
        go false = one (with_value line (Some parts) t) (valued line parts is t)

    in_line : (o : Option Property) (place : ℕ) → All IsOwn (line_in o card all place (line, Some parts))
    in_line None place = one (line, Some parts) own_is
    in_line (Some p) place = go p.1 (is_at place (target p.0 all))
      where
        stay : (b : Bool) → All IsOwn (if_stays b (line, Some parts))
        stay true = one (line, Some parts) own_is
        stay false = All-nil IsOwn

        go : (many at : Bool) → All IsOwn (line_for (p.0, many) (texts_at p.0 card) at (line, Some parts))
        go true at = stay (stays (texts_at p.0 card) (text_shown p.0 (line, Some parts)))
        go false true = in_one (first_in (texts_at p.0 card)) (text_shown p.0 (line, Some parts))
        go false false = one (line, Some parts) own_is

  -- lines of no property of the event stay
  none_of : (ps : Shown) (line : Bytes) → property_of ps (other_line line) ≡ None
  none_of [] line = refl
  none_of (p ∷ ps) line = none_of ps line

  pub other_stays : (line : Bytes) (place : ℕ) → line_at shown card all place (other_line line) ≡ other_line line ∷ []
  other_stays line place = ap (λ (o : Option Property). line_in o card all place (other_line line)) (none_of shown line)

  pub record AreBehind (inner : List Bytes) (rest : List Line) (place : ℕ) : Type 0 where
    pub from : ℕ
    pub are : rewritten_from shown card all place (map other_line inner ++ rest) ≡ map other_line inner ++ rewritten_from shown card all from rest

  others_stay : (inner : List Bytes) (rest : List Line) (place : ℕ) → AreBehind inner rest place
  others_stay [] rest place = record { from = place; are = refl }
  others_stay (line ∷ inner) rest place =
      let later = others_stay inner rest (place + 1) in
      record { from = later.from; are = λ i. other_stays line place i ++ later.are i }

  pub own_again : {lines : List Line} → AreOwn lines → (place : ℕ) → AreOwn (rewritten_from shown card all place lines)
  own_again nothing place = nothing
  own_again (property {line = line} {parts = parts} {lines = lines} is rest) place =
      own_in_front (line_at shown card all place (line, Some parts)) (rewritten_from shown card all (place + 1) lines)
      (in_line line parts is (property_of shown (line, Some parts)) place) (own_again rest (place + 1))
  own_again (component {inner = inner} {lines = lines} name c rest) place =
      let behind = others_stay inner lines place in
      subst AreOwn (sym behind.are) (component name c (own_again rest behind.from))

  -- and new ones are properties
  new_all : (p : Property) → IsWord p.0 → IsFree p.0 → (ts : List Name) → All IsOwn (map (new_line p.0) ts)
  new_all p word free [] = All-nil IsOwn
  new_all p word free (t ∷ ts) = All-cons IsOwn (new_line p.0 t) (map (new_line p.0) ts) (new_own p.0 word free t) (new_all p word free ts)

  new_are : (ps : Shown) → All (λ (p : Property). IsWord p.0) ps → All (λ (p : Property). IsFree p.0) ps → All IsOwn (flat_map (lines_for card all) ps)
  new_are [] words free = All-nil IsOwn
  new_are (p ∷ ps) words free =
      All-append IsOwn (lines_for card all p) (flat_map (lines_for card all) ps)
      (new_all p (All-head (λ (p : Property). IsWord p.0) p ps words) (All-head (λ (p : Property). IsFree p.0) p ps free) (new_texts card all p))
      (new_are ps (All-tail (λ (p : Property). IsWord p.0) p ps words) (All-tail (λ (p : Property). IsFree p.0) p ps free))

pub own_from : (xs : List Line) → All IsOwn xs → AreOwn xs
own_from xs all = subst AreOwn (append-nil xs) (own_in_front xs [] all nothing)

-- an event's lines behind its first
pub own_rewritten : (shown : Shown) → All (λ (p : Property). IsWord p.0) shown → All (λ (p : Property). IsFree p.0) shown → (card : Tree) (all lines : List Line)
    → AreOwn lines → AreOwn (rewritten_from shown card all 1 lines ++ flat_map (lines_for card all) shown)
own_rewritten shown words free card all lines is =
    own_append (flat_map (lines_for card all) shown) (own_again shown card all is 1) (own_from (flat_map (lines_for card all) shown) (new_are shown card all shown words free))
