-- The new lines of a property, and what becomes of lines one by one.
use Rattle.std.proofs.Common.{◌≡◌, ℕ, suc, ◌+◌, ◌<◌, true, false, not, cond, List, [], ◌∷◌, ◌++◌, length, get_or, take, map, filter, Option, None, sym, ap, ◌∙◌, arith}
use Rattle.std.specs.Option.{is_some, is_none}
use Rattle.std.specs.List.{flat_map}
use Rattle.std.specs.FinSet.{FinSet, contains}
use Rattle.std.proofs.lemmas.List.{append_assoc, append-nil, map-append, length-take-le, flat_map_more}
use Rattle.hm_tree.specs.Names.{Name, name_cmp}
use Rattle.hm_tree.specs.Nodes.{Tree}
use Rattle.hm_tree.specs.Sets.{ascending}
use Rattle.hm_book_cards.specs.Cards.{Shown, texts_at, no_texts}
use Rattle.hm_tree.specs.Sets.{new_names}
use Rattle.hm_lines_cards.specs.Lines.{Line, set_of}
use Rattle.hm_lines_cards.specs.Rewriting.{Property, target, new_line, lines_for, line_at, rewritten_from}
use Rattle.hm_lines_cards.specs.Lent.{target_of, plain}
use Rattle.hm_lines_cards.proofs.LentLines.{taken}
use Rattle.hm_lines_cards.proofs.Texts.{filter_none}

-- a property of one text that has no line gets one for each text
pub lines_for_one : (card : Tree) (lines : List Line) (p : Property) (o : Option ℕ) → p.1 ≡ false → o ≡ target_of lines p → is_some o ≡ false
    → (none : FinSet name_cmp) → none ≡ no_texts → (names : List Name) → ascending (texts_at p.0 card) ≡ names
    → map (new_line p.0) (filter (λ k. not (contains none k)) names) ≡ lines_for card lines p
lines_for_one card lines p o one is no_line none empty names are =
    ap (map (new_line p.0))
    (filter_none none empty names ∙ sym are
    ∙ sym (ap (λ b. cond b (new_names (set_of p.0 lines) (texts_at p.0 card)) (cond (is_none (target p.0 lines)) (ascending (texts_at p.0 card)) [])) one
    ∙ ap (λ b. cond b (ascending (texts_at p.0 card)) []) lacks))
  where
    lacks : is_none (target p.0 lines) ≡ true
    lacks = ap is_none (sym (is ∙ ap (λ b. cond b None (target p.0 lines)) one)) ∙ ap not no_line

-- one line more
pub from_more : (properties : Shown) (card : Tree) (all : List Line) (place : ℕ) (xs : List Line) (l : Line)
    → rewritten_from properties card all place (xs ++ l ∷ []) ≡ rewritten_from properties card all place xs ++ line_at properties card all (place + length xs) l
from_more properties card all place [] l =
    append-nil (line_at properties card all place l) ∙ ap (λ j. line_at properties card all j l) (omega arith)
from_more properties card all place (x ∷ xs) l =
    ap (λ ls. line_at properties card all place x ++ ls)
    (from_more properties card all (place + 1) xs l
    ∙ ap (λ j. rewritten_from properties card all (place + 1) xs ++ line_at properties card all j l) (omega arith))
    ∙ sym (append_assoc (line_at properties card all place x) (rewritten_from properties card all (place + 1) xs) (line_at properties card all (place + suc (length xs)) l))

pub old_more : (properties : Shown) (card : Tree) (all : List Line) (place : ℕ) (l : Line) → place < length all → l ≡ get_or all place l
    → (base old new bytes : List (List ℕ)) → old ≡ base ++ plain (rewritten_from properties card all 0 (take place all))
    → bytes ≡ plain (line_at properties card all place l) → new ≡ old ++ bytes
    → new ≡ base ++ plain (rewritten_from properties card all 0 (take (place + 1) all))
old_more properties card all place l lt is base old new bytes before here e =
    let long : 0 + length (take place all) ≡ place = omega (arith, length-take-le place all (omega arith)) in
    e ∙ (λ i. before i ++ here i) ∙ append_assoc base (plain (rewritten_from properties card all 0 (take place all))) (plain (line_at properties card all place l))
    ∙ ap (λ r. base ++ r)
    (sym (map-append (λ (l : Line). l.0) (rewritten_from properties card all 0 (take place all)) (line_at properties card all place l))
    ∙ ap plain
    (ap (λ j. rewritten_from properties card all 0 (take place all) ++ line_at properties card all j l) (sym long)
    ∙ sym (from_more properties card all 0 (take place all) l) ∙ ap (rewritten_from properties card all 0) (sym (taken all place l lt is))))

-- the new lines of one property more
pub new_more : (F : Property → List Line) (properties : Shown) (place : ℕ) (p : Property) → place < length properties → p ≡ get_or properties place p
    → (base old new : List (List ℕ)) → old ≡ base ++ plain (flat_map F (take place properties)) → new ≡ old ++ plain (F p)
    → new ≡ base ++ plain (flat_map F (take (place + 1) properties))
new_more F properties place p lt is base old new before e =
    e ∙ ap (λ o. o ++ plain (F p)) before
    ∙ append_assoc base (plain (flat_map F (take place properties))) (plain (F p))
    ∙ ap (λ r. base ++ r)
    (sym (map-append (λ (l : Line). l.0) (flat_map F (take place properties)) (F p))
    ∙ ap plain (flat_map_more F [] (take place properties) p ∙ ap (flat_map F) (sym (taken properties place p lt is))))
