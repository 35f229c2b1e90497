-- Lines one by one, as the code goes over them.
use Rattle.std.proofs.Common.{◌≡◌, ℕ, ◌+◌, ◌<◌, Bool, true, false, cond, List, [], ◌∷◌, ◌++◌, length, get_or, take, drop, slice_get, Option, Some, sym, ap, ◌∙◌, subst, arith}
use Rattle.std.specs.Prelude.{All}
use Rattle.std.specs.List.{find, cons_option, position_from}
use Rattle.std.proofs.lemmas.List.{length-append, get_or_append_left, get_or-append-add, get_or_default, drop_more, take_more, map-append}
use Rattle.std.proofs.lemmas.Option.{slice_get-get_or}
use Rattle.std.proofs.lemmas.List.Elements.{filter_map-append}
use Rattle.hm_lines_cards.specs.declared.line.Line.{Line}
use Rattle.hm_tree.specs.Names.{Name}
use Rattle.hm_lines_cards.specs.Lines.{IsLine, text_shown, texts_of}
use Rattle.hm_lines_cards.specs.Lent.{line_of, lent, AreLines}

-- a line that was read is one
pub line_there : (ls : List Line) (i : ℕ) (l : Line) → AreLines ls → i < length ls → l ≡ get_or ls i l → IsLine (line_of l)
line_there ls i l all lt is = subst (λ (m : Line). IsLine (line_of m)) (sym is) (all i l lt)

module _ {X : Type 0} (xs : List X) (i : ℕ) (x : X) (lt : i < length xs) (is : x ≡ get_or xs i x) where
  pub dropped : drop i xs ≡ x ∷ drop (i + 1) xs
  dropped = drop_more xs i x lt ∙ ap (λ y. y ∷ drop (i + 1) xs) (sym is)

  pub taken : take (i + 1) xs ≡ take i xs ++ x ∷ []
  taken = take_more xs i x lt ∙ ap (λ y. take i xs ++ y ∷ []) (sym is)

slice_get_is : {X : Type 0} (xs : List X) (i : ℕ) (x : X) → i < length xs → x ≡ get_or xs i x → slice_get xs i ≡ Some x
slice_get_is xs i x lt is = slice_get-get_or xs i x lt ∙ ap Some (sym is)

pub lent_dropped : (ls : List Line) (i : ℕ) (l : Line) → i < length ls → l ≡ get_or ls i l → lent (drop i ls) ≡ line_of l ∷ lent (drop (i + 1) ls)
lent_dropped ls i l lt is = ap lent (dropped ls i l lt is)

pub lent_taken : (ls : List Line) (i : ℕ) (l : Line) → i < length ls → l ≡ get_or ls i l → lent (take (i + 1) ls) ≡ lent (take i ls) ++ line_of l ∷ []
lent_taken ls i l lt is = ap lent (taken ls i l lt is) ∙ map-append line_of (take i ls) (l ∷ [])

-- what holds of each of two lists' elements holds of those of one
module _ {X : Type 0} (P : X → Type 0) (front rest : List X) (all : All P (front ++ rest)) where
  pub front_all : All P front
  front_all k d lt =
      let more = length-append front rest in
      subst P (get_or_append_left front rest d k lt) (all k d (omega (arith, more, lt)))

  pub rest_all : All P rest
  rest_all k d lt =
      let more = length-append front rest in
      subst P (get_or-append-add front rest k d) (all (length front + k) d (omega (arith, more, lt)))

-- ---- the first of which something holds

module _ {X : Type 0} (test : X → Bool) where
  -- from a place on
  pub found_here : (x : X) (xs all : List X) (place : ℕ) → position_from test place (x ∷ xs) ≡ position_from test 0 all → test x ≡ true → Some place ≡ position_from test 0 all
  found_here x xs all place so_far e = sym (ap (λ b. cond b (Some place) (position_from test (place + 1) xs)) e) ∙ so_far

  pub not_here : (x : X) (xs all : List X) (place : ℕ) → position_from test place (x ∷ xs) ≡ position_from test 0 all → test x ≡ false
      → position_from test (place + 1) xs ≡ position_from test 0 all
  not_here x xs all place so_far e = sym (ap (λ b. cond b (Some place) (position_from test (place + 1) xs)) e) ∙ so_far

module _ {X : Type 0} (test : X → Bool) (xs : List X) (i : ℕ) (x : X) (lt : i < length xs) (is : x ≡ get_or xs i x) (so_far : find test (drop i xs) ≡ find test xs) where
  step : find test (x ∷ drop (i + 1) xs) ≡ find test xs
  step = ap (find test) (sym (dropped xs i x lt is)) ∙ so_far

  pub find_here : test x ≡ true → slice_get xs i ≡ find test xs
  find_here e =
      slice_get_is xs i x lt is ∙ sym (ap (λ b. cond b (Some x) (find test (drop (i + 1) xs))) e) ∙ step

  pub find_later : test x ≡ false → find test (drop (i + 1) xs) ≡ find test xs
  find_later e = sym (ap (λ b. cond b (Some x) (find test (drop (i + 1) xs))) e) ∙ step

-- the texts of one line more
pub texts_more : (name : Name) (ls : List Line) (i : ℕ) (d : Line) → i < length ls → (old new : List Name) → old ≡ texts_of name (lent (take i ls))
    → (o : Option Name) → o ≡ text_shown name (line_of (get_or ls i d)) → new ≡ old ++ cons_option o [] → new ≡ texts_of name (lent (take (i + 1) ls))
texts_more name ls i d lt old new before o shown e =
    e ∙ (λ j. before j ++ cons_option (shown j) [])
    ∙ sym (ap (texts_of name) (lent_taken ls i (get_or ls i d) lt (get_or_default ls i d (get_or ls i d) lt))
    ∙ filter_map-append (text_shown name) (lent (take i ls)) (line_of (get_or ls i d) ∷ []))

-- the texts of the lines that are left, of which one is looked at
pub texts_left : (name : Name) (ls : List Line) (i : ℕ) (d : Line) → i < length ls → (o : Option Name) → o ≡ text_shown name (line_of (get_or ls i d))
    → texts_of name (lent (drop i ls)) ≡ cons_option o (texts_of name (lent (drop (i + 1) ls)))
texts_left name ls i d lt o shown =
    ap (texts_of name) (lent_dropped ls i (get_or ls i d) lt (get_or_default ls i d (get_or ls i d) lt))
    ∙ sym (ap (λ t. cons_option t (texts_of name (lent (drop (i + 1) ls)))) shown)
