-- When lines show many texts of a property.
use Rattle.std.proofs.Common.{◌≡◌, ℕ, ◌+◌, ◌<◌, ◌≤◌, Bool, true, false, not, cond, ◌&&◌, ◌||◌, List, [], ◌∷◌, ◌++◌, length, get_or, take, Option, Some, None, refl, sym, ap, ◌∙◌, subst, arith}
use Rattle.std.specs.Option.{is_some}
use Rattle.std.specs.List.{list_any, cons_option}
use Rattle.std.proofs.lemmas.List.{length-append, length-map, get_or-map, take-map}
use Rattle.std.proofs.lemmas.List.Elements.{All-head, All-tail, All-cons, All-nil, filter_map-append}
use Rattle.hm_tree.specs.Names.{Name}
use Rattle.hm_book_cards.specs.Cards.{Shown}
use Rattle.hm_lines_cards.specs.Lines.{Line, text_shown, shows, texts_of, is_second, AreFew, IsFirstSecond}
use Rattle.hm_lines_cards.specs.declared.line.Line.{Line as LentLine}
use Rattle.hm_lines_cards.specs.Lent.{line_of, lent}
use Rattle.hm_lines_cards.proofs.LentLines.{taken}

one_shown : (o : Option Name) (rest : List Name) → length (cons_option o rest) ≡ cond (is_some o) 1 0 + length rest
one_shown None rest = omega arith
one_shown (Some k) rest = omega arith

pub none_shown : (name : Name) (ls : List Line) → list_any (shows name) ls ≡ false → texts_of name ls ≡ []
none_shown name [] e = refl
none_shown name (l ∷ ls) e = go (text_shown name l) e (none_shown name ls)
  where
    go : (o : Option Name) → (is_some o || list_any (shows name) ls) ≡ false → (list_any (shows name) ls ≡ false → texts_of name ls ≡ [])
        → cons_option o (texts_of name ls) ≡ []
    go None e rest = rest e
    go (Some k) e rest = let bad : ⊥ = cc in absurd bad

pub some_shown : (name : Name) (ls : List Line) → list_any (shows name) ls ≡ true → 1 ≤ length (texts_of name ls)
some_shown name [] e = let bad : ⊥ = cc in absurd bad
some_shown name (l ∷ ls) e = go (text_shown name l) e (some_shown name ls)
  where
    go : (o : Option Name) → (is_some o || list_any (shows name) ls) ≡ true → (list_any (shows name) ls ≡ true → 1 ≤ length (texts_of name ls))
        → 1 ≤ length (cons_option o (texts_of name ls))
    go None e rest = rest e
    go (Some k) e rest = omega arith

module _ (before : List Line) (l : Line) where
  -- how many texts there are with a line more
  with_it : (name : Name) → length (texts_of name (before ++ l ∷ [])) ≡ length (texts_of name before) + cond (shows name l) 1 0
  with_it name =
      ap length (filter_map-append (text_shown name) before (l ∷ [])) ∙ length-append (texts_of name before) (cons_option (text_shown name l) [])
      ∙ (let one = one_shown (text_shown name l) [] in omega (arith, one))

  one_few : (p : Name × Bool) → is_second before l p ≡ false → p.1 ≡ false → length (texts_of p.0 before) ≤ 1 → length (texts_of p.0 (before ++ l ∷ [])) ≤ 1
  one_few p e single few = go (shows p.0 l) (list_any (shows p.0) before) refl refl (subst (λ b. (not b && (shows p.0 l && list_any (shows p.0) before)) ≡ false) single e)
    where
      go : (here earlier : Bool) → shows p.0 l ≡ here → list_any (shows p.0) before ≡ earlier → (here && earlier) ≡ false
          → length (texts_of p.0 (before ++ l ∷ [])) ≤ 1
      go false earlier h f e = let more = with_it p.0 ∙ ap (λ b. length (texts_of p.0 before) + cond b 1 0) h in omega (arith, more)
      go true false h f e =
          let more = with_it p.0 ∙ (λ i. length (none_shown p.0 before f i) + cond (h i) 1 0) in omega (arith, more)
      go true true h f e = let bad : ⊥ = cc in absurd bad

  -- with a line that is no second one there are still few
  pub few_more : (properties : Shown) → list_any (is_second before l) properties ≡ false → AreFew properties before → AreFew properties (before ++ l ∷ [])
  few_more [] e few = All-nil (λ (p : Name × Bool). p.1 ≡ false → length (texts_of p.0 (before ++ l ∷ [])) ≤ 1)
  few_more (p ∷ properties) e few = go (is_second before l p) refl e (few_more properties)
    where
      go : (b : Bool) → is_second before l p ≡ b → (b || list_any (is_second before l) properties) ≡ false
          → (list_any (is_second before l) properties ≡ false → AreFew properties before → AreFew properties (before ++ l ∷ []))
          → AreFew (p ∷ properties) (before ++ l ∷ [])
      go true f e rest = let bad : ⊥ = cc in absurd bad
      go false f e rest =
          All-cons (λ (p : Name × Bool). p.1 ≡ false → length (texts_of p.0 (before ++ l ∷ [])) ≤ 1) p properties
          (λ single. one_few p f single (All-head (λ (p : Name × Bool). p.1 ≡ false → length (texts_of p.0 before) ≤ 1) p properties few single))
          (rest e (All-tail (λ (p : Name × Bool). p.1 ≡ false → length (texts_of p.0 before) ≤ 1) p properties few))

  one_many : (p : Name × Bool) → is_second before l p ≡ true → (p.1 ≡ false → length (texts_of p.0 (before ++ l ∷ [])) ≤ 1) → ⊥
  one_many p e few = go p.1 (shows p.0 l) (list_any (shows p.0) before) refl refl refl e
    where
      go : (many here earlier : Bool) → p.1 ≡ many → shows p.0 l ≡ here → list_any (shows p.0) before ≡ earlier → (not many && (here && earlier)) ≡ true → ⊥
      go true here earlier m h f e = let bad : ⊥ = cc in bad
      go false false earlier m h f e = let bad : ⊥ = cc in bad
      go false true false m h f e = let bad : ⊥ = cc in bad
      go false true true m h f e =
          let more = with_it p.0 ∙ ap (λ b. length (texts_of p.0 before) + cond b 1 0) h in
          let some = some_shown p.0 before f in
          let most = few m in
          omega (arith, more, some, most)

  -- and with a second one there are many
  pub many_then : (properties : Shown) → list_any (is_second before l) properties ≡ true → AreFew properties (before ++ l ∷ []) → ⊥
  many_then [] e few = let bad : ⊥ = cc in bad
  many_then (p ∷ properties) e few = go (is_second before l p) refl e (many_then properties)
    where
      go : (b : Bool) → is_second before l p ≡ b → (b || list_any (is_second before l) properties) ≡ true
          → (list_any (is_second before l) properties ≡ true → AreFew properties (before ++ l ∷ []) → ⊥) → ⊥
      go true f e rest = one_many p f (All-head (λ (p : Name × Bool). p.1 ≡ false → length (texts_of p.0 (before ++ l ∷ [])) ≤ 1) p properties few)
      go false f e rest = rest e (All-tail (λ (p : Name × Bool). p.1 ≡ false → length (texts_of p.0 (before ++ l ∷ [])) ≤ 1) p properties few)

-- the same of lines that are lent
module _ (properties : Shown) (ls : List LentLine) (place : ℕ) (d : LentLine) (lt : place < length ls) (few : AreFew properties (take place (lent ls))) where
  here : Line
  here = line_of (get_or ls place d)

  before_is : lent (take place ls) ≡ take place (lent ls)
  before_is = sym (take-map line_of place ls)

  taken_is : take (place + 1) (lent ls) ≡ take place (lent ls) ++ here ∷ []
  unfolding here
  taken_is =
      taken (lent ls) place (line_of (get_or ls place d)) (subst (λ n. place < n) (sym (length-map ls line_of)) lt)
      (sym (get_or-map line_of ls place d (line_of (get_or ls place d)) lt))

  pub first_second : list_any (is_second (lent (take place ls)) (line_of (get_or ls place d))) properties ≡ true → IsFirstSecond properties (lent ls) place
  unfolding here
  first_second e = record {
    within = subst (λ n. place < n) (sym (length-map ls line_of)) lt;
    before = few;
    many = λ all.
        many_then (take place (lent ls)) here properties (ap (λ b. list_any (is_second b here) properties) (sym before_is) ∙ e) (subst (AreFew properties) taken_is all);
  }

  pub few_still : list_any (is_second (lent (take place ls)) (line_of (get_or ls place d))) properties ≡ false → AreFew properties (take (place + 1) (lent ls))
  unfolding here
  few_still e =
      subst (AreFew properties) (sym taken_is)
      (few_more (take place (lent ls)) here properties (ap (λ b. list_any (is_second b here) properties) (sym before_is) ∙ e) few)
