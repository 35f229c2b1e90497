-- The line of a property of one text: where it stands among all lines, and that no other one shows a text.
use Rattle.std.proofs.Common.{◌≡◌, ℕ, ◌+◌, ◌≤◌, Bool, true, false, cond, ◌||◌, List, [], ◌∷◌, ◌++◌, length, Option, Some, None, refl, sym, ap, ◌∙◌, arith}
use Rattle.std.specs.Option.{option_or, is_some}
use Rattle.std.specs.List.{list_any, cons_option, position_from}
use Rattle.std.proofs.lemmas.Bool.{or_parts, or_from}
use Rattle.std.proofs.lemmas.Option.{none-some, same_Some}
use Rattle.std.proofs.lemmas.List.{length-append, nil_from_length}
use Rattle.std.proofs.lemmas.List.Elements.{filter_map-append}
use Rattle.std.proofs.lemmas.List.Folds.{list_any-append}
use Rattle.hm_tree.specs.Names.{Name}
use Rattle.hm_lines_cards.specs.Lines.{Line, is_of, text_in, text_shown, shows, texts_of}
use Rattle.hm_lines_cards.specs.Rewriting.{target, first_place}
use Rattle.hm_lines_cards.proofs.Seconds.{none_shown}

-- ---- the first of which something holds

record IsFirst {X : Type 0} (test : X → Bool) (xs : List X) (place j : ℕ) : Type 0 where
  before : List X
  here : X
  after : List X
  are : xs ≡ before ++ here ∷ after
  holds : test here ≡ true
  none : list_any test before ≡ false
  at : j ≡ place + length before

module _ {X : Type 0} (test : X → Bool) where
  first_at : (xs : List X) (place j : ℕ) → position_from test place xs ≡ Some j → IsFirst test xs place j
  first_at [] place j e = absurd (none-some j e)
  first_at (x ∷ xs) place j e = go (test x) refl e (first_at xs (place + 1) j)
    where
      go : (b : Bool) → test x ≡ b → cond b (Some place) (position_from test (place + 1) xs) ≡ Some j
          → (position_from test (place + 1) xs ≡ Some j → IsFirst test xs (place + 1) j) → IsFirst test (x ∷ xs) place j
      go true t e rest = record {
        before = [];
        here = x;
        after = xs;
        are = refl;
        holds = t;
        none = refl;
        at = sym (same_Some place j e) ∙ (omega arith);
      }
      go false t e rest =
          let r = rest e in
          record {
            before = x ∷ r.before;
            here = r.here;
            after = r.after;
            are = ap (λ l. x ∷ l) r.are;
            holds = r.holds;
            none = or_from (test x) (list_any test r.before) t r.none;
            at = let h = r.at in omega (arith, h);
          }

  none_at : (xs : List X) (place : ℕ) → position_from test place xs ≡ None → list_any test xs ≡ false
  none_at [] place e = refl
  none_at (x ∷ xs) place e = go (test x) refl e (none_at xs (place + 1))
    where
      go : (b : Bool) → test x ≡ b → cond b (Some place) (position_from test (place + 1) xs) ≡ None → (position_from test (place + 1) xs ≡ None → list_any test xs ≡ false)
          → (test x || list_any test xs) ≡ false
      go true t e rest = absurd (none-some place (sym e))
      go false t e rest = or_from (test x) (list_any test xs) t (rest e)

-- ---- the target

-- the line of a property, and that those before and after it show no text
pub record IsTarget (q : Name) (lines : List Line) : Type 0 where
  pub before : List Line
  pub here : Line
  pub after : List Line
  pub are : lines ≡ before ++ here ∷ after
  pub at : target q lines ≡ Some (length before)
  pub of : is_of q here ≡ true
  pub none_before : texts_of q before ≡ []
  pub none_after : texts_of q after ≡ []

pub shows_of : (q : Name) (l : Line) → shows q l ≡ true → is_of q l ≡ true
shows_of q l e = go (is_of q l) e
  where
    go : (b : Bool) → is_some (cond b (text_in l.0 l.1) None) ≡ true → b ≡ true
    go true e = refl
    go false e = let bad : ⊥ = cc in absurd bad

parts_append : (q : Name) (before : List Line) (here : Line) (after : List Line)
    → texts_of q (before ++ here ∷ after) ≡ texts_of q before ++ cons_option (text_shown q here) (texts_of q after)
parts_append q before here after = filter_map-append (text_shown q) before (here ∷ after)

module _ (q : Name) (lines : List Line) (few : length (texts_of q lines) ≤ 1) where
  -- where a line shows a text
  shown_target : (j : ℕ) → first_place (shows q) lines ≡ Some j → IsTarget q lines
  shown_target j e =
      let f = first_at (shows q) lines 0 j e in
      record {
        before = f.before;
        here = f.here;
        after = f.after;
        are = f.are;
        at = ap (λ o. option_or o (first_place (is_of q) lines)) e ∙ ap Some (f.at ∙ (omega arith));
        of = shows_of q f.here f.holds;
        none_before = none_shown q f.before f.none;
        none_after = go f.before f.here f.after (text_shown q f.here) f.are refl f.holds;
      }
    where
      go : (before : List Line) (here : Line) (after : List Line) (o : Option Name) → lines ≡ before ++ here ∷ after → text_shown q here ≡ o → is_some (text_shown q here) ≡ true
          → texts_of q after ≡ []
      go before here after None are is e = let bad : ⊥ = cc in absurd bad
      go before here after (Some t) are is e =
          let all = ap length (ap (texts_of q) are ∙ parts_append q before here after ∙ ap (λ o. texts_of q before ++ cons_option o (texts_of q after)) is)
          ∙ length-append (texts_of q before) (t ∷ texts_of q after) in
          nil_from_length (texts_of q after) (omega (arith, all, few))

  -- and where none does
  first_target : (j : ℕ) → first_place (shows q) lines ≡ None → first_place (is_of q) lines ≡ Some j → IsTarget q lines
  first_target j none e =
      let f = first_at (is_of q) lines 0 j e in
      let all : (list_any (shows q) f.before || (shows q f.here || list_any (shows q) f.after)) ≡ false =
      sym (list_any-append (shows q) f.before (f.here ∷ f.after)) ∙ ap (list_any (shows q)) (sym f.are) ∙ none_at (shows q) lines 0 none in
      let apart = or_parts (list_any (shows q) f.before) (shows q f.here || list_any (shows q) f.after) all in
      let later = or_parts (shows q f.here) (list_any (shows q) f.after) apart.1 in
      record {
        before = f.before;
        here = f.here;
        after = f.after;
        are = f.are;
        at = (λ i. option_or (none i) (e i)) ∙ ap Some (f.at ∙ (omega arith));
        of = f.holds;
        none_before = none_shown q f.before apart.0;
        none_after = none_shown q f.after later.1;
      }

  -- all that may be
  pub data Target : Type 0 where
    has_target : IsTarget q lines → Target
    no_target : target q lines ≡ None → list_any (is_of q) lines ≡ false → Target

  pub target_is : Target
  target_is = go (first_place (shows q) lines) (first_place (is_of q) lines) refl refl
    where
      go : (s f : Option ℕ) → first_place (shows q) lines ≡ s → first_place (is_of q) lines ≡ f → Target
      go (Some j) f e h = has_target (shown_target j e)
      go None (Some j) e h = has_target (first_target j e h)
      go None None e h = no_target (λ i. option_or (e i) (h i)) (none_at (is_of q) lines 0 h)

-- a property without lines shows nothing
pub no_lines : (q : Name) (lines : List Line) → list_any (is_of q) lines ≡ false → texts_of q lines ≡ []
no_lines q [] e = refl
no_lines q (l ∷ lines) e =
    let apart = or_parts (is_of q l) (list_any (is_of q) lines) e in
    ap (λ b. cons_option (cond b (text_in l.0 l.1) None) (texts_of q lines)) apart.0 ∙ no_lines q lines apart.1
