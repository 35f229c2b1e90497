-- `eq` of two iterators tells whether they give the same items.
use Rattle.std.proofs.Common.{◌≡◌, ◌≢◌, ◌↔◌, ℕ, Bool, true, false, List, [], ◌∷◌, Option, Some, None, refl, sym, ap, ◌∙◌}
use Rattle.std.specs.Prelude.{nat_eq, MatchOption, IfSome}
use Rattle.std.specs.Iterator.{Yields, AlwaysYields, ComparesItemsByEq}
use Rattle.std.specs.List.{AllZip}
use Rattle.std.proofs.lemmas.Bool.{true≢false, eqb-true, eqb-false}

-- every run from s gives these items
abbrev pub Gives : {S : Type 0} → (S → Option ℕ → S → Type 0) → S → List ℕ → Type 0
Gives steps s all = AlwaysYields steps (λ c. c) s all

module _ {S : Type 0} (steps : S → Option ℕ → S → Type 0) where
  gives_first : (s t : S) (x : ℕ) (all : List ℕ) → steps s (Some x) t → Gives steps s all → (rest : List ℕ) × (all ≡ x ∷ rest) × Gives steps t rest
  gives_first s t x [] step h = absurd (h x t step)
  gives_first s t x (y ∷ rest) step h = let parts = h.1 x t step in (rest, ap (λ c. c ∷ rest) (sym parts.0), parts.1)

  gives_none : (s t : S) (all : List ℕ) → steps s None t → Gives steps s all → all ≡ []
  gives_none s t [] step h = refl
  gives_none s t (y ∷ rest) step h = absurd (h.0 t step)

one_ended : (left right : List ℕ) (x : ℕ) (xs : List ℕ) → left ≡ x ∷ xs → right ≡ [] → left ≢ right
one_ended left right x xs first second e = cc

firsts_differ : (left right : List ℕ) (x y : ℕ) (xs ys : List ℕ) → left ≡ x ∷ xs → right ≡ y ∷ ys → x ≢ y → left ≢ right
firsts_differ left right x y xs ys first second other e = other (cc)

rests_same : (left right : List ℕ) (x : ℕ) (xs ys : List ℕ) → left ≡ x ∷ xs → right ≡ x ∷ ys → left ≡ right → xs ≡ ys
rests_same left right x xs ys first second e = cc

never : (r : Bool) (left right : List ℕ) → r ≡ false → left ≢ right → (r ≡ true) ↔ (left ≡ right)
never r left right is other = (λ yes. absurd (true≢false (sym yes ∙ is)), λ e. absurd (other e))

module _ {S T : Type 0} (steps : S → Option ℕ → S → Type 0) (others : T → Option ℕ → T → Type 0) (r : Bool) where
  -- what each gave at last, and what that makes of the answer
  abbrev AnswersBy : Option ℕ → Option ℕ → Type 0
  AnswersBy o p = MatchOption o (MatchOption p (r ≡ true) (λ _. r ≡ false)) (λ x. (r ≡ false) × IfSome p (λ y. nat_eq x y ≡ false))

  same_at_last : (o p : Option ℕ) (s u : S) (t v : T) (left right : List ℕ) → Gives steps s left → Gives others t right → steps s o u
      → others t p v → AnswersBy o p → (r ≡ true) ↔ (left ≡ right)
  same_at_last None None s u t v left right h g step other is =
      (λ _. gives_none steps s u left step h ∙ sym (gives_none others t v right other g), λ _. is)
  same_at_last None (Some y) s u t v left right h g step other is =
      let there = gives_first others t v y right other g in
      never r left right is (λ e. one_ended right left y there.0 there.1 (gives_none steps s u left step h) (sym e))
  same_at_last (Some x) None s u t v left right h g step other is =
      let here = gives_first steps s u x left step h in
      never r left right is.0 (one_ended left right x here.0 here.1 (gives_none others t v right other g))
  same_at_last (Some x) (Some y) s u t v left right h g step other is =
      let here = gives_first steps s u x left step h in
      let there = gives_first others t v y right other g in
      never r left right is.0 (firsts_differ left right x y here.0 there.0 here.1 there.1 (eqb-false x y is.1))

  same_from_runs : (xs ys : List ℕ) (o p : Option ℕ) (s a u : S) (t b v : T) (left right : List ℕ) → Gives steps s left → Gives others t right
      → Yields steps s xs a → steps a o u → Yields others t ys b → others b p v → AllZip (λ x y. nat_eq x y ≡ true) xs ys → AnswersBy o p
      → (r ≡ true) ↔ (left ≡ right)
  same_from_runs [] [] o p s a u t b v left right h g run step other_run other alike is =
      same_at_last o p s u t v left right h g (rw run step) (rw other_run other) is
  same_from_runs [] (y ∷ ys) o p s a u t b v left right h g run step other_run other alike is = absurd alike
  same_from_runs (x ∷ xs) [] o p s a u t b v left right h g run step other_run other alike is = absurd alike
  same_from_runs (x ∷ xs) (y ∷ ys) o p s a u t b v left right h g run step other_run other alike is =
      let here = gives_first steps s run.0 x left run.1 h in
      let there = gives_first others t other_run.0 y right other_run.1 g in
      let first = here.1 ∙ ap (λ c. c ∷ here.0) (eqb-true x y alike.0) in
      let more = same_from_runs xs ys o p run.0 a u other_run.0 b v here.0 there.0 here.2 there.2 run.2 step other_run.2 other alike.1 is in
      (λ yes. first ∙ ap (λ l. y ∷ l) (more.0 yes) ∙ sym there.1, λ e. more.1 (rests_same left right y here.0 there.0 first there.1 e))

  pub same_from_eq : {U : Type 0} (becomes : U → T → Type 0) (s : S) (other : U) (left right : List ℕ)
      → ComparesItemsByEq steps becomes others s other nat_eq r → Gives steps s left → ((it : T) → becomes other it → Gives others it right)
      → (r ≡ true) ↔ (left ≡ right)
  same_from_eq becomes s other left right run h g =
      same_from_runs run.1 run.2 run.3 run.4 s run.8.0 run.5 run.0 run.9.0 run.6 left right h (g run.0 run.7) run.8.1 run.8.2 run.9.1 run.9.2
      run.10 run.11
