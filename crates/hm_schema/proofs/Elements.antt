-- That something holds of an element of a list, by recursion on the list, and what follows where something holds of all.
use Rattle.std.proofs.Common.{◌≡◌, ◌⊎◌, zero, suc, Bool, true, false, cond, IsTrue, List, [], ◌∷◌, ◌++◌, All, Any, Contains, refl, sym, subst, ◌∙◌, arith, inl, inr}
use Rattle.std.proofs.lemmas.Bool.{true≢false}
use Rattle.std.proofs.lemmas.List.Elements.{All-nil, All-cons, All-head, All-tail}
use Rattle.std.specs.List.{filter}

pub data Holds {X : Type 0} (P : X → Type 0) : List X → Type 0 where
  at_head : {x : X} {xs : List X} → P x → Holds P (x ∷ xs)
  in_tail : {x : X} {xs : List X} → Holds P xs → Holds P (x ∷ xs)

module _ {X : Type 0} (P : X → Type 0) where
  pub holds_from : (xs : List X) → Any P xs → Holds P xs
  holds_from [] (k, x, lt, e, h) = absurd (omega arith)
  holds_from (y ∷ xs) (zero, x, lt, e, h) = at_head (subst P (sym e) h)
  holds_from (y ∷ xs) (suc k, x, lt, e, h) = in_tail (holds_from xs (k, x, omega arith, e, h))

  pub holds_to : {xs : List X} → Holds P xs → Any P xs
  holds_to (at_head {x = x} h) = (0, x, omega arith, refl, h)
  holds_to (in_tail h) = let a = holds_to h in (suc a.0, a.1, (let lt = a.2 in omega arith), a.3, a.4)

  pub holds_left : {xs : List X} (ys : List X) → Holds P xs → Holds P (xs ++ ys)
  holds_left ys (at_head h) = at_head h
  holds_left ys (in_tail h) = in_tail (holds_left ys h)

  pub holds_right : (xs : List X) {ys : List X} → Holds P ys → Holds P (xs ++ ys)
  holds_right [] h = h
  holds_right (x ∷ xs) h = in_tail (holds_right xs h)

  pub holds_split : (xs ys : List X) → Holds P (xs ++ ys) → Holds P xs ⊎ Holds P ys
  holds_split [] ys h = inr h
  holds_split (x ∷ xs) ys (at_head h) = inl (at_head h)
  holds_split (x ∷ xs) ys (in_tail h) = elim (holds_split xs ys h) [ inl g ↦ inl (in_tail g) | inr g ↦ inr g ]

  -- of the one element of a list
  pub any_one : (x : X) → P x → Any P (x ∷ [])
  any_one x h = (0, x, omega arith, refl, h)

  pub one_any : (x : X) → Any P (x ∷ []) → P x
  one_any x (zero, y, lt, e, h) = subst P (sym e) h
  one_any x (suc k, y, lt, e, h) = absurd (omega arith)

  pub all_one : (x : X) → P x → All P (x ∷ [])
  all_one x h = All-cons P x [] h (All-nil P)

  pub any_of : (xs : List X) (x : X) → Contains xs x → P x → Any P xs
  any_of xs x c h = (c.0, x, c.1, c.2, h)

  pub all_left : (xs ys : List X) → All P (xs ++ ys) → All P xs
  all_left [] ys h = All-nil P
  all_left (x ∷ xs) ys h = All-cons P x xs (All-head P x (xs ++ ys) h) (all_left xs ys (All-tail P x (xs ++ ys) h))

  pub all_right : (xs ys : List X) → All P (xs ++ ys) → All P ys
  all_right [] ys h = h
  all_right (x ∷ xs) ys h = all_right xs ys (All-tail P x (xs ++ ys) h)

  -- what holds of all that a filter keeps holds of each element that passes
  pub filter_all : (q : X → Bool) (xs : List X) → All P (filter q xs) → All (λ x. IsTrue (q x) → P x) xs
  filter_all q [] h = All-nil (λ x. IsTrue (q x) → P x)
  filter_all q (x ∷ xs) h = go (q x) refl h (filter_all q xs)
    where
      go : (b : Bool) → q x ≡ b → All P (cond b (x ∷ filter q xs) (filter q xs)) → (All P (filter q xs) → All (λ x. IsTrue (q x) → P x) xs)
          → All (λ x. IsTrue (q x) → P x) (x ∷ xs)
      go true e h rest = All-cons (λ x. IsTrue (q x) → P x) x xs (λ p. All-head P x (filter q xs) h) (rest (All-tail P x (filter q xs) h))
      go false e h rest = All-cons (λ x. IsTrue (q x) → P x) x xs (λ p. absurd (true≢false (sym p ∙ e))) (rest h)

module _ {X : Type 0} (P Q : X → Type 0) where
  pub any_weaker : ((x : X) → P x → Q x) → (xs : List X) → Any P xs → Any Q xs
  any_weaker f xs (k, x, lt, e, h) = (k, x, lt, e, f x h)

  -- something holds of one element, and something else of all
  pub any_all : (R : X → Type 0) → ((x : X) → Q x → P x → R x) → (xs : List X) → All Q xs → Any P xs → Any R xs
  any_all R f xs all (k, x, lt, e, h) = (k, x, lt, e, f x (subst Q e (all k x lt)) h)

  pub any_some : {C : Type 0} → ((x : X) → Q x → P x → C) → (xs : List X) → All Q xs → Any P xs → C
  any_some f xs all (k, x, lt, e, h) = f x (subst Q e (all k x lt)) h
