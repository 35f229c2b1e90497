-- Two lists of equal lengths, place by place.
use Rattle.std.proofs.Common.{◌≡◌, ℕ, zero, suc, ◌<◌, List, [], ◌∷◌, ◌++◌, length, get_or, take, All, refl, ap, arith}
use Rattle.std.specs.List.{AllZip, zip}
use Rattle.std.proofs.lemmas.List.Elements.{All-nil, All-cons, All-head, All-tail}

module _ {X : Type 0} where
  pub zip_refl : (R : X → X → Type 0) → ((x : X) → R x x) → (xs : List X) → AllZip R xs xs
  zip_refl R h [] = tt
  zip_refl R h (x ∷ xs) = (h x, zip_refl R h xs)

  pub zip_sym : (R : X → X → Type 0) → ((x y : X) → R x y → R y x) → (xs ys : List X) → AllZip R xs ys → AllZip R ys xs
  zip_sym R h [] [] r = tt
  zip_sym R h [] (y ∷ ys) r = absurd r
  zip_sym R h (x ∷ xs) [] r = absurd r
  zip_sym R h (x ∷ xs) (y ∷ ys) r = (h x y r.0, zip_sym R h xs ys r.1)

  pub zip_trans : (R : X → X → Type 0) → ((x y z : X) → R x y → R y z → R x z) → (xs ys zs : List X) → AllZip R xs ys → AllZip R ys zs
      → AllZip R xs zs
  zip_trans R h [] [] [] r s = tt
  zip_trans R h [] [] (z ∷ zs) r s = absurd s
  zip_trans R h [] (y ∷ ys) zs r s = absurd r
  zip_trans R h (x ∷ xs) [] zs r s = absurd r
  zip_trans R h (x ∷ xs) (y ∷ ys) [] r s = absurd s
  zip_trans R h (x ∷ xs) (y ∷ ys) (z ∷ zs) r s = (h x y z r.0 s.0, zip_trans R h xs ys zs r.1 s.1)

  -- as a list of pairs
  pub pairs_of_zip : (R : X → X → Type 0) → (xs ys : List X) → AllZip R xs ys → All (λ p. R p.0 p.1) (zip xs ys)
  pairs_of_zip R [] [] r = All-nil (λ (p : X × X). R p.0 p.1)
  pairs_of_zip R [] (y ∷ ys) r = absurd r
  pairs_of_zip R (x ∷ xs) [] r = absurd r
  pairs_of_zip R (x ∷ xs) (y ∷ ys) r = All-cons (λ (p : X × X). R p.0 p.1) (x, y) (zip xs ys) r.0 (pairs_of_zip R xs ys r.1)

  pub zip_of_pairs : (R : X → X → Type 0) → (xs ys : List X) → length xs ≡ length ys → All (λ p. R p.0 p.1) (zip xs ys) → AllZip R xs ys
  zip_of_pairs R [] [] e h = tt
  zip_of_pairs R [] (y ∷ ys) e h = absurd (omega arith)
  zip_of_pairs R (x ∷ xs) [] e h = absurd (omega arith)
  zip_of_pairs R (x ∷ xs) (y ∷ ys) e h =
      let P : X × X → Type 0 = λ p. R p.0 p.1 in
      (All-head P (x, y) (zip xs ys) h, zip_of_pairs R xs ys (omega arith) (All-tail P (x, y) (zip xs ys) h))

  pub zip_more : (xs ys : List X) (i : ℕ) (d : X) → i < length xs → length xs ≡ length ys
      → zip (take (suc i) xs) (take (suc i) ys) ≡ zip (take i xs) (take i ys) ++ (get_or xs i d, get_or ys i d) ∷ []
  zip_more [] ys i d lt e = absurd (omega arith)
  zip_more (x ∷ xs) [] i d lt e = absurd (omega arith)
  zip_more (x ∷ xs) (y ∷ ys) zero d lt e = refl
  zip_more (x ∷ xs) (y ∷ ys) (suc i) d lt e = ap (λ l. (x, y) ∷ l) (zip_more xs ys i d (omega arith) (omega arith))

  pub zip_length : (xs ys : List X) → length xs ≡ length ys → length (zip xs ys) ≡ length xs
  zip_length [] ys e = refl
  zip_length (x ∷ xs) [] e = absurd (omega arith)
  zip_length (x ∷ xs) (y ∷ ys) e = ap suc (zip_length xs ys (omega arith))

  -- what holds of each item of both lists holds of each pair
  pub zip_all : (P : X → Type 0) (Q : X × X → Type 0) → ((x y : X) → P x → P y → Q (x, y)) → (xs ys : List X) → All P xs → All P ys → All Q (zip xs ys)
  zip_all P Q f [] ys p q = All-nil Q
  zip_all P Q f (x ∷ xs) [] p q = All-nil Q
  zip_all P Q f (x ∷ xs) (y ∷ ys) p q =
      All-cons Q (x, y) (zip xs ys) (f x y (All-head P x xs p) (All-head P y ys q)) (zip_all P Q f xs ys (All-tail P x xs p) (All-tail P y ys q))

  -- and makes a relation of theirs another one
  pub zip_inside : (P : X → Type 0) (R S : X → X → Type 0) → ((x y : X) → P x → P y → R x y → S x y) → (xs ys : List X) → All P xs → All P ys
      → AllZip R xs ys → AllZip S xs ys
  zip_inside P R S f [] [] p q r = tt
  zip_inside P R S f [] (y ∷ ys) p q r = absurd r
  zip_inside P R S f (x ∷ xs) [] p q r = absurd r
  zip_inside P R S f (x ∷ xs) (y ∷ ys) p q r =
      (f x y (All-head P x xs p) (All-head P y ys q) r.0, zip_inside P R S f xs ys (All-tail P x xs p) (All-tail P y ys q) r.1)

  pub all_left : (P : X → Type 0) (xs ys : List X) → All P (xs ++ ys) → All P xs
  all_left P [] ys h = All-nil P
  all_left P (x ∷ xs) ys h = All-cons P x xs (All-head P x (xs ++ ys) h) (all_left P xs ys (All-tail P x (xs ++ ys) h))

  pub all_right : (P : X → Type 0) (xs ys : List X) → All P (xs ++ ys) → All P ys
  all_right P [] ys h = h
  all_right P (x ∷ xs) ys h = all_right P xs ys (All-tail P x (xs ++ ys) h)
