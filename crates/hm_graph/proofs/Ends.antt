-- The end of a search: where no pair is left, the vertices with one root are a pairing.
use Rattle.std.proofs.Common.{◌≡◌, ℕ, zero, suc, ◌<◌, Bool, ◌&&◌, IsTrue, ◌==◌, List, [], length, refl, sym, ap, subst, ◌∙◌, ltb}
use Rattle.std.specs.List.{AllZip}
use Rattle.std.proofs.lemmas.Bool.{and_parts, and_from, ltb-true, lt-ltb}
use Rattle.std.proofs.lemmas.Bool.Decides.{Decides-eqb}
use Rattle.std.proofs.lemmas.List.Elements.{All-nil}
use Rattle.hm_graph.specs.Same.{Graph, IsClosed, label_at, next_at, Match, AreBisimilar}
use Rattle.hm_graph.specs.Forests.{up}
use Rattle.hm_graph.proofs.Pairs.{zip_refl, zip_sym, zip_trans, zip_inside}
use Rattle.hm_graph.proofs.Forests.{climb, climb_respects, along}
use Rattle.hm_graph.proofs.Search.{AreColoured, IsPairOf, Suits, IsSearch, closed_at}

-- two vertices have the same root
abbrev have_one_root : Graph → List ℕ → ℕ → ℕ → Bool
have_one_root g parents a b = ltb a (length g) && (ltb b (length g) && (climb (length g) parents a == climb (length g) parents b))

one_root : (g : Graph) (parents : List ℕ) (a b : ℕ) → a < length g → b < length g → climb (length g) parents a ≡ climb (length g) parents b
    → IsTrue (have_one_root g parents a b)
one_root g parents a b one two e =
    and_from _ _ (lt-ltb a (length g) one)
    (and_from _ _ (lt-ltb b (length g) two) ((Decides-eqb (climb (length g) parents a) (climb (length g) parents b)).1 e))

along_zip : (g : Graph) (parents : List ℕ) (f : ℕ → ℕ) → ((a : ℕ) → AreColoured f (next_at g a) (next_at g (up parents a))) → (n a : ℕ)
    → AreColoured f (next_at g a) (next_at g (climb n parents a))
along_zip g parents f h zero a = zip_refl (λ a b. f a ≡ f b) (λ b. refl) (next_at g a)
along_zip g parents f h (suc n) a =
    zip_trans (λ a b. f a ≡ f b) (λ x y z p q. p ∙ q) (next_at g a) (next_at g (up parents a)) (next_at g (climb n parents (up parents a))) (h a)
    (along_zip g parents f h n (up parents a))

pub search_ends : (g : Graph) (i j : ℕ) (parents : List ℕ) → IsClosed g → i < length g → j < length g → IsSearch g i j parents []
    → AreBisimilar g i j
search_ends g i j parents closed one two h = record {
  paired = have_one_root g parents;
  closed = pairs;
  here = one_root g parents i j one two (h.start (climb (length g) parents) suits);
}
  where
    suits : Suits parents [] (climb (length g) parents)
    suits = record { respects = climb_respects (length g) parents h.forest; meets = All-nil (IsPairOf (climb (length g) parents)) }

    pairs : (a b : ℕ) → IsTrue (have_one_root g parents a b) → Match g (λ c d. IsTrue (have_one_root g parents c d)) a b
    pairs a b t =
        let first = and_parts (ltb a (length g)) _ t in
        let second = and_parts (ltb b (length g)) _ first.1 in
        let root : ℕ → ℕ = climb (length g) parents in
        let e : root a ≡ root b = (Decides-eqb _ _).0 second.1 in
        let l = along parents (label_at g) h.labels (length g) in
        let n = along_zip g parents root (h.next root suits) (length g) in
        let C : ℕ → ℕ → Type 0 = λ a b. root a ≡ root b in
        record {
          one = ltb-true a (length g) first.0;
          two = ltb-true b (length g) second.0;
          label = l a ∙ ap (label_at g) e ∙ sym (l b);
          next = zip_inside (λ k. k < length g) C (λ c d. IsTrue (have_one_root g parents c d)) (one_root g parents) (next_at g a) (next_at g b)
              (closed_at g a closed) (closed_at g b closed)
              (zip_trans C (λ x y z p q. p ∙ q) (next_at g a) (next_at g (root a)) (next_at g b) (n a)
              (subst (λ r. AllZip C (next_at g r) (next_at g b)) (sym e) (zip_sym C (λ x y e. sym e) (next_at g b) (next_at g (root b)) (n b))));
        }
