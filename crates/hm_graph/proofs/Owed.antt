-- How much of a search is still to be done: the pairs, and the edges of the roots.
use Rattle.std.proofs.Common.{◌≡◌, ◌≢◌, ◌↔◌, ℕ, zero, suc, ◌+◌, ◌<◌, true, false, cond, ◌==◌, List, [], ◌∷◌, ◌++◌, length, get_or, set, refl, sym, ◌∙◌, arith, add-zero, zero-add, length-append}
use Rattle.std.specs.List.{zip}
use Rattle.std.proofs.lemmas.Bool.{ne_eqb}
use Rattle.std.proofs.lemmas.Bool.Decides.{Decides-eqb, same_from_decides}
use Rattle.std.proofs.lemmas.List.{get_or_default}
use Rattle.hm_graph.specs.Same.{Graph, next_at}
use Rattle.hm_graph.specs.Forests.{up, IsShortened}
use Rattle.hm_graph.proofs.Pairs.{zip_length}

-- the edges of the roots among vertices that are numbered from i on
abbrev pub owed : ℕ → List ℕ → Graph → ℕ
owed i [] g = 0
owed i (p ∷ ps) [] = 0
owed i (p ∷ ps) (v ∷ vs) = cond (p == i) (length v.next.items) 0 + owed (suc i) ps vs

owed_linked : (i : ℕ) (ps : List ℕ) (g : Graph) (a b d : ℕ) → a < length ps → get_or ps a d ≡ i + a → b ≢ i + a
    → owed i (set ps a b) g + length (next_at g a) ≡ owed i ps g
owed_linked i [] g a b d lt e ne = absurd (omega arith)
owed_linked i (p ∷ ps) [] zero b d lt e ne = refl
owed_linked i (p ∷ ps) [] (suc a) b d lt e ne = refl
owed_linked i (p ∷ ps) (v ∷ vs) zero b d lt e ne =
    let t : (p == i) ≡ true = (Decides-eqb p i).1 (omega arith) in
    let f : (b == i) ≡ false = ne_eqb b i (λ q. ne (omega arith)) in
    rw t (rw f (omega arith))
owed_linked i (p ∷ ps) (v ∷ vs) (suc a) b d lt e ne =
    let rest = owed_linked (suc i) ps vs a b d (omega arith) (omega arith) (λ q. ne (omega arith)) in
    omega arith

-- less is owed where a root is put below another one, for all the pairs that this adds
pub owes_less : (g : Graph) (parents : List ℕ) (todo : List (ℕ × ℕ)) (p : ℕ × ℕ) (low high : ℕ) → high < length parents → up parents high ≡ high
    → low ≢ high → length (next_at g low) ≡ length (next_at g high)
    → length (todo ++ zip (next_at g low) (next_at g high)) + owed 0 (set parents high low) g < length (todo ++ p ∷ []) + owed 0 parents g
owes_less g parents todo p low high lt root ne count =
    let less = owed_linked 0 parents g high low high lt (root ∙ sym (zero-add high)) (λ e. ne (e ∙ zero-add high)) in
    let z = zip_length (next_at g low) (next_at g high) count in
    omega (arith, length-append todo (zip (next_at g low) (next_at g high)), length-append todo (p ∷ []))

-- ---- as much is owed over shorter ways

owed_same : (k : ℕ) (ps qs : List ℕ) (g : Graph) → length ps ≡ length qs
    → ((i d : ℕ) → i < length ps → (get_or ps i d ≡ k + i) ↔ (get_or qs i d ≡ k + i)) → owed k ps g ≡ owed k qs g
owed_same k [] [] g e h = refl
owed_same k [] (q ∷ qs) g e h = absurd (omega arith)
owed_same k (p ∷ ps) [] g e h = absurd (omega arith)
owed_same k (p ∷ ps) (q ∷ qs) [] e h = refl
owed_same k (p ∷ ps) (q ∷ qs) (v ∷ vs) e h =
    let first = h 0 0 (omega arith) in
    let same : (p == k) ≡ (q == k) = same_from_decides {P = q ≡ k} (p == k) (q == k) (
      λ t. let r = first.0 ((Decides-eqb p k).0 t ∙ sym (add-zero k)) in r ∙ add-zero k,
      λ r. (Decides-eqb p k).1 (first.1 (r ∙ sym (add-zero k)) ∙ add-zero k),
    )
    (Decides-eqb q k) in
    let rest = owed_same (suc k) ps qs vs (omega arith) (λ i d lt.
    let s = h (suc i) d (omega arith) in
    (λ e. let r = s.0 (omega (arith, e)) in omega (arith, r), λ e. let r = s.1 (omega (arith, e)) in omega (arith, r))) in
    λ t. cond (same t) (length v.next.items) 0 + rest t

pub owed_shortened : (old new : List ℕ) (g : Graph) → IsShortened old new → owed 0 new g ≡ owed 0 old g
owed_shortened old new g s = owed_same 0 new old g s.size (λ i d lt.
    let a = get_or_default new i d i lt in
    let b = get_or_default old i d i (omega (arith, s.size)) in
    (λ e. b ∙ (s.roots i).0 (sym a ∙ e ∙ zero-add i) ∙ sym (zero-add i), λ e. a ∙ (s.roots i).1 (sym b ∙ e ∙ zero-add i) ∙ sym (zero-add i)))
