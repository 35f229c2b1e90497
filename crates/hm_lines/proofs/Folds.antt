-- What is unfolded of bytes up to their first fold, and of bytes that have none.
use Rattle.std.proofs.Common.{◌≡◌, ℕ, zero, suc, ◌<◌, ◌≤◌, Bool, true, false, cond, ◌&&◌, List, [], ◌∷◌, ◌++◌, length, take, drop, Some, None, inl, inr, refl, sym, ap, ◌∙◌, subst, arith}
use Rattle.std.specs.Bool.{◌==◌}
use Rattle.std.proofs.lemmas.Bool.{ne_eqb, eqb-true, or_cases, false_from_ne_true}
use Rattle.std.proofs.lemmas.List.{take-append-drop, length-take-le}
use Rattle.hm_lines.specs.Folding.{HasNone}
use Rattle.hm_lines.specs.Unfolding.{feed, return, is_blank, begins_with_blank, begins_with_fold, unfolded_behind, unfolded, without_return, IsFold, IsFirstFold}

-- no fold begins at any of so many places
abbrev pub HasNoFold : List ℕ → ℕ → Type 0
HasNoFold bytes n = (k : ℕ) → k < n → begins_with_fold (drop k bytes) ≡ false

-- a byte that is of no fold
module _ (behind : Bool) (b : ℕ) (rest : List ℕ) (first : begins_with_fold (b ∷ rest) ≡ false) (apart : (behind && is_blank b) ≡ false) where
  pub stays : begins_with_fold rest ≡ false → unfolded_behind behind (b ∷ rest) ≡ b ∷ unfolded_behind (b == feed) rest
  stays later = rw (first, apart, later) (go (b == return))
    where
      go : (r : Bool) → cond (r && false) (unfolded_behind (b == feed) rest) (b ∷ unfolded_behind (b == feed) rest) ≡ b ∷ unfolded_behind (b == feed) rest
      go true = refl
      go false = refl

  -- or the carriage return before one
  before : begins_with_fold rest ≡ true
      → unfolded_behind behind (b ∷ rest) ≡ without_return (b ∷ []) ++ unfolded_behind (b == feed) rest
  before later = rw (first, apart, later) (go (b == return))
    where
      go : (r : Bool) → cond (r && true) (unfolded_behind (b == feed) rest) (b ∷ unfolded_behind (b == feed) rest) ≡ cond r [] (b ∷ []) ++ unfolded_behind (b == feed) rest
      go true = refl
      go false = refl

second : (b : ℕ) (rest : List ℕ) → HasNoFold (b ∷ rest) (length (b ∷ rest)) → begins_with_fold rest ≡ false
second b [] none = refl
second b (c ∷ rest) none = none 1 (omega arith)

all_stay : (behind : Bool) (bytes : List ℕ) → (behind && begins_with_blank bytes) ≡ false → HasNoFold bytes (length bytes) → unfolded_behind behind bytes ≡ bytes
all_stay behind [] apart none = refl
all_stay behind (b ∷ rest) apart none =
    stays behind b rest (none 0 (omega arith)) apart (second b rest none)
    ∙ ap (λ l. b ∷ l) (all_stay (b == feed) rest (none 0 (omega arith)) (λ k lt. none (suc k) (omega (arith, lt))))

-- bytes without folds
pub none_goes : (bytes : List ℕ) → HasNoFold bytes (length bytes) → unfolded bytes ≡ bytes
none_goes bytes none = all_stay false bytes refl none

-- ---- the first fold

blank_no_feed : (s : ℕ) → is_blank s ≡ true → (s == feed) ≡ false
blank_no_feed s e = elim (or_cases (s == 32) (s == 9) e) [
  | inl a ↦ ne_eqb s feed (λ is. let at = eqb-true s 32 a in absurd (omega arith))
  | inr a ↦ ne_eqb s feed (λ is. let at = eqb-true s 9 a in absurd (omega arith))
]

line_feed_goes : (behind : Bool) (t : List ℕ) → begins_with_blank t ≡ true → unfolded_behind behind (feed ∷ t) ≡ unfolded_behind true t
line_feed_goes behind t e = rw e refl

module _ (s : ℕ) (t : List ℕ) (blank : is_blank s ≡ true) where
  blank_goes : unfolded_behind true (s ∷ t) ≡ unfolded t
  blank_goes = rw (blank, blank_no_feed s blank) refl

  feed_goes : (behind : Bool) → unfolded_behind behind (feed ∷ s ∷ t) ≡ unfolded t
  feed_goes behind = line_feed_goes behind (s ∷ t) blank ∙ blank_goes

  goes : (behind : Bool) (front : List ℕ) → (behind && begins_with_blank (front ++ feed ∷ s ∷ t)) ≡ false
      → HasNoFold (front ++ feed ∷ s ∷ t) (length front) → unfolded_behind behind (front ++ feed ∷ s ∷ t) ≡ without_return front ++ unfolded t
  goes behind [] apart none = feed_goes behind
  goes behind (b ∷ []) apart none =
      before behind b (feed ∷ s ∷ t) (none 0 (omega arith)) apart blank ∙ ap (λ l. without_return (b ∷ []) ++ l) (feed_goes (b == feed))
  goes behind (b ∷ c ∷ front) apart none =
      stays behind b (c ∷ front ++ feed ∷ s ∷ t) (none 0 (omega arith)) apart (none 1 (omega arith))
      ∙ ap (λ l. b ∷ l) (goes (b == feed) (c ∷ front) (none 0 (omega arith)) (λ k lt. none (suc k) (omega (arith, lt))))

  -- a fold goes, with one carriage return before it
  pub fold_goes : (front : List ℕ) → HasNoFold (front ++ feed ∷ s ∷ t) (length front) → unfolded (front ++ feed ∷ s ∷ t) ≡ without_return front ++ unfolded t
  fold_goes front none = goes false front refl none

-- no fold begins in bytes without line feeds
pub no_feed_no_fold : (chunk t : List ℕ) → HasNone feed chunk → HasNoFold (chunk ++ t) (length chunk)
no_feed_no_fold [] t all k lt = absurd (omega (arith, lt))
no_feed_no_fold (c ∷ chunk) t all zero lt = let e : (c == feed) ≡ false = all 0 c (omega arith) in rw e refl
no_feed_no_fold (c ∷ chunk) t all (suc k) lt = no_feed_no_fold chunk t (λ j d l. all (suc j) d (omega (arith, l))) k (omega (arith, lt))

-- ---- as they are found

none_begins : (bytes : List ℕ) (n : ℕ) → ((k : ℕ) → 0 ≤ k → k < n → ¬ (IsFold bytes k)) → HasNoFold bytes n
none_begins bytes n none k lt = false_from_ne_true (begins_with_fold (drop k bytes)) (none k (omega arith) lt)

pub none_found : (bytes : List ℕ) → IsFirstFold bytes None → unfolded bytes ≡ bytes
none_found bytes none = none_goes bytes (none_begins bytes (length bytes) none)

found_goes : (front tail : List ℕ) → begins_with_fold tail ≡ true → HasNoFold (front ++ tail) (length front)
    → unfolded (front ++ tail) ≡ without_return front ++ unfolded (drop 2 tail)
found_goes front [] fold none = let no_fold : ⊥ = cc in absurd no_fold
found_goes front (b ∷ []) fold none = absurd (go (b == feed) fold)
  where
    go : (c : Bool) → (c && false) ≡ true → ⊥
    go true e = cc
    go false e = cc
found_goes front (b ∷ s ∷ t) fold none = go (b == feed) refl fold
  where
    go : (c : Bool) → (b == feed) ≡ c → (c && is_blank s) ≡ true → unfolded (front ++ b ∷ s ∷ t) ≡ without_return front ++ unfolded t
    go true is e =
        let same = eqb-true b feed is in
        subst (λ x. HasNoFold (front ++ x ∷ s ∷ t) (length front) → unfolded (front ++ x ∷ s ∷ t) ≡ without_return front ++ unfolded t) (sym same)
        (fold_goes s t e front) none
    go false is e = let no_feed : ⊥ = cc in absurd no_feed

-- what stands before the first fold, and behind it
pub fold_found : (bytes : List ℕ) (at : ℕ) → IsFirstFold bytes (Some at) → unfolded bytes ≡ without_return (take at bytes) ++ unfolded (drop 2 (drop at bytes))
fold_found bytes at found =
    let whole = take-append-drop at bytes in
    let within = found.0.high in
    let short = length-take-le at bytes (omega (arith, within)) in
    ap unfolded (sym whole)
    ∙ found_goes (take at bytes) (drop at bytes) found.1
    (subst (λ (l : List ℕ). HasNoFold l (length (take at bytes))) (sym whole)
    (subst (HasNoFold bytes) (sym short) (none_begins bytes at found.0.before)))
