-- The bytes of the six files, one by one.
use Rattle.std.proofs.Common.{◌≡◌, ℕ, List, [], ◌∷◌, ◌++◌, length, get_or, map, Vec, Global, Result, sym, ap, subst, ◌∙◌, arith}
use Rattle.hm_run_files.specs.declared.stop.Stop.{Stop}
use Rattle.hm_run_files.specs.Steps.{Computes}
use Rattle.hm_run_files.specs.Files.{bytes_of}
use Rattle.hm_run_sides.specs.Sides.{seen}
use Rattle.hm_run_sync.specs.declared.read.Inputs.{Inputs}
use Rattle.hm_run_handed.specs.Handed.{Handed}
use Rattle.hm_run_sync.specs.Reads.{before_of, ReadsSix, ReadsAll}

abbrev Bytes : Type 0
Bytes = Vec ℕ Global

-- a list of four
pub four : {X : Type 0} (xs : List X) (a b d e : X) → length xs ≡ 4 → a ≡ get_or xs 0 a → b ≡ get_or xs 1 b → d ≡ get_or xs 2 d → e ≡ get_or xs 3 e
    → xs ≡ a ∷ b ∷ d ∷ e ∷ []
four [] a b d e n p q r s = absurd (omega arith)
four (x ∷ []) a b d e n p q r s = absurd (omega arith)
four (x ∷ y ∷ []) a b d e n p q r s = absurd (omega arith)
four (x ∷ y ∷ z ∷ []) a b d e n p q r s = absurd (omega arith)
four (x ∷ y ∷ z ∷ w ∷ []) a b d e n p q r s = λ i. sym p i ∷ sym q i ∷ sym r i ∷ sym s i ∷ []
four (x ∷ y ∷ z ∷ w ∷ v ∷ vs) a b d e n p q r s = absurd (omega arith)

module _ (items some few : List Bytes) (schema lens_a lens_b archive left right : Bytes) (last : items ≡ some ++ right ∷ [])
    (next : some ≡ few ++ left ∷ []) (rest : few ≡ schema ∷ lens_a ∷ lens_b ∷ archive ∷ []) where
  all_are : items ≡ schema ∷ lens_a ∷ lens_b ∷ archive ∷ left ∷ right ∷ []
  all_are = last ∙ ap (λ (l : List Bytes). l ++ right ∷ []) (next ∙ ap (λ (l : List Bytes). l ++ left ∷ []) rest)

  -- what is read of some of them is read of slices of these
  pub read_of : (h : Handed) (r : Result Inputs Stop) (s l m o : List ℕ) → s ≡ schema.items → l ≡ lens_a.items → m ≡ lens_b.items → o ≡ archive.items
      → Computes (ReadsSix h s l m o left.items right.items) (seen before_of r) → Computes (ReadsAll h (map bytes_of items)) (seen before_of r)
  unfolding ReadsAll
  read_of h r s l m o es el em eo k =
      let a = subst (λ (z : List ℕ). Computes (ReadsSix h z l m o left.items right.items) (seen before_of r)) es k in
      let b = subst (λ (z : List ℕ). Computes (ReadsSix h schema.items z m o left.items right.items) (seen before_of r)) el a in
      let d = subst (λ (z : List ℕ). Computes (ReadsSix h schema.items lens_a.items z o left.items right.items) (seen before_of r)) em b in
      let e = subst (λ (z : List ℕ). Computes (ReadsSix h schema.items lens_a.items lens_b.items z left.items right.items) (seen before_of r)) eo d in
      subst (λ (z : List Bytes). Computes (ReadsAll h (map bytes_of z)) (seen before_of r)) (sym all_are) e
