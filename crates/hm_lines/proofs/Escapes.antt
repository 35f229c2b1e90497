-- What a value stands for, up to its first `\`.
use Rattle.std.proofs.Common.{◌≡◌, ℕ, suc, ◌<◌, ◌≤◌, true, false, List, [], ◌∷◌, ◌++◌, length, get_or, drop, refl, sym, ap, subst, ◌∙◌, arith}
use Rattle.std.specs.Bool.{◌==◌}
use Rattle.std.proofs.lemmas.List.{append-nil}
use Rattle.hm_lines.specs.Values.{backslash, is_escape, meaning, unescaped}
use Rattle.std.proofs.lemmas.List.{append_assoc, nil_from_length}
use Rattle.hm_lines.specs.Folding.{HasNone}
use Rattle.hm_lines.proofs.Found.{IsFound}

pub plain_byte : (b : ℕ) (rest : List ℕ) → (b == backslash) ≡ false → unescaped (b ∷ rest) ≡ b ∷ unescaped rest
plain_byte b [] e = refl
plain_byte b (c ∷ rest) e = rw e refl

pub plain_chunk : (chunk t : List ℕ) → HasNone backslash chunk → unescaped (chunk ++ t) ≡ chunk ++ unescaped t
plain_chunk [] t all = refl
plain_chunk (b ∷ chunk) t all =
    plain_byte b (chunk ++ t) (all 0 b (omega arith)) ∙ ap (λ l. b ∷ l) (plain_chunk chunk t (λ k d lt. all (suc k) d (omega arith)))

pub no_backslash : (value : List ℕ) → HasNone backslash value → unescaped value ≡ value
no_backslash value all = ap unescaped (sym (append-nil value)) ∙ plain_chunk value [] all ∙ append-nil value

-- a `\` stands for itself where no byte behind it makes it another
pub own_backslash : (c : ℕ) (t : List ℕ) → is_escape c ≡ false → unescaped (backslash ∷ c ∷ t) ≡ backslash ∷ unescaped (c ∷ t)
own_backslash c t e = rw e refl

pub read_escape : (c : ℕ) (t : List ℕ) → is_escape c ≡ true → unescaped (backslash ∷ c ∷ t) ≡ meaning c ∷ unescaped t
read_escape c t e = rw e refl

module _ (old front tail rest : List ℕ) (found : IsFound backslash rest front tail) where
  parted : unescaped rest ≡ front ++ unescaped (backslash ∷ tail)
  parted = ap unescaped found.parts ∙ plain_chunk front (backslash ∷ tail) found.none

  module _ (mid new : List ℕ) (first : mid ≡ old ++ front) (b : ℕ) (then : new ≡ mid ++ b ∷ []) where
    read : (t : List ℕ) → unescaped (backslash ∷ tail) ≡ b ∷ unescaped t → new ++ unescaped t ≡ old ++ unescaped rest
    read t is =
        ap (λ l. l ++ unescaped t) (then ∙ ap (λ l. l ++ b ∷ []) first)
        ∙ append_assoc (old ++ front) (b ∷ []) (unescaped t)
        ∙ append_assoc old front (b ∷ unescaped t)
        ∙ ap (λ l. old ++ l) (ap (λ l. front ++ l) (sym is) ∙ sym parted)

    module _ (behind : List ℕ) (is : behind ≡ backslash ∷ tail) where
      begins : (t : List ℕ) (c : ℕ) → 1 < length (backslash ∷ t) → c ≡ get_or (backslash ∷ t) 1 c → t ≡ c ∷ drop 1 t
      begins [] c lt e = absurd (omega arith)
      begins (a ∷ t) c lt e = ap (λ x. x ∷ t) (sym e)

      tail_is : (c : ℕ) → 1 < length behind → c ≡ get_or behind 1 c → tail ≡ c ∷ drop 1 tail
      tail_is c lt e = begins tail c (subst (λ l. 1 < length l) is lt) (subst (λ l. c ≡ get_or l 1 c) is e)

      pub takes_escape : (c : ℕ) → 1 < length behind → c ≡ get_or behind 1 c → is_escape c ≡ true → b ≡ meaning c
          → new ++ unescaped (drop 1 tail) ≡ old ++ unescaped rest
      takes_escape c lt e escape same =
          read (drop 1 tail)
          (ap (λ l. unescaped (backslash ∷ l)) (tail_is c lt e) ∙ read_escape c (drop 1 tail) escape ∙ ap (λ a. a ∷ unescaped (drop 1 tail)) (sym same))

      pub takes_other : (c : ℕ) → 1 < length behind → c ≡ get_or behind 1 c → is_escape c ≡ false → b ≡ backslash
          → new ++ unescaped tail ≡ old ++ unescaped rest
      takes_other c lt e other same =
          read tail
          (ap (λ l. unescaped (backslash ∷ l)) (tail_is c lt e) ∙ own_backslash c (drop 1 tail) other
          ∙ ap (λ l. backslash ∷ unescaped l) (sym (tail_is c lt e)) ∙ ap (λ a. a ∷ unescaped tail) (sym same))

      pub takes_last : length behind ≤ 1 → b ≡ backslash → new ++ unescaped tail ≡ old ++ unescaped rest
      takes_last le same =
          let none : tail ≡ [] = nil_from_length tail (let n = ap length is in omega arith) in
          read tail (ap (λ l. unescaped (backslash ∷ l)) none ∙ (λ i. sym same i ∷ unescaped (sym none i)))
