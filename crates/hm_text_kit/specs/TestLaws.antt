-- The tests of the classes Filled, Trimmed and Folded decide them.
use Rattle.std.proofs.Common.{◌≡◌, ◌≢◌, ℕ, zero, suc, ◌-◌, ◌<◌, true, false, not, [], ◌∷◌, length, Option, Some, None, sym, ap, subst, arith}
use Rattle.std.specs.Prelude.{◌==◌, slice_get}
use Rattle.std.specs.Str.{bytes_eq}
use Rattle.std.proofs.lemmas.Bool.{eqb-true, and_parts, and_from, true≢false, cond_both}
use Rattle.std.proofs.lemmas.List.Folds.{Any-from_list_any, list_any-from_Any}
use Rattle.std.proofs.lemmas.Slice.Eq.{bytes_eq-Decides}
use Rattle.hm_tree.specs.Names.{Name}
use Rattle.hm_tree.specs.Cleaned.{cleaned}
use Rattle.hm_tree.specs.Classes.{folding, IsFilled, IsTrimmed, IsFolded}
use Rattle.hm_text_kit.specs.Tests.{is_no_space, is_filled, is_other, is_trimmed, is_folded}

no_space_not : (b : ℕ) → is_no_space b ≡ true → b ≢ 32
no_space_not b h is = let bad : false ≡ true = subst (λ (x : ℕ). is_no_space x ≡ true) is h in true≢false (sym bad)

not_no_space : (b : ℕ) → b ≢ 32 → is_no_space b ≡ true
not_no_space b h = cond_both (b == 32) false true (λ r. not (b == 32) ≡ true) (λ is. absurd (h (eqb-true b 32 is))) (λ isnt. ap not isnt)

-- ---- Filled

pub filled_from : (t : Name) → is_filled t ≡ true → IsFilled t
unfolding is_filled
filled_from t h =
    let p = and_parts (bytes_eq (cleaned t) t) _ h in
    let found = Any-from_list_any is_no_space t p.1 in
    record {
      clean = (bytes_eq-Decides (cleaned t) t).0 p.0;
      filled = (found.0, found.1, found.2, found.3, no_space_not found.1 found.4);
    }

pub to_filled : (t : Name) → IsFilled t → is_filled t ≡ true
unfolding is_filled
to_filled t h =
    let found = h.filled in
    and_from (bytes_eq (cleaned t) t) _ ((bytes_eq-Decides (cleaned t) t).1 h.clean) (list_any-from_Any is_no_space t (found.0, found.1, found.2, found.3, not_no_space found.1 found.4))

-- ---- Trimmed

pub other_not : (o : Option ℕ) → is_other o ≡ true → o ≢ Some 32
other_not None h e = let bad : ⊥ = cc in absurd bad
other_not (Some b) h e = let is : b ≡ 32 = cc in no_space_not b h is

some_other : (t : Name) (i : ℕ) → i < length t → slice_get t i ≢ Some 32 → is_other (slice_get t i) ≡ true
some_other [] i lt h = absurd (omega arith)
some_other (b ∷ t) zero lt h = not_no_space b (λ is. h (ap Some is))
some_other (b ∷ t) (suc i) lt h = some_other t i (omega arith) h

pub trimmed_from : (t : Name) → is_trimmed t ≡ true → IsTrimmed t
unfolding is_trimmed
trimmed_from t h =
    let p = and_parts (is_filled t) _ h in
    let q = and_parts (is_other (slice_get t 0)) (is_other (slice_get t (length t - 1))) p.1 in
    record { filled = filled_from t p.0; front = other_not _ q.0; back = other_not _ q.1 }

pub to_trimmed : (t : Name) → IsTrimmed t → is_trimmed t ≡ true
unfolding is_trimmed
to_trimmed t h =
    let k = h.filled.filled.0 in
    let some : k < length t = h.filled.filled.2 in
    and_from (is_filled t) _ (to_filled t h.filled)
    (and_from (is_other (slice_get t 0)) (is_other (slice_get t (length t - 1))) (some_other t 0 (omega arith) h.front) (some_other t (length t - 1) (omega arith) h.back))

-- ---- Folded

pub folded_from : (t : Name) → is_folded t ≡ true → IsFolded t
unfolding is_folded
folded_from t h =
    let p = and_parts (is_trimmed t) (bytes_eq (folding t) t) h in
    record { trimmed = trimmed_from t p.0; folded = (bytes_eq-Decides (folding t) t).0 p.1 }

pub to_folded : (t : Name) → IsFolded t → is_folded t ≡ true
unfolding is_folded
to_folded t h = and_from (is_trimmed t) (bytes_eq (folding t) t) (to_trimmed t h.trimmed) ((bytes_eq-Decides (folding t) t).1 h.folded)
