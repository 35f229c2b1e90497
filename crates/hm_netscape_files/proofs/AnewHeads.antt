-- The head of a file stays one before another list.
use Rattle.std.proofs.Common.{◌≡◌, ℕ, zero, suc, Bool, true, false, ◌&&◌, List, [], ◌∷◌, ◌++◌, codes, length, take, drop, refl, sym, ap, ◌∙◌, subst, arith}
use Rattle.std.specs.Bool.{◌==◌}
use Rattle.std.specs.Char.{to_ascii_lowercase}
use Rattle.std.specs.Str.{bytes_eq, str_to_ascii_lowercase}
use Rattle.std.proofs.lemmas.Bool.{and_parts, eqb-true}
use Rattle.std.proofs.lemmas.Bool.Decides.{nat_tests}
use Rattle.std.proofs.lemmas.List.{length-append, length-take, take_at, drop_at, take-append-drop}
use Rattle.hm_netscape_files.specs.Heads.{begins_with, ends_name, is_declared, begins_list, begins_heading, NoneBefore, IsHead}

-- a list doesn't begin in bytes before a `<` and end behind it
carried : (a : ℕ) (front rest more : List ℕ) → begins_list (a ∷ (front ++ 60 ∷ rest)) ≡ begins_list (a ∷ (front ++ 60 ∷ more))
carried a [] rest more = go (to_ascii_lowercase a == 60)
  where
    go : (t : Bool) → ((t && false) && ends_name (drop 3 (a ∷ 60 ∷ rest))) ≡ ((t && false) && ends_name (drop 3 (a ∷ 60 ∷ more)))
    go true = refl
    go false = refl
carried a (b ∷ []) rest more = go (to_ascii_lowercase a == 60) (to_ascii_lowercase b == 100)
  where
    go : (s t : Bool) → ((s && (t && false)) && ends_name rest) ≡ ((s && (t && false)) && ends_name more)
    go true true = refl
    go true false = refl
    go false t = refl
carried a (b ∷ c ∷ []) rest more = refl
carried a (b ∷ c ∷ d ∷ front) rest more = refl

-- the first byte of a list
less_is : (b : ℕ) → to_ascii_lowercase b ≡ 60 → b ≡ 60
less_is b e = grind (arith, nat_tests)

pub begins_less : (bytes : List ℕ) → begins_list bytes ≡ true → (rest : List ℕ) × (bytes ≡ 60 ∷ rest)
begins_less [] begins = let bad : ⊥ = cc in absurd bad
begins_less (b ∷ bytes) begins =
    let begun = (and_parts (begins_with (codes "<dl") (b ∷ bytes)) (ends_name (drop 3 (b ∷ bytes))) begins).0 in
    let first = (and_parts (to_ascii_lowercase b == 60) (bytes_eq (str_to_ascii_lowercase (take 2 bytes)) (codes "dl")) begun).0 in
    (bytes, ap (λ x. x ∷ bytes) (less_is b (eqb-true (to_ascii_lowercase b) 60 first)))

-- no list begins in a head, before one list or another
none_carried : (head rest more : List ℕ) → NoneBefore begins_list (length head) (head ++ 60 ∷ rest) → NoneBefore begins_list (length head) (head ++ 60 ∷ more)
none_carried [] rest more none k lt = absurd (omega arith)
none_carried (a ∷ head) rest more none zero lt = sym (carried a head rest more) ∙ none 0 (omega arith)
none_carried (a ∷ head) rest more none (suc k) lt = none_carried head rest more (λ j l. none (suc j) (omega arith)) k (omega arith)

pub head_again : (before : List ℕ) (n : ℕ) (list : List ℕ) → IsHead before n → begins_list list ≡ true → IsHead (take n before ++ list) n
head_again before n list is begins =
    let head = take n before in
    let after = head ++ list in
    let long = length-take n before in
    let size : length head ≡ n = omega (arith, long, is.within) in
    let other = begins_less list begins in
    let old = begins_less (drop n before) is.list in
    let front : take n after ≡ head = take_at head list n size in
    let back : drop n after ≡ list = drop_at head list n size in
    let whole : before ≡ head ++ 60 ∷ old.0 = sym (take-append-drop n before) ∙ ap (λ l. head ++ l) old.1 in
    let more = length-append head list in
    let some = ap length other.1 in
    record {
      within = omega (arith, more, size, some);
      declared = subst (λ l. is_declared l ≡ true) (sym front) is.declared;
      list = subst (λ l. begins_list l ≡ true) (sym back) begins;
      first = subst (λ m. NoneBefore begins_list m after) size
          (subst (λ l. NoneBefore begins_list (length head) (head ++ l)) (sym other.1)
          (none_carried head old.0 other.0 (subst (λ m. NoneBefore begins_list m (head ++ 60 ∷ old.0)) (sym size) (subst (λ l. NoneBefore begins_list n l) whole is.first))));
      plain = subst (λ l. NoneBefore begins_heading n l) (sym front) is.plain;
    }
