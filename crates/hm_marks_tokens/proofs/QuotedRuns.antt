-- How long a tag is, counted from quote to quote.
use Rattle.std.proofs.Common.{◌≡◌, ◌≢◌, ℕ, suc, ◌+◌, Bool, true, false, ◌&&◌, ◌||◌, List, [], ◌∷◌, length, drop, get_or, Some, None, refl, sym, ap, ◌∙◌, subst, arith}
use Rattle.std.specs.Bool.{◌==◌}
use Rattle.std.specs.List.{position_or_len}
use Rattle.std.proofs.lemmas.Bool.{false_from_ne_true, eqb-true, or_parts}
use Rattle.std.proofs.lemmas.List.Sums.{position_or_len_is}
use Rattle.memchr.specs.Find.{IsFirstByte, is_byte2}
use Rattle.hm_marks_tokens.specs.Bytes.{greater, quote}
use Rattle.hm_marks_tokens.specs.Tokens.{inside_len, ends_run, behind_quote}

-- how many bytes stand before the end of a run, found by a search
module _ (bytes : List ℕ) where
  pub run_found : (at : ℕ) → IsFirstByte (is_byte2 greater quote) bytes (Some at) → at ≡ position_or_len ends_run bytes
  run_found at found =
      let within = found.0.high in
      sym (position_or_len_is ends_run bytes at 0 (omega arith) (λ k lt. false_from_ne_true (ends_run (get_or bytes k 0)) (found.0.before k (omega arith) lt)) (λ lt. found.1))

  pub run_open : IsFirstByte (is_byte2 greater quote) bytes None → length bytes ≡ position_or_len ends_run bytes
  run_open none =
      sym (position_or_len_is ends_run bytes (length bytes) 0 (omega arith) (λ k lt. false_from_ne_true (ends_run (get_or bytes k 0)) (none k (omega arith) lt)) (λ lt. absurd (omega arith)))

-- what is left behind the first bytes of a tag, by where it goes on
abbrev pub IsCounted : Bool → List ℕ → List ℕ → Type 0
IsCounted quoted bytes rest = inside_len quoted bytes + length rest ≡ length bytes + inside_len false rest

and_false : (t : Bool) → (t && false) ≡ false
and_false true = refl
and_false false = refl

-- where the first byte of a kind stands
module _ (p : ℕ → Bool) (b : ℕ) (bytes : List ℕ) where
  here : p b ≡ true → position_or_len p (b ∷ bytes) ≡ 0
  here e = rw e refl

  later : p b ≡ false → position_or_len p (b ∷ bytes) ≡ suc (position_or_len p bytes)
  later e = rw e (omega arith)

  later_behind : p b ≡ false → position_or_len p (b ∷ bytes) + 1 ≡ suc (position_or_len p bytes + 1)
  later_behind e = let l = later e in omega arith

-- inside of quotes nothing ends before the next one
pub to_quote : (bytes : List ℕ) → IsCounted true bytes (behind_quote bytes)
to_quote [] = refl
to_quote (b ∷ bytes) = go (to_quote bytes) (b == quote) refl
  where
    go : IsCounted true bytes (behind_quote bytes) → (t : Bool) → (b == quote) ≡ t → IsCounted true (b ∷ bytes) (behind_quote (b ∷ bytes))
    go more true e =
        subst (λ n. IsCounted true (b ∷ bytes) (drop (n + 1) (b ∷ bytes))) (sym (here (λ b. b == quote) b bytes e))
        (rw (and_false (b == greater)) (rw e (omega arith)))
    go more false e =
        subst (λ n. IsCounted true (b ∷ bytes) (drop n (b ∷ bytes))) (sym (later_behind (λ b. b == quote) b bytes e))
        (rw (and_false (b == greater)) (rw e (let l = more in omega arith)))

-- outside of quotes nothing ends before the end of the run
pub to_end : (bytes : List ℕ) → IsCounted false bytes (drop (position_or_len ends_run bytes) bytes)
to_end [] = refl
to_end (b ∷ bytes) = go (to_end bytes) (ends_run b) refl
  where
    go : IsCounted false bytes (drop (position_or_len ends_run bytes) bytes) → (t : Bool) → ends_run b ≡ t
        → IsCounted false (b ∷ bytes) (drop (position_or_len ends_run (b ∷ bytes)) (b ∷ bytes))
    go more true e = subst (λ n. IsCounted false (b ∷ bytes) (drop n (b ∷ bytes))) (sym (here ends_run b bytes e)) (omega arith)
    go more false e =
        let parts = or_parts (b == greater) (b == quote) e in
        subst (λ n. IsCounted false (b ∷ bytes) (drop n (b ∷ bytes))) (sym (later ends_run b bytes e))
        (rw (parts.0) (rw (parts.1) (let l = more in omega arith)))

-- behind the first of them nothing is left, or a byte that is one
pub begins_end : (bytes : List ℕ) (b : ℕ) (rest : List ℕ) → drop (position_or_len ends_run bytes) bytes ≡ b ∷ rest → ends_run b ≡ true
begins_end [] b rest e = let no : ⊥ = cc in absurd no
begins_end (x ∷ bytes) b rest e = go (begins_end bytes b rest) (ends_run x) refl
  where
    go : (drop (position_or_len ends_run bytes) bytes ≡ b ∷ rest → ends_run b ≡ true) → (t : Bool) → ends_run x ≡ t → ends_run b ≡ true
    go more true is =
        let whole : x ∷ bytes ≡ b ∷ rest = subst (λ n. drop n (x ∷ bytes) ≡ b ∷ rest) (here ends_run x bytes is) e in
        let same : x ≡ b = cc in
        subst (λ y. ends_run y ≡ true) same is
    go more false is = more (subst (λ n. drop n (x ∷ bytes) ≡ b ∷ rest) (later ends_run x bytes is) e)

-- a tag ends where a run outside of quotes ends at no quote
ended : (end : List ℕ) → ((b : ℕ) (rest : List ℕ) → end ≡ b ∷ rest → ends_run b ≡ true) → ((rest : List ℕ) → end ≢ quote ∷ rest) → inside_len false end ≡ 0
ended [] is unquoted = refl
ended (b ∷ rest) is unquoted = go (b == greater) refl
  where
    go : (t : Bool) → (b == greater) ≡ t → inside_len false (b ∷ rest) ≡ 0
    go true e = rw e refl
    go false e =
        let other : (b == quote) ≡ true = subst (λ t. (t || (b == quote)) ≡ true) e (is b rest refl) in
        absurd (unquoted rest (ap (λ x. x ∷ rest) (eqb-true b quote other)))

-- ---- of the bytes of a tag, so many are passed

module _ (bytes rest end : List ℕ) (passed : IsCounted false bytes rest) (end_is : end ≡ drop (position_or_len ends_run rest) rest) where
  run : IsCounted false rest end
  run = subst (IsCounted false rest) (sym end_is) (to_end rest)

  -- and where a quote ends the run, all up to the next one
  pub goes_on : (quoted behind : List ℕ) → end ≡ quote ∷ quoted → behind ≡ behind_quote quoted → IsCounted false bytes behind
  goes_on quoted behind is next =
      let quoted_run : IsCounted false rest (quote ∷ quoted) = subst (IsCounted false rest) is run in
      subst (IsCounted false bytes) (sym next)
      (let a = passed in let b = quoted_run in let c = to_quote quoted in omega (arith, a, b, c))

  -- and else it ends there
  pub ends : ((q : List ℕ) → end ≢ quote ∷ q) → inside_len false bytes + length end ≡ length bytes
  ends unquoted =
      let none = ended end (λ b q is. begins_end rest b q (sym end_is ∙ is)) unquoted in
      let a = passed in let b = run in omega (arith, a, b, none)
