-- What stands at the front of a line: bytes of a word, and spaces.
use Rattle.std.proofs.Common.{◌≡◌, ℕ, zero, suc, ◌+◌, ◌<◌, Bool, true, false, cond, ◌&&◌, List, [], ◌∷◌, ◌++◌, length, take, drop, refl, sym, ap, ◌∙◌, subst, arith}
use Rattle.std.specs.Prelude.{◌==◌}
use Rattle.std.specs.List.{prefix_len, list_all}
use Rattle.std.specs.Str.{IsAscii, IsUtf8}
use Rattle.std.proofs.lemmas.Str.{IsUtf8-from_ascii}
use mathlib.Core.Bool.{true≢false}
use Rattle.std.proofs.lemmas.Bool.{and_parts}
use Rattle.std.proofs.lemmas.Bool.Decides.{nat_tests}
use Rattle.hm_schema_lines.specs.Tokens.{is_word_byte, is_word, begins_word, AreSpaces, one, more}

one_more : (n : ℕ) → 1 + n ≡ suc n
one_more n = omega arith

module _ (p : ℕ → Bool) where
  -- how a run goes on at a byte
  run_at : (b : ℕ) (bs : List ℕ) (c : Bool) → p b ≡ c → prefix_len p (b ∷ bs) ≡ cond c (suc (prefix_len p bs)) 0
  run_at b bs true e = ap (λ c. cond c (1 + prefix_len p bs) 0) e ∙ one_more (prefix_len p bs)
  run_at b bs false e = ap (λ c. cond c (1 + prefix_len p bs) 0) e

  pub run_passes : (bs : List ℕ) → list_all p (take (prefix_len p bs) bs) ≡ true
  run_passes [] = refl
  run_passes (b ∷ bs) = go (p b) refl (run_passes bs)
    where
      go : (c : Bool) → p b ≡ c → list_all p (take (prefix_len p bs) bs) ≡ true → list_all p (take (prefix_len p (b ∷ bs)) (b ∷ bs)) ≡ true
      go true e rest = ap (λ n. list_all p (take n (b ∷ bs))) (run_at b bs true e) ∙ ap (λ c. c && list_all p (take (prefix_len p bs) bs)) e ∙ rest
      go false e rest = ap (λ n. list_all p (take n (b ∷ bs))) (run_at b bs false e)

  -- the byte behind a run doesn't pass
  pub run_stops : (bs : List ℕ) (c : ℕ) (rest : List ℕ) → drop (prefix_len p bs) bs ≡ c ∷ rest → p c ≡ false
  run_stops [] c rest e = let no : ⊥ = cc in absurd no
  run_stops (b ∷ bs) c rest e = go (p b) refl (run_stops bs c rest)
    where
      go : (t : Bool) → p b ≡ t → (drop (prefix_len p bs) bs ≡ c ∷ rest → p c ≡ false) → p c ≡ false
      go true q f = f (sym (ap (λ n. drop n (b ∷ bs)) (run_at b bs true q)) ∙ e)
      go false q f = let same : b ∷ bs ≡ c ∷ rest = sym (ap (λ n. drop n (b ∷ bs)) (run_at b bs false q)) ∙ e in let byte : b ≡ c = cc in
          ap p (sym byte) ∙ q

  -- a run that is followed by what doesn't pass is the whole run
  pub run_is : (word rest : List ℕ) → list_all p word ≡ true → ((c : ℕ) (more : List ℕ) → rest ≡ c ∷ more → p c ≡ false)
      → prefix_len p (word ++ rest) ≡ length word
  run_is [] [] a stop = refl
  run_is [] (c ∷ rest) a stop = run_at c rest false (stop c rest refl)
  run_is (b ∷ word) rest a stop = go (p b) refl (λ h. run_is word rest h stop)
    where
      go : (t : Bool) → p b ≡ t → (list_all p word ≡ true → prefix_len p (word ++ rest) ≡ length word)
          → prefix_len p ((b ∷ word) ++ rest) ≡ length (b ∷ word)
      go true q f = run_at b (word ++ rest) true q ∙ ap suc (f (sym (ap (λ t. t && list_all p word) q) ∙ a))
      go false q f = let no : false ≡ true = sym (ap (λ t. t && list_all p word) q) ∙ a in absurd (true≢false (sym no))

pub begins_at : (bs : List ℕ) → ((c : ℕ) (rest : List ℕ) → bs ≡ c ∷ rest → is_word_byte c ≡ false) → begins_word bs ≡ false
begins_at [] h = refl
begins_at (b ∷ bs) h = h b bs refl

pub begins_back : (bs : List ℕ) → begins_word bs ≡ false → (c : ℕ) (rest : List ℕ) → bs ≡ c ∷ rest → is_word_byte c ≡ false
begins_back bs h c rest e = sym (ap begins_word e) ∙ h

-- ---- words are text

word_small : (b : ℕ) → is_word_byte b ≡ true → b < 128
word_small b e = grind (arith, nat_tests)

word_ascii : (n : List ℕ) → is_word n ≡ true → IsAscii n
word_ascii [] p zero = omega arith
word_ascii [] p (suc i) = omega arith
word_ascii (b ∷ n) p zero = word_small b ((and_parts (is_word_byte b) _ p).0)
word_ascii (b ∷ n) p (suc i) = word_ascii n ((and_parts (is_word_byte b) _ p).1) i

pub word_utf8 : (n : List ℕ) → is_word n ≡ true → IsUtf8 n
word_utf8 n h = IsUtf8-from_ascii n (word_ascii n h)

-- ---- spaces

space_is : (b : ℕ) → (b == 32) ≡ true → b ≡ 32
space_is b e = grind (arith, nat_tests)

pub spaces_are : (gap : List ℕ) → 0 < length gap → list_all (λ b. b == 32) gap ≡ true → AreSpaces gap
spaces_are [] l h = absurd (omega arith)
spaces_are (b ∷ []) l h = subst (λ (c : ℕ). AreSpaces (c ∷ [])) (sym (space_is b ((and_parts (b == 32) _ h).0))) one
spaces_are (b ∷ c ∷ gap) l h =
    subst (λ (d : ℕ). AreSpaces (d ∷ c ∷ gap)) (sym (space_is b ((and_parts (b == 32) _ h).0)))
    (more (spaces_are (c ∷ gap) (omega arith) ((and_parts (b == 32) _ h).1)))

-- all bytes of a gap are spaces
pub spaces_all : (gap : List ℕ) → AreSpaces gap → list_all (λ b. b == 32) gap ≡ true
spaces_all _ one = refl
spaces_all _ (more h) = spaces_all _ h

pub spaces_some : (gap : List ℕ) → AreSpaces gap → (rest : List ℕ) × (gap ≡ 32 ∷ rest)
spaces_some _ one = ([], refl)
spaces_some _ (more {gap} h) = (gap, refl)
