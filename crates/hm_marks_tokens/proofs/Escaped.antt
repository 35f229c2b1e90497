-- What is written by entities is read again, and has no `<` and no `"`.
use Rattle.std.proofs.Common.{◌≡◌, ℕ, zero, suc, Bool, true, false, cond, ◌||◌, List, [], ◌∷◌, ◌++◌, codes, drop, refl, sym, ap, ◌∙◌}
use Rattle.std.specs.Bool.{◌==◌}
use Rattle.std.specs.List.{list_any}
use Rattle.std.proofs.lemmas.Bool.{eqb-true}
use Rattle.std.proofs.lemmas.List.{append_assoc}
use Rattle.std.proofs.lemmas.List.Folds.{list_any-append}
use Rattle.hm_marks_tokens.specs.Bytes.{less, quote, has_less, has_quote}
use Rattle.hm_marks_tokens.specs.Entities.{read_byte, unescaped_behind, unescaped, escaped_byte, escaped, IsPlain}

byte_read : (b : ℕ) (rest : List ℕ) → unescaped (escaped_byte b ++ rest) ≡ b ∷ unescaped rest
byte_read b rest = go (b == 38) refl (b == 60) refl (b == 62) refl (b == 34) refl
  where
    go : (a : Bool) → (b == 38) ≡ a → (l : Bool) → (b == 60) ≡ l → (g : Bool) → (b == 62) ≡ g → (q : Bool) → (b == 34) ≡ q
        → unescaped (cond a (codes "&amp;") (cond l (codes "&lt;") (cond g (codes "&gt;") (cond q (codes "&quot;") (b ∷ [])))) ++ rest) ≡ b ∷ unescaped rest
    go true e l el g eg q eq = ap (λ (x : ℕ). x ∷ unescaped rest) (sym (eqb-true b 38 e))
    go false e true el g eg q eq = ap (λ (x : ℕ). x ∷ unescaped rest) (sym (eqb-true b 60 el))
    go false e false el true eg q eq = ap (λ (x : ℕ). x ∷ unescaped rest) (sym (eqb-true b 62 eg))
    go false e false el false eg true eq = ap (λ (x : ℕ). x ∷ unescaped rest) (sym (eqb-true b 34 eq))
    go false e false el false eg false eq = rw e refl

pub escaped_read : (bytes : List ℕ) → unescaped (escaped bytes) ≡ bytes
escaped_read [] = refl
escaped_read (b ∷ bytes) = byte_read b (escaped bytes) ∙ ap (λ l. b ∷ l) (escaped_read bytes)

-- ---- reading, a byte after the other

read_behind : (n : ℕ) (bytes : List ℕ) → unescaped_behind n bytes ≡ unescaped (drop n bytes)
read_behind zero [] = refl
read_behind zero (b ∷ bytes) = refl
read_behind (suc n) [] = refl
read_behind (suc n) (b ∷ bytes) = read_behind n bytes

pub read_more : (made new all : List ℕ) (b : ℕ) (rest behind back : List ℕ) (n : ℕ) → made ++ unescaped rest ≡ all → rest ≡ b ∷ behind
    → new ≡ made ++ (read_byte b behind).0 → n ≡ (read_byte b behind).1 → back ≡ drop n behind → new ++ unescaped back ≡ all
read_more made new all b rest behind back n is rest_is new_is n_is back_is =
    (λ i. new_is i ++ unescaped (back_is i))
    ∙ append_assoc made (read_byte b behind).0 (unescaped (drop n behind))
    ∙ ap (λ l. made ++ ((read_byte b behind).0 ++ l)) (sym (read_behind n behind) ∙ ap (λ k. unescaped_behind k behind) n_is)
    ∙ ap (λ l. made ++ unescaped l) (sym rest_is) ∙ is

-- ---- bytes that aren't written

-- what is free of a byte in two parts is free of it
append_none : (test : ℕ → Bool) (xs ys : List ℕ) → list_any test xs ≡ false → list_any test ys ≡ false → list_any test (xs ++ ys) ≡ false
append_none test xs ys a b = list_any-append test xs ys ∙ (λ i. a i || b i)

-- a byte that is spelled by an entity isn't written
module _ (x : ℕ) where
  byte_free : (b : ℕ) → ((b == 38) ≡ false → (b == 60) ≡ false → (b == 62) ≡ false → (b == 34) ≡ false → (b == x) ≡ false)
      → list_any (λ b. b == x) (codes "&amp;") ≡ false → list_any (λ b. b == x) (codes "&lt;") ≡ false → list_any (λ b. b == x) (codes "&gt;") ≡ false
      → list_any (λ b. b == x) (codes "&quot;") ≡ false → list_any (λ b. b == x) (escaped_byte b) ≡ false
  byte_free b other amp lt gt quot = go (b == 38) refl (b == 60) refl (b == 62) refl (b == 34) refl
    where
      go : (a : Bool) → (b == 38) ≡ a → (l : Bool) → (b == 60) ≡ l → (g : Bool) → (b == 62) ≡ g → (q : Bool) → (b == 34) ≡ q
          → list_any (λ b. b == x) (cond a (codes "&amp;") (cond l (codes "&lt;") (cond g (codes "&gt;") (cond q (codes "&quot;") (b ∷ []))))) ≡ false
      go true e l el g eg q eq = amp
      go false e true el g eg q eq = lt
      go false e false el true eg q eq = gt
      go false e false el false eg true eq = quot
      go false e false el false eg false eq = rw (other e el eg eq) refl

escaped_less : (bytes : List ℕ) → has_less (escaped bytes) ≡ false
escaped_less [] = refl
escaped_less (b ∷ bytes) = append_none (λ b. b == less) (escaped_byte b) (escaped bytes) (byte_free less b (λ a l g q. l) refl refl refl refl) (escaped_less bytes)

escaped_quote : (bytes : List ℕ) → has_quote (escaped bytes) ≡ false
escaped_quote [] = refl
escaped_quote (b ∷ bytes) = append_none (λ b. b == quote) (escaped_byte b) (escaped bytes) (byte_free quote b (λ a l g q. q) refl refl refl refl) (escaped_quote bytes)

pub escaped_plain : (bytes : List ℕ) → IsPlain (escaped bytes)
escaped_plain bytes = record { less = escaped_less bytes; quote = escaped_quote bytes }
