-- A name has one spelling, and no name's spelling begins another's.
use Rattle.std.specs.Prelude.{◌≡◌, ◌≢◌, ℕ, ◌/◌, ◌%◌, ◌<◌, Bool, true, false, ◌||◌, List, [], ◌∷◌, ◌++◌, refl}
use Rattle.std.specs.Bool.{◌==◌, nat_lt}
use Rattle.std.specs.Char.{digit_char, digit_value}
use Rattle.std.proofs.Common.{sym, ap, ◌∙◌, inl, inr, arith, append_assoc}
use Rattle.std.proofs.lemmas.Bool.{true≢false, or_cases, or_parts, cond-true, cond-false, not-true, eqb-true, ltb-true}
use Rattle.std.proofs.lemmas.Str.{digit_value-digit_char}
use Rattle.hm_tree.specs.Names.{Name}
use Rattle.hm_tree_spelling.specs.Spelling.{is_quote_or_backslash, is_control, is_plain, spelled_byte, escaped, spelled}

-- what a byte is
pub data Kind (b : ℕ) : Type 0 where
  plain : is_plain b ≡ true → spelled_byte b ≡ b ∷ [] → Kind b
  backslashed : is_quote_or_backslash b ≡ true → spelled_byte b ≡ 92 ∷ b ∷ [] → Kind b
  control : b < 128 → spelled_byte b ≡ 92 ∷ 120 ∷ digit_char (b / 16) ∷ digit_char (b % 16) ∷ [] → Kind b

control_small : (b : ℕ) → is_control b ≡ true → b < 128
control_small b h = elim (or_cases (nat_lt b 32) (b == 127) h)
    [ inl low ↦ (let l = ltb-true b 32 low in omega arith) | inr last ↦ (let l = eqb-true b 127 last in omega arith) ]

pub kind : (b : ℕ) → Kind b
kind b = go (is_quote_or_backslash b) refl (is_control b) refl
  where
    go : (m : Bool) → is_quote_or_backslash b ≡ m → (c : Bool) → is_control b ≡ c → Kind b
    go true e c f = backslashed e (cond-true (is_quote_or_backslash b) _ _ e)
    go false e true f = control (control_small b f) (cond-false (is_quote_or_backslash b) _ _ e ∙ cond-true (is_control b) _ _ f)
    go false e false f = plain (rw (e, f) refl) (cond-false (is_quote_or_backslash b) _ _ e ∙ cond-false (is_control b) _ _ f)

pub spelled_plain : (b : ℕ) → is_plain b ≡ true → spelled_byte b ≡ b ∷ []
spelled_plain b h =
    let apart = or_parts (is_quote_or_backslash b) (is_control b) (not-true (is_quote_or_backslash b || is_control b) h) in
    cond-false (is_quote_or_backslash b) _ _ apart.0 ∙ cond-false (is_control b) _ _ apart.1

pub spelled_some : (b : ℕ) (x : List ℕ) → spelled_byte b ++ x ≢ []
spelled_some b x e = go (kind b)
  where
    same : (s : List ℕ) → spelled_byte b ≡ s → s ++ x ≡ []
    same s p = ap (λ l. l ++ x) (sym p) ∙ e

    go : Kind b → ⊥
    go (plain h p) = let f : ◌≡◌ {A = List ℕ} (b ∷ x) [] = same _ p in cc
    go (backslashed h p) = let f : ◌≡◌ {A = List ℕ} (92 ∷ b ∷ x) [] = same _ p in cc
    go (control h p) = let f : ◌≡◌ {A = List ℕ} (92 ∷ 120 ∷ digit_char (b / 16) ∷ digit_char (b % 16) ∷ x) [] = same _ p in cc

digits_one : (b c : ℕ) → b < 128 → c < 128 → digit_char (b / 16) ≡ digit_char (c / 16) → digit_char (b % 16) ≡ digit_char (c % 16) → b ≡ c
digits_one b c hb hc high low =
    let p : b / 16 ≡ c / 16 = sym (digit_value-digit_char (b / 16) (omega arith)) ∙ ap digit_value high
    ∙ digit_value-digit_char (c / 16) (omega arith) in
    let q : b % 16 ≡ c % 16 = sym (digit_value-digit_char (b % 16) (omega arith)) ∙ ap digit_value low
    ∙ digit_value-digit_char (c % 16) (omega arith) in
    omega arith

-- a plain byte is no backslash, and neither a quote nor a backslash is x
not_plain : (b : ℕ) → is_plain b ≡ true → b ≢ 92
not_plain b h e = true≢false (sym h ∙ ap is_plain e)

not_backslashed : (b : ℕ) → is_quote_or_backslash b ≡ true → b ≢ 120
not_backslashed b h e = true≢false (sym h ∙ ap is_quote_or_backslash e)

pub spelled_byte_one : (b c : ℕ) (x y : List ℕ) → spelled_byte b ++ x ≡ spelled_byte c ++ y → (b ≡ c) × (x ≡ y)
spelled_byte_one b c x y e = go (kind b) (kind c)
  where
    same : (s t : List ℕ) → spelled_byte b ≡ s → spelled_byte c ≡ t → s ++ x ≡ t ++ y
    same s t p q = ap (λ l. l ++ x) (sym p) ∙ e ∙ ap (λ l. l ++ y) q

    go : Kind b → Kind c → (b ≡ c) × (x ≡ y)
    go (plain h p) (plain g q) = let f : ◌≡◌ {A = List ℕ} (b ∷ x) (c ∷ y) = same _ _ p q in (cc, cc)
    go (plain h p) (backslashed g q) = let f : ◌≡◌ {A = List ℕ} (b ∷ x) (92 ∷ c ∷ y) = same _ _ p q in let k : b ≡ 92 = cc in absurd (not_plain b h k)
    go (plain h p) (control g q) = let f : ◌≡◌ {A = List ℕ} (b ∷ x) (92 ∷ 120 ∷ digit_char (c / 16) ∷ digit_char (c % 16) ∷ y) = same _ _ p q in
        let k : b ≡ 92 = cc in absurd (not_plain b h k)
    go (backslashed h p) (plain g q) = let f : ◌≡◌ {A = List ℕ} (92 ∷ b ∷ x) (c ∷ y) = same _ _ p q in let k : c ≡ 92 = cc in absurd (not_plain c g k)
    go (backslashed h p) (backslashed g q) = let f : ◌≡◌ {A = List ℕ} (92 ∷ b ∷ x) (92 ∷ c ∷ y) = same _ _ p q in (cc, cc)
    go (backslashed h p) (control g q) = let f : ◌≡◌ {A = List ℕ} (92 ∷ b ∷ x) (92 ∷ 120 ∷ digit_char (c / 16) ∷ digit_char (c % 16) ∷ y) =
        same _ _ p q in let k : b ≡ 120 = cc in absurd (not_backslashed b h k)
    go (control h p) (plain g q) = let f : ◌≡◌ {A = List ℕ} (92 ∷ 120 ∷ digit_char (b / 16) ∷ digit_char (b % 16) ∷ x) (c ∷ y) = same _ _ p q in
        let k : c ≡ 92 = cc in absurd (not_plain c g k)
    go (control h p) (backslashed g q) = let f : ◌≡◌ {A = List ℕ} (92 ∷ 120 ∷ digit_char (b / 16) ∷ digit_char (b % 16) ∷ x) (92 ∷ c ∷ y) =
        same _ _ p q in let k : c ≡ 120 = cc in absurd (not_backslashed c g k)
    go (control h p) (control g q) =
        let f : ◌≡◌ {A = List ℕ} (92 ∷ 120 ∷ digit_char (b / 16) ∷ digit_char (b % 16) ∷ x)
        (92 ∷ 120 ∷ digit_char (c / 16) ∷ digit_char (c % 16) ∷ y) = same _ _ p q in
        (digits_one b c h g (cc) (cc), cc)

-- no byte's spelling begins with a quote
pub spelled_byte_quote : (b : ℕ) (x y : List ℕ) → spelled_byte b ++ x ≢ 34 ∷ y
spelled_byte_quote b x y e = go (kind b)
  where
    same : (s : List ℕ) → spelled_byte b ≡ s → s ++ x ≡ 34 ∷ y
    same s p = ap (λ l. l ++ x) (sym p) ∙ e

    go : Kind b → ⊥
    go (plain h p) = let f : ◌≡◌ {A = List ℕ} (b ∷ x) (34 ∷ y) = same _ p in let k : b ≡ 34 = cc in true≢false (sym h ∙ ap is_plain k)
    go (backslashed h p) = let f : ◌≡◌ {A = List ℕ} (92 ∷ b ∷ x) (34 ∷ y) = same _ p in let k : ◌≡◌ {A = ℕ} 92 34 = cc in let no : ⊥ =
        omega arith in no
    go (control h p) = let f : ◌≡◌ {A = List ℕ} (92 ∷ 120 ∷ digit_char (b / 16) ∷ digit_char (b % 16) ∷ x) (34 ∷ y) = same _ p in
        let k : ◌≡◌ {A = ℕ} 92 34 = cc in let no : ⊥ = omega arith in no

-- where a text's escaped bytes begin those of a name, the name goes on with what is left
pub escaped_rest : (text name left rest : List ℕ) → escaped text ++ left ≡ escaped name ++ 34 ∷ rest
    → (more : List ℕ) × (name ≡ text ++ more) × (left ≡ escaped more ++ 34 ∷ rest)
escaped_rest [] name left rest e = (name, refl, e)
escaped_rest (b ∷ text) [] left rest e =
    absurd (spelled_byte_quote b (escaped text ++ left) rest (sym (append_assoc (spelled_byte b) (escaped text) left) ∙ e))
escaped_rest (b ∷ text) (c ∷ name) left rest e =
    let one = spelled_byte_one b c (escaped text ++ left) (escaped name ++ 34 ∷ rest)
    (sym (append_assoc (spelled_byte b) (escaped text) left) ∙ e ∙ append_assoc (spelled_byte c) (escaped name) (34 ∷ rest)) in
    let next = escaped_rest text name left rest one.1 in
    (next.0, (λ i. sym one.0 i ∷ next.1 i), next.2)

pub escaped_one : (a b x y : List ℕ) → escaped a ++ 34 ∷ x ≡ escaped b ++ 34 ∷ y → (a ≡ b) × (x ≡ y)
escaped_one [] [] x y e = (refl, cc)
escaped_one [] (c ∷ b) x y e =
    absurd (spelled_byte_quote c (escaped b ++ 34 ∷ y) x (sym (append_assoc (spelled_byte c) (escaped b) (34 ∷ y)) ∙ sym e))
escaped_one (c ∷ a) [] x y e = absurd (spelled_byte_quote c (escaped a ++ 34 ∷ x) y (sym (append_assoc (spelled_byte c) (escaped a) (34 ∷ x)) ∙ e))
escaped_one (c ∷ a) (d ∷ b) x y e =
    let one = spelled_byte_one c d (escaped a ++ 34 ∷ x) (escaped b ++ 34 ∷ y)
    (sym (append_assoc (spelled_byte c) (escaped a) (34 ∷ x)) ∙ e ∙ append_assoc (spelled_byte d) (escaped b) (34 ∷ y)) in
    let next = escaped_one a b x y one.1 in
    ((λ i. one.0 i ∷ next.0 i), next.1)

-- the spelling with what follows it
pub spelled-append : (a : Name) (x : List ℕ) → spelled a ++ x ≡ 34 ∷ (escaped a ++ 34 ∷ x)
unfolding spelled
spelled-append a x = ap (λ l. 34 ∷ l) (append_assoc (escaped a) (34 ∷ []) x)

-- the law: what begins with a name's spelling begins with no other's
pub spelled_one : (a b : Name) (x y : List ℕ) → spelled a ++ x ≡ spelled b ++ y → (a ≡ b) × (x ≡ y)
spelled_one a b x y e =
    let f : ◌≡◌ {A = List ℕ} (34 ∷ (escaped a ++ 34 ∷ x)) (34 ∷ (escaped b ++ 34 ∷ y)) = sym (spelled-append a x) ∙ e ∙ spelled-append b y in
    escaped_one a b x y (cc)
