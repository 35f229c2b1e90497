-- Escapes keep UTF-8.
use Rattle.std.proofs.Common.{◌≡◌, ℕ, suc, ◌<◌, ◌≤◌, Bool, true, false, cond, List, [], ◌∷◌, ◌++◌, refl, sym, ap, subst, arith}
use Rattle.std.specs.Bool.{◌==◌}
use Rattle.std.specs.Str.{IsUtf8}
use Rattle.std.proofs.lemmas.Bool.{cond_both, eqb-true}
use Rattle.std.proofs.lemmas.Str.{IsUtf8-nil, IsUtf8-append}
use Rattle.std.proofs.lemmas.Grind.{flat_map-append}
use Rattle.hm_lines.specs.Unfolding.{feed}
use Rattle.hm_lines.specs.Values.{backslash, is_special, is_escape, meaning, unescaped, escaped_byte, escaped}
use Rattle.hm_lines.proofs.Characters.{AreHigh, by_characters}
use Rattle.hm_lines.proofs.Escapes.{plain_byte, plain_chunk, own_backslash, read_escape}
use Rattle.hm_facts.proofs.Bytes.{one_ascii}
use Rattle.hm_tree.proofs.CleanText.{not_low}

two_ascii : (a b : ℕ) → a < 128 → b < 128 → IsUtf8 (a ∷ b ∷ [])
two_ascii a b low lt = IsUtf8-append (a ∷ []) (b ∷ []) (one_ascii a low) (one_ascii b lt)

behind_ascii : (b : ℕ) (t : List ℕ) → b < 128 → IsUtf8 t → IsUtf8 (b ∷ t)
behind_ascii b t lt u = IsUtf8-append (b ∷ []) t (one_ascii b lt) u

-- ---- what is escaped

escaped_low : (b : ℕ) → b < 128 → IsUtf8 (escaped_byte b)
escaped_low b lt =
    cond_both (is_special b) (backslash ∷ b ∷ []) (cond (b == feed) (backslash ∷ 110 ∷ []) (b ∷ [])) IsUtf8
    (λ _. two_ascii backslash b (omega arith) lt)
    (λ _. cond_both (b == feed) (backslash ∷ 110 ∷ []) (b ∷ []) IsUtf8 (λ _. two_ascii backslash 110 (omega arith) (omega arith)) (λ _. one_ascii b lt))

not_special : (b : ℕ) → 128 ≤ b → is_special b ≡ false
not_special b h = rw (not_low b 92 h (omega arith), not_low b 44 h (omega arith), not_low b 59 h (omega arith)) refl

not_escape : (b : ℕ) → 128 ≤ b → is_escape b ≡ false
not_escape b h = rw (not_low b 92 h (omega arith), not_low b 44 h (omega arith), not_low b 59 h (omega arith), not_low b 110 h (omega arith), not_low b 78 h (omega arith)) refl

escaped_high : (bs : List ℕ) → AreHigh bs → escaped bs ≡ bs
escaped_high [] all = refl
escaped_high (b ∷ bs) all =
    let h : 128 ≤ b = all 0 b (omega arith) in
    rw (not_special b h, not_low b 10 h (omega arith)) (ap (λ l. b ∷ l) (escaped_high bs (λ k d lt. all (suc k) d (omega arith))))

pub escaped_utf8 : (text : List ℕ) → IsUtf8 text → IsUtf8 (escaped text)
escaped_utf8 text u =
    by_characters (λ l. IsUtf8 (escaped l)) IsUtf8-nil (λ b t lt rest. IsUtf8-append (escaped_byte b) (escaped t) (escaped_low b lt) rest)
    (λ bs t one all rest.
    subst IsUtf8 (sym (flat_map-append escaped_byte bs t))
    (IsUtf8-append (escaped bs) (escaped t) (subst IsUtf8 (sym (escaped_high bs all)) one) rest))
    text u

-- ---- and what is read

-- both behind a `\` and behind none
record Reads (text : List ℕ) : Type 0 where
  plain : IsUtf8 (unescaped text)
  behind : IsUtf8 (unescaped (backslash ∷ text))

meaning_low : (b : ℕ) → b < 128 → meaning b < 128
meaning_low b lt = cond_both (is_special b) b feed (λ n. n < 128) (λ _. lt) (λ _. omega arith)

module _ (b : ℕ) (t : List ℕ) (lt : b < 128) (rest : Reads t) where
  low_plain : (k : Bool) → (b == backslash) ≡ k → IsUtf8 (unescaped (b ∷ t))
  low_plain true e = subst (λ x. IsUtf8 (unescaped (x ∷ t))) (sym (eqb-true b backslash e)) rest.behind
  low_plain false e = subst IsUtf8 (sym (plain_byte b t e)) (behind_ascii b (unescaped t) lt rest.plain)

  low_behind : (k : Bool) → is_escape b ≡ k → IsUtf8 (unescaped (backslash ∷ b ∷ t))
  low_behind true e = subst IsUtf8 (sym (read_escape b t e)) (behind_ascii (meaning b) (unescaped t) (meaning_low b lt) rest.plain)
  low_behind false e =
      subst IsUtf8 (sym (own_backslash b t e)) (behind_ascii backslash (unescaped (b ∷ t)) (omega arith) (low_plain (b == backslash) refl))

module _ (t : List ℕ) (rest : Reads t) where
  high_plain : (bs : List ℕ) → IsUtf8 bs → AreHigh bs → IsUtf8 (unescaped (bs ++ t))
  high_plain bs one all =
      subst IsUtf8 (sym (plain_chunk bs t (λ k d lt. not_low _ 92 (all k d lt) (omega arith)))) (IsUtf8-append bs (unescaped t) one rest.plain)

  high_behind : (bs : List ℕ) → IsUtf8 bs → AreHigh bs → IsUtf8 (unescaped (backslash ∷ bs ++ t))
  high_behind [] one all = rest.behind
  high_behind (b ∷ bs) one all =
      subst IsUtf8 (sym (own_backslash b (bs ++ t) (not_escape b (all 0 b (omega arith)))))
      (behind_ascii backslash (unescaped (b ∷ bs ++ t)) (omega arith) (high_plain (b ∷ bs) one all))

pub unescaped_utf8 : (value : List ℕ) → IsUtf8 value → IsUtf8 (unescaped value)
unescaped_utf8 value u = (by_characters Reads
    (record { plain = IsUtf8-nil; behind = one_ascii backslash (omega arith) })
    (λ b t lt rest. record { plain = low_plain b t lt rest (b == backslash) refl; behind = low_behind b t lt rest (is_escape b) refl })
    (λ bs t one all rest. record { plain = high_plain t rest bs one all; behind = high_behind t rest bs one all })
    value u).plain
