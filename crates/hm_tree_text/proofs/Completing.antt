-- How a character goes on behind a byte.
use Rattle.std.proofs.Common.{◌≡◌, ℕ, ◌<◌, ◌≤◌, List, [], ◌∷◌, Option, Some, None, sym, subst, arith}
use Rattle.std.specs.Prelude.{MatchOption}
use Rattle.std.specs.Str.{continuation_len}
use Rattle.std.specs.Str.Lossy.{second_byte_min, second_byte_max}
use Rattle.hm_tree_text.specs.declared.character.Character.{Character}
use Rattle.hm_tree_text.specs.Characters.{Continues, Completes, IsOpen, IsBegunBy, GoesOn}
use Rattle.hm_tree_text.proofs.Utf8.{utf8_nothing, begun_more, begun_at, continues_some, min_bounds}

pub complete_open : IsOpen (record { missing = 0; low = 128; high = 191 })
complete_open = record { high = omega arith; completion = []; completes = utf8_nothing }

-- the character that a byte begins
pub begun : (b n low high : ℕ) → n ≡ continuation_len b → low ≡ second_byte_min b → high ≡ second_byte_max b → 194 ≤ b → b < 245
    → IsOpen (record { missing = n; low = low; high = high })
    × ((rest : List ℕ) → (IsBegunBy b rest → Continues n low high rest) × (Continues n low high rest → IsBegunBy b rest))
begun b n low high nn ll hh least most =
    let m = min_bounds b in
    let upper = m.2 in
    let gap = m.1 in
    let some = continues_some n low high (omega arith) in (
      record { high = omega arith; completion = some.0; completes = some.1 },
      λ rest. let more = begun_more b least most rest in (λ u. same rest (more.0 u), λ c. more.1 (back rest c)),
    )
  where
    same : (rest : List ℕ) → Continues (continuation_len b) (second_byte_min b) (second_byte_max b) rest → Continues n low high rest
    same rest c = subst (λ n. Continues n low high rest) (sym nn)
        (subst (λ l. Continues (continuation_len b) l high rest) (sym ll)
        (subst (λ h. Continues (continuation_len b) (second_byte_min b) h rest) (sym hh) c))

    back : (rest : List ℕ) → Continues n low high rest → Continues (continuation_len b) (second_byte_min b) (second_byte_max b) rest
    back rest c = subst (λ h. Continues (continuation_len b) (second_byte_min b) h rest) hh
        (subst (λ l. Continues (continuation_len b) l high rest) ll (subst (λ n. Continues n low high rest) nn c))

-- at a character's end another one begins
pub next_begun : (c : Character) (b : ℕ) (r : Option Character) → c.missing ≡ 0
    → MatchOption r ((rest : List ℕ) → ¬ (IsBegunBy b rest))
    (λ next. IsOpen next × ((rest : List ℕ) → (IsBegunBy b rest → Completes next rest) × (Completes next rest → IsBegunBy b rest)))
    → MatchOption r ((rest : List ℕ) → ¬ (Completes c (b ∷ rest))) (λ next. IsOpen next × GoesOn c b next)
next_begun c b None e h = λ rest u. h rest ((begun_at c.missing c.low c.high b rest e).1 u)
next_begun c b (Some d) e h = (
  h.0,
  λ rest. let at = begun_at c.missing c.low c.high b rest e in let more = h.1 rest in
      (λ u. more.0 (at.1 u), λ u. at.0 (more.1 u)),
)

pub next_open : (n : ℕ) → IsOpen (record { missing = n; low = 128; high = 191 })
next_open n = let some = continues_some n 128 191 (omega arith) in record { high = omega arith; completion = some.0; completes = some.1 }
