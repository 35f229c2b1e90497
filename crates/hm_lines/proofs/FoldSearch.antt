-- Looking for the first fold, from line feed to line feed.
use Rattle.std.proofs.Common.{◌≡◌, ℕ, zero, suc, ◌+◌, ◌-◌, ◌<◌, ◌≤◌, inl, inr, true, false, List, [], ◌∷◌, length, get_or, take, drop, Option, Some, None, sym, ap, ◌∙◌, subst, arith}
use Rattle.std.specs.Bool.{◌==◌}
use Rattle.std.proofs.lemmas.Bool.{cases_lt, and_parts, and_from, both_ways}
use Rattle.std.proofs.lemmas.List.{get_or-drop, length-drop, take_rest}
use Rattle.memchr.specs.Find.{IsFirstByte, is_byte, Nowhere, NoneBefore}
use Rattle.hm_lines.specs.Unfolding.{feed, begins_with_blank, IsFold}

-- a line feed stands where a fold begins, and a blank behind it
record Stands (bytes : List ℕ) (at : ℕ) : Type 0 where
  pub within : at < length bytes
  pub is_feed : (get_or bytes at 0 == feed) ≡ true
  pub blank : begins_with_blank (drop (at + 1) bytes) ≡ true

next : (b : ℕ) (bytes : List ℕ) (at : ℕ) → begins_with_blank (drop (suc at + 1) (b ∷ bytes)) ≡ begins_with_blank (drop (at + 1) bytes)
next b bytes at =
    let one_more : suc at + 1 ≡ suc (at + 1) = omega arith in
    ap (λ n. begins_with_blank (drop n (b ∷ bytes))) one_more

stands : (bytes : List ℕ) (at : ℕ) → IsFold bytes at → Stands bytes at
stands [] zero e = let no_fold : ⊥ = cc in absurd no_fold
stands [] (suc at) e = let no_fold : ⊥ = cc in absurd no_fold
stands (b ∷ bytes) zero e =
    let both = and_parts (b == feed) (begins_with_blank bytes) e in record { within = omega arith; is_feed = both.0; blank = both.1 }
stands (b ∷ bytes) (suc at) e =
    let later = stands bytes at e in
    record {
      within = let within = later.within in omega (arith, within);
      is_feed = later.is_feed;
      blank = next b bytes at ∙ later.blank;
    }

begins : (bytes : List ℕ) (at : ℕ) → at < length bytes → (get_or bytes at 0 == feed) ≡ true → begins_with_blank (drop (at + 1) bytes) ≡ true → IsFold bytes at
begins [] at within is_feed blank = absurd (omega (arith, within))
begins (b ∷ bytes) zero within is_feed blank = and_from (b == feed) (begins_with_blank bytes) is_feed blank
begins (b ∷ bytes) (suc at) within is_feed blank =
    begins bytes at (omega (arith, within)) is_feed (sym (next b bytes at) ∙ blank)

module _ (bytes : List ℕ) (from : ℕ) (none : Nowhere (IsFold bytes) 0 from) (within : from ≤ length bytes) where
  -- no fold begins where no line feed stands
  up_to : (n : ℕ) → ((k : ℕ) → k < n → (get_or (drop from bytes) k 0 == feed) ≡ true → ⊥) → Nowhere (IsFold bytes) 0 (from + n)
  up_to n no_feed k low high fold = elim (cases_lt k from) [
    | inl lt ↦ none k low lt fold
    | inr le ↦
        no_feed (k - from) (omega (arith, le, high))
        (ap (λ b. b == feed) (get_or-drop from bytes (k - from) 0 ∙ ap (λ n. get_or bytes n 0) (omega (arith, le))) ∙ (stands bytes k fold).is_feed)
  ]

  rest : (found : Option ℕ) → IsFirstByte (is_byte feed) (take (length bytes - from) (drop from bytes)) found → IsFirstByte (is_byte feed) (drop from bytes) found
  rest found is = subst (λ l. IsFirstByte (is_byte feed) l found) (take_rest bytes from) is

  pub none_left : IsFirstByte (is_byte feed) (take (length bytes - from) (drop from bytes)) None → Nowhere (IsFold bytes) 0 (length bytes)
  none_left left k low high =
      let no_feed : IsFirstByte (is_byte feed) (drop from bytes) None = rest None left in
      let len = length-drop from bytes in
      up_to (length bytes - from) (λ j lt. no_feed j (omega arith) (omega (arith, lt, len))) k low (omega (arith, high, within))

  module _ (ahead : ℕ) (found : IsFirstByte (is_byte feed) (take (length bytes - from) (drop from bytes)) (Some ahead)) where
    here : IsFirstByte (is_byte feed) (drop from bytes) (Some ahead)
    here = rest (Some ahead) found

    before : Nowhere (IsFold bytes) 0 (from + ahead)
    before = up_to ahead (λ j lt. here.0.before j (omega arith) lt)

    pub feed_within : from + ahead < length bytes
    feed_within = let high = here.0.high in let len = length-drop from bytes in omega (arith, high, len)

    pub is_first : begins_with_blank (drop (from + ahead + 1) bytes) ≡ true → NoneBefore (IsFold bytes) 0 (length bytes) (from + ahead) × IsFold bytes (from + ahead)
    is_first blank = (
      record { low = omega arith; high = feed_within; before = before },
      begins bytes (from + ahead) feed_within (ap (λ b. b == feed) (sym (get_or-drop from bytes ahead 0)) ∙ here.1) blank,
    )

    pub none_here : begins_with_blank (drop (from + ahead + 1) bytes) ≡ false → Nowhere (IsFold bytes) 0 (from + ahead + 1)
    none_here plain k low high fold = elim (cases_lt k (from + ahead)) [
      | inl lt ↦ before k low lt fold
      | inr le ↦
          let same : from + ahead ≡ k = omega (arith, le, high) in
          both_ways (begins_with_blank (drop (from + ahead + 1) bytes)) plain
          (ap (λ n. begins_with_blank (drop (n + 1) bytes)) same ∙ (stands bytes k fold).blank)
    ]

-- a fold is two bytes
pub two_bytes : (bytes : List ℕ) (at : ℕ) → IsFold bytes at → at + 2 ≤ length bytes
two_bytes bytes at fold =
    let there = stands bytes at fold in
    let some = not_empty (drop (at + 1) bytes) there.blank in
    let len = length-drop (at + 1) bytes in
    omega (arith, some, len)
  where
    not_empty : (l : List ℕ) → begins_with_blank l ≡ true → 0 < length l
    not_empty [] e = let no_blank : ⊥ = cc in absurd no_blank
    not_empty (b ∷ l) e = omega arith
