-- Cleaning byte by byte is cleaning.
use Rattle.std.specs.Prelude.{◌≡◌, ℕ, Bool, true, false, cond, not, ◌&&◌, List, [], ◌∷◌, ◌++◌, filter, refl}
use Rattle.std.specs.Bool.{◌==◌}
use Rattle.std.proofs.Common.{sym, ap, ◌∙◌}
use Rattle.std.proofs.lemmas.Bool.{true≢false, eqb-true, and_parts, cond-true, cond-false}
use Rattle.hm_tree.specs.Names.{Name}
use Rattle.hm_tree.specs.Cleaned.{pairs_made_feeds, returns_made_feeds, is_kept, cleaned}
use Rattle.hm_tree.specs.LineEnds.{line_end}

abbrev pub line_ends : Bool → List ℕ → List ℕ
line_ends behind_return [] = []
line_ends behind_return (b ∷ t) = line_end behind_return b ++ line_ends (b == 13) t

-- ---- so each CRLF and each other CR is made LF

abbrev feeds : List ℕ → List ℕ
feeds t = returns_made_feeds (pairs_made_feeds t)

feeds_plain : (b : ℕ) (t : List ℕ) → (b == 13) ≡ false → feeds (b ∷ t) ≡ b ∷ feeds t
feeds_plain b t e = rw e (rw e refl)

feeds_return : (b : ℕ) (t : List ℕ) → (b == 10) ≡ false → feeds (13 ∷ (b ∷ t)) ≡ 10 ∷ feeds (b ∷ t)
feeds_return b t e = ap returns_made_feeds (cond-false (b == 10) (pairs_made_feeds (b ∷ t)) (13 ∷ pairs_made_feeds (b ∷ t)) e)

feeds_pair : (b : ℕ) (t : List ℕ) → (b == 10) ≡ true → feeds (13 ∷ (b ∷ t)) ≡ feeds (b ∷ t)
feeds_pair b t e = ap returns_made_feeds (cond-true (b == 10) (pairs_made_feeds (b ∷ t)) (13 ∷ pairs_made_feeds (b ∷ t)) e)

ends_return : (behind : Bool) (b : ℕ) (t : List ℕ) → (b == 13) ≡ true → line_ends behind (b ∷ t) ≡ 10 ∷ line_ends true t
ends_return behind b t e = ap (λ l. l ++ line_ends (b == 13) t) (cond-true (b == 13) _ _ e) ∙ ap (λ r. 10 ∷ line_ends r t) e

ends_dropped : (b : ℕ) (t : List ℕ) → (b == 13) ≡ false → (b == 10) ≡ true → line_ends true (b ∷ t) ≡ line_ends false t
ends_dropped b t e f = ap (λ l. l ++ line_ends (b == 13) t) (cond-false (b == 13) _ _ e ∙ cond-true (b == 10) _ _ f) ∙ ap (λ r. line_ends r t) e

ends_plain : (behind : Bool) (b : ℕ) (t : List ℕ) → (b == 13) ≡ false → (behind && (b == 10)) ≡ false
    → line_ends behind (b ∷ t) ≡ b ∷ line_ends false t
ends_plain behind b t e f =
    ap (λ l. l ++ line_ends (b == 13) t) (cond-false (b == 13) _ _ e ∙ cond-false (behind && (b == 10)) _ _ f) ∙ ap (λ r. b ∷ line_ends r t) e

-- from the start of a text, and behind a CR
both_ends : (t : List ℕ) → (line_ends false t ≡ feeds t) × (10 ∷ line_ends true t ≡ feeds (13 ∷ t))
both_ends [] = (refl, refl)
both_ends (b ∷ t) = go (both_ends t) (b == 13) refl (b == 10) refl
  where
    go : (line_ends false t ≡ feeds t) × (10 ∷ line_ends true t ≡ feeds (13 ∷ t)) → (r : Bool) → (b == 13) ≡ r → (f : Bool) → (b == 10) ≡ f
        → (line_ends false (b ∷ t) ≡ feeds (b ∷ t)) × (10 ∷ line_ends true (b ∷ t) ≡ feeds (13 ∷ (b ∷ t)))
    go rest true e f g =
        let here : 10 ∷ line_ends true t ≡ feeds (b ∷ t) = rest.1 ∙ ap (λ c. feeds (c ∷ t)) (sym (eqb-true b 13 e)) in
        let no_feed : (b == 10) ≡ false = ap (λ c. c == 10) (eqb-true b 13 e) in
        (ends_return false b t e ∙ here, ap (λ l. 10 ∷ l) (ends_return true b t e ∙ here) ∙ sym (feeds_return b t no_feed))
    go rest false e true g =
        let plain : b ∷ feeds t ≡ feeds (b ∷ t) = sym (feeds_plain b t e) in (
          ends_plain false b t e refl ∙ ap (λ l. b ∷ l) rest.0 ∙ plain,
          ap (λ l. 10 ∷ l) (ends_dropped b t e g ∙ rest.0) ∙ ap (λ c. c ∷ feeds t) (sym (eqb-true b 10 g)) ∙ plain ∙ sym (feeds_pair b t g),
        )
    go rest false e false g =
        let plain : b ∷ line_ends false t ≡ feeds (b ∷ t) = ap (λ l. b ∷ l) rest.0 ∙ sym (feeds_plain b t e) in
        (ends_plain false b t e refl ∙ plain, ap (λ l. 10 ∷ l) (ends_plain true b t e g ∙ plain) ∙ sym (feeds_return b t g))

pub line_ends_are : (t : List ℕ) → line_ends false t ≡ feeds t
line_ends_are t = (both_ends t).0

pub cleaned-line_ends : (t : Name) → cleaned t ≡ filter is_kept (line_ends false t)
unfolding cleaned
cleaned-line_ends t = ap (filter is_kept) (sym (line_ends_are t))

-- ---- a text without a CR stays as it is

abbrev pub has_no_return : List ℕ → Bool
has_no_return [] = true
has_no_return (b ∷ t) = not (b == 13) && has_no_return t

pub line_ends_same : (t : List ℕ) → has_no_return t ≡ true → line_ends false t ≡ t
line_ends_same [] h = refl
line_ends_same (b ∷ t) h =
    let parts = and_parts (not (b == 13)) (has_no_return t) h in
    go (b == 13) refl parts.0 (line_ends_same t parts.1)
  where
    go : (r : Bool) → (b == 13) ≡ r → not (b == 13) ≡ true → line_ends false t ≡ t
        → cond (b == 13) (10 ∷ []) (b ∷ []) ++ line_ends (b == 13) t ≡ b ∷ t
    go true e p rest = let f : false ≡ true = rw e at p in absurd (true≢false (sym f))
    go false e p rest = rw e (ap (λ l. b ∷ l) rest)
