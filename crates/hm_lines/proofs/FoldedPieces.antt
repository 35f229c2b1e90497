-- Pieces of a line, one behind the other.
use Rattle.std.proofs.Common.{◌≡◌, ℕ, ◌<◌, ◌≤◌, ◌⊎◌, List, [], ◌∷◌, ◌++◌, length, take, drop, refl, sym, ap, ◌∙◌, subst, arith, inl, inr}
use Rattle.std.specs.Str.{IsUtf8, IsCharBoundary}
use Rattle.std.proofs.lemmas.Bool.{cases_lt}
use Rattle.std.proofs.lemmas.List.{append_assoc, append-nil, take-append-drop, length-take-le, length-drop}
use Rattle.hm_lines.specs.Unfolding.{feed, return}
use Rattle.hm_lines.specs.Folding.{IsLongest, ArePieces, first_limit, further_limit, joined, IsFolded, AreFolded, Appends}
use Rattle.hm_lines.proofs.Characters.{Steps, steps}

-- pieces of a line, and what is written of them
pub record Written (line : List ℕ) (old new : List ℕ) : Type 0 where
  pub pieces : List (List ℕ)
  pub cut : ArePieces first_limit line pieces
  pub joins : new ≡ old ++ joined pieces

-- whatever pieces the rest has, with what was put behind some bytes they are pieces of the line
pub record IsBehind (line old new : List ℕ) (limit : ℕ) (rest : List ℕ) : Type 0 where
  pub ends : (pieces : List (List ℕ)) → ArePieces limit rest pieces → Written line old (new ++ joined pieces)

pub none_behind : (line old : List ℕ) → IsBehind line old old first_limit line
none_behind line old = record { ends = λ pieces cut. record { pieces = pieces; cut = cut; joins = refl } }

module _ (line old new : List ℕ) (limit : ℕ) (rest : List ℕ) (before : IsBehind line old new limit rest) where
  module _ (piece tail made next : List ℕ) (long : limit < length rest) (longest : IsLongest limit rest piece tail) (first : made ≡ new ++ piece)
      (then : next ≡ made ++ return ∷ feed ∷ 32 ∷ []) where
    appended : (more : List ℕ) → next ++ more ≡ new ++ (piece ++ return ∷ feed ∷ 32 ∷ more)
    appended more =
        ap (λ l. l ++ more) (then ∙ ap (λ l. l ++ return ∷ feed ∷ 32 ∷ []) first)
        ∙ append_assoc (new ++ piece) (return ∷ feed ∷ 32 ∷ []) more
        ∙ append_assoc new piece (return ∷ feed ∷ 32 ∷ more)

    ends : (pieces : List (List ℕ)) → ArePieces further_limit tail pieces → Written line old (next ++ joined pieces)
    ends [] cut = absurd cut
    ends (p ∷ pieces) cut =
        subst (Written line old) (sym (appended (joined (p ∷ pieces)))) (before.ends (piece ∷ p ∷ pieces) (long, (tail, (longest, cut))))

    -- one piece more
    pub piece_behind : IsBehind line old next further_limit tail
    piece_behind = record { ends = ends }

  -- the last piece
  pub last_behind : (made final : List ℕ) → length rest ≤ limit → made ≡ new ++ rest → final ≡ made ++ return ∷ feed ∷ [] → Appends old final (IsFolded line)
  last_behind made final short first then =
      let whole = before.ends (rest ∷ []) (short, refl) in (
        joined whole.pieces,
        (
          then ∙ ap (λ l. l ++ return ∷ feed ∷ []) first ∙ append_assoc new rest (return ∷ feed ∷ []) ∙ whole.joins,
          record { pieces = whole.pieces; cut = whole.cut; joins = refl },
        ),
      )

-- what stood there before stays in front
pub kept_more : (old mid new add : List ℕ) → ((more : List ℕ) × (mid ≡ old ++ more)) → new ≡ mid ++ add → ((more : List ℕ) × (new ≡ old ++ more))
kept_more old mid new add (more, is) then = (more ++ add, then ∙ ap (λ l. l ++ add) is ∙ append_assoc old more add)

-- ---- the piece that is cut off

module _ (limit : ℕ) (text : List ℕ) (count : ℕ) (within : count ≤ limit) (boundary : IsCharBoundary text count)
    (nearest : (i : ℕ) → count < i → i ≤ limit → IsCharBoundary text i → ⊥) where
  pub is_longest : IsLongest limit text (take count text) (drop count text)
  is_longest =
      let long = length-take-le count text boundary.0 in
      record {
        parts = sym (take-append-drop count text);
        within = omega arith;
        character = subst (IsCharBoundary text) (sym long) boundary;
        longest = λ k le here. subst (λ n. k ≤ n) (sym long) (below k le here (cases_lt count k));
      }
    where
      below : (k : ℕ) → k ≤ limit → IsCharBoundary text k → (count < k) ⊎ (k ≤ count) → k ≤ count
      below k le here (inl lt) = absurd (nearest k lt le here)
      below k le here (inr at) = at

  -- it isn't empty, and what is left is shorter
  pub left_shorter : IsUtf8 text → 4 ≤ limit → limit < length text → length (drop count text) < length text
  left_shorter u room long =
      let step = steps text u (omega arith) in
      let some : 0 < count = some_count step (cases_lt 0 count) in
      let left = length-drop count text in
      let fits = boundary.0 in
      omega arith
    where
      some_count : Steps text → (0 < count) ⊎ (count ≤ 0) → 0 < count
      some_count step (inl lt) = lt
      some_count step (inr none) =
          let some = step.some in let few = step.few in absurd (nearest step.count (omega arith) (omega arith) step.boundary)

-- ---- lines

pub one_more_line : (lines : List (List ℕ)) (line bytes more : List ℕ) → AreFolded lines bytes → IsFolded line more
    → AreFolded (lines ++ line ∷ []) (bytes ++ more)
one_more_line [] line bytes more none is = (more, [], is, refl, ap (λ l. l ++ more) none ∙ sym (append-nil more))
one_more_line (l ∷ lines) line bytes more (first, rest, folded, others, parts) is =
    (first, rest ++ more, folded, one_more_line lines line rest more others is, ap (λ b. b ++ more) parts ∙ append_assoc first rest more)
