-- Reading one thing after another, up to some place.
use Rattle.std.proofs.Common.{◌≡◌, ℕ, List, [], ◌∷◌, ◌++◌, refl, sym, ap, ◌∙◌, subst, append_assoc}
use mathlib.Core.List.{append-nil}

-- what was read stands before what is left, whatever that is
pub record IsReadUpTo {X : Type 0} (P : List ℕ → List X → List ℕ → Type 0) (line : List ℕ) (read : List X) (rest : List ℕ) : Type 0 where
  pub whole : (xs : List X) (end : List ℕ) → P rest xs end → P line (read ++ xs) end
  pub left : (xs : List X) (end : List ℕ) → P line xs end → (more : List X) × (xs ≡ read ++ more) × P rest more end

module _ {X : Type 0} (P : List ℕ → List X → List ℕ → Type 0) (line : List ℕ) where
  pub begun : (read : List X) → read ≡ [] → IsReadUpTo P line read line
  begun read e = subst (λ (z : List X). IsReadUpTo P line z line) (sym e) start
    where
      start : IsReadUpTo P line [] line
      start = record { whole = λ xs end h. h; left = λ xs end h. (xs, refl, h) }

  module _ (read : List X) (rest : List ℕ) (h : IsReadUpTo P line read rest) where
    -- one more
    pub read_on : (x : X) (next : List ℕ) → ((xs : List X) (end : List ℕ) → P next xs end → P rest (x ∷ xs) end)
        → ((xs : List X) (end : List ℕ) → P rest xs end → (more : List X) × (xs ≡ x ∷ more) × P next more end)
        → (new : List X) → new ≡ read ++ x ∷ [] → IsReadUpTo P line new next
    read_on x next forth back new e = subst (λ (z : List X). IsReadUpTo P line z next) (sym e) go
      where
        go : IsReadUpTo P line (read ++ x ∷ []) next
        go = record {
          whole = λ xs end p. subst (λ (z : List X). P line z end) (sym (append_assoc read (x ∷ []) xs)) (h.whole (x ∷ xs) end (forth xs end p));
          left = λ xs end p.
              let l = h.left xs end p in
              let m = back l.0 end l.2 in
              (m.0, l.1 ∙ ap (λ (z : List X). read ++ z) m.1 ∙ sym (append_assoc read (x ∷ []) m.0), m.2);
        }

    -- the last one, or none
    pub last_read : (x : X) (end : List ℕ) → P rest (x ∷ []) end → (new : List X) → new ≡ read ++ x ∷ [] → P line new end
    last_read x end p new e = subst (λ (z : List X). P line z end) (sym e) (h.whole (x ∷ []) end p)

    pub all_read : (end : List ℕ) → P rest [] end → P line read end
    all_read end p = subst (λ (z : List X). P line z end) (append-nil read) (h.whole [] end p)

    pub none_read : ((xs : List X) (end : List ℕ) → ¬ (P rest xs end)) → (xs : List X) (end : List ℕ) → ¬ (P line xs end)
    none_read none xs end p = let l = h.left xs end p in none l.0 end l.2
