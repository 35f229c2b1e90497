-- Bytes in front of the first piece.
use Rattle.std.proofs.Common.{◌≡◌, ℕ, Bool, true, false, cond, List, [], ◌∷◌, ◌++◌, refl, sym, ap, ◌∙◌}
use Rattle.std.specs.Bool.{◌==◌}
use Rattle.std.specs.List.{list_any}
use Rattle.std.proofs.lemmas.Bool.{or_parts}
use Rattle.std.proofs.lemmas.List.{append_assoc, append-nil}
use Rattle.hm_csv_fields.specs.Pieces.{stroke, backslash, is_special, led, pieces_behind}

pub led_led : (xs ys : List ℕ) (ps : List (List ℕ)) → led xs (led ys ps) ≡ led (xs ++ ys) ps
led_led xs ys [] = refl
led_led xs ys (p ∷ ps) = ap (λ (q : List ℕ). q ∷ ps) (sym (append_assoc xs ys p))

-- there is a first piece
led_some : (bytes : List ℕ) (ps : List (List ℕ)) → led [] (led bytes ps) ≡ led bytes ps
led_some bytes ps = led_led [] bytes ps

module _ (b : ℕ) (rest : List ℕ) where
  plain : (s k : Bool) → led [] (pieces_behind true rest) ≡ pieces_behind true rest
      → led [] (cond s ([] ∷ pieces_behind false rest) (cond k (pieces_behind true rest) (led (b ∷ []) (pieces_behind false rest))))
      ≡ cond s ([] ∷ pieces_behind false rest) (cond k (pieces_behind true rest) (led (b ∷ []) (pieces_behind false rest)))
  plain true k more = refl
  plain false true more = more
  plain false false more = led_some (b ∷ []) (pieces_behind false rest)

  escaped : (s : Bool) → led [] (cond s (led (b ∷ []) (pieces_behind false rest)) (led (backslash ∷ b ∷ []) (pieces_behind false rest)))
      ≡ cond s (led (b ∷ []) (pieces_behind false rest)) (led (backslash ∷ b ∷ []) (pieces_behind false rest))
  escaped true = led_some (b ∷ []) (pieces_behind false rest)
  escaped false = led_some (backslash ∷ b ∷ []) (pieces_behind false rest)

pub led_nothing : (behind : Bool) (bytes : List ℕ) → led [] (pieces_behind behind bytes) ≡ pieces_behind behind bytes
led_nothing false [] = refl
led_nothing true [] = refl
led_nothing false (b ∷ rest) = plain b rest (b == stroke) (b == backslash) (led_nothing true rest)
led_nothing true (b ∷ rest) = escaped b rest (is_special b)

-- bytes of which none has a meaning of its own are one piece
pub one_piece : (bytes : List ℕ) → list_any is_special bytes ≡ false → pieces_behind false bytes ≡ bytes ∷ []
one_piece [] e = refl
one_piece (b ∷ rest) e =
    let plain = or_parts (is_special b) (list_any is_special rest) e in
    let apart = or_parts (b == stroke) (b == backslash) plain.0 in
    rw (apart.0, apart.1) (ap (led (b ∷ [])) (one_piece rest plain.1))

-- ---- one byte more, behind whole pieces and what was read of one

module _ (whole : List (List ℕ)) (piece rest : List ℕ) where
  grown : (bytes : List ℕ) (ps : List (List ℕ)) → whole ++ led (piece ++ bytes) ps ≡ whole ++ led piece (led bytes ps)
  grown bytes ps = ap (λ l. whole ++ l) (sym (led_led piece bytes ps))

  ended : (whole ++ piece ∷ []) ++ led [] (pieces_behind false rest) ≡ whole ++ led piece (pieces_behind false (stroke ∷ rest))
  ended =
      append_assoc whole (piece ∷ []) (led [] (pieces_behind false rest))
      ∙ ap (λ l. whole ++ piece ∷ l) (led_nothing false rest)
      ∙ ap (λ (p : List ℕ). whole ++ p ∷ pieces_behind false rest) (sym (append-nil piece))

  -- the piece that was read is whole
  pub ends : (behind : Bool) (new : List (List ℕ)) (left : List ℕ) → behind ≡ false → new ≡ whole ++ piece ∷ [] → left ≡ []
      → new ++ led left (pieces_behind behind rest) ≡ whole ++ led piece (pieces_behind behind (stroke ∷ rest))
  ends behind new left off is none =
      (λ i. is i ++ led (none i) (pieces_behind (off i) rest)) ∙ ended
      ∙ ap (λ o. whole ++ led piece (pieces_behind o (stroke ∷ rest))) (sym off)

  module _ (b : ℕ) where
    pub behind_special : (behind : Bool) (new : List ℕ) → behind ≡ true → new ≡ piece ++ b ∷ [] → is_special b ≡ true
        → whole ++ led new (pieces_behind false rest) ≡ whole ++ led piece (pieces_behind behind (b ∷ rest))
    behind_special behind new on is e =
        ap (λ l. whole ++ led l (pieces_behind false rest)) is
        ∙ grown (b ∷ []) (pieces_behind false rest)
        ∙ ap (λ s. whole ++ led piece (cond s (led (b ∷ []) (pieces_behind false rest)) (led (backslash ∷ b ∷ []) (pieces_behind false rest)))) (sym e)
        ∙ ap (λ o. whole ++ led piece (pieces_behind o (b ∷ rest))) (sym on)

    pub behind_other : (behind : Bool) (mid new : List ℕ) → behind ≡ true → mid ≡ piece ++ backslash ∷ [] → new ≡ mid ++ b ∷ [] → is_special b ≡ false
        → whole ++ led new (pieces_behind false rest) ≡ whole ++ led piece (pieces_behind behind (b ∷ rest))
    behind_other behind mid new on first is e =
        ap (λ l. whole ++ led l (pieces_behind false rest)) (is ∙ ap (λ l. l ++ b ∷ []) first ∙ append_assoc piece (backslash ∷ []) (b ∷ []))
        ∙ grown (backslash ∷ b ∷ []) (pieces_behind false rest)
        ∙ ap (λ s. whole ++ led piece (cond s (led (b ∷ []) (pieces_behind false rest)) (led (backslash ∷ b ∷ []) (pieces_behind false rest)))) (sym e)
        ∙ ap (λ o. whole ++ led piece (pieces_behind o (b ∷ rest))) (sym on)

    pub plain_byte : (behind : Bool) (new : List ℕ) → behind ≡ false → new ≡ piece ++ b ∷ [] → (b == stroke) ≡ false → (b == backslash) ≡ false
        → whole ++ led new (pieces_behind behind rest) ≡ whole ++ led piece (pieces_behind behind (b ∷ rest))
    plain_byte behind new off is s k =
        (λ i. whole ++ led (is i) (pieces_behind (off i) rest))
        ∙ grown (b ∷ []) (pieces_behind false rest)
        ∙ ap (λ x. whole ++ led piece (cond x ([] ∷ pieces_behind false rest) (led (b ∷ []) (pieces_behind false rest)))) (sym s)
        ∙ ap (λ y. whole ++ led piece (cond (b == stroke) ([] ∷ pieces_behind false rest)
        (cond y (pieces_behind true rest) (led (b ∷ []) (pieces_behind false rest))))) (sym k)
        ∙ ap (λ o. whole ++ led piece (pieces_behind o (b ∷ rest))) (sym off)
