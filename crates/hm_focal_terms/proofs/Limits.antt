-- Counting what stands outside names, byte by byte.
use Rattle.std.proofs.Common.{◌≡◌, ◌↔◌, ◌⊎◌, inl, inr, ℕ, zero, suc, ◌+◌, ◌<◌, ◌≤◌, Bool, true, false, cond, ◌&&◌, List, [], ◌∷◌, length, take, drop, get_or, refl, sym, ap, subst, arith, add-one}
use Rattle.std.proofs.Math.Seq.{drop-cons}
use Rattle.std.specs.List.{count_by}
use Rattle.std.specs.Int.{from_bool}
use Rattle.std.proofs.lemmas.List.Sums.{sum_by-append}
use Rattle.hm_focal_terms.specs.declared.limit.Place.{Place}
use Rattle.hm_focal_terms.specs.declared.limit.Place.TheVariants.{Outside, Inside, Escaped}
use Rattle.hm_focal_terms.specs.Limits.{behind_byte, is_outside, outside, is_opening, is_closing, is_semicolon, IsOversized}

-- behind bytes that opened, closed and ended so many, what is left passes a limit
pub record NestsOn (p : Place) (o c : ℕ) (rest : List ℕ) : Type 0 where
  pub size : ℕ
  pub more : c + count_by is_closing (take size (outside p rest)) + 200 < o + count_by is_opening (take size (outside p rest))

abbrev pub GoesOver : Place → ℕ → ℕ → ℕ → List ℕ → Type 0
GoesOver p o c s rest = NestsOn p o c rest ⊎ (1999 < s + count_by is_semicolon (outside p rest))

abbrev pub one_if : Bool → ℕ
one_if b = cond b 1 0

count_cons : (f : ℕ → Bool) (b : ℕ) (xs : List ℕ) → count_by f (b ∷ xs) ≡ one_if (f b) + count_by f xs
count_cons f b xs = let e = sum_by-append (λ x. cond (f x) 1 0) (b ∷ []) xs in omega arith

pub as_bit : (b : Bool) → from_bool b ≡ one_if b
as_bit true = refl
as_bit false = refl

module _ (b : ℕ) (rest : List ℕ) (o c s : ℕ) where
  module _ (xs : List ℕ) where
    closed_one : (n : ℕ) → count_by is_closing (take (suc n) (b ∷ xs)) ≡ one_if (is_closing b) + count_by is_closing (take n xs)
    closed_one n = count_cons is_closing b (take n xs)

    opened_one : (n : ℕ) → count_by is_opening (take (suc n) (b ∷ xs)) ≡ one_if (is_opening b) + count_by is_opening (take n xs)
    opened_one n = count_cons is_opening b (take n xs)

  -- past a byte that is counted, and past one that isn't
  pub over_next : (p : Place) → (c + 200 < o → ⊥) → GoesOver p o c s (b ∷ rest)
      → GoesOver (behind_byte p b) (o + one_if (is_outside p && is_opening b)) (c + one_if (is_outside p && is_closing b))
      (s + one_if (is_outside p && is_semicolon b)) rest
  over_next Outside calm (inl h) = inl (nests h.size h.more)
    where
      xs : List ℕ
      xs = outside (behind_byte Outside b) rest

      nests : (n : ℕ) → c + count_by is_closing (take n (b ∷ outside (behind_byte Outside b) rest)) + 200
          < o + count_by is_opening (take n (b ∷ outside (behind_byte Outside b) rest))
          → NestsOn (behind_byte Outside b) (o + one_if (is_opening b)) (c + one_if (is_closing b)) rest
      nests zero m = absurd (calm (omega arith))
      nests (suc n) m = record {
        size = n;
        more = let d = closed_one (outside (behind_byte Outside b) rest) n in let e = opened_one (outside (behind_byte Outside b) rest) n in omega arith;
      }
  over_next Outside calm (inr h) = inr (let e = count_cons is_semicolon b (outside (behind_byte Outside b) rest) in omega arith)
  over_next Inside calm (inl h) = inl (record { size = h.size; more = let m = h.more in omega arith })
  over_next Inside calm (inr h) = inr (omega arith)
  over_next Escaped calm (inl h) = inl (record { size = h.size; more = let m = h.more in omega arith })
  over_next Escaped calm (inr h) = inr (omega arith)

  pub over_back : (p : Place) → GoesOver (behind_byte p b) (o + one_if (is_outside p && is_opening b)) (c + one_if (is_outside p && is_closing b))
      (s + one_if (is_outside p && is_semicolon b)) rest → GoesOver p o c s (b ∷ rest)
  over_back Outside (inl h) = inl (record {
    size = suc h.size;
    more =
        let d = closed_one (outside (behind_byte Outside b) rest) h.size in
        let e = opened_one (outside (behind_byte Outside b) rest) h.size in
        let m = h.more in
        omega arith;
  })
  over_back Outside (inr h) = inr (let e = count_cons is_semicolon b (outside (behind_byte Outside b) rest) in omega arith)
  over_back Inside (inl h) = inl (record { size = h.size; more = let m = h.more in omega arith })
  over_back Inside (inr h) = inr (omega arith)
  over_back Escaped (inl h) = inl (record { size = h.size; more = let m = h.more in omega arith })
  over_back Escaped (inr h) = inr (omega arith)

-- what was counted in the first bytes
pub record AreCounted (text : List ℕ) (i : ℕ) (p : Place) (o c s : ℕ) : Type 0 where
  pub to : IsOversized text → GoesOver p o c s (drop i text)
  pub from : GoesOver p o c s (drop i text) → IsOversized text
  pub calm : c + 200 < o → ⊥
  pub opened : o ≤ i
  pub closed : c ≤ i
  pub ended : s ≤ i

pub none_counted : (text : List ℕ) → AreCounted text 0 Outside 0 0 0
none_counted text = record { to = to; from = from; calm = λ h. omega arith; opened = omega arith; closed = omega arith; ended = omega arith }
  where
    to : IsOversized text → GoesOver Outside 0 0 0 text
    to (inl h) = inl (record { size = h.length; more = let m = h.more in omega arith })
    to (inr h) = inr (omega arith)

    from : GoesOver Outside 0 0 0 text → IsOversized text
    from (inl h) = inl (record { length = h.size; more = let m = h.more in omega arith })
    from (inr h) = inr (omega arith)

one_small : (b : Bool) → one_if b ≤ 1
one_small true = omega arith
one_small false = omega arith

module _ (text : List ℕ) (i : ℕ) (p : Place) (o c s : ℕ) (h : AreCounted text i p o c s) (below : i < length text) where
  left : drop i text ≡ get_or text i 0 ∷ drop (suc i) text
  left = drop-cons text i 0 below

  module _ (oo cc ss : ℕ) (eo : oo ≡ o + one_if (is_outside p && is_opening (get_or text i 0)))
      (ec : cc ≡ c + one_if (is_outside p && is_closing (get_or text i 0)))
      (es : ss ≡ s + one_if (is_outside p && is_semicolon (get_or text i 0))) where
    -- too many are open
    pub too_many : cc + 200 < oo → IsOversized text
    too_many more = h.from (subst (GoesOver p o c s) (sym left) (over_back (get_or text i 0) (drop (suc i) text) o c s p
        (inl (record { size = 0; more = omega arith }))))

    pub counted_more : (cc + 200 < oo → ⊥) → AreCounted text (i + 1) (behind_byte p (get_or text i 0)) oo cc ss
    counted_more calm = rw add-one (record {
      to = λ over. rw (eo, ec, es) (over_next (get_or text i 0) (drop (suc i) text) o c s p h.calm (subst (GoesOver p o c s) left (h.to over)));
      from = λ over. h.from (subst (GoesOver p o c s) (sym left) (over_back (get_or text i 0) (drop (suc i) text) o c s p (rw (eo, ec, es) at over)));
      calm = calm;
      opened = let a = one_small (is_outside p && is_opening (get_or text i 0)) in let q = h.opened in omega arith;
      closed = let a = one_small (is_outside p && is_closing (get_or text i 0)) in let q = h.closed in omega arith;
      ended = let a = one_small (is_outside p && is_semicolon (get_or text i 0)) in let q = h.ended in omega arith;
    })

-- nothing is left behind the end
pub nothing_left : {A : Type 0} (n : ℕ) (xs : List A) → length xs ≤ n → drop n xs ≡ []
nothing_left zero [] l = refl
nothing_left zero (x ∷ xs) l = absurd (omega arith)
nothing_left (suc n) [] l = refl
nothing_left (suc n) (x ∷ xs) l = nothing_left n xs (omega arith)

take_nothing : (n : ℕ) → ◌≡◌ {A = List ℕ} (take n []) []
take_nothing zero = refl
take_nothing (suc n) = refl

-- at the end the semicolons decide
pub all_counted : (text : List ℕ) (i : ℕ) (p : Place) (o c s : ℕ) → AreCounted text i p o c s → length text ≤ i → (b : Bool)
    → ((b ≡ true) ↔ (1999 < s)) → (b ≡ true) ↔ IsOversized text
all_counted text i p o c s h end b is = (
  λ yes. h.from (subst (GoesOver p o c s) (sym (nothing_left i text end)) (inr (let m = is.0 yes in omega arith))),
  λ over. is.1 (long (subst (GoesOver p o c s) (nothing_left i text end) (h.to over))),
)
  where
    long : GoesOver p o c s [] → 1999 < s
    long (inl n) = absurd (h.calm (let m = n.more in
        let d = ap (count_by is_closing) (take_nothing n.size) in let e = ap (count_by is_opening) (take_nothing n.size) in omega arith))
    long (inr n) = omega arith
