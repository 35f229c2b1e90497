-- The first of some values that isn't so.
use Rattle.std.proofs.Common.{◌≡◌, ◌⊎◌, inl, inr, ℕ, ◌+◌, Bool, true, false, true≢false, List, [], ◌∷◌, ◌++◌, length, refl, sym, ap, ◌∙◌, arith, append_assoc, subst}
use Rattle.std.specs.Prelude.{All}
use Rattle.std.proofs.lemmas.List.{length-append}
use Rattle.std.proofs.lemmas.List.Elements.{All-append, All-nil, All-cons}
use Rattle.hm_facts.proofs.Lists.{first_break, no_break}
use Rattle.hm_json_nodes.specs.Numbers.{IsFirstBad}

module _ {X : Type 0} (is_good : X → Bool) where
  abbrev pub AllGood : List X → Type 0
  AllGood xs = All (λ x. is_good x ≡ true) xs

  pub bad_first : (x : X) (xs : List X) → is_good x ≡ false → IsFirstBad is_good (x ∷ xs) 1
  bad_first x xs isnt = record { before = []; bad = x; after = xs; are = refl; good = All-nil (λ x. is_good x ≡ true); isnt = isnt; place = refl }

  -- others may follow
  pub bad_followed : (xs ys : List X) (n : ℕ) → IsFirstBad is_good xs n → IsFirstBad is_good (xs ++ ys) n
  bad_followed xs ys n h =
      record {
        before = h.before;
        bad = h.bad;
        after = h.after ++ ys;
        are = ap (λ l. l ++ ys) h.are ∙ append_assoc h.before (h.bad ∷ h.after) ys;
        good = h.good;
        isnt = h.isnt;
        place = h.place;
      }

  -- and good ones may stand before
  pub bad_behind : (xs ys : List X) (n : ℕ) → AllGood xs → IsFirstBad is_good ys n → IsFirstBad is_good (xs ++ ys) (length xs + n)
  bad_behind xs ys n good h =
      record {
        before = xs ++ h.before;
        bad = h.bad;
        after = h.after;
        are = ap (λ l. xs ++ l) h.are ∙ sym (append_assoc xs h.before (h.bad ∷ h.after));
        good = All-append (λ x. is_good x ≡ true) xs h.before good h.good;
        isnt = h.isnt;
        place = let n = length-append xs h.before in omega (arith, n, h.place);
      }

  -- all are good, or one of them is the first that isn't
  pub first_bad_or_all : (xs : List X) → AllGood xs ⊎ ((n : ℕ) × IsFirstBad is_good xs n)
  first_bad_or_all [] = inl (All-nil (λ x. is_good x ≡ true))
  first_bad_or_all (x ∷ xs) = go (is_good x) refl (first_bad_or_all xs)
    where
      go : (b : Bool) → is_good x ≡ b → AllGood xs ⊎ ((n : ℕ) × IsFirstBad is_good xs n) → AllGood (x ∷ xs) ⊎ ((n : ℕ) × IsFirstBad is_good (x ∷ xs) n)
      go false isnt others = inr (1, bad_first x xs isnt)
      go true is (inl all) = inl (All-cons (λ x. is_good x ≡ true) x xs is all)
      go true is (inr (n, h)) = inr (1 + n, bad_behind (x ∷ []) xs n (All-cons (λ x. is_good x ≡ true) x [] is (All-nil (λ x. is_good x ≡ true))) h)

  pub bad_once : (xs : List X) (m n : ℕ) → IsFirstBad is_good xs m → IsFirstBad is_good xs n → m ≡ n
  bad_once xs m n a b =
      let apart = λ (e : is_good a.bad ≡ true). true≢false (sym e ∙ a.isnt) in
      let apart_too = λ (e : is_good b.bad ≡ true). true≢false (sym e ∙ b.isnt) in
      let same = first_break (λ x. is_good x ≡ true) a.before b.before a.bad b.bad a.after b.after (sym a.are ∙ b.are) a.good apart b.good apart_too in
      a.place ∙ ap (λ n. n + 1) same ∙ sym b.place

  pub none_bad : (xs : List X) (n : ℕ) → AllGood xs → IsFirstBad is_good xs n → ⊥
  none_bad xs n good h = true≢false (sym (no_break (λ x. is_good x ≡ true) h.before h.after h.bad (subst_good h.are good)) ∙ h.isnt)
    where
      subst_good : {ys : List X} → xs ≡ ys → AllGood xs → AllGood ys
      subst_good e g = subst AllGood e g
