-- The longest part with which one of a form's texts goes on: where nothing of it stands, and behind a text.
use Rattle.std.proofs.Common.{◌≡◌, ℕ, zero, suc, ◌+◌, ◌<◌, ◌≤◌, ◌⊎◌, inl, inr, List, [], ◌∷◌, ◌++◌, length, take, drop, refl, sym, ap, subst, ◌∙◌, append_assoc, arith, length-append}
use Rattle.hm_tree_text.specs.Begun.{IsBegun}
use Rattle.hm_tree_text.specs.Reading.{StandsAt, BeginsWith, IsLongestPart, IsFaultAt}
use Rattle.hm_tree_text.proofs.Places.{behind}

pub le_or_more : (a b : ℕ) → (a ≤ b) ⊎ ((k : ℕ) × (a ≡ b + (k + 1)))
le_or_more zero b = inl (omega arith)
le_or_more (suc a) zero = inr (a, omega arith)
le_or_more (suc a) (suc b) = elim (le_or_more a b) [ inl le ↦ inl (omega arith) | inr m ↦ inr (m.0, let e = m.1 in omega arith) ]

pub take_front : (p x : List ℕ) (k j : ℕ) → j ≡ length p + k → take j (p ++ x) ≡ p ++ take k x
take_front [] x k j e = let same : j ≡ k = omega arith in ap (λ i. take i x) same
take_front (b ∷ p) x k zero e = absurd (omega arith)
take_front (b ∷ p) x k (suc j) e = ap (λ l. b ∷ l) (take_front p x k j (omega arith))

-- a text at the front of which nothing of the form can stand
pub nothing_here : (F : List ℕ → Type 0) (Good : ℕ → Type 0) (s : List ℕ) → F s
    → ((y : List ℕ) → BeginsWith F y → (b : ℕ) × (r : List ℕ) × Good b × (y ≡ b ∷ r)) → (x : List ℕ)
    → ((b : ℕ) (r : List ℕ) → x ≡ b ∷ r → Good b → ⊥) → IsLongestPart F x 0
nothing_here F Good s f first x not = record {
  within = omega arith;
  begun = (s, f);
  none = λ h. let t = first x h in not t.0 t.1 t.3 t.2;
  longest = λ m rest le h. by m x rest le h not;
}
  where
    by : (m : ℕ) (x rest : List ℕ) → m ≤ length x → BeginsWith F (take m x ++ rest) → ((b : ℕ) (r : List ℕ) → x ≡ b ∷ r → Good b → ⊥) → m ≤ 0
    by zero x rest le h not = omega arith
    by (suc m) [] rest le h not = absurd (omega arith)
    by (suc m) (c ∷ x) rest le h not =
        let t = first _ h in
        let same : t.0 ≡ c = let e = t.3 in cc in
        absurd (not t.0 x (ap (λ b. b ∷ x) (sym same)) t.2)

-- bytes that don't begin with this one, and so don't however far they are taken
abbrev pub IsNot : ℕ → List ℕ → Type 0
IsNot b x = (r : List ℕ) → x ≡ b ∷ r → ⊥

pub is_not_part : (b : ℕ) (x : List ℕ) (n : ℕ) → IsNot b x → (k : ℕ) (rest : List ℕ) → n < k → k ≤ length x → IsNot b (take k x ++ rest)
is_not_part b x n h zero rest lt le = absurd (omega arith)
is_not_part b [] n h (suc k) rest lt le = absurd (omega arith)
is_not_part b (c ∷ x) n h (suc k) rest lt le = λ r e. let same : c ≡ b = cc in h x (ap (λ d. d ∷ x) same)

-- behind a text p the form F is what a text of the form G goes on with
module _ (F G : List ℕ → Type 0) (Ok : List ℕ → Type 0) (p : List ℕ) (into : (y : List ℕ) → F y → IsBegun G (p ++ y))
    (back : (y : List ℕ) → Ok y → BeginsWith G (p ++ y) → BeginsWith F y) where
  pub longest_behind : (x : List ℕ) (n : ℕ) → Ok x → ((k : ℕ) (rest : List ℕ) → n < k → k ≤ length x → Ok (take k x ++ rest))
      → IsLongestPart F x n → IsLongestPart G (p ++ x) (length p + n)
  longest_behind x n ok oks h = record {
    within = let w = h.within in let l = length-append p x in omega arith;
    begun =
        let b = h.begun in
        let c = into (take n x ++ b.0) b.1 in (
          b.0 ++ c.0,
          subst G (ap (λ l. l ++ c.0) (sym (append_assoc p (take n x) b.0)) ∙ append_assoc (p ++ take n x) b.0 c.0
              ∙ ap (λ l. l ++ (b.0 ++ c.0)) (sym (take_front p x n _ refl))) c.1,
        );
    none = λ g. h.none (back x ok g);
    longest = λ m rest le g. by m rest le g (le_or_more m (length p + n));
  }
    where
      by : (m : ℕ) (rest : List ℕ) → m ≤ length (p ++ x) → BeginsWith G (take m (p ++ x) ++ rest)
          → (m ≤ length p + n) ⊎ ((k : ℕ) × (m ≡ length p + n + (k + 1))) → m ≤ length p + n
      by m rest le g (inl l) = l
      by m rest le g (inr (k, e)) =
          let j : ℕ = n + (k + 1) in
          let l = length-append p x in
          let within : j ≤ length x = omega arith in
          let more : n < j = omega arith in
          let there = subst (λ l. BeginsWith G l) (ap (λ l. l ++ rest) (take_front p x j m (omega arith)) ∙ append_assoc p (take j x) rest) g in
          let no : j ≤ n = h.longest j rest within (back (take j x ++ rest) (oks j rest more within) there) in
          absurd (omega arith)

  pub fault_behind : (bytes : List ℕ) (start middle at : ℕ) → start ≤ length bytes → StandsAt bytes start p middle → Ok (drop middle bytes)
      → ((n k : ℕ) (rest : List ℕ) → n < k → k ≤ length (drop middle bytes) → Ok (take k (drop middle bytes) ++ rest))
      → IsFaultAt F bytes middle at → IsFaultAt G bytes start at
  fault_behind bytes start middle at le stands ok oks h = record {
    passed = length p + h.passed;
    place = let e = behind bytes p start middle le stands in let f = h.place in omega arith;
    longest = subst (λ l. IsLongestPart G l (length p + h.passed)) (sym stands.spelled)
        (longest_behind (drop middle bytes) h.passed ok (oks h.passed) h.longest);
  }

-- a part behind a text that stands there is a part of both
pub begins_behind : (D E : List ℕ → Type 0) (p x : List ℕ) → ((s : List ℕ) → D s → E (p ++ s)) → BeginsWith D x → BeginsWith E (p ++ x)
begins_behind D E p x into h = record {
  part = p ++ h.part;
  rest = h.rest;
  is_form = into h.part h.is_form;
  is = ap (λ l. p ++ l) h.is ∙ sym (append_assoc p h.part h.rest);
}
