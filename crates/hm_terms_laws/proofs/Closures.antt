-- The names from which some names are reached by steps, of which each name has a list: a set that is closed under steps.
use Rattle.std.proofs.Common.{◌≡◌, ◌⊎◌, ℕ, zero, suc, ◌+◌, ◌<◌, ◌≤◌, ◌||◌, Bool, true, false, cond, not, List, [], ◌∷◌, refl, sym, ap, ◌∙◌, inl, inr, arith}
use mathlib.Core.Bool.{true≢false}
use Rattle.std.specs.List.{list_any}
use Rattle.std.proofs.lemmas.Bool.{or_cases, or_left, or_right}
use Rattle.hm_tree.specs.Names.{Name}
use Rattle.hm_terms_laws.proofs.CallLists.{IsIn, at_head, in_rest, head_or_rest}

-- ---- how many names pass a test

abbrev pub number : (Name → Bool) → List Name → ℕ
number p [] = 0
number p (k ∷ ks) = cond (p k) 1 0 + number p ks

-- one name, counted by two tests of which the first implies the second
one_le : (a b : Bool) → (a ≡ true → b ≡ true) → cond a 1 0 ≤ cond b 1 0
one_le false false f = omega arith
one_le false true f = omega arith
one_le true false f = absurd (true≢false (sym (f refl)))
one_le true true f = omega arith

pub number_le : (p q : Name → Bool) → ((k : Name) → p k ≡ true → q k ≡ true) → (ks : List Name) → number p ks ≤ number q ks
number_le p q f [] = omega arith
number_le p q f (k ∷ ks) = omega (arith, one_le (p k) (q k) (f k), number_le p q f ks)

pub number_lt : (p q : Name → Bool) → ((k : Name) → p k ≡ true → q k ≡ true) → (k : Name) → p k ≡ false → q k ≡ true → {ks : List Name}
    → IsIn k ks → number p ks < number q ks
number_lt p q f k lacks has (at_head {xs = ks}) =
    let one : cond (p k) 1 0 + 1 ≤ cond (q k) 1 0 = rw (lacks, has) (omega arith) in
    omega (arith, number_le p q f ks)
number_lt p q f k lacks has (in_rest {y = n} r) = omega (arith, one_le (p n) (q n) (f n), number_lt p q f k lacks has r)

-- ---- closing a set

any_in : (p : Name → Bool) (ks : List Name) → list_any p ks ≡ true → (k : Name) × IsIn k ks × (p k ≡ true)
any_in p [] e = absurd (true≢false (sym e))
any_in p (k ∷ ks) e = elim (or_cases (p k) (list_any p ks) e) [
  | inl h ↦ (k, at_head, h)
  | inr h ↦ let r = any_in p ks h in (r.0, in_rest r.1, r.2)
]

in_any : (p : Name → Bool) {k : Name} (ks : List Name) → IsIn k ks → p k ≡ true → list_any p ks ≡ true
in_any p {k = k} [] h e = elim h [ ]
in_any p (k ∷ ks) (at_head) e = or_left (p k) (list_any p ks) e
in_any p (k ∷ ks) (in_rest h) e = or_right (p k) (list_any p ks) (in_any p ks h e)

module _ (names : List Name) (next : Name → List Name) (known : (n m : Name) → IsIn m (next n) → IsIn n names)
    (P : Name → Type 0) (back : (n m : Name) → IsIn m (next n) → P m → P n) where
  -- a set with all names of another one, closed under steps to it, of names that meet P
  pub record Closure (X : Name → Bool) : Type 0 where
    pub set : Name → Bool
    pub more : (n : Name) → X n ≡ true → set n ≡ true
    pub closed : (n m : Name) → IsIn m (next n) → set m ≡ true → set n ≡ true
    pub sound : (n : Name) → set n ≡ true → P n

  grown : (Name → Bool) → Name → Bool
  grown X n = X n || list_any X (next n)

  -- a name from which a step leads into a set that it isn't in
  record Leads (X : Name → Bool) (ks : List Name) : Type 0 where
    name : Name
    is_in : IsIn name ks
    lacks : X name ≡ false
    step : list_any X (next name) ≡ true

  leads_or_not : (X : Name → Bool) (ks : List Name) → ((n : Name) → IsIn n ks → list_any X (next n) ≡ true → X n ≡ true) ⊎ Leads X ks
  leads_or_not X [] = inl (λ n h. elim h [ ])
  leads_or_not X (k ∷ ks) = go (X k) refl (list_any X (next k)) refl (leads_or_not X ks)
    where
      here : (n : Name) → IsIn n (k ∷ ks) → (list_any X (next k) ≡ true → X k ≡ true)
          → ((n : Name) → IsIn n ks → list_any X (next n) ≡ true → X n ≡ true) → list_any X (next n) ≡ true → X n ≡ true
      here n h one rest e = elim (head_or_rest h) [
        | inl s ↦ ap X s ∙ one (sym (ap (λ n. list_any X (next n)) s) ∙ e)
        | inr i ↦ rest n i e
      ]

      later : Leads X ks → Leads X (k ∷ ks)
      later l = record { name = l.name; is_in = in_rest l.is_in; lacks = l.lacks; step = l.step }

      go : (b : Bool) → X k ≡ b → (c : Bool) → list_any X (next k) ≡ c
          → ((n : Name) → IsIn n ks → list_any X (next n) ≡ true → X n ≡ true) ⊎ Leads X ks
          → ((n : Name) → IsIn n (k ∷ ks) → list_any X (next n) ≡ true → X n ≡ true) ⊎ Leads X (k ∷ ks)
      go false e true f rest = inr (record { name = k; is_in = at_head; lacks = e; step = f })
      go false e false f (inl rest) = inl (λ n h s. here n h (λ s. absurd (true≢false (sym s ∙ f))) rest s)
      go true e c f (inl rest) = inl (λ n h s. here n h (λ s. e) rest s)
      go false e false f (inr l) = inr (later l)
      go true e c f (inr l) = inr (later l)

  grown_more : (X : Name → Bool) (n : Name) → X n ≡ true → grown X n ≡ true
  unfolding grown
  grown_more X n e = or_left (X n) (list_any X (next n)) e

  grown_sound : (X : Name → Bool) → ((n : Name) → X n ≡ true → P n) → (n : Name) → grown X n ≡ true → P n
  unfolding grown
  grown_sound X f n e = elim (or_cases (X n) (list_any X (next n)) e) [
    | inl h ↦ f n h
    | inr h ↦ let m = any_in X (next n) h in back n m.0 m.1 (f m.0 m.2)
  ]

  grown_less : (X : Name → Bool) → Leads X names → number (λ n. not (grown X n)) names < number (λ n. not (X n)) names
  unfolding grown
  grown_less X l = number_lt (λ n. not (X n || list_any X (next n))) (λ n. not (X n)) (λ k. fewer (X k) (list_any X (next k))) l.name
      (ap not (or_right (X l.name) (list_any X (next l.name)) l.step)) (ap not l.lacks) l.is_in
    where
      fewer : (a b : Bool) → not (a || b) ≡ true → not a ≡ true
      fewer true b e = e
      fewer false b e = refl

  close : (fuel : ℕ) (X : Name → Bool) → number (λ n. not (X n)) names < fuel → ((n : Name) → X n ≡ true → P n) → Closure X
  close zero X lt f = absurd (omega arith)
  close (suc fuel) X lt f = elim (leads_or_not X names) [
    | inl stable ↦ record {
      set = X;
      more = λ n e. e;
      closed = λ n m h e. stable n (known n m h) (in_any X (next n) h e);
      sound = f;
    }
    | inr l ↦ let less = grown_less X l in
        let c = close fuel (grown X) (omega arith) (grown_sound X f) in
        record { set = c.set; more = λ n e. c.more n (grown_more X n e); closed = c.closed; sound = c.sound }
  ]

  pub closure : (X : Name → Bool) → ((n : Name) → X n ≡ true → P n) → Closure X
  closure X f = close (suc (number (λ n. not (X n)) names)) X (omega arith) f
