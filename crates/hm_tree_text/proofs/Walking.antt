-- A walk along a name's spelling, beside the last name.
use Rattle.std.proofs.Common.{◌≡◌, ℕ, zero, suc, ◌+◌, ◌-◌, ◌<◌, ◌≤◌, ◌⊎◌, inl, inr, max, Bool, true, false, cond, ◌==◌, List, [], ◌∷◌, ◌++◌, length, take, drop, Option, Some, None, refl, sym, ap, subst, ◌∙◌, append_assoc, arith, eq-eqb, length-append, length-drop}
use Rattle.std.proofs.lemmas.List.{append-nil, drop-drop, drop_at, take_rest}
use Rattle.std.proofs.lemmas.Bool.{eqb-true, or_cases, cases_lt}
use Rattle.std.specs.Prelude.{MatchOption}
use Rattle.std.specs.Ordering.{nat_cmp, ordering_then, ord_max, is_lt}
use Rattle.std.specs.Cmp.{nat_cmp_is}
use Rattle.std.specs.declared.cmp.Ordering.TheVariants.{Less, Equal, Greater}
use Rattle.hm_tree.specs.Names.{Name, name_cmp}
use Rattle.hm_tree_spelling.specs.Spelling.{is_plain, escaped, spelled, spelled_byte}
use Rattle.hm_tree_spelling.specs.SpellingLaws.{Kind, plain, backslashed, control, kind, spelled_byte_one, spelled_byte_quote, spelled-append}
use Rattle.hm_tree_text.specs.declared.character.Character.{Character}
use Rattle.hm_tree_text.specs.Begun.{IsBegun}
use Rattle.hm_tree_text.specs.Characters.{Completes, IsOpen, complete}
use Rattle.hm_tree_text.specs.Reading.{StandsAt, IsAfter, IsName, BeginsWith, IsLongestPart}
use Rattle.hm_tree_text.specs.NameRest.{IsByteAt, IsNameRest, IsLeast, left_behind, IsNext, shared, IsMostShared, IsStep, IsLeftOf}
use Rattle.hm_tree_text.proofs.Behind.{longer, longer_greater, longer_text, a_text}
use Rattle.hm_tree_text.proofs.Parts.{le_or_more, longest_behind, nothing_here, IsNot}
use Rattle.hm_tree_text.proofs.Sharing.{shared_le, shared_part, shared_taken}
use Rattle.hm_tree_text.proofs.Utf8.{continues_more, utf8_nothing, next_byte_below}

-- ---- what is left of the last name

abbrev pub left_of : Option Name → List ℕ
left_of None = []
left_of (Some name) = name

-- what must be exceeded behind a byte: nothing where the byte is greater
abbrev pub tie_behind : Option Name → ℕ → Option Name
tie_behind None b = None
tie_behind (Some []) b = None
tie_behind (Some (a ∷ w)) b = cond (a == b) (Some w) None

left_tie : (tie : Option Name) (b : ℕ) → left_behind (left_of tie) b ≡ left_of (tie_behind tie b)
left_tie None b = refl
left_tie (Some []) b = refl
left_tie (Some (a ∷ w)) b = by (a == b)
  where
    by : (t : Bool) → cond t w [] ≡ left_of (cond t (Some w) None)
    by true = refl
    by false = refl

tie_was : (tie : Option Name) (b : ℕ) (w : Name) → tie_behind tie b ≡ Some w → tie ≡ Some (b ∷ w)
tie_was None b w e = let no : ⊥ = cc in absurd no
tie_was (Some []) b w e = let no : ⊥ = cc in absurd no
tie_was (Some (a ∷ v)) b w e = by (a == b) refl e
  where
    by : (t : Bool) → (a == b) ≡ t → cond t (Some v) None ≡ Some w → Some (a ∷ v) ≡ Some (b ∷ w)
    by true t e = let same : v ≡ w = cc in λ i. Some (eqb-true a b t i ∷ same i)
    by false t e = let no : ⊥ = cc in absurd no

first_cmp : (a b : ℕ) (w n : Name) → name_cmp (a ∷ w) (b ∷ n) ≡ ordering_then (nat_cmp a b) (name_cmp w n)
unfolding name_cmp
first_cmp a b w n = refl

equal_cmp : (a b : ℕ) (w n : Name) → a ≡ b → name_cmp (a ∷ w) (b ∷ n) ≡ name_cmp w n
equal_cmp a b w n e = first_cmp a b w n ∙ ap (λ o. ordering_then o (name_cmp w n)) (sym (nat_cmp_is a b Equal e))

less_cmp : (a b : ℕ) (w n : Name) → a < b → name_cmp (a ∷ w) (b ∷ n) ≡ Less
less_cmp a b w n l = first_cmp a b w n ∙ ap (λ o. ordering_then o (name_cmp w n)) (sym (nat_cmp_is a b Less l))

greater_cmp : (a b : ℕ) (w n : Name) → b < a → name_cmp (a ∷ w) (b ∷ n) ≡ Greater
greater_cmp a b w n l = first_cmp a b w n ∙ ap (λ o. ordering_then o (name_cmp w n)) (sym (nat_cmp_is a b Greater l))

nothing_cmp : (b : ℕ) (n : Name) → name_cmp [] (b ∷ n) ≡ Less
unfolding name_cmp
nothing_cmp b n = refl

not_equal : (a b : ℕ) → (a == b) ≡ false → a ≡ b → ⊥
not_equal a b t e = let u = eq-eqb a b e in cc

after_to : (tie : Option Name) (b : ℕ) (n : Name) → IsLeast (left_of tie) b → IsAfter tie (b ∷ n) → IsAfter (tie_behind tie b) n
after_to None b n l h = tt
after_to (Some []) b n l h = tt
after_to (Some (a ∷ w)) b n l h = by (a == b) refl
  where
    by : (t : Bool) → (a == b) ≡ t → IsAfter (cond t (Some w) None) n
    by true t = sym (equal_cmp a b w n (eqb-true a b t)) ∙ h
    by false t = tt

after_from : (tie : Option Name) (b : ℕ) (n : Name) → IsLeast (left_of tie) b → IsAfter (tie_behind tie b) n → IsAfter tie (b ∷ n)
after_from None b n l h = tt
after_from (Some []) b n l h = nothing_cmp b n
after_from (Some (a ∷ w)) b n l h = by (a == b) refl h
  where
    by : (t : Bool) → (a == b) ≡ t → IsAfter (cond t (Some w) None) n → name_cmp (a ∷ w) (b ∷ n) ≡ Less
    by true t h = equal_cmp a b w n (eqb-true a b t) ∙ h
    by false t h = less_cmp a b w n (let d = not_equal a b t in omega arith)

-- a byte of a name that comes behind isn't less
after_least : (tie : Option Name) (b : ℕ) (n : Name) → IsAfter tie (b ∷ n) → IsLeast (left_of tie) b
after_least None b n h = tt
after_least (Some []) b n h = tt
after_least (Some (a ∷ w)) b n h =
    elim (le_or_more a b) [
      | inl l ↦ l
      | inr m ↦ absurd (let g = greater_cmp a b w n (let e = m.1 in omega arith) in
          let no : Greater ≡ Less = sym g ∙ h in cc)
    ]

-- ---- names that go on so

module _ (c : Character) (tie : Option Name) (ties : (w : Name) → tie ≡ Some w → Completes c w) where
  longer_completes : (w : Name) → Completes c w → Completes c (longer w)
  longer_completes w h = continues_more c.missing c.low c.high w (97 ∷ []) h a_text

  -- there is one
  some_name : IsOpen c → (s : List ℕ) × IsNameRest c tie s
  some_name o = by tie ties
    where
      by : (tie : Option Name) → ((w : Name) → tie ≡ Some w → Completes c w) → (s : List ℕ) × IsNameRest c tie s
      by None t = (_, record { name = o.completion; completes = o.completes; after = tt; is = refl })
      by (Some w) t = (_, record { name = longer w; completes = longer_completes w (t w refl); after = longer_greater w; is = refl })

  -- and one behind each next byte
  next_name : (b : ℕ) → IsNext c (left_of tie) b → (n : Name) × Completes c (b ∷ n) × IsAfter tie (b ∷ n)
  next_name b h = by tie ties h.least
    where
      by : (tie : Option Name) → ((w : Name) → tie ≡ Some w → Completes c w) → IsLeast (left_of tie) b
          → (n : Name) × Completes c (b ∷ n) × IsAfter tie (b ∷ n)
      by None t l = (h.completion, h.completes, tt)
      by (Some []) t l = (h.completion, h.completes, nothing_cmp b h.completion)
      by (Some (a ∷ w)) t l = elim (le_or_more b a) [
        | inl le ↦
            let same : a ≡ b = omega arith in (
              longer w,
              subst (λ d. Completes c (d ∷ longer w)) same (longer_completes (a ∷ w) (t (a ∷ w) refl)),
              subst (λ d. name_cmp (a ∷ w) (d ∷ longer w) ≡ Less) same (longer_greater (a ∷ w)),
            )
        | inr m ↦ (h.completion, h.completes, less_cmp a b w h.completion (let e = m.1 in omega arith))
      ]

-- ---- where no next byte stands

module _ (c : Character) (tie : Option Name) (ties : (w : Name) → tie ≡ Some w → Completes c w) (opened : IsOpen c) (x : List ℕ)
    (none : ¬ (BeginsWith (IsNameRest c tie) x)) (no_next : (b : ℕ) (rest : List ℕ) → IsNext c (left_of tie) b → x ≡ spelled_byte b ++ rest → ⊥)
    (n : ℕ) (most : IsMostShared c (left_of tie) x n) where
  goes_on : IsBegun (IsNameRest c tie) (take n x)
  goes_on = by n refl
    where
      by : (k : ℕ) → n ≡ k → IsBegun (IsNameRest c tie) (take n x)
      by zero e = let some = some_name c tie ties opened in (some.0, subst (λ k. IsNameRest c tie (take k x ++ some.0)) (sym e) some.1)
      by (suc k) e =
          let one = most.one (λ z. omega arith) in
          let name = next_name c tie ties one.0 one.1 in
          let part = shared_part x (spelled_byte one.0) in
          let front : spelled_byte one.0 ≡ take n x ++ part.0 = part.1 ∙ ap (λ k. take k x ++ part.0) (sym one.2) in (
            part.0 ++ (escaped name.0 ++ 34 ∷ []),
            record {
              name = one.0 ∷ name.0;
              completes = name.1;
              after = name.2;
              is = sym (append_assoc (take n x) part.0 (escaped name.0 ++ 34 ∷ [])) ∙ ap (λ l. l ++ (escaped name.0 ++ 34 ∷ [])) (sym front)
                  ∙ sym (append_assoc (spelled_byte one.0) (escaped name.0) (34 ∷ []));
            },
          )

  at_most : (m : ℕ) (rest : List ℕ) → m ≤ length x → BeginsWith (IsNameRest c tie) (take m x ++ rest) → m ≤ n
  at_most m rest le h = by h.is_form.name h.is_form.completes h.is_form.after (h.is ∙ ap (λ l. l ++ h.rest) h.is_form.is)
    where
      quote : (m : ℕ) (y : List ℕ) → m ≤ length y → take m y ++ rest ≡ 34 ∷ h.rest → (m ≡ 0) ⊎ ((r : List ℕ) × (y ≡ 34 ∷ r))
      quote zero y le e = inl refl
      quote (suc m) [] le e = absurd (omega arith)
      quote (suc m) (d ∷ y) le e = inr (y, let same : d ≡ 34 = cc in ap (λ d. d ∷ y) same)

      by : (name : Name) → Completes c name → IsAfter tie name → take m x ++ rest ≡ (escaped name ++ 34 ∷ []) ++ h.rest → m ≤ n
      by [] completes after e = elim (quote m x le e) [
        | inl z ↦ omega arith
        | inr r ↦ absurd (none (record {
          part = 34 ∷ [];
          rest = r.0;
          is_form = record { name = []; completes = completes; after = after; is = refl };
          is = r.1;
        }))
      ]
      by (b ∷ name) completes after e =
          let next : IsNext c (left_of tie) b = record { completion = name; completes = completes; least = after_least tie b name after } in
          elim (shared_taken m x (spelled_byte b) rest _ le (e ∙ append_assoc (spelled_byte b ++ escaped name) (34 ∷ []) h.rest
          ∙ append_assoc (spelled_byte b) (escaped name) (34 ∷ h.rest))) [
            | inl l ↦ (let each = most.each b next in omega arith)
            | inr r ↦ absurd (no_next b r.0 next r.1)
          ]

  within : n ≤ length x
  within = by n refl
    where
      by : (k : ℕ) → n ≡ k → n ≤ length x
      by zero e = omega arith
      by (suc k) e = let one = most.one (λ z. omega arith) in let l = shared_le x (spelled_byte one.0) in let is = one.2 in omega arith

  pub fault_here : IsLongestPart (IsNameRest c tie) x n
  fault_here = record { within = within; begun = goes_on; none = none; longest = at_most }

-- ---- the walk

pub record Walked (last : Option Name) (bytes : List ℕ) (at : ℕ) (c : Character) (left : List ℕ) : Type 0 where
  pub tie : Option Name
  pub left_is : left ≡ left_of tie
  pub ties : (w : Name) → tie ≡ Some w → Completes c w
  pub none : ¬ (BeginsWith (IsNameRest c tie) (drop at bytes))
  pub longest : (k : ℕ) → IsLongestPart (IsNameRest c tie) (drop at bytes) k → IsLongestPart (IsNameRest complete last) bytes (at + k)

-- for each last name of which this is left
pub record WalkedAll (start bytes : List ℕ) (at : ℕ) (c : Character) (left : List ℕ) : Type 0 where
  pub opened : IsOpen c
  pub within : at ≤ length bytes
  pub each : (last : Option Name) → IsLeftOf last start → ¬ (BeginsWith (IsNameRest complete last) bytes) → Walked last bytes at c left

module _ (bytes : List ℕ) (at : ℕ) (le : at ≤ length bytes) (c : Character) (left : List ℕ) (b n : ℕ) (next : Character)
    (s : IsStep c left (drop at bytes) b n next) where
  rest_is : drop (at + n) bytes ≡ s.rest
  rest_is = sym (drop-drop n at bytes) ∙ ap (drop n) s.is ∙ drop_at (spelled_byte b) s.rest n (sym s.size)

  module _ (tie : Option Name) (l : IsLeast (left_of tie) b) where
    into : (y : List ℕ) → IsNameRest next (tie_behind tie b) y → IsBegun (IsNameRest c tie) (spelled_byte b ++ y)
    into y h = (
      [],
      record {
        name = b ∷ h.name;
        completes = (s.goes_on h.name).1 h.completes;
        after = after_from tie b h.name l h.after;
        is = append-nil (spelled_byte b ++ y) ∙ ap (λ l. spelled_byte b ++ l) h.is ∙ sym (append_assoc (spelled_byte b) (escaped h.name) (34 ∷ []));
      },
    )

    back : (y : List ℕ) → BeginsWith (IsNameRest c tie) (spelled_byte b ++ y) → BeginsWith (IsNameRest next (tie_behind tie b)) y
    back y h = by h.is_form.name h.is_form.completes h.is_form.after (h.is ∙ ap (λ l. l ++ h.rest) h.is_form.is)
      where
        by : (name : Name) → Completes c name → IsAfter tie name → spelled_byte b ++ y ≡ (escaped name ++ 34 ∷ []) ++ h.rest
            → BeginsWith (IsNameRest next (tie_behind tie b)) y
        by [] completes after e = absurd (spelled_byte_quote b y h.rest e)
        by (d ∷ name) completes after e =
            let one = spelled_byte_one b d y _ (e ∙ append_assoc (spelled_byte d ++ escaped name) (34 ∷ []) h.rest
            ∙ append_assoc (spelled_byte d) (escaped name) (34 ∷ h.rest)) in
            record {
              part = escaped name ++ 34 ∷ [];
              rest = h.rest;
              is_form = record {
                name = name;
                completes = (s.goes_on name).0 (subst (λ d. Completes c (d ∷ name)) (sym one.0) completes);
                after = after_to tie b name l (subst (λ d. IsAfter tie (d ∷ name)) (sym one.0) after);
                is = refl;
              };
              is = one.1 ∙ sym (append_assoc (escaped name) (34 ∷ []) h.rest);
            }

    begins : BeginsWith (IsNameRest next (tie_behind tie b)) s.rest → BeginsWith (IsNameRest c tie) (drop at bytes)
    begins h =
        let f = h.is_form in
        record {
          part = spelled_byte b ++ h.part;
          rest = h.rest;
          is_form = record {
            name = b ∷ f.name;
            completes = (s.goes_on f.name).1 f.completes;
            after = after_from tie b f.name l f.after;
            is = ap (λ l. spelled_byte b ++ l) f.is ∙ sym (append_assoc (spelled_byte b) (escaped f.name) (34 ∷ []));
          };
          is = s.is ∙ ap (λ l. spelled_byte b ++ l) h.is ∙ sym (append_assoc (spelled_byte b) h.part h.rest);
        }

    longest_step : (k : ℕ) → IsLongestPart (IsNameRest next (tie_behind tie b)) s.rest k → IsLongestPart (IsNameRest c tie) (drop at bytes) (n + k)
    longest_step k h =
        subst (λ j. IsLongestPart (IsNameRest c tie) (drop at bytes) (j + k)) (sym s.size)
        (subst (λ x. IsLongestPart (IsNameRest c tie) x (length (spelled_byte b) + k)) (sym s.is)
        (longest_behind (IsNameRest next (tie_behind tie b)) (IsNameRest c tie) (λ _. Unit {0}) (spelled_byte b) into (λ y _. back y) s.rest k
        tt (λ _ _ _ _. tt) h))

  step_one : (last : Option Name) → Walked last bytes at c left → Walked last bytes (at + n) next (left_behind left b)
  step_one last w =
      let l : IsLeast (left_of w.tie) b = subst (λ v. IsLeast v b) w.left_is s.least in
      record {
        tie = tie_behind w.tie b;
        left_is = ap (λ v. left_behind v b) w.left_is ∙ left_tie w.tie b;
        ties = λ v e. (s.goes_on v).0 (w.ties (b ∷ v) (tie_was w.tie b v e));
        none = λ h. w.none (begins w.tie l (subst (BeginsWith (IsNameRest next (tie_behind w.tie b))) rest_is h));
        longest = λ k h. subst (IsLongestPart (IsNameRest complete last) bytes) (let e : at + (n + k) ≡ at + n + k = omega arith in e)
            (w.longest (n + k) (longest_step w.tie l k (subst (λ x. IsLongestPart (IsNameRest next (tie_behind w.tie b)) x k) rest_is h)));
      }

  pub walked_more : (start : List ℕ) → WalkedAll start bytes at c left → WalkedAll start bytes (at + n) next (left_behind left b)
  walked_more start w = record {
    opened = s.opened;
    within = let e = ap length s.is in let a = length-append (spelled_byte b) s.rest in let d = length-drop at bytes in let z = s.size in omega arith;
    each = λ last h none. step_one last (w.each last h none);
  }

pub walked_end : (start bytes : List ℕ) (at : ℕ) (c : Character) (left : List ℕ) (k : ℕ) → WalkedAll start bytes at c left
    → ((b : ℕ) (rest : List ℕ) → IsNext c left b → drop at bytes ≡ spelled_byte b ++ rest → ⊥) → IsMostShared c left (drop at bytes) k
    → (last : Option Name) → IsLeftOf last start → ¬ (BeginsWith (IsNameRest complete last) bytes)
    → IsLongestPart (IsNameRest complete last) bytes (at + k)
walked_end start bytes at c left k all no_next most last h none =
    let w = all.each last h none in
    w.longest k (fault_here c w.tie w.ties all.opened (drop at bytes) w.none
    (λ b rest next. no_next b rest (subst (λ v. IsNext c v b) (sym w.left_is) next)) k
    (subst (λ v. IsMostShared c v (drop at bytes) k) w.left_is most))

-- ---- the first quote

module _ (last : Option Name) where
  quoted : (y : List ℕ) → IsNameRest complete last y → IsName last (34 ∷ y)
  unfolding spelled
  quoted y h = record { name = h.name; is_text = h.completes; after = h.after; is = ap (λ l. 34 ∷ l) h.is }

  quote_begins : (y : List ℕ) → BeginsWith (IsNameRest complete last) y → BeginsWith (IsName last) (34 ∷ y)
  quote_begins y h = record { part = 34 ∷ h.part; rest = h.rest; is_form = quoted h.part h.is_form; is = ap (λ l. 34 ∷ l) h.is }

  quote_back : (y : List ℕ) → BeginsWith (IsName last) (34 ∷ y) → BeginsWith (IsNameRest complete last) y
  unfolding spelled
  quote_back y h =
      let f = h.is_form in
      let e : ◌≡◌ {A = List ℕ} (34 ∷ y) (34 ∷ ((escaped f.name ++ 34 ∷ []) ++ h.rest)) = h.is ∙ ap (λ l. l ++ h.rest) f.is in
      record {
        part = escaped f.name ++ 34 ∷ [];
        rest = h.rest;
        is_form = record { name = f.name; completes = f.is_text; after = f.after; is = refl };
        is = cc;
      }

  pub none_behind : (bytes y : List ℕ) → bytes ≡ 34 ∷ y → ¬ (BeginsWith (IsName last) bytes) → ¬ (BeginsWith (IsNameRest complete last) y)
  none_behind bytes y e none h = none (subst (BeginsWith (IsName last)) (sym e) (quote_begins y h))

  pub fault_behind_quote : (bytes y : List ℕ) (k : ℕ) → bytes ≡ 34 ∷ y → IsLongestPart (IsNameRest complete last) y k
      → IsLongestPart (IsName last) bytes (1 + k)
  fault_behind_quote bytes y k e h =
      subst (λ x. IsLongestPart (IsName last) x (1 + k)) (sym e)
      (longest_behind (IsNameRest complete last) (IsName last) (λ _. Unit {0}) (34 ∷ [])
      (λ y h. ([], subst (IsName last) (sym (append-nil (34 ∷ y))) (quoted y h))) (λ y _. quote_back y) y k tt (λ _ _ _ _. tt) h)

  -- without a quote nothing stands
  pub no_quote : (left bytes : List ℕ) → IsLeftOf last left → IsNot 34 bytes → IsLongestPart (IsName last) bytes 0
  no_quote left bytes h not =
      let some = start last h in
      nothing_here (IsName last) (λ b. b ≡ 34) some.0 some.1
      (λ y g. first y g)
      bytes (λ b r e good. not r (e ∙ ap (λ d. d ∷ r) good))
    where
      start : (last : Option Name) → IsLeftOf last left → (s : List ℕ) × IsName last s
      start None h = (_, record { name = []; is_text = utf8_nothing; after = tt; is = refl })
      start (Some name) h = (_, record { name = longer name; is_text = longer_text name h.1; after = longer_greater name; is = refl })

      first : (y : List ℕ) → BeginsWith (IsName last) y → (b : ℕ) × (r : List ℕ) × (b ≡ 34) × (y ≡ b ∷ r)
      first y g = (34, _, refl, g.is ∙ ap (λ l. l ++ g.rest) g.is_form.is ∙ spelled-append g.is_form.name g.rest)

-- ---- the bytes that may come next, one after the other

-- the most that are shared with those below a bound
pub record MostBelow (c : Character) (left bytes : List ℕ) (bound n : ℕ) : Type 0 where
  pub each : (b : ℕ) → b < bound → IsNext c left b → shared bytes (spelled_byte b) ≤ n
  pub one : (n ≡ 0 → ⊥) → (b : ℕ) × IsNext c left b × (n ≡ shared bytes (spelled_byte b))

module _ (c : Character) (left bytes : List ℕ) where
  module _ (bound n : ℕ) (m : MostBelow c left bytes bound n) where
    pub most_next : (k : ℕ) → k ≡ shared bytes (spelled_byte bound) → IsNext c left bound → MostBelow c left bytes (bound + 1) (max n k)
    most_next k is next = record {
      each = λ b lt h. elim (le_or_more bound b) [
        | inl le ↦ (let same : bound ≡ b = omega arith in let e = ap (λ d. shared bytes (spelled_byte d)) same in omega arith)
        | inr more ↦ (let f = more.1 in let below : b < bound = omega arith in let l = m.each b below h in omega arith)
      ];
      one = λ some. elim (le_or_more k n) [
        | inl le ↦ (let same : max n k ≡ n = omega arith in let o = m.one (λ z. some (same ∙ z)) in (o.0, o.1, same ∙ o.2))
        | inr more ↦ (let f = more.1 in let same : max n k ≡ k = omega arith in (bound, next, same ∙ is))
      ];
    }

    pub most_skipped : (IsNext c left bound → ⊥) → MostBelow c left bytes (bound + 1) n
    most_skipped never = record {
      each = λ b lt h. elim (le_or_more bound b) [
        | inl le ↦ (let same : bound ≡ b = omega arith in absurd (never (subst (IsNext c left) (sym same) h)))
        | inr more ↦ (let f = more.1 in let below : b < bound = omega arith in m.each b below h)
      ];
      one = m.one;
    }

  pub most_within : (bound n : ℕ) → MostBelow c left bytes bound n → n ≤ length bytes
  most_within bound n m = by n refl
    where
      by : (k : ℕ) → n ≡ k → n ≤ length bytes
      by zero e = omega arith
      by (suc k) e = let one = m.one (λ z. omega arith) in let l = shared_le bytes (spelled_byte one.0) in let is = one.2 in omega arith

  pub most_all : (n : ℕ) → IsOpen c → MostBelow c left bytes 245 n → IsMostShared c left bytes n
  most_all n o m = record {
    each = λ b h. m.each b (next_byte_below c.missing c.low c.high b h.completion o.high h.completes) h;
    one = m.one;
  }

-- ---- the byte at the front

-- where none below 128 is spelled at the front, and no byte stands there for itself, none is
pub no_byte : (bytes : List ℕ) → ((b : ℕ) (rest : List ℕ) → is_plain b ≡ true → ¬ (bytes ≡ b ∷ rest))
    → ((b : ℕ) (rest : List ℕ) → b < 128 → ¬ (bytes ≡ spelled_byte b ++ rest)) → (b : ℕ) (rest : List ℕ) → ¬ (bytes ≡ spelled_byte b ++ rest)
no_byte bytes no_plain low b rest e = by (kind b)
  where
    by : Kind b → ⊥
    by (plain h p) = no_plain b rest h (e ∙ ap (λ l. l ++ rest) p)
    by (backslashed h p) = low b rest (elim (or_cases (b == 34) (b == 92) h)
        [ inl l ↦ (let f = eqb-true b 34 l in omega arith) | inr l ↦ (let f = eqb-true b 92 l in omega arith) ]) e
    by (control h p) = low b rest h e

pub byte_behind_plain : (bytes : List ℕ) (r : Option (ℕ × ℕ)) → ((b : ℕ) (rest : List ℕ) → is_plain b ≡ true → ¬ (bytes ≡ b ∷ rest))
    → MatchOption r ((b : ℕ) (rest : List ℕ) → b < 128 → ¬ (bytes ≡ spelled_byte b ++ rest))
    (λ found. (rest : List ℕ) × (found.1 ≡ length (spelled_byte found.0)) × (bytes ≡ spelled_byte found.0 ++ rest)) → IsByteAt bytes r
byte_behind_plain bytes None none h = no_byte bytes none h
byte_behind_plain bytes (Some found) none h = h

-- what is said of a slice to the end, said of the bytes from its place on
pub step_at : (c : Character) (left bytes : List ℕ) (at b n : ℕ) (next : Character)
    → IsStep c left (take (length bytes - at) (drop at bytes)) b n next → IsStep c left (drop at bytes) b n next
step_at c left bytes at b n next s = subst (λ x. IsStep c left x b n next) (take_rest bytes at) s

pub none_at : (c : Character) (left bytes : List ℕ) (at : ℕ)
    → ((b : ℕ) (rest : List ℕ) → IsNext c left b → ¬ (take (length bytes - at) (drop at bytes) ≡ spelled_byte b ++ rest))
    → (b : ℕ) (rest : List ℕ) → IsNext c left b → drop at bytes ≡ spelled_byte b ++ rest → ⊥
none_at c left bytes at h b rest next e = h b rest next (take_rest bytes at ∙ e)

pub most_at : (c : Character) (left bytes : List ℕ) (at n : ℕ) → IsMostShared c left (take (length bytes - at) (drop at bytes)) n
    → IsMostShared c left (drop at bytes) n
most_at c left bytes at n m = subst (λ x. IsMostShared c left x n) (take_rest bytes at) m

pub rest_behind : (bytes : List ℕ) → StandsAt bytes 0 (34 ∷ []) 1 → bytes ≡ 34 ∷ take (length bytes - 1) (drop 1 bytes)
rest_behind bytes h = h.spelled ∙ ap (λ l. 34 ∷ l) (sym (take_rest bytes 1))

pub max_is : (a b t : ℕ) → t ≡ ord_max nat_cmp a b → t ≡ max a b
max_is a b t e = elim (cases_lt b a) [
  | inl l ↦ (let o = e ∙ ap (λ o. cond (is_lt o) a b) (sym (nat_cmp_is b a Less l)) in omega arith)
  | inr g ↦ elim (cases_lt a b) [
    | inl l ↦ (let o = e ∙ ap (λ o. cond (is_lt o) a b) (sym (nat_cmp_is b a Greater l)) in omega arith)
    | inr h ↦ (let same : b ≡ a = omega arith in let o = e ∙ ap (λ o. cond (is_lt o) a b) (sym (nat_cmp_is b a Equal same)) in omega arith)
  ]
]

-- a place behind what a slice to the end has
pub place_within : (bytes : List ℕ) (at n : ℕ) → at ≤ length bytes → n ≤ length (take (length bytes - at) (drop at bytes)) → at + n ≤ length bytes
place_within bytes at n le h = let l = ap length (take_rest bytes at) in let d = length-drop at bytes in omega arith
