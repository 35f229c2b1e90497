-- A line is its tokens in one way alone.
use Rattle.std.proofs.Common.{◌≡◌, ◌≢◌, ◌⊎◌, inl, inr, ⊎_elim, ℕ, ◌+◌, ◌<◌, ◌≤◌, Bool, true, false, T, List, [], ◌∷◌, ◌++◌, length, take, drop, slice_get, Option, Some, None, Result, Ok, Err, refl, sym, ap, ◌∙◌, subst, arith, append_assoc}
use Rattle.std.specs.Prelude.{◌==◌, IsUtf8, IfOk}
use Rattle.std.specs.List.{prefix_len, list_all}
use Rattle.std.proofs.lemmas.List.{take-append-drop, length-take, length-drop}
use mathlib.Core.List.{append-nil}
use mathlib.Core.Bool.{true≢false}
use Rattle.std.proofs.lemmas.Bool.{and_parts}
use Rattle.std.proofs.lemmas.Bool.Decides.{nat_tests}
use Rattle.std.proofs.lemmas.List.Sums.{prefix_len-le-length}
use Rattle.hm_tree.specs.Names.{Name}
use Rattle.hm_tree_spelling.specs.Spelling.{spelled, escaped}
use Rattle.hm_tree_spelling.specs.SpellingLaws.{spelled-append, spelled_one}
use Rattle.hm_schema_lines.specs.declared.token.Token.{Token}
use Rattle.hm_schema_lines.specs.declared.token.Token.TheVariants.{Word, Quoted, Question, Plus}
use Rattle.hm_schema_lines.specs.Tokens.{is_word_byte, is_word, begins_word, token_text, IsToken, EndsToken, Stops, IsFirstToken, AreSpaces, Spaced, alone, before}
use Rattle.hm_schema_lines.specs.Reading.{IsFirstWord, IsFirstQuoted}
use Rattle.hm_schema_lines.proofs.Words.{begins_at, run_is, run_stops, run_passes, begins_back, spaces_are, spaces_all, spaces_some}
use Rattle.hm_facts.proofs.Booleans.{is_true}

pub ends_stop : (t : Token) (x : List ℕ) → EndsToken x → Stops t x
ends_stop (Word word) [] h = refl
ends_stop (Word word) (b ∷ x) h = ap is_word_byte h
ends_stop (Quoted name) x h = tt
ends_stop Question x h = tt
ends_stop Plus x h = tt

-- two different bytes
apart : (a b : ℕ) → (a == b) ≡ false → a ≡ b → ⊥
apart a b fails e = grind (arith, nat_tests)

-- a word doesn't begin with another byte
pub not_word : (w : Name) (x : List ℕ) (b : ℕ) (y : List ℕ) → (0 < length w) × T (is_word w) → is_word_byte b ≡ false → w ++ x ≢ b ∷ y
not_word [] x b y h fails e = absurd (omega (arith, h.0))
not_word (c ∷ w) x b y h fails e =
    let byte : c ≡ b = cc in
    let passes : is_word_byte c ≡ true = (and_parts (is_word_byte c) _ (is_true _ h.1)).0 in
    true≢false (sym passes ∙ ap is_word_byte byte ∙ fails)

quoted_front : (name : Name) (x : List ℕ) → spelled name ++ x ≡ 34 ∷ (escaped name ++ 34 ∷ x)
quoted_front name x = spelled-append name x

taken : (a b x y : List ℕ) → length a ≡ length b → a ++ x ≡ b ++ y → (a ≡ b) × (x ≡ y)
taken [] [] x y l e = (refl, e)
taken [] (b ∷ bs) x y l e = absurd (omega arith)
taken (a ∷ az) [] x y l e = absurd (omega arith)
taken (a ∷ az) (b ∷ bs) x y l e =
    let front : a ≡ b = cc in
    let rest : az ++ x ≡ bs ++ y = cc in
    let both = taken az bs x y (omega arith) rest in
    ((λ i. front i ∷ both.0 i), both.1)

words_one : (w v : Name) (x y : List ℕ) → (0 < length w) × T (is_word w) → (0 < length v) × T (is_word v) → begins_word x ≡ false
    → begins_word y ≡ false → w ++ x ≡ v ++ y → (Word w ≡ Word v) × (x ≡ y)
words_one w v x y h k sx sy e =
    let lw = run_is is_word_byte w x (is_true _ h.1) (begins_back x sx) in
    let lv = run_is is_word_byte v y (is_true _ k.1) (begins_back y sy) in
    let both = taken w v x y (sym lw ∙ ap (prefix_len is_word_byte) e ∙ lv) e in
    (ap Word both.0, both.1)

-- the token at the front, and what stands behind it, are determined
pub one_token : (t u : Token) (x y : List ℕ) → IsToken t → IsToken u → Stops t x → Stops u y → token_text t ++ x ≡ token_text u ++ y
    → (t ≡ u) × (x ≡ y)
one_token (Word w) (Word v) x y h k sx sy e = words_one w v x y h k sx sy e
one_token (Word w) (Quoted n) x y h k sx sy e = absurd (not_word w x 34 _ h refl (e ∙ quoted_front n y))
one_token (Word w) Question x y h k sx sy e = absurd (not_word w x 63 y h refl e)
one_token (Word w) Plus x y h k sx sy e = absurd (not_word w x 43 y h refl e)
one_token (Quoted n) (Word v) x y h k sx sy e = absurd (not_word v y 34 _ k refl (sym e ∙ quoted_front n x))
one_token (Quoted n) (Quoted m) x y h k sx sy e = let both = spelled_one n m x y e in (ap Quoted both.0, both.1)
one_token (Quoted n) Question x y h k sx sy e = absurd (other n x 63 y refl e)
  where
    other : (n : Name) (x : List ℕ) (b : ℕ) (y : List ℕ) → (b == 34) ≡ false → spelled n ++ x ≡ b ∷ y → ⊥
    other n x b y fails e =
        let same : 34 ∷ (escaped n ++ 34 ∷ x) ≡ b ∷ y = sym (quoted_front n x) ∙ e in
        let byte : 34 ≡ b = cc in
        apart b 34 fails (sym byte)
one_token (Quoted n) Plus x y h k sx sy e =
    let same : 34 ∷ (escaped n ++ 34 ∷ x) ≡ 43 ∷ y = sym (quoted_front n x) ∙ e in
    let byte : 34 ≡ 43 = cc in absurd (apart 34 43 refl byte)
one_token Question (Word v) x y h k sx sy e = absurd (not_word v y 63 x k refl (sym e))
one_token Question (Quoted m) x y h k sx sy e =
    let same : 63 ∷ x ≡ 34 ∷ (escaped m ++ 34 ∷ y) = e ∙ quoted_front m y in
    let byte : 63 ≡ 34 = cc in absurd (apart 63 34 refl byte)
one_token Question Question x y h k sx sy e = (refl, (let r : x ≡ y = cc in r))
one_token Question Plus x y h k sx sy e = let byte : 63 ≡ 43 = cc in absurd (apart 63 43 refl byte)
one_token Plus (Word v) x y h k sx sy e = absurd (not_word v y 43 x k refl (sym e))
one_token Plus (Quoted m) x y h k sx sy e =
    let same : 43 ∷ x ≡ 34 ∷ (escaped m ++ 34 ∷ y) = e ∙ quoted_front m y in
    let byte : 43 ≡ 34 = cc in absurd (apart 43 34 refl byte)
one_token Plus Question x y h k sx sy e = let byte : 43 ≡ 63 = cc in absurd (apart 43 63 refl byte)
one_token Plus Plus x y h k sx sy e = (refl, (let r : x ≡ y = cc in r))

-- tokens don't begin with a space
token_no_space : (t : Token) (x rest : List ℕ) → IsToken t → token_text t ++ x ≢ 32 ∷ rest
token_no_space (Word w) x rest h e = not_word w x 32 rest h refl e
token_no_space (Quoted n) x rest h e =
    let same : 34 ∷ (escaped n ++ 34 ∷ x) ≡ 32 ∷ rest = sym (quoted_front n x) ∙ e in
    let byte : 34 ≡ 32 = cc in apart 34 32 refl byte
token_no_space Question x rest h e = let byte : 63 ≡ 32 = cc in apart 63 32 refl byte
token_no_space Plus x rest h e = let byte : 43 ≡ 32 = cc in apart 43 32 refl byte

pub spaced_no_space : (ts : List Token) (line rest : List ℕ) → Spaced ts line → line ≢ 32 ∷ rest
spaced_no_space _ _ rest (alone {t} h) e = token_no_space t [] rest h (append-nil (token_text t) ∙ e)
spaced_no_space _ _ rest (before {t} {ts} {gap} {rest = behind} h g s) e = token_no_space t (gap ++ behind) rest h e

-- the spaces behind a token, and what stands behind these, are determined
pub gaps_one : (gap gap2 x y : List ℕ) → AreSpaces gap → AreSpaces gap2 → ((rest : List ℕ) → x ≢ 32 ∷ rest) → ((rest : List ℕ) → y ≢ 32 ∷ rest)
    → gap ++ x ≡ gap2 ++ y → x ≡ y
gaps_one gap gap2 x y g k nx ny e =
    let lg = run_is (λ b. b == 32) gap x (spaces_all gap g) (other x nx) in
    let lk = run_is (λ b. b == 32) gap2 y (spaces_all gap2 k) (other y ny) in
    (taken gap gap2 x y (sym lg ∙ ap (prefix_len (λ b. b == 32)) e ∙ lk) e).1
  where
    not_it : (c : ℕ) → (c ≡ 32 → ⊥) → (c == 32) ≡ false
    not_it c fails = go (c == 32) refl
      where
        go : (b : Bool) → (c == 32) ≡ b → b ≡ false
        go true q = absurd (fails (same c q))
          where
            same : (c : ℕ) → (c == 32) ≡ true → c ≡ 32
            same c q = grind (arith, nat_tests)
        go false q = refl

    other : (x : List ℕ) → ((rest : List ℕ) → x ≢ 32 ∷ rest) → (c : ℕ) (more : List ℕ) → x ≡ c ∷ more → (c == 32) ≡ false
    other x fails c more e = not_it c (λ is. fails more (e ∙ (λ i. is i ∷ more)))

spaces_end : (gap rest : List ℕ) → AreSpaces gap → EndsToken (gap ++ rest)
spaces_end gap rest g = let at = spaces_some gap g in subst (λ (z : List ℕ). EndsToken (z ++ rest)) (sym at.1) refl

spaces_left : (gap rest : List ℕ) → AreSpaces gap → gap ++ rest ≡ [] → ⊥
spaces_left gap rest g none =
    let at = spaces_some gap g in
    let fails : [] ≡ 32 ∷ (at.0 ++ rest) = sym none ∙ ap (λ (z : List ℕ). z ++ rest) at.1 in
    let f : ⊥ = cc in f

-- some bytes are tokens in one way alone
pub spaced_one : (ts us : List Token) (line other : List ℕ) → line ≡ other → Spaced ts line → Spaced us other → ts ≡ us
spaced_one _ _ _ _ e (alone {t} h) (alone {t = u} k) =
    ap (λ (z : Token). z ∷ []) (one_token t u [] [] h k (ends_stop t [] tt) (ends_stop u [] tt)
    (append-nil (token_text t) ∙ e ∙ sym (append-nil (token_text u)))).0
spaced_one _ _ _ _ e (alone {t} h) (before {t = u} {ts} {gap} {rest} k g s) =
    let same = one_token t u [] (gap ++ rest) h k (ends_stop t [] tt) (ends_stop u _ (spaces_end gap rest g)) (append-nil (token_text t) ∙ e) in
    absurd (spaces_left gap rest g (sym same.1))
spaced_one _ _ _ _ e (before {t} {ts} {gap} {rest} h g s) (alone {t = u} k) =
    let same = one_token t u (gap ++ rest) [] h k (ends_stop t _ (spaces_end gap rest g)) (ends_stop u [] tt) (e ∙ sym (append-nil (token_text u))) in
    absurd (spaces_left gap rest g same.1)
spaced_one _ _ _ _ e (before {t} {ts} {gap} {rest} h g s) (before {t = u} {ts = us} {gap = gap2} {rest = rest2} k g2 s2) =
    let same = one_token t u (gap ++ rest) (gap2 ++ rest2) h k (ends_stop t _ (spaces_end gap rest g)) (ends_stop u _ (spaces_end gap2 rest2 g2)) e in
    let on = gaps_one gap gap2 rest rest2 g g2 (λ r. spaced_no_space ts rest r s) (λ r. spaced_no_space us rest2 r s2) same.1 in
    let tail = spaced_one ts us rest rest2 on s s2 in
    (λ i. same.0 i ∷ tail i)

-- ---- reading on

-- what was read stands before what is left, whatever that is
pub record IsRead (line : List ℕ) (read : List Token) (rest : List ℕ) : Type 0 where
  pub whole : (ts : List Token) → Spaced ts rest → Spaced (read ++ ts) line
  pub left : (ts : List Token) → Spaced ts line → (more : List Token) × (ts ≡ read ++ more) × Spaced more rest

module _ (rest : List ℕ) (t : Token) (n : ℕ) (is : IsToken t) (front : take n rest ≡ token_text t) (stop : Stops t (drop n rest)) where
  split : rest ≡ token_text t ++ drop n rest
  split = sym (take-append-drop n rest) ∙ ap (λ l. l ++ drop n rest) front

  -- tokens of the rest begin with this one, and go on behind a space
  first_is : (ts : List Token) → Spaced ts rest → ((ts ≡ t ∷ []) × (drop n rest ≡ []))
      ⊎ ((more : List Token) × (gap behind : List ℕ) × (ts ≡ t ∷ more) × (drop n rest ≡ gap ++ behind) × AreSpaces gap × Spaced more behind)
  first_is ts h = by ts rest refl h
    where
      by : (ts : List Token) (line : List ℕ) → line ≡ rest → Spaced ts line
          → ((ts ≡ t ∷ []) × (drop n rest ≡ [])) ⊎ ((more : List Token) × (gap behind : List ℕ) × (ts ≡ t ∷ more)
          × (drop n rest ≡ gap ++ behind) × AreSpaces gap × Spaced more behind)
      by _ _ e (alone {t = u} h) =
          let same = one_token u t [] (drop n rest) h is (ends_stop u [] tt) stop (append-nil (token_text u) ∙ e ∙ split) in
          inl (ap (λ (z : Token). z ∷ []) same.0, sym same.1)
      by _ _ e (before {t = u} {ts} {gap} {rest = behind} h g s) =
          let at = spaces_some gap g in
          let ends : EndsToken (gap ++ behind) = subst (λ (z : List ℕ). EndsToken (z ++ behind)) (sym at.1) refl in
          let same = one_token u t (gap ++ behind) (drop n rest) h is (ends_stop u _ ends) stop (e ∙ split) in
          inr (ts, gap, behind, ap (λ (z : Token). z ∷ ts) same.0, sym same.1, g, s)

  -- the rest is this token
  pub last_read : (line : List ℕ) (read : List Token) → IsRead line read rest → drop n rest ≡ [] → Spaced (read ++ t ∷ []) line
  last_read line read h e =
      let whole : rest ≡ token_text t = split ∙ ap (λ l. token_text t ++ l) e ∙ append-nil (token_text t) in
      h.whole (t ∷ []) (subst (Spaced (t ∷ [])) (sym whole) (alone is))

  -- neither the end nor a space stands behind it
  pub no_gap : (line : List ℕ) (read : List Token) → IsRead line read rest → drop n rest ≢ [] → ((r : List ℕ) → drop n rest ≢ 32 ∷ r)
      → (ts : List Token) → Spaced ts line → ⊥
  no_gap line read h some space ts s =
      let l = h.left ts s in
      ⊎_elim (λ e. some e.1) (λ e. let at = spaces_some e.1 e.5 in space (at.0 ++ e.2) (e.4 ∙ ap (λ (z : List ℕ). z ++ e.2) at.1)) (first_is l.0 l.2)

  -- a space stands behind it
  pub read_on : (line : List ℕ) (read : List Token) → IsRead line read rest → (g : ℕ) → AreSpaces (take g (drop n rest))
      → ((r : List ℕ) → drop g (drop n rest) ≢ 32 ∷ r) → IsRead line (read ++ t ∷ []) (drop g (drop n rest))
  read_on line read h g spaces stops = record {
    whole = λ ts s.
        let here : Spaced (t ∷ ts) rest =
        subst (Spaced (t ∷ ts)) (sym (split ∙ ap (λ l. token_text t ++ l) (sym (take-append-drop g (drop n rest))))) (before is spaces s) in
        subst (λ (z : List Token). Spaced z line) (sym (append_assoc read (t ∷ []) ts)) (h.whole (t ∷ ts) here);
    left = λ ts s.
        let l = h.left ts s in
        ⊎_elim {C = (more : List Token) × (ts ≡ (read ++ t ∷ []) ++ more) × Spaced more (drop g (drop n rest))}
        (λ e. absurd (nothing_there (take g (drop n rest)) _ spaces (sym (take-append-drop g (drop n rest))) e.1))
        (λ e. (
          e.0,
          l.1 ∙ ap (λ (z : List Token). read ++ z) e.3 ∙ sym (append_assoc read (t ∷ []) e.0),
          subst (Spaced e.0) (gaps_one e.1 (take g (drop n rest)) e.2 (drop g (drop n rest)) e.5 spaces (λ r. spaced_no_space e.0 e.2 r e.6)
              stops (sym e.4 ∙ sym (take-append-drop g (drop n rest)))) e.6,
        ))
        (first_is l.0 l.2);
  }
    where
      nothing_there : (gap behind : List ℕ) → AreSpaces gap → drop n rest ≡ gap ++ behind → drop n rest ≡ [] → ⊥
      nothing_there gap behind s e none =
          let at = spaces_some gap s in
          let fails : [] ≡ 32 ∷ (at.0 ++ behind) = sym none ∙ e ∙ ap (λ (z : List ℕ). z ++ behind) at.1 in
          let f : ⊥ = cc in f

-- where no token stands there are no tokens
pub no_token : (line : List ℕ) (read : List Token) (rest : List ℕ) → IsRead line read rest
    → ((t : Token) (x : List ℕ) → IsToken t → EndsToken x → rest ≢ token_text t ++ x) → (ts : List Token) → Spaced ts line → ⊥
no_token line read rest h none ts s =
    let l = h.left ts s in
    by l.0 rest refl l.2
  where
    by : (ts : List Token) (bytes : List ℕ) → bytes ≡ rest → Spaced ts bytes → ⊥
    by _ _ e (alone {t} k) = none t [] k tt (sym e ∙ sym (append-nil (token_text t)))
    by _ _ e (before {t} {ts} {gap} {rest = behind} k g s) =
        let at = spaces_some gap g in
        let ends : EndsToken (gap ++ behind) = subst (λ (z : List ℕ). EndsToken (z ++ behind)) (sym at.1) refl in
        none t (gap ++ behind) k ends (sym e)

-- ---- the token at the front

to_T : (b : Bool) → b ≡ true → T b
to_T b e = subst T (sym e) tt

pub word_first : (bytes : List ℕ) (n : ℕ) (name : Name) → n ≡ prefix_len is_word_byte bytes → (n ≡ 0 → ⊥) → name ≡ take n bytes
    → IsToken (Word name) × (n ≤ length bytes) × (take n bytes ≡ name) × Stops (Word name) (drop n bytes)
word_first bytes n name is some e =
    let within = prefix_len-le-length is_word_byte bytes in
    let size = ap length e in (
      (
        omega (arith, length-take n bytes),
        subst (λ (z : List ℕ). T (is_word z)) (ap (λ (k : ℕ). take k bytes) (sym is) ∙ sym e)
            (to_T _ (run_passes is_word_byte bytes)),
      ),
      omega arith,
      sym e,
      subst (λ (k : ℕ). begins_word (drop k bytes) ≡ false) (sym is) (begins_at _ (run_stops is_word_byte bytes)),
    )

-- bytes that begin with a byte of no token but a word, and with no word
module _ (bytes : List ℕ) (b : ℕ) (more : List ℕ) (is : bytes ≡ b ∷ more) where
  pub no_first : (b ≡ 34 → ⊥) → (b ≡ 63 → ⊥) → (b ≡ 43 → ⊥) → begins_word bytes ≡ false → (t : Token) (rest : List ℕ) → IsToken t
      → EndsToken rest → bytes ≢ token_text t ++ rest
  no_first q h p w (Word word) rest k ends e = not_word word rest b more k (begins_back bytes w b more is) (sym e ∙ is)
  no_first q h p w (Quoted name) rest k ends e = let same : b ∷ more ≡ 34 ∷ (escaped name ++ 34 ∷ rest) = sym is ∙ e ∙ quoted_front name rest in
      let byte : b ≡ 34 = cc in q byte
  no_first q h p w Question rest k ends e = let same : b ∷ more ≡ 63 ∷ rest = sym is ∙ e in let byte : b ≡ 63 = cc in h byte
  no_first q h p w Plus rest k ends e = let same : b ∷ more ≡ 43 ∷ rest = sym is ∙ e in let byte : b ≡ 43 = cc in p byte

  pub no_quoted : b ≡ 34 → ((name : Name) (rest : List ℕ) → IsUtf8 name → bytes ≢ spelled name ++ rest) → (t : Token) (rest : List ℕ)
      → IsToken t → EndsToken rest → bytes ≢ token_text t ++ rest
  no_quoted q none (Word word) rest k ends e = not_word word rest b more k (ap is_word_byte q) (sym e ∙ is)
  no_quoted q none (Quoted name) rest k ends e = none name rest k e
  no_quoted q none Question rest k ends e = let same : b ∷ more ≡ 63 ∷ rest = sym is ∙ e in let byte : b ≡ 63 = cc in apart 34 63 refl (sym q ∙ byte)
  no_quoted q none Plus rest k ends e = let same : b ∷ more ≡ 43 ∷ rest = sym is ∙ e in let byte : b ≡ 43 = cc in apart 34 43 refl (sym q ∙ byte)

pub none_first : (bytes : List ℕ) → bytes ≡ [] → (t : Token) (rest : List ℕ) → IsToken t → EndsToken rest → bytes ≢ token_text t ++ rest
none_first bytes is (Word []) rest k ends e = absurd (omega (arith, k.0))
none_first bytes is (Word (c ∷ w)) rest k ends e = let f : [] ≡ c ∷ (w ++ rest) = sym is ∙ e in let g : ⊥ = cc in g
none_first bytes is (Quoted name) rest k ends e = let f : [] ≡ 34 ∷ (escaped name ++ 34 ∷ rest) = sym is ∙ e ∙ quoted_front name rest in
    let g : ⊥ = cc in g
none_first bytes is Question rest k ends e = let f : [] ≡ 63 ∷ rest = sym is ∙ e in let g : ⊥ = cc in g
none_first bytes is Plus rest k ends e = let f : [] ≡ 43 ∷ rest = sym is ∙ e in let g : ⊥ = cc in g

pub no_bytes : (bytes : List ℕ) → None ≡ slice_get bytes 0 → bytes ≡ []
no_bytes [] e = refl
no_bytes (b ∷ bytes) e = let f : ⊥ = cc in absurd f

front_of : (bytes : List ℕ) (b : ℕ) → Some b ≡ slice_get bytes 0 → (more : List ℕ) × (bytes ≡ b ∷ more)
front_of [] b e = let f : ⊥ = cc in absurd f
front_of (c ∷ bytes) b e = let same : b ≡ c = cc in (bytes, (λ i. sym same i ∷ bytes))

pub word_answers : {E : Type 0} (bytes : List ℕ) (b : ℕ) → Some b ≡ slice_get bytes 0 → (b ≡ 34 → ⊥) → (b ≡ 63 → ⊥) → (b ≡ 43 → ⊥)
    → (r : Result (Option (Token × ℕ)) E) → IfOk r (IsFirstWord bytes) → IfOk r (IsFirstToken bytes)
word_answers bytes b e q h p (Ok None) w = let f = front_of bytes b e in no_first bytes b f.0 f.1 q h p w
word_answers bytes b e q h p (Ok (Some found)) w = w
word_answers bytes b e q h p (Err x) w = tt

pub quoted_answers : {E : Type 0} (bytes : List ℕ) (b : ℕ) → Some b ≡ slice_get bytes 0 → b ≡ 34 → (r : Result (Option (Token × ℕ)) E)
    → IfOk r (IsFirstQuoted bytes) → IfOk r (IsFirstToken bytes)
quoted_answers bytes b e q (Ok None) w = let f = front_of bytes b e in no_quoted bytes b f.0 f.1 q w
quoted_answers bytes b e q (Ok (Some found)) w = w
quoted_answers bytes b e q (Err x) w = tt

-- ---- a step of the loop

pub some_left : (n : ℕ) (xs : List ℕ) → n ≤ length xs → (n ≡ length xs → ⊥) → drop n xs ≢ []
some_left n xs le ne e = let l = ap length e in let d = length-drop n xs in absurd (ne (omega arith))

pub no_space : (xs : List ℕ) → prefix_len (λ b. b == 32) xs ≡ 0 → (rest : List ℕ) → xs ≢ 32 ∷ rest
no_space xs none rest e = let l : prefix_len (λ b. b == 32) xs ≡ 1 + prefix_len (λ b. b == 32) rest = ap (prefix_len (λ b. b == 32)) e in
    absurd (omega arith)

pub gap_within : (g : ℕ) (behind : List ℕ) → g ≡ prefix_len (λ b. b == 32) behind → g ≤ length behind
gap_within g behind is = let w = prefix_len-le-length (λ b. b == 32) behind in omega arith

module _ (line : List ℕ) (read : List Token) (rest : List ℕ) (h : IsRead line read rest) (t : Token) (n : ℕ)
    (f : IsFirstToken rest (Some (t, n))) (behind : List ℕ) (b : behind ≡ drop n rest) (g : ℕ) (is : g ≡ prefix_len (λ b. b == 32) behind) where
  pub step_none : g ≡ 0 → (n ≡ length rest → ⊥) → (ts : List Token) → Spaced ts line → ⊥
  step_none none ne = no_gap rest t n f.0 f.2 f.3 line read h (some_left n rest f.1 ne) (λ r e. no_space behind (sym is ∙ none) r (b ∙ e))

  pub step_on : (g ≡ 0 → ⊥) → (next : List ℕ) → next ≡ drop g behind → (more : List Token) → more ≡ read ++ t ∷ [] → IsRead line more next
  step_on some next e more m =
      let run = run_passes (λ b. b == 32) behind in
      let gap : AreSpaces (take g (drop n rest)) = spaces_are (take g (drop n rest))
      (omega (arith, length-take g (drop n rest), ap length b, prefix_len-le-length (λ b. b == 32) behind))
      (subst (λ (z : List ℕ × ℕ). list_all (λ b. b == 32) (take z.1 z.0) ≡ true) (λ i. (b i, sym is i)) run) in
      let on = read_on rest t n f.0 f.2 f.3 line read h g gap
      (λ r q. let c = run_stops (λ b. b == 32) behind 32 r (ap (λ (z : ℕ). drop z behind) (sym is) ∙ ap (drop g) b ∙ q) in true≢false c) in
      subst (λ (z : List Token × List ℕ). IsRead line z.0 z.1) (λ i. (sym m i, (ap (drop g) (sym b) ∙ sym e) i)) on
