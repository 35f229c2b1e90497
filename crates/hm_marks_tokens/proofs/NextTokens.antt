-- The token that bytes begin with: there is at most one, and it is found.
use Rattle.std.proofs.Common.{◌≡◌, ℕ, suc, ◌+◌, ◌<◌, ◌≤◌, Bool, true, false, not, cond, ◌&&◌, List, [], ◌∷◌, ◌++◌, length, take, refl, sym, ap, ◌∙◌, subst, arith}
use Rattle.std.specs.Bool.{◌==◌}
use Rattle.std.proofs.lemmas.Bool.{and_parts, or_parts, eqb-true}
use Rattle.std.proofs.lemmas.List.{append_assoc, length-append, take_at, append_cancel_left}
use Rattle.hm_marks_tokens.specs.Bytes.{less, greater, has_less}
use Rattle.hm_marks_tokens.specs.Tokens.{toggled, is_inside, begins_tag, Token, tag, text, spelled, MayStand, IsNext, HasNone, text_len, inside_len}

-- ---- texts

pub record IsTextCut (bytes : List ℕ) : Type 0 where
  pub front : List ℕ
  pub rest : List ℕ
  pub are : bytes ≡ front ++ rest
  pub len : text_len bytes ≡ length front
  pub plain : has_less front ≡ false
  pub ends : begins_tag rest ≡ true

pub text_cut : (bytes : List ℕ) → IsTextCut bytes
text_cut [] = record { front = []; rest = []; are = refl; len = refl; plain = refl; ends = refl }
text_cut (b ∷ bytes) = go (text_cut bytes) (b == less) refl
  where
    go : IsTextCut bytes → (t : Bool) → (b == less) ≡ t → IsTextCut (b ∷ bytes)
    go r true e = record { front = []; rest = b ∷ bytes; are = refl; len = rw e refl; plain = refl; ends = e }
    go r false e =
        record {
          front = b ∷ r.front;
          rest = r.rest;
          are = ap (λ l. b ∷ l) r.are;
          len = rw e (let l = r.len in omega arith);
          plain = rw e r.plain;
          ends = r.ends;
        }

-- a text that may stand there is found
pub text_found : (bytes rest : List ℕ) → has_less bytes ≡ false → begins_tag rest ≡ true → text_len (bytes ++ rest) ≡ length bytes
text_found [] [] plain ends = refl
text_found [] (b ∷ rest) plain ends = rw ends refl
text_found (b ∷ bytes) rest plain ends =
    let parts = or_parts (b == less) (has_less bytes) plain in
    rw (parts.0) (let l = text_found bytes rest parts.1 ends in omega arith)

-- ---- tags

pub record IsTagCut (quoted : Bool) (bytes : List ℕ) : Type 0 where
  pub inside : List ℕ
  pub rest : List ℕ
  pub are : bytes ≡ inside ++ greater ∷ rest
  pub len : inside_len quoted bytes ≡ length inside
  pub is : is_inside quoted inside ≡ true

module _ (quoted : Bool) (b : ℕ) (bytes : List ℕ) where
  ended : ((b == greater) && not quoted) ≡ true → IsTagCut quoted (b ∷ bytes)
  ended e =
      let parts = and_parts (b == greater) (not quoted) e in
      record { inside = []; rest = bytes; are = ap (λ x. x ∷ bytes) (eqb-true b greater parts.0); len = rw e refl; is = parts.1 }

  longer : ((b == greater) && not quoted) ≡ false → IsTagCut (toggled b quoted) bytes → IsTagCut quoted (b ∷ bytes)
  longer e r =
      record {
        inside = b ∷ r.inside;
        rest = r.rest;
        are = ap (λ l. b ∷ l) r.are;
        len = rw e (let l = r.len in omega arith);
        is = rw e r.is;
      }

  shorter : ((b == greater) && not quoted) ≡ false → inside_len quoted (b ∷ bytes) < length (b ∷ bytes) → inside_len (toggled b quoted) bytes < length bytes
  shorter e h = let l = subst (λ t. cond t 0 (1 + inside_len (toggled b quoted) bytes) < length (b ∷ bytes)) e h in omega arith

pub tag_cut : (quoted : Bool) (bytes : List ℕ) → inside_len quoted bytes < length bytes → IsTagCut quoted bytes
tag_cut quoted [] h = absurd (omega arith)
tag_cut quoted (b ∷ bytes) h = go (tag_cut (toggled b quoted) bytes) ((b == greater) && not quoted) refl
  where
    go : (inside_len (toggled b quoted) bytes < length bytes → IsTagCut (toggled b quoted) bytes) → (t : Bool) → ((b == greater) && not quoted) ≡ t
        → IsTagCut quoted (b ∷ bytes)
    go more true e = ended quoted b bytes e
    go more false e = longer quoted b bytes e (more (shorter quoted b bytes e h))

pub tag_found : (quoted : Bool) (inside rest : List ℕ) → is_inside quoted inside ≡ true → inside_len quoted (inside ++ greater ∷ rest) ≡ length inside
tag_found true [] rest is = let no : ⊥ = cc in absurd no
tag_found false [] rest is = refl
tag_found quoted (b ∷ inside) rest is = go (tag_found (toggled b quoted) inside rest) ((b == greater) && not quoted) refl
  where
    go : (is_inside (toggled b quoted) inside ≡ true → inside_len (toggled b quoted) (inside ++ greater ∷ rest) ≡ length inside)
        → (t : Bool) → ((b == greater) && not quoted) ≡ t → inside_len quoted (b ∷ (inside ++ greater ∷ rest)) ≡ suc (length inside)
    go found true e = let no : false ≡ true = subst (λ t. (not t && is_inside (toggled b quoted) inside) ≡ true) e is in let bad : ⊥ = cc in absurd bad
    go found false e =
        let more : is_inside (toggled b quoted) inside ≡ true = subst (λ t. (not t && is_inside (toggled b quoted) inside) ≡ true) e is in
        rw e (let l = found more in omega arith)

-- ---- the next token

-- the first bytes, as many as two lists have
same_front : (n : ℕ) (a b r s : List ℕ) → length a ≡ n → length b ≡ n → a ++ r ≡ b ++ s → a ≡ b
same_front n a b r s la lb e = sym (take_at a r n la) ∙ ap (take n) e ∙ take_at b s n lb

pub inside_within : (quoted : Bool) (bytes : List ℕ) → inside_len quoted bytes ≤ length bytes
inside_within quoted [] = omega arith
inside_within quoted (b ∷ bytes) = go (inside_within (toggled b quoted) bytes) ((b == greater) && not quoted)
  where
    go : inside_len (toggled b quoted) bytes ≤ length bytes → (t : Bool) → cond t 0 (1 + inside_len (toggled b quoted) bytes) ≤ suc (length bytes)
    go more true = omega arith
    go more false = omega arith

-- bytes that are cut where the first text ends
pub text_next : (bytes front back : List ℕ) → bytes ≡ front ++ back → length front ≡ text_len bytes → begins_tag bytes ≡ false
    → IsNext bytes (text front) back
text_next bytes front back are len other =
    let cut = text_cut bytes in
    let same : cut.front ≡ front = same_front (length front) cut.front front cut.rest back (sym cut.len ∙ sym len) refl (sym cut.are ∙ are) in
    let behind : cut.rest ≡ back = append_cancel_left front cut.rest back (ap (λ l. l ++ cut.rest) (sym same) ∙ sym cut.are ∙ are) in
    let ends : begins_tag back ≡ true = ap begins_tag (sym behind) ∙ cut.ends in
    record {
      are = are;
      may = (
        (λ none.
            let whole : bytes ≡ back = are ∙ ap (λ l. l ++ back) none in
            let no : true ≡ false = sym ends ∙ ap begins_tag (sym whole) ∙ other in
            let bad : ⊥ = cc in bad),
        ap has_less (sym same) ∙ cut.plain,
        ends,
      );
    }

-- bytes behind a `<` that are cut where the tag ends
pub tag_next : (bytes inside end : List ℕ) (b : ℕ) (rest : List ℕ) → bytes ≡ inside ++ end → length inside ≡ inside_len false bytes → end ≡ b ∷ rest
    → IsNext (less ∷ bytes) (tag inside) rest
tag_next bytes inside end b rest are len is_end =
    let all = ap length are ∙ length-append inside end in
    let some = ap length is_end in
    let cut = tag_cut false bytes (omega (arith, all, some, len)) in
    let same : cut.inside ≡ inside =
    same_front (length inside) cut.inside inside (greater ∷ cut.rest) end (sym cut.len ∙ sym len) refl (sym cut.are ∙ are) in
    let behind : greater ∷ cut.rest ≡ b ∷ rest =
    append_cancel_left inside (greater ∷ cut.rest) end (ap (λ l. l ++ greater ∷ cut.rest) (sym same) ∙ sym cut.are ∙ are) ∙ is_end in
    let rests : cut.rest ≡ rest = cc in
    record {
      are = ap (λ l. less ∷ l) (cut.are ∙ (λ i. same i ++ greater ∷ rests i) ∙ sym (append_assoc inside (greater ∷ []) rest));
      may = ap (is_inside false) (sym same) ∙ cut.is;
    }

-- ---- at most one

-- a text doesn't begin with `<`
text_other : (bytes rest more : List ℕ) → MayStand (text bytes) rest → less ∷ more ≡ bytes ++ rest → ⊥
text_other [] rest more may e = may.0 refl
text_other (b ∷ bytes) rest more may e =
    let same : b ≡ less = cc in
    let no : true ≡ false = ap (λ x. x == less) (sym same) ∙ (or_parts (b == less) (has_less bytes) may.1).0 in
    let bad : ⊥ = cc in bad

pub record IsOne (p q : Token) (r s : List ℕ) : Type 0 where
  pub token : p ≡ q
  pub rest : r ≡ s

behind_less : (bytes inside rest : List ℕ) → less ∷ bytes ≡ spelled (tag inside) ++ rest → bytes ≡ inside ++ greater ∷ rest
behind_less bytes inside rest e = let tails : bytes ≡ (inside ++ greater ∷ []) ++ rest = cc in tails ∙ append_assoc inside (greater ∷ []) rest

one_tag : (i j r s : List ℕ) → is_inside false i ≡ true → is_inside false j ≡ true → i ++ greater ∷ r ≡ j ++ greater ∷ s → IsOne (tag i) (tag j) r s
one_tag i j r s hi hj e =
    let li = tag_found false i r hi in
    let lj = tag_found false j s hj in
    let same : i ≡ j = same_front (length i) i j (greater ∷ r) (greater ∷ s) refl (sym lj ∙ ap (inside_len false) (sym e) ∙ li) e in
    let tails : greater ∷ r ≡ greater ∷ s = append_cancel_left j (greater ∷ r) (greater ∷ s) (ap (λ l. l ++ greater ∷ r) (sym same) ∙ e) in
    record { token = ap tag same; rest = cc }

one_text : (t u r s : List ℕ) → MayStand (text t) r → MayStand (text u) s → t ++ r ≡ u ++ s → IsOne (text t) (text u) r s
one_text t u r s ht hu e =
    let lt = text_found t r ht.1 ht.2 in
    let lu = text_found u s hu.1 hu.2 in
    let same : t ≡ u = same_front (length t) t u r s refl (sym lu ∙ ap text_len (sym e) ∙ lt) e in
    record { token = ap text same; rest = append_cancel_left u r s (ap (λ l. l ++ r) (sym same) ∙ e) }

-- the token that bytes begin with is one, and so is what stands behind it
pub next_once : (bytes : List ℕ) (p q : Token) (r s : List ℕ) → IsNext bytes p r → IsNext bytes q s → IsOne p q r s
next_once bytes (tag i) (tag j) r s hp hq =
    let e : spelled (tag i) ++ r ≡ spelled (tag j) ++ s = sym hp.are ∙ hq.are in
    let tails : (i ++ greater ∷ []) ++ r ≡ (j ++ greater ∷ []) ++ s = cc in
    one_tag i j r s hp.may hq.may (sym (append_assoc i (greater ∷ []) r) ∙ tails ∙ append_assoc j (greater ∷ []) s)
next_once bytes (tag i) (text u) r s hp hq = absurd (text_other u s ((i ++ greater ∷ []) ++ r) hq.may (sym hp.are ∙ hq.are))
next_once bytes (text t) (tag j) r s hp hq = absurd (text_other t r ((j ++ greater ∷ []) ++ s) hp.may (sym hq.are ∙ hp.are))
next_once bytes (text t) (text u) r s hp hq = one_text t u r s hp.may hq.may (sym hp.are ∙ hq.are)

-- ---- none

-- a tag that doesn't end is no token
pub none_open : (bytes : List ℕ) → inside_len false bytes ≡ length bytes → HasNone (less ∷ bytes)
none_open bytes all (tag i) rest next =
    let e = behind_less bytes i rest next.are in
    let found = tag_found false i rest next.may in
    let len = ap length e ∙ length-append i (greater ∷ rest) in
    let same : length bytes ≡ length i = sym all ∙ ap (inside_len false) e ∙ found in
    omega (arith, len, same)
none_open bytes all (text t) rest next = text_other t rest bytes next.may next.are

pub whole_inside : (bytes inside end : List ℕ) → bytes ≡ inside ++ end → length inside ≡ inside_len false bytes → length end ≡ 0 → inside_len false bytes ≡ length bytes
whole_inside bytes inside end are len none = let all = ap length are ∙ length-append inside end in omega (arith, all, len, none)

-- what stands behind a token is shorter
pub next_shorter : (bytes : List ℕ) (p : Token) (rest : List ℕ) → IsNext bytes p rest → length rest < length bytes
next_shorter bytes (tag i) rest next = let all = ap length next.are ∙ length-append (spelled (tag i)) rest in omega (arith, all)
next_shorter bytes (text []) rest next = absurd (next.may.0 refl)
next_shorter bytes (text (b ∷ t)) rest next = let all = ap length next.are ∙ length-append (b ∷ t) rest in omega (arith, all)
