-- An attribute that bytes begin with is found, so there is at most one.
use Rattle.std.proofs.Common.{◌≡◌, ◌≢◌, ℕ, suc, ◌+◌, ◌<◌, Bool, true, false, not, cond, List, [], ◌∷◌, ◌++◌, length, take, drop, Option, Some, None, refl, sym, ap, ◌∙◌, subst, arith}
use Rattle.std.specs.Prelude.{IfSome, MatchOption}
use Rattle.std.specs.Borrow.{Bor}
use Rattle.std.specs.Option.{option_map}
use Rattle.hm_marks_tokens.specs.Bytes.{quote, has_quote, begins_white}
use Rattle.hm_marks_tokens.specs.declared.attributes.Attribute.{Attribute as LentAttribute}
use Rattle.hm_marks_tokens.specs.Lent.{attribute_seen, found_attribute}
use Rattle.std.specs.Bool.{◌==◌, nat_lt}
use Rattle.std.specs.Char.{is_ascii_whitespace}
use Rattle.std.specs.List.{list_all, prefix_len}
use Rattle.std.proofs.lemmas.Bool.{and_parts, or_parts, eqb-true, not-true}
use Rattle.std.proofs.lemmas.Option.{none-some}
use Rattle.std.proofs.lemmas.Bool.Decides.{nat_tests}
use Rattle.std.proofs.lemmas.List.{append_assoc, length-append, length-take, take_at, drop_at, take-append-drop}
use Rattle.hm_marks_tokens.specs.Attributes.{Value, bare, quoted, run, Attribute, spelled_value, spelled_attribute, is_of_name, is_of_run, IsValue, IsAttribute, IsFirst, white_len, word_len, run_len, unquoted_len, quoted_at, value_behind, value_at, attribute_of, named_at, attribute_at}
use Rattle.hm_marks_tokens.proofs.Attributed.{apart}

-- bytes of which the first doesn't pass
stops : (ℕ → Bool) → List ℕ → Bool
stops p [] = true
stops p (b ∷ rest) = not (p b)

prefix_is : (p : ℕ → Bool) (xs ys : List ℕ) → list_all p xs ≡ true → stops p ys ≡ true → prefix_len p (xs ++ ys) ≡ length xs
unfolding stops
prefix_is p [] [] all stop = refl
prefix_is p [] (y ∷ ys) all stop = go (p y) stop
  where
    go : (t : Bool) → not t ≡ true → cond t (1 + prefix_len p ys) 0 ≡ 0
    go true e = let bad : ⊥ = cc in absurd bad
    go false e = refl
prefix_is p (x ∷ xs) ys all stop =
    let parts = and_parts (p x) (list_all p xs) all in
    let l = prefix_is p xs ys parts.1 stop in
    rw (parts.0) (omega (arith, l))

pub not_white_name : (b : ℕ) → is_of_name b ≡ true → is_ascii_whitespace b ≡ false
not_white_name b e = grind (arith, nat_tests)

white_no_name : (b : ℕ) → is_ascii_whitespace b ≡ true → is_of_name b ≡ false
white_no_name b e = go (is_of_name b) refl
  where
    go : (t : Bool) → is_of_name b ≡ t → t ≡ false
    go true f = let no : true ≡ false = sym e ∙ not_white_name b f in let bad : ⊥ = cc in absurd bad
    go false f = refl

white_no_run : (b : ℕ) → is_ascii_whitespace b ≡ true → is_of_run b ≡ false
white_no_run b e = rw e refl

some_length : (xs : List ℕ) → xs ≢ [] → nat_lt 0 (length xs) ≡ true
some_length [] some = absurd (some refl)
some_length (x ∷ xs) some = grind (arith, nat_tests)

-- where white space or nothing follows, names and runs stop
stop_name : (rest : List ℕ) → begins_white rest ≡ true → stops is_of_name rest ≡ true
unfolding stops
stop_name [] w = refl
stop_name (b ∷ rest) w = ap not (white_no_name b w)

stop_run : (rest : List ℕ) → begins_white rest ≡ true → stops is_of_run rest ≡ true
unfolding stops
stop_run [] w = refl
stop_run (b ∷ rest) w = ap not (white_no_run b w)

stop_white : (xs rest : List ℕ) → xs ≢ [] → list_all is_of_name xs ≡ true → stops is_ascii_whitespace (xs ++ rest) ≡ true
unfolding stops
stop_white [] rest some all = absurd (some refl)
stop_white (x ∷ xs) rest some all = ap not (not_white_name x (and_parts (is_of_name x) (list_all is_of_name xs) all).0)

stop_value : (v : Value) (rest : List ℕ) → begins_white rest ≡ true → stops is_of_name (spelled_value v ++ rest) ≡ true
unfolding stops
stop_value bare rest w = stop_name rest w
stop_value (quoted bytes) rest w = refl
stop_value (run bytes) rest w = refl

-- ---- values

no_quote : (bytes : List ℕ) → has_quote bytes ≡ false → list_all (λ b. not (b == quote)) bytes ≡ true
no_quote [] none = refl
no_quote (b ∷ bytes) none = let parts = or_parts (b == quote) (has_quote bytes) none in rw (parts.0) (no_quote bytes parts.1)

quoted_again : (bytes rest : List ℕ) → has_quote bytes ≡ false → quoted_at (bytes ++ quote ∷ rest) ≡ Some (quoted bytes, rest)
unfolding stops
quoted_again bytes rest none =
    let len : unquoted_len (bytes ++ quote ∷ rest) ≡ length bytes = prefix_is (λ b. not (b == quote)) bytes (quote ∷ rest) (no_quote bytes none) refl in
    let all = length-append bytes (quote ∷ rest) in
    let lt : nat_lt (length bytes) (length (bytes ++ quote ∷ rest)) ≡ true = grind (arith, nat_tests, all) in
    let front = take_at bytes (quote ∷ rest) (length bytes) refl in
    let back : drop (length bytes + 1) (bytes ++ quote ∷ rest) ≡ rest =
    ap (drop (length bytes + 1)) (sym (append_assoc bytes (quote ∷ []) rest)) ∙ drop_at (bytes ++ quote ∷ []) rest (length bytes + 1) (length-append bytes (quote ∷ [])) in
    rw (len, lt, front, back) refl

run_again : (bytes rest : List ℕ) → list_all is_of_run bytes ≡ true → begins_white rest ≡ true → value_behind (bytes ++ rest) ≡ Some (run bytes, rest)
run_again [] [] all w = refl
run_again [] (b ∷ rest) all w =
    let len : run_len (b ∷ rest) ≡ 0 = prefix_is is_of_run [] (b ∷ rest) refl (stop_run (b ∷ rest) w) in
    ap (λ q. cond q (quoted_at rest) (Some (run (take (run_len (b ∷ rest)) (b ∷ rest)), drop (run_len (b ∷ rest)) (b ∷ rest)))) (apart is_ascii_whitespace b quote w refl)
    ∙ (λ i. Some (run (take (len i) (b ∷ rest)), drop (len i) (b ∷ rest)))
run_again (b ∷ bytes) rest all w =
    let parts = and_parts (is_of_run b) (list_all is_of_run bytes) all in
    let len : run_len ((b ∷ bytes) ++ rest) ≡ length (b ∷ bytes) = prefix_is is_of_run (b ∷ bytes) rest all (stop_run rest w) in
    let front = take_at (b ∷ bytes) rest (length (b ∷ bytes)) refl in
    let back = drop_at (b ∷ bytes) rest (length (b ∷ bytes)) refl in
    let plain : (b == quote) ≡ false = apart is_of_run b quote parts.0 refl in
    ap (λ q. cond q (quoted_at (bytes ++ rest)) (Some (run (take (run_len (b ∷ (bytes ++ rest))) (b ∷ (bytes ++ rest))), drop (run_len (b ∷ (bytes ++ rest))) (b ∷ (bytes ++ rest))))) plain
    ∙ (λ i. Some (run (take (len i) (b ∷ (bytes ++ rest))), drop (len i) (b ∷ (bytes ++ rest))))
    ∙ (λ i. Some (run (front i), back i))

value_again : (v : Value) (rest : List ℕ) → IsValue v → begins_white rest ≡ true → value_at (spelled_value v ++ rest) ≡ Some (v, rest)
value_again bare [] is w = refl
value_again bare (b ∷ rest) is w = rw (apart is_ascii_whitespace b 61 w refl) refl
value_again (quoted bytes) rest is w = ap quoted_at (append_assoc bytes (quote ∷ []) rest) ∙ quoted_again bytes rest is
value_again (run bytes) rest is w = run_again bytes rest is w

-- ---- attributes

pub attribute_again : (a : Attribute) (rest : List ℕ) → IsAttribute a → begins_white rest ≡ true → attribute_at (spelled_attribute a ++ rest) ≡ Some (a, rest)
attribute_again a rest is w =
    let v = spelled_value a.value ++ rest in
    let named = a.name ++ v in
    let whole : spelled_attribute a ++ rest ≡ a.blank ++ named =
    append_assoc a.blank (a.name ++ spelled_value a.value) rest ∙ ap (λ l. a.blank ++ l) (append_assoc a.name (spelled_value a.value) rest) in
    let white : white_len (a.blank ++ named) ≡ length a.blank = prefix_is is_ascii_whitespace a.blank named is.white (stop_white a.name v is.named is.name) in
    let word : word_len named ≡ length a.name = prefix_is is_of_name a.name v is.name (stop_value a.value rest w) in
    let blanks = take_at a.blank named (length a.blank) refl in
    let behind = drop_at a.blank named (length a.blank) refl in
    let names = take_at a.name v (length a.name) refl in
    let values = drop_at a.name v (length a.name) refl in
    ap attribute_at whole
    ∙ (λ i. cond (nat_lt 0 (white i)) (named_at (take (white i) (a.blank ++ named)) (drop (white i) (a.blank ++ named))) None)
    ∙ (λ i. cond (some_length a.blank is.apart i) (named_at (blanks i) (behind i)) None)
    ∙ (λ i. cond (nat_lt 0 (word i)) (attribute_of a.blank (take (word i) named) (value_at (drop (word i) named))) None)
    ∙ (λ i. cond (some_length a.name is.named i) (attribute_of a.blank (names i) (value_at (values i))) None)
    ∙ ap (attribute_of a.blank a.name) (value_again a.value rest is.value w)
    ∙ ap (λ b. cond b (Some (a, rest)) None) w

-- where bytes begin with an attribute, it is the one that is found
pub first_found : (bytes : List ℕ) (a : Attribute) (rest : List ℕ) → IsFirst bytes a rest → attribute_at bytes ≡ Some (a, rest)
first_found bytes a rest first = ap attribute_at first.are ∙ attribute_again a rest first.is first.ends

-- ---- and what is found is one

prefix_all : (p : ℕ → Bool) (xs : List ℕ) → list_all p (take (prefix_len p xs) xs) ≡ true
prefix_all p [] = refl
prefix_all p (x ∷ xs) = go (p x) refl (prefix_all p xs)
  where
    go : (t : Bool) → p x ≡ t → list_all p (take (prefix_len p xs) xs) ≡ true → list_all p (take (cond t (1 + prefix_len p xs) 0) (x ∷ xs)) ≡ true
    go true e more = let one : 1 + prefix_len p xs ≡ suc (prefix_len p xs) = omega arith in rw one (rw e more)
    go false e more = refl

-- bytes up to the first that doesn't pass
record IsCut (p : ℕ → Bool) (bytes : List ℕ) : Type 0 where
  front : List ℕ
  rest : List ℕ
  are : bytes ≡ front ++ rest
  all : list_all p front ≡ true
  stop : stops p rest ≡ true

cut : (p : ℕ → Bool) (bytes : List ℕ) → IsCut p bytes
unfolding stops
cut p [] = record { front = []; rest = []; are = refl; all = refl; stop = refl }
cut p (b ∷ bytes) = go (cut p bytes) (p b) refl
  where
    go : IsCut p bytes → (t : Bool) → p b ≡ t → IsCut p (b ∷ bytes)
    go r true e = record { front = b ∷ r.front; rest = r.rest; are = ap (λ l. b ∷ l) r.are; all = rw e r.all; stop = r.stop }
    go r false e = record { front = []; rest = b ∷ bytes; are = refl; all = refl; stop = ap not e }

none_quoted : (bytes : List ℕ) → list_all (λ b. not (b == quote)) bytes ≡ true → has_quote bytes ≡ false
none_quoted [] all = refl
none_quoted (b ∷ bytes) all =
    let parts = and_parts (not (b == quote)) (list_all (λ b. not (b == quote)) bytes) all in
    rw (not-true (b == quote) parts.0) (none_quoted bytes parts.1)

pub record IsValueFound (bytes : List ℕ) (f : Value × List ℕ) : Type 0 where
  pub are : bytes ≡ spelled_value f.0 ++ f.1
  pub is : IsValue f.0

quoted_sound : (bytes : List ℕ) → IfSome (quoted_at bytes) (IsValueFound (61 ∷ quote ∷ bytes))
unfolding stops
quoted_sound bytes =
    let c = cut (λ b. not (b == quote)) bytes in
    subst (λ (l : List ℕ). IfSome (quoted_at l) (IsValueFound (61 ∷ quote ∷ l))) (sym c.are) (go c.front c.rest c.all c.stop)
  where
    go : (front rest : List ℕ) → list_all (λ b. not (b == quote)) front ≡ true → stops (λ b. not (b == quote)) rest ≡ true
        → IfSome (quoted_at (front ++ rest)) (IsValueFound (61 ∷ quote ∷ (front ++ rest)))
    go front [] all stop =
        let len : unquoted_len (front ++ []) ≡ length front = prefix_is (λ b. not (b == quote)) front [] all stop in
        let whole = length-append front [] in
        let over : nat_lt (unquoted_len (front ++ [])) (length (front ++ [])) ≡ false = grind (arith, nat_tests, len, whole) in
        rw over tt
    go front (b ∷ rest) all stop =
        let here : b ≡ quote = eqb-true b quote (twice (b == quote) stop) in
        subst (λ (x : ℕ). IfSome (quoted_at (front ++ x ∷ rest)) (IsValueFound (61 ∷ quote ∷ (front ++ x ∷ rest)))) (sym here)
        (subst (λ (o : Option (Value × List ℕ)). IfSome o (IsValueFound (61 ∷ quote ∷ (front ++ quote ∷ rest)))) (sym (quoted_again front rest (none_quoted front all)))
        (record { are = ap (λ l. 61 ∷ quote ∷ l) (sym (append_assoc front (quote ∷ []) rest)); is = none_quoted front all }))
      where
        twice : (t : Bool) → not (not t) ≡ true → t ≡ true
        twice true e = refl
        twice false e = e

behind_sound : (bytes : List ℕ) → IfSome (value_behind bytes) (IsValueFound (61 ∷ bytes))
behind_sound [] = record { are = refl; is = refl }
behind_sound (b ∷ bytes) = go (b == quote) refl
  where
    go : (t : Bool) → (b == quote) ≡ t
        → IfSome (cond t (quoted_at bytes) (Some (run (take (run_len (b ∷ bytes)) (b ∷ bytes)), drop (run_len (b ∷ bytes)) (b ∷ bytes)))) (IsValueFound (61 ∷ b ∷ bytes))
    go true e = subst (λ (x : ℕ). IfSome (quoted_at bytes) (IsValueFound (61 ∷ x ∷ bytes))) (sym (eqb-true b quote e)) (quoted_sound bytes)
    go false e = record { are = ap (λ l. 61 ∷ l) (sym (take-append-drop (run_len (b ∷ bytes)) (b ∷ bytes))); is = prefix_all is_of_run (b ∷ bytes) }

value_sound : (bytes : List ℕ) → IfSome (value_at bytes) (IsValueFound bytes)
value_sound [] = record { are = refl; is = tt }
value_sound (b ∷ bytes) = go (b == 61) refl
  where
    go : (t : Bool) → (b == 61) ≡ t → IfSome (cond t (value_behind bytes) (Some (bare, b ∷ bytes))) (IsValueFound (b ∷ bytes))
    go true e = subst (λ (x : ℕ). IfSome (value_behind bytes) (IsValueFound (x ∷ bytes))) (sym (eqb-true b 61 e)) (behind_sound bytes)
    go false e = record { are = refl; is = tt }

nonempty : (p : ℕ → Bool) (bytes : List ℕ) → nat_lt 0 (prefix_len p bytes) ≡ true → take (prefix_len p bytes) bytes ≢ []
nonempty p [] lt none = let bad : ⊥ = cc in bad
nonempty p (b ∷ bytes) lt none =
    let all = length-take (prefix_len p (b ∷ bytes)) (b ∷ bytes) in
    let zero_long = ap length none in
    let most : 0 < prefix_len p (b ∷ bytes) = grind (arith, nat_tests) in
    omega (arith, all, zero_long, most)

-- the attribute that is found
module _ (bytes : List ℕ) where
  abbrev blank : List ℕ
  blank = take (white_len bytes) bytes

  abbrev behind : List ℕ
  behind = drop (white_len bytes) bytes

  abbrev name : List ℕ
  name = take (word_len behind) behind

  abbrev IsFound : Option (Attribute × List ℕ) → Type 0
  IsFound o = IfSome o (λ f. IsFirst bytes f.0 f.1)

  module _ (e : nat_lt 0 (white_len bytes) ≡ true) where
    ends : (v : Value × List ℕ) → nat_lt 0 (word_len behind) ≡ true → IsValueFound (drop (word_len behind) behind) v → (t : Bool) → begins_white v.1 ≡ t
        → IsFound (cond t (Some (record { blank = blank; name = name; value = v.0 }, v.1)) None)
    ends v g h false k = tt
    ends v g h true k = record {
      are =
          sym (take-append-drop (white_len bytes) bytes)
          ∙ ap (λ l. blank ++ l) (sym (take-append-drop (word_len behind) behind) ∙ ap (λ l. name ++ l) h.are ∙ sym (append_assoc name (spelled_value v.0) v.1))
          ∙ sym (append_assoc blank (name ++ spelled_value v.0) v.1);
      is = record {
        apart = nonempty is_ascii_whitespace bytes e;
        white = prefix_all is_ascii_whitespace bytes;
        named = nonempty is_of_name behind g;
        name = prefix_all is_of_name behind;
        value = h.is;
      };
      ends = k;
    }

    values : nat_lt 0 (word_len behind) ≡ true → (o : Option (Value × List ℕ)) → IfSome o (IsValueFound (drop (word_len behind) behind)) → IsFound (attribute_of blank name o)
    values g None h = tt
    values g (Some v) h = ends v g h (begins_white v.1) refl

    words : (t : Bool) → nat_lt 0 (word_len behind) ≡ t → IsFound (cond t (attribute_of blank name (value_at (drop (word_len behind) behind))) None)
    words false g = tt
    words true g = values g (value_at (drop (word_len behind) behind)) (value_sound (drop (word_len behind) behind))

  whites : (t : Bool) → nat_lt 0 (white_len bytes) ≡ t → IsFound (cond t (named_at blank behind) None)
  whites false e = tt
  whites true e = words e (nat_lt 0 (word_len behind)) refl

  pub found_first : IfSome (attribute_at bytes) (λ f. IsFirst bytes f.0 f.1)
  found_first = whites (nat_lt 0 (white_len bytes)) refl

-- what a search answers, by the grammar
pub by_grammar : (bytes : List ℕ) (r : Option (LentAttribute × Bor (List ℕ))) → option_map found_attribute r ≡ attribute_at bytes
    → MatchOption r ((a : Attribute) (rest : List ℕ) → IsFirst bytes a rest → ⊥) (λ f. IsFirst bytes (attribute_seen f.0) f.1.now)
by_grammar bytes None e = λ a rest first. let found : Attribute × List ℕ = (a, rest) in none-some found (e ∙ first_found bytes a rest first)
by_grammar bytes (Some f) e = subst (λ (o : Option (Attribute × List ℕ)). IfSome o (λ f. IsFirst bytes f.0 f.1)) (sym e) (found_first bytes)
