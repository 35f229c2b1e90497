-- The parts of a content line are found, and there is one way alone to part it.
use Rattle.std.proofs.Common.{◌≡◌, ◌≢◌, ◌⊎◌, ℕ, suc, ◌+◌, ◌-◌, ◌<◌, ◌≤◌, Bool, true, false, cond, ◌&&◌, List, [], ◌∷◌, ◌++◌, length, get_or, take, drop, All, Option, Some, None, refl, sym, ap, ◌∙◌, subst, arith, inl, inr}
use Rattle.std.specs.Prelude.{MatchOption, IfSome}
use Rattle.std.specs.Bool.{◌==◌, nat_lt}
use Rattle.std.specs.List.{prefix_len}
use Rattle.std.specs.Str.{IsUtf8, IsCharBoundary}
use Rattle.std.proofs.lemmas.Bool.{cases_lt, lt-ltb, and_parts, ltb-true, eqb-true}
use Rattle.std.proofs.lemmas.List.{append_assoc, length-append, length-drop, length-take-le, drop_at, take_at, get_or_at, drop_more, take_more, take-append-drop, drop-drop, get_or-take, get_or_past, take_rest}
use Rattle.std.proofs.lemmas.List.Sums.{prefix_len-le-length, prefix_len_passes}
use Rattle.std.proofs.lemmas.Str.{IsCharBoundary-start, IsCharBoundary-before_ascii, IsCharBoundary-after_ascii}
use Rattle.hm_lines.specs.declared.content.LineParts.{LineParts}
use Rattle.hm_lines.specs.Content.{colon, semicolon, dot, is_of_word, IsWord, IsGroup, AreParameters, IsBeforeColon, IsContentLine, IsCutBetweenCharacters, group_len, BeginsWithParameters}

-- ---- words

word_prefix : (word rest : List ℕ) → All (λ b. is_of_word b ≡ true) word → prefix_len is_of_word (word ++ rest) ≡ length word + prefix_len is_of_word rest
word_prefix [] rest all = omega arith
word_prefix (b ∷ word) rest all =
    let e : is_of_word b ≡ true = all 0 b (omega arith) in
    let more = word_prefix word rest (λ k d lt. all (suc k) d (omega arith)) in
    ap (λ c. cond c (1 + prefix_len is_of_word (word ++ rest)) 0) e ∙ (omega arith)

some_word : (word : List ℕ) → word ≢ [] → 0 < length word
some_word [] some = absurd (some refl)
some_word (b ∷ word) some = omega arith

-- what stands behind a name
record IsTail (tail : List ℕ) : Type 0 where
  first : ℕ
  rest : List ℕ
  is : tail ≡ first ∷ rest
  no_word : is_of_word first ≡ false
  no_dot : (first == dot) ≡ false
  ascii : first < 128

is_tail : (parameters value : List ℕ) → AreParameters parameters → IsTail (parameters ++ colon ∷ value)
is_tail parameters value (inl none) =
    record { first = colon; rest = value; is = ap (λ l. l ++ colon ∷ value) none; no_word = refl; no_dot = refl; ascii = omega arith }
is_tail parameters value (inr (rest, is)) =
    record { first = semicolon; rest = rest ++ colon ∷ value; is = ap (λ l. l ++ colon ∷ value) is; no_word = refl; no_dot = refl; ascii = omega arith }

tail_no_word : (tail : List ℕ) → IsTail tail → prefix_len is_of_word tail ≡ 0
tail_no_word tail is =
    ap (prefix_len is_of_word) is.is ∙ ap (λ c. cond c (1 + prefix_len is_of_word is.rest) 0) is.no_word

name_prefix : (name tail : List ℕ) → IsWord name → IsTail tail → prefix_len is_of_word (name ++ tail) ≡ length name
name_prefix name tail word is = let e = word_prefix name tail word.all in let none = tail_no_word tail is in omega arith

-- ---- the group

module _ (name tail : List ℕ) (word : IsWord name) (is : IsTail tail) where
  no_group : group_len (name ++ tail) ≡ 0
  no_group =
      ap (λ n. cond (nat_lt 0 n && (get_or (name ++ tail) n 0 == dot)) (n + 1) 0) (name_prefix name tail word is)
      ∙ ap (λ b. cond (nat_lt 0 (length name) && (b == dot)) (length name + 1) 0)
      (ap (λ l. get_or (name ++ l) (length name) 0) is.is ∙ get_or_at name is.first is.rest 0 (length name) refl)
      ∙ ap (λ c. cond (nat_lt 0 (length name) && c) (length name + 1) 0) is.no_dot
      ∙ off (nat_lt 0 (length name)) (length name + 1)
    where
      off : (c : Bool) (n : ℕ) → cond (c && false) n 0 ≡ 0
      off true n = refl
      off false n = refl

a_group : (word rest : List ℕ) → IsWord word → group_len (word ++ dot ∷ rest) ≡ length word + 1
a_group word rest is =
    ap (λ n. cond (nat_lt 0 n && (get_or (word ++ dot ∷ rest) n 0 == dot)) (n + 1) 0) prefix
    ∙ ap (λ b. cond (nat_lt 0 (length word) && (b == dot)) (length word + 1) 0) (get_or_at word dot rest 0 (length word) refl)
    ∙ ap (λ c. cond (c && true) (length word + 1) 0) (lt-ltb 0 (length word) (some_word word is.some))
  where
    prefix : prefix_len is_of_word (word ++ dot ∷ rest) ≡ length word
    prefix = word_prefix word (dot ∷ rest) is.all ∙ (omega arith)

group_found : (group name tail : List ℕ) → IsGroup group → IsWord name → IsTail tail → group_len (group ++ (name ++ tail)) ≡ length group
group_found group name tail (inl none) word is =
    ap (λ l. group_len (l ++ (name ++ tail))) none ∙ no_group name tail word is ∙ sym (ap length none)
group_found group name tail (inr (first, (of_word, parts))) word is =
    ap (λ l. group_len (l ++ (name ++ tail))) parts ∙ ap group_len (append_assoc first (dot ∷ []) (name ++ tail))
    ∙ a_group first (name ++ tail) of_word ∙ sym (length-append first (dot ∷ [])) ∙ sym (ap length parts)

-- ---- the parts of a content line are those that are found

-- at these places stand the parts that are found
pub record AreFound (line : List ℕ) (from to parameters : ℕ) : Type 0 where
  pub group : group_len line ≡ from
  pub name : from + prefix_len is_of_word (drop from line) ≡ to
  pub some : from < to
  pub has : BeginsWithParameters (drop to line) parameters

module _ (line : List ℕ) (parts : LineParts) (is : IsContentLine line parts) where
  tail : List ℕ
  tail = is.parameters ++ colon ∷ is.value

  tail_is : IsTail tail
  unfolding tail
  tail_is = is_tail is.parameters is.value is.are_parameters

  parted : line ≡ is.group ++ (is.name ++ tail)
  unfolding tail
  parted = is.bytes

  behind_group : drop (length is.group) line ≡ is.name ++ tail
  behind_group = ap (drop (length is.group)) parted ∙ drop_at is.group (is.name ++ tail) (length is.group) refl

  behind_name : drop (length is.group + length is.name) line ≡ tail
  behind_name =
      sym (drop-drop (length is.name) (length is.group) line) ∙ ap (drop (length is.name)) behind_group ∙ drop_at is.name tail (length is.name) refl

  found_group : group_len line ≡ length is.group
  found_group = ap group_len parted ∙ group_found is.group is.name tail is.is_group is.is_name tail_is

  found_name : prefix_len is_of_word (drop (length is.group) line) ≡ length is.name
  found_name = ap (prefix_len is_of_word) behind_group ∙ name_prefix is.name tail is.is_name tail_is

  found_parameters : BeginsWithParameters tail (length is.parameters)
  unfolding tail
  found_parameters =
      let len = length-append is.parameters (colon ∷ is.value) in
      let front = take_at is.parameters (colon ∷ is.value) (length is.parameters) refl in
      record {
        colon = record {
          within = omega arith;
          is_colon = get_or_at is.parameters colon is.value 0 (length is.parameters) refl;
          before = subst IsBeforeColon (sym front) is.before_colon;
        };
        are_parameters = subst AreParameters (sym front) is.are_parameters;
      }

  pub are_found : AreFound line (length is.group) (length is.group + length is.name) (length is.parameters)
  are_found = record {
    group = found_group;
    name = ap (λ n. length is.group + n) found_name;
    some = let some = some_word is.name is.is_name.some in omega arith;
    has = subst (λ l. BeginsWithParameters l (length is.parameters)) (sym behind_name) found_parameters;
  }

-- ---- and where they are found the line is a content line

prefix_is_word : (bytes : List ℕ) → 0 < prefix_len is_of_word bytes → IsWord (take (prefix_len is_of_word bytes) bytes)
prefix_is_word bytes some =
    let within = prefix_len-le-length is_of_word bytes in
    let len = length-take-le (prefix_len is_of_word bytes) bytes within in
    record {
      some = λ none. let zero_long = ap length none in absurd (omega arith);
      all = λ k d lt.
          ap is_of_word (get_or-take (prefix_len is_of_word bytes) bytes k d (omega arith))
          ∙ prefix_len_passes is_of_word bytes k d (omega arith);
    }

-- a group that is found
record HasGroup (line : List ℕ) (n : ℕ) : Type 0 where
  group : IsGroup (take n line)
  fits : n ≤ length line

has_group : (line : List ℕ) (n : ℕ) → n ≡ prefix_len is_of_word line → (c : Bool) → (nat_lt 0 n && (get_or line n 0 == dot)) ≡ c
    → HasGroup line (cond c (n + 1) 0)
has_group line n is false e = record { group = inl refl; fits = omega arith }
has_group line n is true e =
    let parts = and_parts (nat_lt 0 n) (get_or line n 0 == dot) e in
    let some = ltb-true 0 n parts.0 in
    let is_dot = eqb-true (get_or line n 0) dot parts.1 in
    let within : n < length line = dot_within is_dot (cases_lt n (length line)) in
    record {
      group =
          inr (
            take n line,
            (
              subst (λ k. IsWord (take k line)) (sym is) (prefix_is_word line (omega arith)),
              take_more line n 0 within ∙ ap (λ b. take n line ++ b ∷ []) is_dot,
            ),
          );
      fits = omega arith;
    }
  where
    dot_within : get_or line n 0 ≡ dot → (n < length line) ⊎ (length line ≤ n) → n < length line
    dot_within is_dot (inl lt) = lt
    dot_within is_dot (inr le) = let past = get_or_past line n 0 le in absurd (omega arith)

module _ (line : List ℕ) (from to n : ℕ) (found : AreFound line from to n) where
  w : ℕ
  w = prefix_len is_of_word (drop from line)

  rest : List ℕ
  rest = drop to line

  of_group : HasGroup line from
  of_group = subst (HasGroup line) found.group (has_group line (prefix_len is_of_word line) refl _ refl)

  behind : drop w (drop from line) ≡ rest
  unfolding w rest
  behind = drop-drop w from line ∙ ap (λ k. drop k line) found.name

  value_parted : rest ≡ take n rest ++ colon ∷ drop (n + 1) rest
  unfolding rest
  value_parted =
      sym (take-append-drop n (drop to line))
      ∙ ap (λ l. take n (drop to line) ++ l)
      (drop_more (drop to line) n 0 found.has.colon.within ∙ ap (λ b. b ∷ drop (n + 1) (drop to line)) found.has.colon.is_colon)

  bytes_are : line ≡ take from line ++ (take w (drop from line) ++ (take n rest ++ colon ∷ drop (n + 1) rest))
  bytes_are =
      sym (take-append-drop from line)
      ∙ ap (λ l. take from line ++ l) (sym (take-append-drop w (drop from line)) ∙ ap (λ l. take w (drop from line) ++ l) (behind ∙ value_parted))

  long_name : from + w ≡ to
  unfolding w
  long_name = found.name

  of_name : IsWord (take w (drop from line))
  unfolding w
  of_name = let name = found.name in let some = found.some in prefix_is_word (drop from line) (omega arith)

  name_within : w ≤ length (drop from line)
  unfolding w
  name_within = prefix_len-le-length is_of_word (drop from line)

  pub content_line : IsContentLine line (record { name_from = from; name_to = to; value_from = to + n + 1 })
  unfolding rest
  content_line =
      let group_long = length-take-le from line of_group.fits in
      let name_long = length-take-le w (drop from line) name_within in
      let within = found.has.colon.within in
      let parameters_long = length-take-le n rest (omega arith) in
      let name = long_name in
      record {
        group = take from line;
        name = take w (drop from line);
        parameters = take n rest;
        value = drop (n + 1) rest;
        bytes = bytes_are;
        is_group = of_group.group;
        is_name = of_name;
        are_parameters = found.has.are_parameters;
        before_colon = found.has.colon.before;
        name_from = sym group_long;
        name_to = omega arith;
        value_from = omega arith;
      }

-- ---- no way to part a line, or one alone

module _ (line : List ℕ) (from w : ℕ) (group : from ≡ group_len line) (name_is : w ≡ prefix_len is_of_word (drop from line)) where
  pub name_fits : from + w ≤ length line
  name_fits =
      let fits = (subst (HasGroup line) (sym group) (has_group line (prefix_len is_of_word line) refl _ refl)).fits in
      let long = name_is in
      let within = prefix_len-le-length is_of_word (drop from line) in
      let rest = length-drop from line in
      omega arith

  module _ (parts : LineParts) (is : IsContentLine line parts) where
    same_from : from ≡ length is.group
    same_from = group ∙ (are_found line parts is).group

    same_to : from + w ≡ length is.group + length is.name
    same_to =
        (λ i. same_from i + (name_is ∙ ap (λ k. prefix_len is_of_word (drop k line)) same_from) i) ∙ (are_found line parts is).name

    pub no_name : w ≡ 0 → ⊥
    no_name e = let same = same_to in let at = same_from in let some = (are_found line parts is).some in omega arith

    pub no_parameters : ((count : ℕ) → ¬ (BeginsWithParameters (take (length line - (from + w)) (drop (from + w) line)) count)) → ⊥
    no_parameters none =
        none (length is.parameters)
        (subst (λ l. BeginsWithParameters l (length is.parameters)) (sym (take_rest line (from + w) ∙ ap (λ k. drop k line) same_to))
        (are_found line parts is).has)

  pub found_line : (n : ℕ) → (w ≡ 0 → ⊥) → BeginsWithParameters (take (length line - (from + w)) (drop (from + w) line)) n
      → IsContentLine line (record { name_from = from; name_to = from + w; value_from = from + w + n + 1 })
  found_line n some has =
      content_line line from (from + w) n
      (record {
        group = sym group;
        name = ap (λ k. from + k) (sym name_is);
        some = some_name (cases_lt from (from + w));
        has = subst (λ l. BeginsWithParameters l n) (take_rest line (from + w)) has;
      })
    where
      some_name : (from < from + w) ⊎ (from + w ≤ from) → from < from + w
      some_name (inl lt) = lt
      some_name (inr le) = absurd (some (omega arith))

-- ---- between characters

module _ (line front : List ℕ) (b : ℕ) (rest : List ℕ) (is : line ≡ front ++ b ∷ rest) (low : b < 128) where
  within : length front < length line
  within = let len = ap length is in let more = length-append front (b ∷ rest) in omega arith

  reads : get_or line (length front) 0 < 128
  reads = subst (λ x. x < 128) (sym (ap (λ l. get_or l (length front) 0) is ∙ get_or_at front b rest 0 (length front) refl)) low

  before_it : IsCharBoundary line (length front)
  before_it = IsCharBoundary-before_ascii line (length front) within reads

  behind_it : IsUtf8 line → IsCharBoundary line (length front + 1)
  behind_it u = IsCharBoundary-after_ascii line (length front) u within reads

module _ (line : List ℕ) (parts : LineParts) (is : IsContentLine line parts) (u : IsUtf8 line) where
  from_boundary : (group : List ℕ) (rest : List ℕ) → line ≡ group ++ rest → IsGroup group → IsCharBoundary line (length group)
  from_boundary group rest parted (inl none) = subst (IsCharBoundary line) (sym (ap length none)) (IsCharBoundary-start line u)
  from_boundary group rest parted (inr (word, (of_word, ends))) =
      subst (IsCharBoundary line) (sym (ap length ends ∙ length-append word (dot ∷ [])))
      (behind_it line word dot rest (parted ∙ ap (λ l. l ++ rest) ends ∙ append_assoc word (dot ∷ []) rest) (omega arith) u)

  to_boundary : (tail : IsTail (is.parameters ++ colon ∷ is.value)) → IsCharBoundary line (length is.group + length is.name)
  to_boundary tail =
      subst (IsCharBoundary line) (length-append is.group is.name)
      (before_it line (is.group ++ is.name) tail.first tail.rest
      (is.bytes ∙ ap (λ l. is.group ++ (is.name ++ l)) tail.is ∙ sym (append_assoc is.group is.name (tail.first ∷ tail.rest))) tail.ascii)

  value_boundary : IsCharBoundary line (length is.group + length is.name + length is.parameters + 1)
  value_boundary =
      subst (IsCharBoundary line)
      (let one = length-append is.group (is.name ++ is.parameters) in let two = length-append is.name is.parameters in omega arith)
      (behind_it line (is.group ++ (is.name ++ is.parameters)) colon is.value
      (is.bytes ∙ ap (λ l. is.group ++ l) (sym (append_assoc is.name is.parameters (colon ∷ is.value)))
      ∙ sym (append_assoc is.group (is.name ++ is.parameters) (colon ∷ is.value))) (omega arith) u)

  pub cut_between : IsCutBetweenCharacters line parts
  cut_between = record {
    name_from = subst (IsCharBoundary line) (sym is.name_from) (from_boundary is.group (is.name ++ (is.parameters ++ colon ∷ is.value)) is.bytes is.is_group);
    name_to = subst (IsCharBoundary line) (sym is.name_to) (to_boundary (is_tail is.parameters is.value is.are_parameters));
    value_from = subst (IsCharBoundary line) (sym is.value_from) value_boundary;
    ordered = let from = is.name_from in let to = is.name_to in omega arith;
  }

pub all_between : (line : List ℕ) (found : Option LineParts) → IsUtf8 line
    → MatchOption found ((parts : LineParts) → ¬ (IsContentLine line parts)) (IsContentLine line) → IfSome found (IsCutBetweenCharacters line)
all_between line None u is = tt
all_between line (Some parts) u is = cut_between line parts is u
