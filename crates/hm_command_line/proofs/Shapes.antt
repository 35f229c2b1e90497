-- What a word looks like to the lexer of clap, by whether it is a flag.
use Rattle.std.proofs.Common.{zero, suc, ◌≡◌, ◌∙◌, inl, inr, ◌==◌, ◌<◌, ◌≢◌, ℕ, Bool, true, false, refl, sym, ap, subst, codes, arith, List, [], ◌∷◌, ◌++◌, length, get_or, Option, Some, None, is_some, if◌then◌else◌, true≢false, IsUtf8}
use Rattle.std.specs.List.{before_first, after_first}
use Rattle.std.specs.Str.{bytes_eq, chars, encode_utf8_all as encodes}
use Rattle.std.proofs.lemmas.Bool.Decides.{nat_tests}
use Rattle.std.proofs.lemmas.Slice.Eq.{bytes_eq-Decides}
use Rattle.std.proofs.lemmas.Str.{encode_ascii, encodes-chars, IsUtf8-past_char}
use Rattle.clap.specs.Lexer.{long_of, short_of, has_byte}
use Rattle.clap.specs.Walk.{Row, Text}
use Rattle.clap.proofs.CutLemmas.{Lacks, before_first-Lacks}
use Rattle.hm_command_line.specs.Words.{is_end, is_quiet, is_flag}
use Rattle.hm_command_line.proofs.Turns.{turn_as, IsWrong, long_turn, short_turn}

pub long_of_plain : (word : Text) → is_flag word ≡ false → long_of word ≡ None
long_of_plain [] e = refl
long_of_plain (c ∷ []) e = go (c == 45) refl
  where
    go : (b : Bool) → (c == 45) ≡ b → long_of (c ∷ []) ≡ None
    go true t = rw t refl
    go false t = rw t refl
long_of_plain (c ∷ d ∷ cs) e = rw e refl

pub short_of_plain : (word : Text) → is_flag word ≡ false → short_of word ≡ None
short_of_plain [] e = refl
short_of_plain (c ∷ []) e = go (c == 45) refl
  where
    go : (b : Bool) → (c == 45) ≡ b → short_of (c ∷ []) ≡ None
    go true t = rw t refl
    go false t = rw t refl
short_of_plain (c ∷ d ∷ cs) e = rw e refl

-- a text that lacks a byte
lacks_from : (c : ℕ) (xs : List ℕ) → has_byte c xs ≡ false → Lacks c xs
lacks_from c [] e i lt = absurd (omega arith)
lacks_from c (x ∷ xs) e i lt = go (x == c) refl (lacks_from c xs) i lt
  where
    go : (b : Bool) → (x == c) ≡ b → (has_byte c xs ≡ false → Lacks c xs) → (i : ℕ) → i < length (x ∷ xs) → get_or (x ∷ xs) i 0 ≢ c
    go true t later i lt = let no : true ≡ false = rw t at e in absurd (true≢false no)
    go false t later zero lt = let ne : x ≢ c = grind (arith, nat_tests) in ne
    go false t later (suc i) lt = let past : has_byte c xs ≡ false = rw t at e in later past i (omega arith)

-- what follows a first hyphen in a text is a text, and has a first character if it isn't empty
first_char : (d : ℕ) (ds cs : List ℕ) → chars (d ∷ ds) ≡ cs → IsUtf8 (45 ∷ d ∷ ds) → (x : ℕ) × (xs : List ℕ) × (chars (d ∷ ds) ≡ x ∷ xs)
first_char d ds [] e utf8 =
    let rest : IsUtf8 (d ∷ ds) = IsUtf8-past_char (45 ∷ d ∷ ds) (d ∷ ds) 45 utf8 (ap (λ cs. cs ++ d ∷ ds) (sym (encode_ascii 45 (omega arith)))) in
    let none : encodes [] ≡ d ∷ ds = rw e at (encodes-chars (d ∷ ds) rest) in
    let no : ⊥ = cc in absurd no
first_char d ds (x ∷ xs) e utf8 = (x, xs, e)

-- a flag of one hyphen
one_hyphen : (rows : List Row) (pending : Option Text) (waits : Bool) (d : ℕ) (ds : List ℕ) → (d == 45) ≡ false → IsUtf8 (45 ∷ d ∷ ds)
    → IsWrong (turn_as rows pending waits (45 ∷ d ∷ ds) false (long_of (45 ∷ d ∷ ds)) (short_of (45 ∷ d ∷ ds))).1
one_hyphen rows pending waits d ds e utf8 =
    let first = first_char d ds (chars (d ∷ ds)) refl utf8 in
    let long : long_of (45 ∷ d ∷ ds) ≡ None = rw e refl in
    let short : short_of (45 ∷ d ∷ ds) ≡ Some (d ∷ ds) = rw e refl in
    subst (λ (l : Option (Text × Option Text)). IsWrong (turn_as rows pending waits (45 ∷ d ∷ ds) false l (short_of (45 ∷ d ∷ ds))).1) (sym long)
    (subst (λ (s : Option Text). IsWrong (turn_as rows pending waits (45 ∷ d ∷ ds) false None s).1) (sym short)
    (short_turn rows pending waits (45 ∷ d ∷ ds) d first.0 ds first.1 first.2))

differ_back : (xs ys : List ℕ) → bytes_eq xs ys ≡ false → bytes_eq ys xs ≡ false
differ_back xs ys other = go (bytes_eq ys xs) refl
  where
    go : (b : Bool) → bytes_eq ys xs ≡ b → bytes_eq ys xs ≡ false
    go false t = t
    go true t = absurd (true≢false (sym ((bytes_eq-Decides xs ys).1 (sym ((bytes_eq-Decides ys xs).0 t))) ∙ other))

abbrev name_of : Text → Text
name_of text = before_first (λ x. x == 61) text

abbrev value_of : Text → Option Text
value_of text = if has_byte 61 text then Some (after_first (λ x. x == 61) text) else None

valued : (text : Text) → has_byte 61 text ≡ true → is_some (value_of text) ≡ true
valued text t = rw t refl

-- a flag of two hyphens that isn't `--quiet`
two_hyphens : (rows : List Row) (pending : Option Text) (waits : Bool) (e : ℕ) (es : List ℕ) → is_quiet (45 ∷ 45 ∷ e ∷ es) ≡ false
    → IsWrong (turn_as rows pending waits (45 ∷ 45 ∷ e ∷ es) false (long_of (45 ∷ 45 ∷ e ∷ es)) (short_of (45 ∷ 45 ∷ e ∷ es))).1
two_hyphens rows pending waits e es other = go (has_byte 61 (e ∷ es)) refl
  where
    go : (b : Bool) → has_byte 61 (e ∷ es) ≡ b
        → IsWrong (turn_as rows pending waits (45 ∷ 45 ∷ e ∷ es) false (long_of (45 ∷ 45 ∷ e ∷ es)) (short_of (45 ∷ 45 ∷ e ∷ es))).1
    go true t = long_turn rows pending waits (45 ∷ 45 ∷ e ∷ es) (name_of (e ∷ es)) (value_of (e ∷ es)) (short_of (45 ∷ 45 ∷ e ∷ es)) (inr (valued (e ∷ es) t))
    go false t =
        let whole : before_first (λ x. x == 61) (e ∷ es) ≡ e ∷ es = before_first-Lacks 61 (e ∷ es) (lacks_from 61 (e ∷ es) t) in
        let apart : bytes_eq (codes "quiet") (e ∷ es) ≡ false = differ_back (e ∷ es) (codes "quiet") other in
        long_turn rows pending waits (45 ∷ 45 ∷ e ∷ es) (name_of (e ∷ es)) (value_of (e ∷ es)) (short_of (45 ∷ 45 ∷ e ∷ es)) (inl (ap (bytes_eq (codes "quiet")) whole ∙ apart))

abbrev IsRefused : List Row → Option Text → Bool → Text → Type 0
IsRefused rows pending waits word = IsWrong (turn_as rows pending waits word false (long_of word) (short_of word)).1

hyphens : (rows : List Row) (pending : Option Text) (waits : Bool) (d : ℕ) (ds : List ℕ) (two : Bool) → (d == 45) ≡ two
    → IsUtf8 (45 ∷ d ∷ ds) → is_end (45 ∷ d ∷ ds) ≡ false → is_quiet (45 ∷ d ∷ ds) ≡ false → IsRefused rows pending waits (45 ∷ d ∷ ds)
hyphens rows pending waits d ds false t utf8 end other = one_hyphen rows pending waits d ds t utf8
hyphens rows pending waits d [] true t utf8 end other =
    let same : d ≡ 45 = grind (arith, nat_tests) in
    let no : true ≡ false = subst (λ (x : ℕ). is_end (45 ∷ x ∷ []) ≡ false) same end in absurd (true≢false no)
hyphens rows pending waits d (e ∷ es) true t utf8 end other =
    let same : 45 ≡ d = grind (arith, nat_tests) in
    subst (λ (x : ℕ). IsRefused rows pending waits (45 ∷ x ∷ e ∷ es)) same
    (two_hyphens rows pending waits e es (subst (λ (x : ℕ). is_quiet (45 ∷ x ∷ e ∷ es) ≡ false) (sym same) other))

-- a flag that is neither `--` nor `--quiet` is wrong
pub flag_turn : (rows : List Row) (pending : Option Text) (waits : Bool) (word : Text) → IsUtf8 word → is_flag word ≡ true → is_end word ≡ false → is_quiet word ≡ false
    → IsRefused rows pending waits word
flag_turn rows pending waits [] utf8 flag end other = absurd (true≢false (sym flag))
flag_turn rows pending waits (c ∷ []) utf8 flag end other = absurd (true≢false (sym flag))
flag_turn rows pending waits (c ∷ d ∷ ds) utf8 flag end other =
    let same : 45 ≡ c = grind (arith, nat_tests) in
    subst (λ (x : ℕ). IsUtf8 (x ∷ d ∷ ds) → is_end (x ∷ d ∷ ds) ≡ false → is_quiet (x ∷ d ∷ ds) ≡ false → IsRefused rows pending waits (x ∷ d ∷ ds)) same
    (hyphens rows pending waits d ds (d == 45) refl) utf8 end other
