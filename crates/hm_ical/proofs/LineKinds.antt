-- What a line is, is one thing alone.
use Rattle.std.proofs.Common.{◌≡◌, ℕ, ◌+◌, ◌-◌, ◌≤◌, Bool, true, false, not, cond, ◌&&◌, ◌||◌, codes, [], ◌∷◌, ◌++◌, ◌<◌, length, get_or, drop, Some, refl, sym, ap, ◌∙◌, subst, arith, inl, inr}
use Rattle.std.specs.Prelude.{All}
use Rattle.std.specs.Bool.{nat_lt}
use Rattle.std.specs.List.{list_all}
use Rattle.std.specs.Char.{to_ascii_lowercase}
use Rattle.std.proofs.lemmas.Bool.{cases_lt, lt-ltb, le-ltb, le-leb, lt-leb, both_ways}
use Rattle.std.proofs.lemmas.List.{take_at}
use Rattle.std.proofs.lemmas.List.Elements.{All-cons, All-head, All-tail, All-nil}
use Rattle.hm_lines.specs.declared.content.LineParts.{LineParts}
use Rattle.hm_lines.specs.Content.{colon, is_of_word, IsWord, IsContentLine}
use Rattle.hm_lines.proofs.Laws.{new_line, parted_once}
use Rattle.hm_lines_cards.specs.Lines.{is_of}
use Rattle.hm_lines_files.specs.Components.{Bytes}
use Rattle.hm_ical.specs.Lines.{is_same, is_bare, is_barred, IsBegin, IsEnd, IsProperty}
use Rattle.hm_ical.specs.Scanning.{Kind, begin, end, property, IsKind}
use Rattle.hm_ical.proofs.Fronts.{lower, same_lower, lower_same, front_there, rest_dropped, front_taken}
use Rattle.hm_lines.proofs.LowerCase.{colon_like}

-- ---- words without regard to case

capital : (b : ℕ) → 65 ≤ b → b < 91 → is_of_word b ≡ true
capital b le lt =
    rw (le-leb 48 b (omega arith), lt-leb b 57 (omega arith), le-leb 65 b le, le-leb b 90 (omega arith)) refl

small : (b : ℕ) → 65 ≤ b → b < 91 → is_of_word (b + 32) ≡ true
small b le lt =
    rw (le-leb 48 (b + 32) (omega arith), lt-leb (b + 32) 57 (omega arith), le-leb 65 (b + 32) (omega arith), lt-leb (b + 32) 90 (omega arith), le-leb 97 (b + 32) (omega arith), le-leb (b + 32) 122 (omega arith)) refl

word_lowered : (b : ℕ) → is_of_word (to_ascii_lowercase b) ≡ is_of_word b
word_lowered b = elim (cases_lt b 65) [
  | inl low ↦ ap is_of_word (ap (λ t. cond t b (cond (nat_lt b 91) (b + 32) b)) (lt-ltb b 65 low))
  | inr le ↦ elim (cases_lt b 91) [
    | inl upper ↦
        let lowered : to_ascii_lowercase b ≡ b + 32
        = ap (λ t. cond t b (cond (nat_lt b 91) (b + 32) b)) (le-ltb b 65 le) ∙ ap (λ t. cond t (b + 32) b) (lt-ltb b 91 upper) in
        ap is_of_word lowered ∙ small b le upper ∙ sym (capital b le upper)
    | inr high ↦ ap is_of_word (ap (λ t. cond t b (cond (nat_lt b 91) (b + 32) b)) (le-ltb b 65 le) ∙ ap (λ t. cond t (b + 32) b) (le-ltb b 91 high))
  ]
]

of_word : (a w : Bytes) → lower a ≡ lower w → All (λ b. is_of_word b ≡ true) w → All (λ b. is_of_word b ≡ true) a
of_word [] w e all = All-nil (λ b. is_of_word b ≡ true)
of_word (x ∷ a) [] e all = let bad : ⊥ = cc in absurd bad
of_word (x ∷ a) (c ∷ w) e all =
    let here : to_ascii_lowercase x ≡ to_ascii_lowercase c = cc in
    let later : lower a ≡ lower w = cc in
    All-cons (λ b. is_of_word b ≡ true) x a
    (sym (word_lowered x) ∙ ap is_of_word here ∙ word_lowered c ∙ All-head (λ b. is_of_word b ≡ true) c w all)
    (of_word a w later (All-tail (λ b. is_of_word b ≡ true) c w all))

-- a line that begins with a word and a colon
pub record IsParted (w line : Bytes) : Type 0 where
  pub name : Bytes
  pub value : Bytes
  pub are : line ≡ name ++ colon ∷ value
  pub same : lower name ≡ lower w

parted : (w line name : Bytes) → lower line ≡ lower (w ++ colon ∷ name) → IsParted w line
parted [] [] name e = let bad : ⊥ = cc in absurd bad
parted [] (x ∷ line) name e =
    let here : to_ascii_lowercase x ≡ colon = cc in
    record { name = []; value = line; are = ap (λ (y : ℕ). y ∷ line) (colon_like x here); same = refl }
parted (c ∷ w) [] name e = let bad : ⊥ = cc in absurd bad
parted (c ∷ w) (x ∷ line) name e =
    let here : to_ascii_lowercase x ≡ to_ascii_lowercase c = cc in
    let later : lower line ≡ lower (w ++ colon ∷ name) = cc in
    let rest = parted w line name later in
    record {
      name = x ∷ rest.name;
      value = rest.value;
      are = ap (λ (l : Bytes). x ∷ l) rest.are;
      same = λ i. here i ∷ rest.same i;
    }

-- it's a content line of this name
pub record IsNamed (w line : Bytes) : Type 0 where
  pub parts : LineParts
  pub content : IsContentLine line parts
  pub named : is_of w (line, Some parts) ≡ true

named : (w line name : Bytes) → IsWord w → is_same line (w ++ colon ∷ name) ≡ true → IsNamed w line
named w line name word e =
    let p = parted w line name (same_lower line (w ++ colon ∷ name) e) in
    let q : LineParts = record { name_from = 0; name_to = length p.name; value_from = length p.name + 1 } in
    let is : IsWord p.name = record { some = λ none. some_there w p.name p.same word none; all = of_word p.name w p.same word.all } in
    let read : is_of w (p.name ++ colon ∷ p.value, Some q) ≡ true
    = ap (λ n. is_same n w) (take_at p.name (colon ∷ p.value) (length p.name - 0) (omega arith)) ∙ lower_same p.name w p.same in
    record {
      parts = q;
      content = subst (λ (l : Bytes). IsContentLine l q) (sym p.are) (new_line p.name p.value is);
      named = subst (λ (l : Bytes). is_of w (l, Some q) ≡ true) (sym p.are) read;
    }
  where
    some_there : (w a : Bytes) → lower a ≡ lower w → IsWord w → a ≡ [] → ⊥
    some_there [] a e word none = word.some refl
    some_there (c ∷ w) a e word none = let bad : ⊥ = cc in bad

pub letters : (w : Bytes) → list_all is_of_word w ≡ true → All (λ b. is_of_word b ≡ true) w
letters [] e = All-nil (λ b. is_of_word b ≡ true)
letters (b ∷ w) e = go (is_of_word b) refl e (letters w)
  where
    go : (t : Bool) → is_of_word b ≡ t → (t && list_all is_of_word w) ≡ true → (list_all is_of_word w ≡ true → All (λ b. is_of_word b ≡ true) w)
        → All (λ b. is_of_word b ≡ true) (b ∷ w)
    go true f e rest = All-cons (λ b. is_of_word b ≡ true) b w f (rest e)
    go false f e rest = let bad : ⊥ = cc in absurd bad

word_begin : IsWord (codes "BEGIN")
word_begin = record { some = λ e. let bad : ⊥ = cc in bad; all = letters (codes "BEGIN") refl }

word_end : IsWord (codes "END")
word_end = record { some = λ e. let bad : ⊥ = cc in bad; all = letters (codes "END") refl }

-- ---- no property begins or ends a component

barred_by : (line : Bytes) (p q : LineParts) → IsContentLine line p → IsContentLine line q → is_barred line p ≡ true → is_barred line q ≡ false → ⊥
barred_by line p q one two e f = both_ways (is_barred line q) f (ap (is_barred line) (sym (parted_once line p q one two)) ∙ e)

pub begin_named : (line name : Bytes) → IsBegin name line → IsNamed (codes "BEGIN") line
begin_named line name e = named (codes "BEGIN") line name word_begin e

pub end_named : (line name : Bytes) → IsEnd name line → IsNamed (codes "END") line
end_named line name e = named (codes "END") line name word_end e

pub begin_property : (line name : Bytes) (parts : LineParts) → IsBegin name line → IsProperty line parts → ⊥
begin_property line name parts e is =
    let n = begin_named line name e in
    barred_by line n.parts parts n.content is.content
    (ap (λ b. (b || is_of (codes "END") (line, Some n.parts)) || (is_of (codes "VERSION") (line, Some n.parts) && not (is_bare n.parts))) n.named)
    is.free

pub end_property : (line name : Bytes) (parts : LineParts) → IsEnd name line → IsProperty line parts → ⊥
end_property line name parts e is =
    let n = end_named line name e in
    barred_by line n.parts parts n.content is.content
    (second (is_of (codes "BEGIN") (line, Some n.parts)) (is_of (codes "END") (line, Some n.parts)) _ n.named)
    is.free
  where
    second : (a b c : Bool) → b ≡ true → ((a || b) || c) ≡ true
    second true b c e = refl
    second false true c e = refl
    second false false c e = let bad : ⊥ = cc in absurd bad

pub begin_end : (line name other : Bytes) → IsBegin name line → IsEnd other line → ⊥
begin_end line name other e f =
    let same = sym (same_lower line (codes "BEGIN:" ++ name) e) ∙ same_lower line (codes "END:" ++ other) f in
    let first : ◌≡◌ {A = ℕ} 98 101 = ap (λ (l : Bytes). get_or l 0 0) same in
    omega (arith, first)

-- ---- a line's kind

pub kind_once : (line : Bytes) (k l : Kind) → IsKind line k → IsKind line l → k ≡ l
kind_once line (begin a) (begin b) one two = ap begin (one.1 ∙ sym two.1)
kind_once line (begin a) (end b) one two = absurd (begin_end line a b one.0 two.0)
kind_once line (begin a) (property b) one two = absurd (begin_property line a b one.0 two)
kind_once line (end a) (begin b) one two = absurd (begin_end line b a two.0 one.0)
kind_once line (end a) (end b) one two = ap end (one.1 ∙ sym two.1)
kind_once line (end a) (property b) one two = absurd (end_property line a b one.0 two)
kind_once line (property a) (begin b) one two = absurd (begin_property line b a two.0 one)
kind_once line (property a) (end b) one two = absurd (end_property line b a two.0 one)
kind_once line (property a) (property b) one two = ap property (parted_once line a b one.content two.content)

-- what begins or ends a component of a name, has this name without regard to case
pub record IsBeginOf (name line : Bytes) : Type 0 where
  pub is : IsKind line (begin (drop 6 line))
  pub same : is_same (drop 6 line) name ≡ true

pub begins : (name line : Bytes) → IsBegin name line → IsBeginOf name line
begins name line e = record {
  is = (front_there line (codes "BEGIN:") (front_taken line (codes "BEGIN:") name e), refl);
  same = rest_dropped line (codes "BEGIN:") name e;
}

pub record IsEndOf (name line : Bytes) : Type 0 where
  pub is : IsKind line (end (drop 4 line))
  pub same : is_same (drop 4 line) name ≡ true

pub ends : (name line : Bytes) → IsEnd name line → IsEndOf name line
ends name line e = record {
  is = (front_there line (codes "END:") (front_taken line (codes "END:") name e), refl);
  same = rest_dropped line (codes "END:") name e;
}

-- a line of none of the kinds
pub no_kind : (line : Bytes) → ((name : Bytes) → is_same line (codes "BEGIN:" ++ name) ≡ false) → ((name : Bytes) → is_same line (codes "END:" ++ name) ≡ false)
    → ((parts : LineParts) → ¬ (IsProperty line parts)) → (kind : Kind) → ¬ (IsKind line kind)
no_kind line none other last (begin name) is = both_ways (is_same line (codes "BEGIN:" ++ name)) (none name) is.0
no_kind line none other last (end name) is = both_ways (is_same line (codes "END:" ++ name)) (other name) is.0
no_kind line none other last (property parts) is = last parts is

pub barred_no : (line : Bytes) (p : LineParts) → IsContentLine line p → is_barred line p ≡ true → (q : LineParts) → ¬ (IsProperty line q)
barred_no line p content barred q is = barred_by line p q content is.content barred is.free
