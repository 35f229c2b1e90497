-- What lines begin with, without regard to case.
use Rattle.std.proofs.Common.{◌≡◌, ℕ, ◌+◌, Bool, true, false, [], ◌∷◌, ◌++◌, length, get_or, take, drop, map, refl, sym, ap, ◌∙◌, subst, arith}
use Rattle.std.specs.Char.{to_ascii_lowercase}
use Rattle.std.specs.Str.{IsUtf8, IsCharBoundary}
use Rattle.std.proofs.lemmas.Bool.{eqb-true, both_ways}
use Rattle.std.proofs.lemmas.List.{take-append-drop, length-append, length-map, map-append, take-map, take_at, drop_at, drop-map, get_or_at}
use Rattle.std.proofs.lemmas.Slice.Eq.{bytes_eq-Decides}
use Rattle.std.proofs.lemmas.Str.{IsCharBoundary-after_ascii}
use Rattle.hm_lines.specs.Content.{colon}
use Rattle.hm_lines_files.specs.Components.{Bytes}
use Rattle.hm_ical.specs.Lines.{is_same}
use Rattle.hm_ical.specs.Scanning.{ends_in_colon}
use Rattle.hm_lines.proofs.LowerCase.{colon_like}

abbrev pub lower : Bytes → Bytes
lower bytes = map to_ascii_lowercase bytes

-- ---- names

pub same_lower : (a b : Bytes) → is_same a b ≡ true → lower a ≡ lower b
same_lower a b e = (bytes_eq-Decides (lower a) (lower b)).0 e

pub lower_same : (a b : Bytes) → lower a ≡ lower b → is_same a b ≡ true
lower_same a b e = (bytes_eq-Decides (lower a) (lower b)).1 e

pub itself : (a : Bytes) → is_same a a ≡ true
itself a = lower_same a a refl

pub turned : (a b : Bytes) → is_same a b ≡ true → is_same b a ≡ true
turned a b e = lower_same b a (sym (same_lower a b e))

pub through : (a b c : Bytes) → is_same a b ≡ true → is_same b c ≡ true → is_same a c ≡ true
through a b c e f = lower_same a c (same_lower a b e ∙ same_lower b c f)

-- names that are the same are the same as a third one, or not, alike
pub alike : (a b c : Bytes) → is_same a b ≡ true → is_same a c ≡ is_same b c
alike a b c e = go (is_same a c) (is_same b c) refl refl
  where
    go : (x y : Bool) → is_same a c ≡ x → is_same b c ≡ y → x ≡ y
    go true true p q = refl
    go false false p q = refl
    go true false p q = absurd (both_ways (is_same b c) q (through b a c (turned a b e) p))
    go false true p q = absurd (both_ways (is_same a c) p (through a b c e q))

-- ---- fronts

-- with another name behind the same front
pub same_behind : (line front name other : Bytes) → is_same line (front ++ name) ≡ true → is_same name other ≡ true → is_same line (front ++ other) ≡ true
same_behind line front name other e f =
    lower_same line (front ++ other)
    (same_lower line (front ++ name) e ∙ map-append to_ascii_lowercase front name ∙ ap (λ (l : Bytes). lower front ++ l) (same_lower name other f)
    ∙ sym (map-append to_ascii_lowercase front other))

module _ (line front : Bytes) where
  long : length (lower front) ≡ length front
  long = length-map front to_ascii_lowercase

  pub front_there : is_same (take (length front) line) front ≡ true → is_same line (front ++ drop (length front) line) ≡ true
  front_there e =
      lower_same line (front ++ drop (length front) line)
      (ap lower (sym (take-append-drop (length front) line))
      ∙ map-append to_ascii_lowercase (take (length front) line) (drop (length front) line)
      ∙ ap (λ (l : Bytes). l ++ lower (drop (length front) line)) (same_lower (take (length front) line) front e)
      ∙ sym (map-append to_ascii_lowercase front (drop (length front) line)))

  module _ (rest : Bytes) (e : is_same line (front ++ rest) ≡ true) where
    parted : lower line ≡ lower front ++ lower rest
    parted = same_lower line (front ++ rest) e ∙ map-append to_ascii_lowercase front rest

    pub front_taken : is_same (take (length front) line) front ≡ true
    front_taken =
        lower_same (take (length front) line) front
        (sym (take-map to_ascii_lowercase (length front) line) ∙ ap (take (length front)) parted
        ∙ take_at (lower front) (lower rest) (length front) long)

    pub rest_dropped : is_same (drop (length front) line) rest ≡ true
    rest_dropped =
        lower_same (drop (length front) line) rest
        (sym (drop-map to_ascii_lowercase (length front) line) ∙ ap (drop (length front)) parted
        ∙ drop_at (lower front) (lower rest) (length front) long)

-- ---- a colon

-- a front that ends in a colon has it in the line too
colon_there : (front line rest : Bytes) → ends_in_colon front ≡ true → lower line ≡ lower front ++ rest
    → (before : Bytes) × (after : Bytes) × (line ≡ before ++ colon ∷ after) × (length before + 1 ≡ length front)
colon_there [] line rest e same = let bad : ⊥ = cc in absurd bad
colon_there (b ∷ front) [] rest e same = let bad : ⊥ = cc in absurd bad
colon_there (b ∷ []) (x ∷ line) rest e same =
    let here : to_ascii_lowercase x ≡ to_ascii_lowercase b = cc in
    let is : b ≡ colon = eqb-true b colon e in
    ([], line, ap (λ (y : ℕ). y ∷ line) (colon_like x (here ∙ ap to_ascii_lowercase is)), omega arith)
colon_there (b ∷ c ∷ front) (x ∷ line) rest e same =
    let later : lower line ≡ lower (c ∷ front) ++ rest = cc in
    let found = colon_there (c ∷ front) line rest e later in
    let counted = found.3 in
    (x ∷ found.0, found.1, ap (λ (l : Bytes). x ∷ l) found.2, omega (arith, counted))

-- so that a character ends with it
pub front_boundary : (line front rest : Bytes) → ends_in_colon front ≡ true → is_same line (front ++ rest) ≡ true → IsUtf8 line → IsCharBoundary line (length front)
front_boundary line front rest ends e text =
    let found = colon_there front line (lower rest) ends (parted line front rest e) in
    let read = ap (λ (l : Bytes). get_or l (length found.0) 0) found.2 ∙ get_or_at found.0 colon found.1 0 (length found.0) refl in
    let total = ap length found.2 ∙ length-append found.0 (colon ∷ found.1) in
    subst (IsCharBoundary line) found.3 (IsCharBoundary-after_ascii line (length found.0) text (omega (arith, total)) (omega (arith, read)))
