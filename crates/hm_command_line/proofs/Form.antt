-- Words read one by one, and what they say as a whole.
use Rattle.std.proofs.Common.{suc, ◌≡◌, ◌∙◌, ◌+◌, ◌&&◌, ◌||◌, ◌++◌, ℕ, Bool, not, true, false, refl, sym, ap, ap₂, arith, List, [], ◌∷◌, Option, Some, None, if◌then◌else◌, take, drop}
use Rattle.std.specs.Prelude.{nat_le, length}
use Rattle.std.specs.List.{before_first, after_first, position_or_len, list_any, list_all, filter}
use Rattle.std.proofs.lemmas.Bool.Decides.{nat_tests}
use Rattle.clap.specs.Walk.{Text}
use Rattle.hm_command_line.specs.Words.{LineValue, is_end, is_quiet, is_flag, front, back, line_in, line_of}
use Rattle.hm_command_line.proofs.Following.{reads, reads_quiet, reads_plain, behind_word}
use Rattle.std.specs.Option.{option_map}

module _ {X : Type 0} (p : X → Bool) (x : X) (xs : List X) where
  before_first_here : p x ≡ true → before_first p (x ∷ xs) ≡ []
  before_first_here e = rw e refl

  before_first_later : p x ≡ false → before_first p (x ∷ xs) ≡ x ∷ before_first p xs
  before_first_later e =
      let next : 1 + position_or_len p xs ≡ suc (position_or_len p xs) = omega arith in
      rw e (ap (λ n. take n (x ∷ xs)) next)

  after_first_here : p x ≡ true → after_first p (x ∷ xs) ≡ xs
  after_first_here e = rw e refl

  after_first_later : p x ≡ false → after_first p (x ∷ xs) ≡ after_first p xs
  after_first_later e =
      let next : 1 + position_or_len p xs + 1 ≡ suc (position_or_len p xs + 1) = omega arith in
      rw e (ap (λ n. drop n (x ∷ xs)) next)

-- ---- what words say, where `--quiet` was seen before or wasn't

abbrev is_known : Text → Bool
is_known word = is_quiet word || not (is_flag word)

abbrev seen_once : Bool → ℕ
seen_once seen = if seen then 1 else 0

abbrev form : Bool → List Text → Bool
form seen fs = nat_le (length (filter is_quiet fs) + seen_once seen) 1 && list_all is_known fs

abbrev line : Bool → List Text → List Text → LineValue
line seen fs bs = record { quiet = seen || list_any is_quiet fs; words = filter (λ word. not (is_quiet word)) fs ++ bs }

abbrev said : Bool → List Text → List Text → Option LineValue
said seen fs bs = if form seen fs then Some (line seen fs bs) else None

or_false : (b : Bool) → (b || false) ≡ b
or_false true = refl
or_false false = refl

said_end : (seen : Bool) (bs : List Text) → said seen [] bs ≡ Some (record { quiet = seen; words = bs })
said_end true bs = refl
said_end false bs = refl

and_false : (b : Bool) → (b && false) ≡ false
and_false true = refl
and_false false = refl

said_quiet : (seen : Bool) (w : Text) (fs bs : List Text) → is_quiet w ≡ true → said seen (w ∷ fs) bs ≡ reads_quiet seen (said true fs bs)
said_quiet true w fs bs q =
    let many : nat_le (suc (length (filter is_quiet fs)) + 1) 1 ≡ false = grind (arith, nat_tests) in
    rw (q, many) refl
said_quiet false w fs bs q =
    let as_seen : suc (length (filter is_quiet fs)) + 0 ≡ length (filter is_quiet fs) + 1 = omega arith in
    rw (q, as_seen) refl

said_word : (seen flag : Bool) (w : Text) (fs bs : List Text) → is_quiet w ≡ false → is_flag w ≡ flag
    → said seen (w ∷ fs) bs ≡ reads_plain w flag (said seen fs bs)
said_word seen true w fs bs q f = rw (q, f, and_false) refl
said_word seen false w fs bs q f = rw (q, f) (go (form seen fs))
  where
    go : (b : Bool) → (if b then Some (behind_word w (line seen fs bs)) else None) ≡ option_map (behind_word w) (if b then Some (line seen fs bs) else None)
    go true = refl
    go false = refl

-- one word of each kind is read so
reads_end : (seen : Bool) (w : Text) (ws : List Text) → is_end w ≡ true → reads seen (w ∷ ws) ≡ Some (record { quiet = seen; words = ws })
reads_end seen w ws e = rw e refl

reads_flag : (seen : Bool) (w : Text) (ws : List Text) → is_end w ≡ false → is_quiet w ≡ true → reads seen (w ∷ ws) ≡ reads_quiet seen (reads true ws)
reads_flag seen w ws e q = rw (e, q) refl

reads_word : (seen : Bool) (w : Text) (ws : List Text) → is_end w ≡ false → is_quiet w ≡ false
    → reads seen (w ∷ ws) ≡ reads_plain w (is_flag w) (reads seen ws)
reads_word seen w ws e q = rw (e, q) refl

-- words read one by one say what they say as a whole
reads_said : (seen : Bool) (words : List Text) → reads seen words ≡ said seen (front words) (back words)
reads_said seen [] = sym (said_end seen [])
reads_said seen (w ∷ ws) = go (is_end w) (is_quiet w) refl refl (reads_said true ws) (reads_said seen ws)
  where
    go : (end q : Bool) → is_end w ≡ end → is_quiet w ≡ q → reads true ws ≡ said true (front ws) (back ws) → reads seen ws ≡ said seen (front ws) (back ws)
        → reads seen (w ∷ ws) ≡ said seen (front (w ∷ ws)) (back (w ∷ ws))
    go true q e qe rq rp =
        reads_end seen w ws e ∙ sym (said_end seen ws)
        ∙ sym (ap₂ (said seen) (before_first_here is_end w ws e) (after_first_here is_end w ws e))
    go false true e qe rq rp =
        reads_flag seen w ws e qe ∙ ap (reads_quiet seen) rq ∙ sym (said_quiet seen w (front ws) (back ws) qe)
        ∙ sym (ap₂ (said seen) (before_first_later is_end w ws e) (after_first_later is_end w ws e))
    go false false e qe rq rp =
        reads_word seen w ws e qe ∙ ap (reads_plain w (is_flag w)) rp ∙ sym (said_word seen (is_flag w) w (front ws) (back ws) qe refl)
        ∙ sym (ap₂ (said seen) (before_first_later is_end w ws e) (after_first_later is_end w ws e))

pub read_so : (words : List Text) → reads false words ≡ line_of words
unfolding line_of
read_so words =
    let none_seen : length (filter is_quiet (front words)) + 0 ≡ length (filter is_quiet (front words)) = omega arith in
    reads_said false words
    ∙ ap (λ n. if nat_le n 1 && list_all is_known (front words) then Some (line_in words) else None) none_seen
