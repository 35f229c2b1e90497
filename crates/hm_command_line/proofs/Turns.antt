-- One word more, as clap reads it.
use Rattle.std.proofs.Common.{◌≡◌, ◌⊎◌, inl, inr, ℕ, Bool, true, false, refl, sym, codes, List, [], ◌∷◌, Option, Some, None, is_some, if◌then◌else◌, true≢false}
use Rattle.std.specs.Option.{option_map, option_map_or}
use Rattle.std.specs.Str.{bytes_eq, chars}
use Rattle.clap.specs.Lexer.{long_of, short_of}
use Rattle.clap.specs.Walk.{Held, Row, Step, Text, Waiting, Walk, idle, positional, trailing, used, walked, has_row, long_word, short_or_plain, long_or_other, after_step}
use Rattle.clap.specs.Kinds.{Kinds, or_else}
use Rattle.clap.specs.Faults.{flags_fault, turn_fault, step_fault, flag_word_fault, bundle_fault, long_fault}
use Rattle.clap.specs.Walk.{arg_by_long}
use Rattle.clap.specs.declared.error.kind.ErrorKind.TheVariants as kind
use Rattle.hm_command_line.proofs.Rules.{quiet, words, rules, shape}

abbrev pub wait : Bool → Waiting
wait false = idle
wait true = positional

-- the rows with the word that is pending
abbrev pub settle : List Row → Option Text → List Row
settle rows None = rows
settle rows (Some word) = used words (word ∷ []) rows

abbrev pub held : List Row → Option Text → Held
held rows pending = record { rows = rows; pending = option_map (λ word. (codes "words", word ∷ [])) pending; skip = 0 }

-- where the walk stands: behind `--` or not
abbrev pub stands : Bool → List Row → Option Text → Bool → Walk
stands behind rows pending waits =
    record { held = held rows pending; waiting = wait waits; position = 1; is_trailing = behind; stopped = None }

-- the walk after a word, and what is wrong with it
abbrev pub turn : Walk → Text → Walk × Kinds
turn w word = (walked rules [] w word, turn_fault shape [] w word)

-- behind `--`
pub word_behind : (rows : List Row) (pending : Option Text) (waits : Bool) (word : Text)
    → turn (stands true rows pending waits) word ≡ (stands true (settle rows pending) (Some word) true, [])
unfolding walked
word_behind rows None waits word = refl
word_behind rows (Some v) waits word = refl

module _ (rows : List Row) (pending : Option Text) (waits : Bool) (word : Text) where
  abbrev h : Held
  h = held rows pending

  abbrev met_as : Option (Text × Option Text) → Option Text → Held × Step
  met_as (Some p) short = long_word rules (wait waits) word p.0 p.1 h
  met_as None short = short_or_plain rules (wait waits) word short h

  abbrev fault_as : Option (Text × Option Text) → Option Text → Kinds
  fault_as (Some p) short = long_fault rules false (arg_by_long rules p.0) p.1 h
  fault_as None short = option_map_or (λ flags. bundle_fault rules false flags h) short []

  abbrev met : Bool → Option (Text × Option Text) → Option Text → Held × Step
  met end long short = if end then (h, trailing 1) else met_as long short

  -- by what the word looks like
  abbrev pub turn_as : Bool → Option (Text × Option Text) → Option Text → Walk × Kinds
  turn_as end long short = (
    after_step rules word (stands false rows pending waits) (met end long short).0 (met end long short).1,
    or_else (if end then [] else fault_as long short) (step_fault shape 1 (met end long short).0 (met end long short).1),
  )

  long_met : (long : Option (Text × Option Text)) → long_or_other rules (wait waits) word long h ≡ met_as long (short_of word)
  long_met (Some p) = refl
  long_met None = refl

  long_faulty : (long : Option (Text × Option Text)) → flag_word_fault rules false long word h ≡ fault_as long (short_of word)
  long_faulty (Some p) = refl
  long_faulty None = refl

  -- the same with the two searches of a word joined
  joined : (end : Bool) → Walk × Kinds
  joined end = (
    after_step rules word (stands false rows pending waits)
        (if end then (h, trailing 1) else long_or_other rules (wait waits) word (long_of word) h).0
        (if end then (h, trailing 1) else long_or_other rules (wait waits) word (long_of word) h).1,
    or_else (if end then [] else flag_word_fault rules false (long_of word) word h)
        (step_fault shape 1 (if end then (h, trailing 1) else long_or_other rules (wait waits) word (long_of word) h).0
        (if end then (h, trailing 1) else long_or_other rules (wait waits) word (long_of word) h).1),
  )

  joined_as : (end : Bool) → joined end ≡ turn_as end (long_of word) (short_of word)
  unfolding joined
  joined_as true = refl
  joined_as false = λ i. (
    after_step rules word (stands false rows pending waits) (long_met (long_of word) i).0 (long_met (long_of word) i).1,
    or_else (long_faulty (long_of word) i) (step_fault shape 1 (long_met (long_of word) i).0 (long_met (long_of word) i).1),
  )

-- a word is read by whether it is `--`, and by what it is as a flag
pub turn_by : (rows : List Row) (pending : Option Text) (waits : Bool) (word : Text)
    → turn (stands false rows pending waits) word ≡ turn_as rows pending waits word (bytes_eq word (codes "--")) (long_of word) (short_of word)
unfolding walked joined
turn_by rows pending true word = joined_as rows pending true word (bytes_eq word (codes "--"))
turn_by rows pending false word = joined_as rows pending false word (bytes_eq word (codes "--"))

-- ---- what comes of it

-- `--` itself
pub end_turn : (rows : List Row) (pending : Option Text) (waits : Bool) (word : Text) (long : Option (Text × Option Text)) (short : Option Text)
    → turn_as rows pending waits word true long short ≡ (stands true rows pending waits, [])
end_turn rows pending waits word long short = refl

-- a word that is no flag
pub word_turn : (rows : List Row) (pending : Option Text) (waits : Bool) (word : Text)
    → turn_as rows pending waits word false None None ≡ (stands false (settle rows pending) (Some word) true, [])
word_turn rows None true word = refl
word_turn rows None false word = refl
word_turn rows (Some v) true word = refl
word_turn rows (Some v) false word = refl

-- `--quiet`, which a row may have been found for before
abbrev pub repeated : Bool → Kinds
repeated true = kind.ArgumentConflict ∷ []
repeated false = []

pub quiet_turn : (rows : List Row) (pending : Option Text) (waits : Bool) (word : Text) (short : Option Text) (seen : Bool)
    → has_row (codes "quiet") (settle rows pending) ≡ seen
    → turn_as rows pending waits word false (Some (codes "quiet", None)) short
    ≡ (stands false (used quiet [] (settle rows pending)) None false, repeated seen)
quiet_turn rows None waits word short true e = rw e refl
quiet_turn rows None waits word short false e = rw e refl
quiet_turn rows (Some v) waits word short true e = rw e refl
quiet_turn rows (Some v) waits word short false e = rw e refl

-- what is wrong with a turn
abbrev pub IsWrong : Kinds → Type 0
IsWrong [] = ⊥
IsWrong (k ∷ ks) = Unit {0}

-- another flag of two hyphens: it has another name, or a value
pub long_turn : (rows : List Row) (pending : Option Text) (waits : Bool) (word name : Text) (value short : Option Text)
    → (bytes_eq (codes "quiet") name ≡ false) ⊎ (is_some value ≡ true)
    → IsWrong (turn_as rows pending waits word false (Some (name, value)) short).1
long_turn rows pending waits word name value short (inl other) = rw other tt
long_turn rows pending waits word name None short (inr valued) = absurd (true≢false (sym valued))
long_turn rows pending waits word name (Some v) short (inr valued) = go (bytes_eq (codes "quiet") name) refl
  where
    go : (b : Bool) → bytes_eq (codes "quiet") name ≡ b → IsWrong (turn_as rows pending waits word false (Some (name, Some v)) short).1
    go true e = rw e tt
    go false e = rw e tt

-- a flag of one hyphen
pub short_turn : (rows : List Row) (pending : Option Text) (waits : Bool) (word : Text) (d x : ℕ) (ds xs : List ℕ) → chars (d ∷ ds) ≡ x ∷ xs
    → IsWrong (turn_as rows pending waits word false None (Some (d ∷ ds))).1
unfolding flags_fault
short_turn rows pending waits word d x ds xs e = rw e tt
