-- What a parse of the words gives, or what is wrong with it, by what the words say.
use Rattle.std.proofs.Common.{◌≡◌, ◌∙◌, ◌||◌, Bool, true, false, refl, sym, ap, ap₂, subst, codes, List, [], ◌∷◌, Option, Some, None, is_some, if◌then◌else◌}
use Rattle.std.specs.Prelude.{unwrap_or}
use Rattle.std.specs.Option.{option_map}
use Rattle.clap.specs.Walk.{Row, Text, Walk, walk, walk_from, nothing_held, settled, finished, with_default, with_values, has_row, reading_by}
use Rattle.clap.specs.Kinds.{Kinds, or_else}
use Rattle.clap.specs.Simple.{App, matches_of, entered}
use Rattle.clap.specs.Faults.{walk_fault, fault_of, settle_fault, defaults_fault, check_fault, entered_fault}
use Rattle.clap.specs.declared.parser.matches.ValueSource.TheVariants.{DefaultValue}
use Rattle.hm_command_line.specs.Words.{LineValue, line_of}
use Rattle.hm_command_line.specs.Parse.{AreUtf8, Says, command}
use Rattle.hm_command_line.proofs.Rules.{quiet, words, rules, shape}
use Rattle.hm_command_line.proofs.Turns.{IsWrong, settle, stands}
use Rattle.hm_command_line.proofs.Rows.{Holds, holds_nothing, holds_seen, row_new, row_of_other}
use Rattle.hm_command_line.proofs.Following.{Goes, goes, reads}
use Rattle.hm_command_line.proofs.Form.{read_so}

abbrev app : App
app = record { top = shape; subs = [] }

-- what is wrong behind a walk
behind : Walk → Kinds
behind w = or_else (entered_fault app w.stopped)
    (or_else (settle_fault rules false w.held)
    (or_else (defaults_fault (settled rules w.held).rows rules)
    (check_fault shape (finished rules w.held) (is_some (entered app w.stopped)))))

fault_so : (ws : List Text) → fault_of command ws ≡ or_else (walk_fault shape [] (walk_from nothing_held) ws) (behind (walk rules [] nothing_held ws))
unfolding behind
fault_so ws = refl

abbrev none : Kinds
none = []

abbrev right_if : Bool → Kinds
right_if b = if b then none else none

right_so : (b : Bool) → right_if b ≡ none
right_so true = refl
right_so false = refl

-- defaults are never wrong
defaults_right : (rows : List Row) → defaults_fault rows rules ≡ none
unfolding defaults_fault
defaults_right rows = ap₂ or_else (first (has_row (codes "quiet") rows)) (ap (λ k. or_else k none) (second (has_row (codes "words") (with_default rows quiet))))
  where
    first : (b : Bool) → right_if (b || false) ≡ none
    first true = refl
    first false = refl

    second : (b : Bool) → right_if (b || true) ≡ none
    second true = refl
    second false = refl

behind_right : (after : Bool) (rows : List Row) (pending : Option Text) (waits : Bool) → behind (stands after rows pending waits) ≡ none
unfolding behind
behind_right after rows None waits = ap (λ k. or_else k none) (defaults_right rows)
behind_right after rows (Some w) waits = ap (λ k. or_else k none) (defaults_right (settle rows (Some w)))

-- ---- what a parse finds

finished_so : (after : Bool) (rows : List Row) (pending : Option Text) (waits : Bool)
    → finished rules (stands after rows pending waits).held ≡ with_default (with_default (settle rows pending) quiet) words
finished_so after rows None waits = refl
finished_so after rows (Some w) waits = refl

no_words : (rows : List Row) → with_default rows words ≡ rows
no_words rows = go (has_row (codes "words") rows)
  where
    go : (b : Bool) → (if b then rows else rows) ≡ rows
    go true = refl
    go false = refl

-- the default says that `--quiet` isn't there
says_so : (seen : Bool) (ws : List Text) (rows : List Row) → Holds seen ws rows → Says (record { quiet = seen; words = ws }) (with_default rows quiet)
says_so true ws rows h =
    let there : has_row (codes "quiet") rows ≡ true = holds_seen true ws rows h in
    let same : with_default rows quiet ≡ rows = rw there refl in
    subst (Says (record { quiet = true; words = ws })) (sym same) (record { quiet = rw h.quiet refl; words = h.words })
says_so false ws rows h =
    let absent : has_row (codes "quiet") rows ≡ false = holds_seen false ws rows h in
    let more : with_default rows quiet ≡ with_values (codes "quiet") (reading_by quiet) DefaultValue (codes "false" ∷ []) rows = rw absent refl in
    let row = row_new (codes "quiet") (reading_by quiet) DefaultValue (codes "false" ∷ []) rows absent in
    subst (Says (record { quiet = false; words = ws })) (sym more) (record {
      quiet = rw row refl;
      words = ap (λ (r : Option Row). unwrap_or (option_map (λ (x : Row). x.values) r) [])
          (row_of_other (codes "quiet") (codes "words") refl (reading_by quiet) DefaultValue (codes "false" ∷ []) rows) ∙ h.words;
    })

-- where the words have a meaning, nothing is wrong, and the rows say it
pub record IsRight (ws : List Text) (line : LineValue) : Type 0 where
  pub right : fault_of command ws ≡ none
  pub says : Says line (matches_of command ws)

abbrev pub Parses : List Text → Option LineValue → Type 0
Parses ws (Some line) = IsRight ws line
Parses ws None = IsWrong (fault_of command ws)

wrong_first : (ks later : Kinds) → IsWrong ks → IsWrong (or_else ks later)
wrong_first [] later h = absurd h
wrong_first (k ∷ ks) later h = tt

parses : (ws : List Text) (found : Option LineValue) → Goes (stands false [] None false) ws [] found → Parses ws found
parses ws None h = subst IsWrong (sym (fault_so ws)) (wrong_first (walk_fault shape [] (walk_from nothing_held) ws) (behind (walk rules [] nothing_held ws)) h)
parses ws (Some line) h = record {
  right = fault_so ws ∙ ap₂ or_else h.right (ap behind h.ended.is ∙ behind_right h.ended.behind h.ended.rows h.ended.pending h.ended.waits);
  says = subst (Says line) (sym (ap (λ (w : Walk). finished rules w.held) h.ended.is ∙ finished_so h.ended.behind h.ended.rows h.ended.pending h.ended.waits
      ∙ no_words (with_default (settle h.ended.rows h.ended.pending) quiet)))
      (says_so line.quiet line.words (settle h.ended.rows h.ended.pending) h.ended.holds);
}

pub parses_so : (ws : List Text) → AreUtf8 ws → Parses ws (line_of ws)
parses_so ws utf8 = subst (Parses ws) (read_so ws) (parses ws (reads false ws) (goes ws utf8 [] None false false [] holds_nothing))
