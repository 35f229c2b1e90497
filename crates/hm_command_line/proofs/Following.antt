-- The walk over the words, by what they say one by one.
use Rattle.std.proofs.Common.{◌≡◌, ◌∙◌, ◌++◌, Bool, true, false, refl, sym, ap, subst, codes, List, [], ◌∷◌, Option, Some, None, if◌then◌else◌, append-nil, append_assoc, IsUtf8}
use Rattle.std.specs.List.{fold}
use Rattle.std.specs.Option.{option_map}
use Rattle.clap.specs.Lexer.{long_of, short_of}
use Rattle.clap.specs.Walk.{Row, Text, Walk, walked, used}
use Rattle.clap.specs.Kinds.{Kinds, or_else}
use Rattle.clap.specs.Faults.{walk_fault}
use Rattle.hm_command_line.specs.Words.{LineValue, is_end, is_quiet, is_flag}
use Rattle.hm_command_line.specs.Parse.{AreUtf8}
use Rattle.hm_command_line.proofs.Rules.{quiet, rules, shape}
use Rattle.hm_command_line.proofs.Turns.{IsWrong, turn, turn_as, turn_by, settle, stands, word_behind, end_turn, word_turn, quiet_turn, repeated}
use Rattle.hm_command_line.proofs.Rows.{Holds, holds_seen, holds_word, holds_quiet}
use Rattle.hm_command_line.proofs.Shapes.{long_of_plain, short_of_plain, flag_turn}
use Rattle.std.proofs.lemmas.Slice.Eq.{bytes_eq-Decides}

abbrev pub behind_word : Text → LineValue → LineValue
behind_word word r = record { quiet = r.quiet; words = word ∷ r.words }

-- what is read of the words, where `--quiet` was seen before or wasn't
abbrev pub reads_plain : Text → Bool → Option LineValue → Option LineValue
reads_plain word true later = None
reads_plain word false later = option_map (behind_word word) later

abbrev pub reads_quiet : Bool → Option LineValue → Option LineValue
reads_quiet true later = None
reads_quiet false later = later

abbrev pub reads : Bool → List Text → Option LineValue
reads seen [] = Some (record { quiet = seen; words = [] })
reads seen (w ∷ ws) =
    if is_end w then Some (record { quiet = seen; words = ws })
    else if is_quiet w then reads_quiet seen (reads true ws)
    else reads_plain w (is_flag w) (reads seen ws)

-- where a walk has ended, and what it holds then
pub record Ended (seen : Bool) (ws : List Text) (w : Walk) : Type 0 where
  pub behind : Bool
  pub rows : List Row
  pub pending : Option Text
  pub waits : Bool
  pub is : w ≡ stands behind rows pending waits
  pub holds : Holds seen ws (settle rows pending)

-- the walk over words from here on ends so, and nothing is wrong
pub record Ends (w : Walk) (words : List Text) (seen : Bool) (ws : List Text) : Type 0 where
  pub right : walk_fault shape [] w words ≡ []
  pub ended : Ended seen ws (fold (walked rules []) w words)

-- one turn, and the rest
wrong_next : (w : Walk) (word : Text) (rest : List Text) (t : Walk × Kinds) → turn w word ≡ t
    → walk_fault shape [] w (word ∷ rest) ≡ or_else t.1 (walk_fault shape [] t.0 rest)
unfolding walk_fault
wrong_next w word rest t e = ap (λ (u : Walk × Kinds). or_else u.1 (walk_fault shape [] u.0 rest)) e

ends_next : (w next : Walk) (word : Text) (rest : List Text) (seen : Bool) (ws : List Text) → turn w word ≡ (next, [])
    → Ends next rest seen ws → Ends w (word ∷ rest) seen ws
ends_next w next word rest seen ws e h = record {
  right = wrong_next w word rest (next, []) e ∙ h.right;
  ended = subst (λ (v : Walk). Ended seen ws (fold (walked rules []) v rest)) (sym (ap (λ (u : Walk × Kinds). u.0) e)) h.ended;
}

wrong_or : (ks later : Kinds) → IsWrong ks → IsWrong (or_else ks later)
wrong_or [] later h = absurd h
wrong_or (k ∷ ks) later h = tt

wrong_now : (w : Walk) (word : Text) (rest : List Text) (t : Walk × Kinds) → turn w word ≡ t → IsWrong t.1 → IsWrong (walk_fault shape [] w (word ∷ rest))
wrong_now w word rest t e h = subst IsWrong (sym (wrong_next w word rest t e)) (wrong_or t.1 (walk_fault shape [] t.0 rest) h)

-- behind `--` each word is one
pub ends_behind : (rows : List Row) (pending : Option Text) (waits seen : Bool) (ws words : List Text) → Holds seen ws (settle rows pending)
    → Ends (stands true rows pending waits) words seen (ws ++ words)
unfolding walk_fault
ends_behind rows pending waits seen ws [] h = record {
  right = refl;
  ended = record { behind = true; rows = rows; pending = pending; waits = waits; is = refl; holds = subst (λ (xs : List Text). Holds seen xs (settle rows pending)) (sym (append-nil ws)) h };
}
ends_behind rows pending waits seen ws (word ∷ rest) h =
    let later = ends_behind (settle rows pending) (Some word) true seen (ws ++ word ∷ []) rest (holds_word seen ws (settle rows pending) word h) in
    ends_next (stands true rows pending waits) (stands true (settle rows pending) (Some word) true) word rest seen (ws ++ word ∷ rest)
    (word_behind rows pending waits word)
    (subst (λ (xs : List Text). Ends (stands true (settle rows pending) (Some word) true) rest seen xs) (append_assoc ws (word ∷ []) rest) later)

-- the walk goes as the words are read
abbrev pub Goes : Walk → List Text → List Text → Option LineValue → Type 0
Goes w words ws (Some r) = Ends w words r.quiet (ws ++ r.words)
Goes w words ws None = IsWrong (walk_fault shape [] w words)

-- a word of each kind, and the walk over the rest
module _ (rows : List Row) (pending : Option Text) (waits seen : Bool) (ws : List Text) (word : Text) (rest : List Text) (h : Holds seen ws (settle rows pending)) where
  abbrev here : Walk
  here = stands false rows pending waits

  by : (end : Bool) → is_end word ≡ end → turn here word ≡ turn_as rows pending waits word end (long_of word) (short_of word)
  by end e = turn_by rows pending waits word ∙ ap (λ b. turn_as rows pending waits word b (long_of word) (short_of word)) e

  goes_end : is_end word ≡ true → Ends here (word ∷ rest) seen (ws ++ rest)
  goes_end e = ends_next here (stands true rows pending waits) word rest seen (ws ++ rest)
      (by true e ∙ end_turn rows pending waits word (long_of word) (short_of word))
      (ends_behind rows pending waits seen ws rest h)

  goes_word : is_end word ≡ false → is_flag word ≡ false → (later : Option LineValue)
      → Goes (stands false (settle rows pending) (Some word) true) rest (ws ++ word ∷ []) later → Goes here (word ∷ rest) ws (option_map (behind_word word) later)
  goes_word e plain later goes = go later goes
    where
      turned : turn here word ≡ (stands false (settle rows pending) (Some word) true, [])
      turned = by false e ∙ ap (λ l. turn_as rows pending waits word false l (short_of word)) (long_of_plain word plain)
          ∙ ap (λ s. turn_as rows pending waits word false None s) (short_of_plain word plain) ∙ word_turn rows pending waits word

      go : (later : Option LineValue) → Goes (stands false (settle rows pending) (Some word) true) rest (ws ++ word ∷ []) later
          → Goes here (word ∷ rest) ws (option_map (behind_word word) later)
      go None goes = subst IsWrong (sym (wrong_next here word rest _ turned)) goes
      go (Some r) goes = ends_next here _ word rest r.quiet (ws ++ word ∷ r.words) turned
          (subst (λ (xs : List Text). Ends (stands false (settle rows pending) (Some word) true) rest r.quiet xs) (append_assoc ws (word ∷ []) r.words) goes)

  goes_flag : IsUtf8 word → is_end word ≡ false → is_quiet word ≡ false → is_flag word ≡ true → IsWrong (walk_fault shape [] here (word ∷ rest))
  goes_flag utf8 e other flag = wrong_now here word rest _ (by false e) (flag_turn rows pending waits word utf8 flag e other)

  quiet_turned : is_quiet word ≡ true
      → turn here word ≡ (stands false (used quiet [] (settle rows pending)) None false, repeated seen)
  quiet_turned q =
      let same : word ≡ codes "--quiet" = (bytes_eq-Decides word (codes "--quiet")).0 q in
      ap (turn here) same ∙ turn_by rows pending waits (codes "--quiet")
      ∙ quiet_turn rows pending waits (codes "--quiet") (short_of (codes "--quiet")) seen (holds_seen seen ws (settle rows pending) h)

goes_quiet : (rows : List Row) (pending : Option Text) (waits seen : Bool) (ws : List Text) (word : Text) (rest : List Text) (h : Holds seen ws (settle rows pending))
    → is_quiet word ≡ true → (later : Option LineValue)
    → (Holds true ws (used quiet [] (settle rows pending)) → Goes (stands false (used quiet [] (settle rows pending)) None false) rest ws later)
    → Goes (stands false rows pending waits) (word ∷ rest) ws (reads_quiet seen later)
goes_quiet rows pending waits true ws word rest h q later goes =
    wrong_now (stands false rows pending waits) word rest _ (quiet_turned rows pending waits true ws word rest h q) tt
goes_quiet rows pending waits false ws word rest h q later goes = go later (goes (holds_quiet ws (settle rows pending) h))
  where
    go : (later : Option LineValue) → Goes (stands false (used quiet [] (settle rows pending)) None false) rest ws later
        → Goes (stands false rows pending waits) (word ∷ rest) ws later
    go None g = subst IsWrong (sym (wrong_next (stands false rows pending waits) word rest _ (quiet_turned rows pending waits false ws word rest h q))) g
    go (Some r) g = ends_next (stands false rows pending waits) _ word rest r.quiet (ws ++ r.words) (quiet_turned rows pending waits false ws word rest h q) g

-- the walk over words goes as they are read
pub goes : (words : List Text) → AreUtf8 words → (rows : List Row) (pending : Option Text) (waits seen : Bool) (ws : List Text) → Holds seen ws (settle rows pending)
    → Goes (stands false rows pending waits) words ws (reads seen words)
unfolding walk_fault
goes [] utf8 rows pending waits seen ws h = record {
  right = refl;
  ended = record { behind = false; rows = rows; pending = pending; waits = waits; is = refl; holds = subst (λ (xs : List Text). Holds seen xs (settle rows pending)) (sym (append-nil ws)) h };
}
goes (word ∷ rest) utf8 rows pending waits seen ws h =
    go (is_end word) (is_quiet word) (is_flag word) refl refl refl
    (λ hq. goes rest utf8.1 (used quiet [] (settle rows pending)) None false true ws hq)
    (goes rest utf8.1 (settle rows pending) (Some word) true seen (ws ++ word ∷ []) (holds_word seen ws (settle rows pending) word h))
  where
    go : (end q flag : Bool) → is_end word ≡ end → is_quiet word ≡ q → is_flag word ≡ flag
        → (Holds true ws (used quiet [] (settle rows pending)) → Goes (stands false (used quiet [] (settle rows pending)) None false) rest ws (reads true rest))
        → Goes (stands false (settle rows pending) (Some word) true) rest (ws ++ word ∷ []) (reads seen rest)
        → Goes (stands false rows pending waits) (word ∷ rest) ws (reads seen (word ∷ rest))
    go true q flag e qe fe gq gw = rw e (goes_end rows pending waits seen ws word rest h e)
    go false true flag e qe fe gq gw = rw (e, qe) (goes_quiet rows pending waits seen ws word rest h qe (reads true rest) gq)
    go false false true e qe fe gq gw = rw (e, qe, fe) (goes_flag rows pending waits seen ws word rest h utf8.0 e qe fe)
    go false false false e qe fe gq gw = rw (e, qe, fe) (goes_word rows pending waits seen ws word rest h e fe (reads seen rest) gw)
