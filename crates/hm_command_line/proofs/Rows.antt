-- What the rows of a walk hold: the row of `--quiet`, and the values of the words.
use Rattle.std.proofs.Common.{◌≡◌, ◌∙◌, ◌++◌, Bool, cond, true, false, refl, sym, ap, subst, codes, List, [], ◌∷◌, Option, Some, None, is_some, true≢false}
use Rattle.std.specs.Prelude.{find, unwrap_or}
use Rattle.std.specs.Option.{option_map}
use Rattle.std.specs.Str.{bytes_eq}
use Rattle.std.proofs.lemmas.Slice.Eq.{bytes_eq-Decides}
use Rattle.clap.specs.Walk.{Row, Text, without, with_values, has_row, used, reading_by}
use Rattle.clap.specs.declared.parser.matches.ValueSource.{ValueSource}
use Rattle.clap.specs.declared.parser.matches.ValueSource.TheVariants.{CommandLine}
use Rattle.clap.specs.declared.builder.value_parser.Reading.{Reading}
use Rattle.hm_command_line.specs.Parse.{values_in}
use Rattle.hm_command_line.proofs.Rules.{quiet, words}
use Rattle.hm_command_line.proofs.Turns.{settle}

-- the row of an id, and the values in it
abbrev pub row_in : Text → List Row → Option Row
row_in id rows = find (λ r. bytes_eq r.id id) rows

same_id : (id : Text) → bytes_eq id id ≡ true
same_id id = (bytes_eq-Decides id id).1 refl

-- whether there is a row
pub has_row_in : (id : Text) (rows : List Row) (found : Option Row) → row_in id rows ≡ found → has_row id rows ≡ is_some found
has_row_in id [] found e = ap is_some e
has_row_in id (r ∷ rs) found e = go (bytes_eq r.id id) refl (has_row_in id rs found)
  where
    go : (b : Bool) → bytes_eq r.id id ≡ b → (row_in id rs ≡ found → has_row id rs ≡ is_some found) → has_row id (r ∷ rs) ≡ is_some found
    go true t later = let here : Some r ≡ found = rw t at e in rw t (ap is_some here)
    go false t later = let past : row_in id rs ≡ found = rw t at e in rw t (later past)

-- one change keeps the row of every other id
module _ (id other : Text) (apart : bytes_eq id other ≡ false) (how : Reading) (source : ValueSource) (values : List Text) where
  miss : (r : Row) → bytes_eq r.id id ≡ true → bytes_eq r.id other ≡ false
  miss r e = let is : r.id ≡ id = (bytes_eq-Decides r.id id).0 e in rw is apart

  pub row_of_other : (rows : List Row) → row_in other (with_values id how source values rows) ≡ row_in other rows
  row_of_other [] = rw apart refl
  row_of_other (r ∷ rs) = go (bytes_eq r.id id) refl (row_of_other rs)
    where
      go : (b : Bool) → bytes_eq r.id id ≡ b → row_in other (with_values id how source values rs) ≡ row_in other rs
          → row_in other (with_values id how source values (r ∷ rs)) ≡ row_in other (r ∷ rs)
      go true t later = let no = miss r t in rw (t, no) refl
      go false t later = rw t (λ i. cond (bytes_eq r.id other) (Some r) (later i))

-- values are put behind those that were there
pub values_more : (id : Text) (how : Reading) (source : ValueSource) (values : List Text) (rows : List Row)
    → values_in id (with_values id how source values rows) ≡ values_in id rows ++ values
values_more id how source values [] = rw same_id refl
values_more id how source values (r ∷ rs) = go (bytes_eq r.id id) refl (values_more id how source values rs)
  where
    go : (b : Bool) → bytes_eq r.id id ≡ b → values_in id (with_values id how source values rs) ≡ values_in id rs ++ values
        → values_in id (with_values id how source values (r ∷ rs)) ≡ values_in id (r ∷ rs) ++ values
    go true t later = rw (t, t) refl
    go false t later = rw (t, t) later

pub without_absent : (id : Text) (rows : List Row) → has_row id rows ≡ false → without id rows ≡ rows
without_absent id [] e = refl
without_absent id (r ∷ rs) e = go (bytes_eq r.id id) refl (without_absent id rs)
  where
    go : (b : Bool) → bytes_eq r.id id ≡ b → (has_row id rs ≡ false → without id rs ≡ rs) → without id (r ∷ rs) ≡ r ∷ rs
    go true t later = let no : true ≡ false = rw t at e in absurd (true≢false no)
    go false t later = let past : has_row id rs ≡ false = rw t at e in rw t (ap (λ xs. r ∷ xs) (later past))

abbrev pub new_row : Text → Reading → ValueSource → List Text → Row
new_row id how source values = record { id = id; values = values; count = None; source = Some source; reading = how }

-- where there was no row, there is a new one
pub row_new : (id : Text) (how : Reading) (source : ValueSource) (values : List Text) (rows : List Row) → has_row id rows ≡ false
    → row_in id (with_values id how source values rows)
    ≡ Some (new_row id how source values)
row_new id how source values [] e = rw same_id refl
row_new id how source values (r ∷ rs) e = go (bytes_eq r.id id) refl (row_new id how source values rs)
  where
    go : (b : Bool) → bytes_eq r.id id ≡ b
        → (has_row id rs ≡ false → row_in id (with_values id how source values rs) ≡ Some (new_row id how source values))
        → row_in id (with_values id how source values (r ∷ rs)) ≡ Some (new_row id how source values)
    go true t later = let no : true ≡ false = rw t at e in absurd (true≢false no)
    go false t later = let past : has_row id rs ≡ false = rw t at e in rw (t, t) (later past)

-- ---- what is held

abbrev pub quiet_row : Row
quiet_row = record { id = codes "quiet"; values = codes "true" ∷ []; count = None; source = Some CommandLine; reading = reading_by quiet }

abbrev pub quiet_if : Bool → Option Row
quiet_if true = Some quiet_row
quiet_if false = None

pub record Holds (seen : Bool) (ws : List Text) (rows : List Row) : Type 0 where
  pub quiet : row_in (codes "quiet") rows ≡ quiet_if seen
  pub words : values_in (codes "words") rows ≡ ws

pub holds_nothing : Holds false [] []
holds_nothing = record { quiet = refl; words = refl }

is_seen : (seen : Bool) → is_some (quiet_if seen) ≡ seen
is_seen true = refl
is_seen false = refl

pub holds_seen : (seen : Bool) (ws : List Text) (rows : List Row) → Holds seen ws rows → has_row (codes "quiet") rows ≡ seen
holds_seen seen ws rows h = has_row_in (codes "quiet") rows (quiet_if seen) h.quiet ∙ is_seen seen

pub holds_word : (seen : Bool) (ws : List Text) (rows : List Row) (word : Text) → Holds seen ws rows → Holds seen (ws ++ word ∷ []) (settle rows (Some word))
holds_word seen ws rows word h = record {
  quiet = row_of_other (codes "words") (codes "quiet") refl (reading_by words) CommandLine (word ∷ []) rows ∙ h.quiet;
  words = values_more (codes "words") (reading_by words) CommandLine (word ∷ []) rows ∙ ap (λ xs. xs ++ word ∷ []) h.words;
}

pub holds_quiet : (ws : List Text) (rows : List Row) → Holds false ws rows → Holds true ws (used quiet [] rows)
holds_quiet ws rows h =
    let absent : has_row (codes "quiet") rows ≡ false = holds_seen false ws rows h in
    let stay : without (codes "quiet") rows ≡ rows = without_absent (codes "quiet") rows absent in
    subst (λ (xs : List Row). Holds true ws (with_values (codes "quiet") (reading_by quiet) CommandLine (codes "true" ∷ []) xs)) (sym stay)
    (record {
      quiet = row_new (codes "quiet") (reading_by quiet) CommandLine (codes "true" ∷ []) rows absent;
      words = ap (λ (r : Option Row). unwrap_or (option_map (λ (x : Row). x.values) r) [])
          (row_of_other (codes "quiet") (codes "words") refl (reading_by quiet) CommandLine (codes "true" ∷ []) rows) ∙ h.words;
    })
