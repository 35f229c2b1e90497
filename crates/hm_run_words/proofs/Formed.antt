-- A request that words mean has as many files as its command has slots.
use Rattle.std.proofs.Common.{◌≡◌, ◌==◌, ℕ, Bool, true, false, List, [], ◌∷◌, length, Option, Some, None, Result, Ok, Err, if◌then◌else◌, refl, subst, arith}
use Rattle.std.specs.Option.{option_map, option_and_then}
use Rattle.std.specs.Str.{bytes_eq}
use Rattle.std.specs.Prelude.{codes, IfOk}
use Rattle.std.proofs.lemmas.Bool.Decides.{nat_tests}
use Rattle.hm_tree.specs.Names.{Name}
use Rattle.hm_run_files.specs.declared.stop.Stop.{Stop}
use Rattle.hm_run_files.specs.Files.{File}
use Rattle.hm_run_files.proofs.Steps.{ok_is}
use Rattle.hm_command_line.specs.declared.request.Command.{Command}
use Rattle.hm_command_line.specs.declared.request.Command.TheVariants.{Sync, Plan, Check, View, Generate}
use Rattle.hm_command_line.specs.declared.request.Request.{Request}
use Rattle.hm_command_line.specs.Words.{LineValue, line_of}
use Rattle.hm_command_line.specs.Requests.{RequestValue, command_of, files_of, with_files, with_number, number_of, with_command, asked_in, request_with, request_in, request_of, request_value}
use Rattle.hm_run_words.specs.Slots.{slots_of}
use Rattle.hm_run_words.specs.Slots as slots
use Rattle.hm_run_words.specs.Words.{apart, checked, meaning, same_pair, names_differ, AnswersOrStops}

abbrev IsFormedOf : Command → List Name → Type 0
IsFormedOf k files = length (files_of k files) ≡ length (slots_of k)

abbrev IsFormed : RequestValue → Type 0
IsFormed r = length r.files ≡ length (slots_of r.command)

counted : (k : Command) (n : ℕ) (files : List Name) (c : Command) → with_files k n files ≡ Some c → (k ≡ c) × (length files ≡ n)
counted k n files c e = go (length files == n) refl e
  where
    go : (b : Bool) → (length files == n) ≡ b → (if b then Some k else None) ≡ Some c → (k ≡ c) × (length files ≡ n)
    go true t e = ((let same : k ≡ c = cc in same), grind (arith, nat_tests))
    go false t e = absurd (let no : ⊥ = cc in no)

numbered : (files : List Name) (c : Command) → with_number files ≡ Some c → IsFormedOf c files
numbered [] c e = absurd (let no : ⊥ = cc in no)
numbered (w ∷ []) c e = go (number_of w) e
  where
    go : (o : Option ℕ) → option_map Generate o ≡ Some c → IsFormedOf c (w ∷ [])
    go None e = absurd (let no : ⊥ = cc in no)
    go (Some n) e = let same : Generate n ≡ c = cc in subst (λ (k : Command). IsFormedOf k (w ∷ [])) same refl
numbered (w ∷ v ∷ ws) c e = absurd (let no : ⊥ = cc in no)

table : (files : List Name) (c : Command) (sync plan check view gen : Bool)
    → (if sync then with_files Sync 6 files else if plan then with_files Plan 6 files else if check then with_files Check 1 files
    else if view then with_files View 2 files else if gen then with_number files else None) ≡ Some c → IsFormedOf c files
table files c true plan check view gen e = let k = counted Sync 6 files c e in subst (λ (k : Command). IsFormedOf k files) k.0 k.1
table files c false true check view gen e = let k = counted Plan 6 files c e in subst (λ (k : Command). IsFormedOf k files) k.0 k.1
table files c false false true view gen e = let k = counted Check 1 files c e in subst (λ (k : Command). IsFormedOf k files) k.0 k.1
table files c false false false true gen e = let k = counted View 2 files c e in subst (λ (k : Command). IsFormedOf k files) k.0 k.1
table files c false false false false true e = numbered files c e
table files c false false false false false e = absurd (let no : ⊥ = cc in no)

commanded_formed : (w : Name) (files : List Name) (c : Command) → command_of w files ≡ Some c → IsFormedOf c files
commanded_formed w files c e =
    table files c (bytes_eq w (codes "sync")) (bytes_eq w (codes "plan")) (bytes_eq w (codes "check")) (bytes_eq w (codes "view")) (bytes_eq w (codes "gen")) e

asked_formed : (quiet : Bool) (words : List Name) (r : RequestValue) → option_map (request_with quiet) (asked_in words) ≡ Some r → IsFormed r
asked_formed quiet [] r e = absurd (let no : ⊥ = cc in no)
asked_formed quiet (w ∷ files) r e = go (command_of w files) refl e
  where
    go : (o : Option Command) → command_of w files ≡ o → option_map (request_with quiet) (option_map (with_command files) o) ≡ Some r → IsFormed r
    go None t e = absurd (let no : ⊥ = cc in no)
    go (Some c) t e =
        let same : request_with quiet (with_command files c) ≡ r = cc in
        subst IsFormed same (commanded_formed w files c t)

request_formed : (words : List Name) (r : RequestValue) → request_of words ≡ Some r → IsFormed r
unfolding request_of
request_formed words r e = go (line_of words) e
  where
    go : (o : Option LineValue) → option_and_then request_in o ≡ Some r → IsFormed r
    go None e = absurd (let no : ⊥ = cc in no)
    go (Some line) e = asked_formed line.quiet line.words r e

pub meant_formed : (words : List Name) (r : RequestValue) → meaning words ≡ Ok r → length r.files ≡ length (slots_of r.command)
unfolding meaning
meant_formed words r e = go (request_of words) refl e
  where
    apart_same : (s : RequestValue) (pair : Option (File × File)) → apart s pair ≡ Ok r → s ≡ r
    apart_same s None e = ok_is _ _ e
    apart_same s (Some p) e = absurd (let no : ⊥ = cc in no)

    go : (o : Option RequestValue) → request_of words ≡ o → checked o ≡ Ok r → IsFormed r
    go None t e = absurd (let no : ⊥ = cc in no)
    go (Some s) t e = subst IsFormed (apart_same s (same_pair (names_differ s.command) (slots.files_of s)) e) (request_formed words s t)

pub all_formed : (words : List Name) (answer : Result Request Stop) → AnswersOrStops request_value (meaning words) answer
    → IfOk answer (λ r. length r.files.items ≡ length (slots_of r.command))
all_formed words (Ok r) means = meant_formed words (request_value r) means
all_formed words (Err stop) means = tt
