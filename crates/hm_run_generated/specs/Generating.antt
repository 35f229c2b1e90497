-- What a run of made-up files comes to: the numbers of their synchronisation.
use Rattle.std.specs.Prelude.{◌≡◌, ℕ, List, ◌++◌, length, codes, decimal, Result, Ok}
use Rattle.hm_report.specs.declared.conflict.Conflict.{Conflict}
use Rattle.hm_run_files.specs.declared.stop.Refusal.{Refusal}
use Rattle.hm_run_files.specs.Steps.{Then}
use Rattle.hm_run_files.specs.Files.{loads}
use Rattle.hm_run_effects.specs.Effects.{Effect, says}
use Rattle.hm_run_handed.specs.Handed.{Handed}
use Rattle.hm_run_sync.specs.Verdict.{PlansFrom, HasConflicts, count_of}
use Rattle.hm_run_generated.specs.Stored.{store_names, files_named, new_names, generated_contents}

-- `gen N: left L right R conflicts C`
abbrev pub numbers_line : ℕ → ℕ → ℕ → ℕ → List ℕ
numbers_line number left right conflicts =
    codes "gen " ++ (decimal number ++ (codes ": left " ++ (decimal left ++ (codes " right " ++ (decimal right ++ (codes " conflicts " ++ (decimal conflicts ++ codes "\n")))))))

-- the files are loaded, and their plan is told by the numbers of keys in the two new views, and of conflicts that remain
unfoldable pub Generates : Handed → ℕ → Result Effect Refusal → Type 0
Generates h number =
    Then (λ r. r ≡ loads (generated_contents number) (files_named store_names)) (λ all.
    Then (PlansFrom h (new_names store_names) all) (λ plan r. (conflicts : List Conflict) × HasConflicts plan.before plan.after conflicts
    × (r ≡ Ok (says (numbers_line number (count_of plan.after.left) (count_of plan.after.right) (length conflicts))))))
