-- Steps over a store of which no call is to fail.
use Rattle.std.proofs.Common.{◌≡◌, List, Some, Vec, Global, ℕ, Result, Ok, Err, refl, sym, subst}
use Rattle.hm_outside.specs.Contents.{Contents}
use Rattle.hm_outside.specs.declared.outside.Failure.{Failure}
use Rattle.hm_run_files.specs.declared.stop.Refusal.TheVariants.{Usage, SameName, At}
use Rattle.hm_run_files.specs.declared.stop.Stop.{Stop}
use Rattle.hm_run_files.specs.declared.stop.Stop.TheVariants.{Refused, Fault, Memory}
use Rattle.hm_run_files.specs.Steps.{Computes, Did, Finds}
use Rattle.hm_run_files.specs.Files.{File, loads, all_bytes, AreUnread}
use Rattle.hm_run_sides.specs.Sides.{seen}
use Rattle.hm_run_generated.specs.Calm.{calmed}

-- the files are loaded as they stand there
loads_so : (c : Contents) (files : List File) (before after : List Failure) (r : Result (Vec (Vec ℕ Global) Global) Stop)
    → Did (Finds (Some c) all_bytes (λ d. loads d files)) (AreUnread (Some c) files before after) before after r
    → Computes (λ found. found ≡ loads c files) (seen all_bytes (calmed r))
loads_so c files before after (Ok v) h = (sym (h.0 c refl), refl)
loads_so c files before after (Err (Refused (At at fault))) h = (sym (h.0 c refl), refl)
loads_so c files before after (Err (Refused Usage)) h = absurd h
loads_so c files before after (Err (Refused (SameName one two))) h = absurd h
loads_so c files before after (Err (Fault kind at)) h = refl
loads_so c files before after (Err Memory) h = refl

-- the same of contents and files that are known
pub loads_as : (c d : Contents) (files known : List File) (before after : List Failure) → c ≡ d → files ≡ known
    → (made r : Result (Vec (Vec ℕ Global) Global) Stop) → r ≡ calmed made
    → Did (Finds (Some c) all_bytes (λ d. loads d files)) (AreUnread (Some c) files before after) before after made
    → Computes (λ found. found ≡ loads d known) (seen all_bytes r)
loads_as c d files known before after is are made r calm h =
    subst (λ (r : Result (Vec (Vec ℕ Global) Global) Stop). Computes (λ found. found ≡ loads d known) (seen all_bytes r)) (sym calm)
    (subst (λ (z : Contents × List File). Computes (λ found. found ≡ loads z.0 z.1) (seen all_bytes (calmed made))) (λ i. (is i, are i))
    (loads_so c files before after made h))
