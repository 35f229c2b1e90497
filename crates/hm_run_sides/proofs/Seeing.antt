-- Steps whose value is seen by what it stands for.
use Rattle.std.proofs.Common.{◌≡◌, Result, Err, ap}
use Rattle.hm_run_files.specs.declared.stop.Refusal.{Refusal}
use Rattle.hm_run_files.specs.declared.stop.Stop.{Stop}
use Rattle.hm_run_files.specs.Steps.{Computes, Then}
use Rattle.hm_run_files.proofs.Steps.{then_stop}
use Rattle.hm_run_sides.specs.Sides.{seen}

-- a first step that stopped stops both
pub stopped_seen : {A B V : Type 0} (first : Result A Refusal → Type 0) (second : A → Result B Refusal → Type 0) (see : V → B) (stop : Stop)
    (r : Result V Stop) → r ≡ Err stop → Computes first (Err stop) → Computes (Then first second) (seen see r)
stopped_seen {B = B} first second see stop r is h =
    let e : ◌≡◌ {A = Result B Stop} (seen see r) (Err stop) = ap (seen see) is in then_stop first second stop (seen see r) e h
