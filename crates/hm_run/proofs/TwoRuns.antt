-- What a user relies on: a run that stopped, and the same run again, leave what the whole run leaves.
use Rattle.std.proofs.Common.{◌≡◌, ℕ, List, Option, Some, Ok, sym, ap, subst, subst₂, ◌∙◌}
use Rattle.std.proofs.lemmas.Option.{same_Some}
use Rattle.hm_tree.specs.Names.{Name}
use Rattle.hm_outside.specs.Contents.{Contents}
use Rattle.hm_command_line.specs.Requests.{RequestValue}
use Rattle.hm_run_files.specs.Files.{loads}
use Rattle.hm_run_files.proofs.Steps.{ok_is}
use Rattle.hm_run_words.specs.Slots.{files_of}
use Rattle.hm_run_handed.specs.Handed.{Handed}
use Rattle.hm_run_sync.specs.Verdict.{Plan, PlansFrom}
use Rattle.hm_run.specs.Commands.{new_names}
use Rattle.hm_run.specs.Endings.{IsPlan, IsSynchronised, stop_state}
use Rattle.hm_run.specs.Stops.{IsPlannedAgain, MayGoOn}

module _ (h : Handed) (words : List Name) where
  -- words have one plan over some contents
  one_plan : (c : Contents) (p q : Plan) → IsPlan h words c p → IsPlan h words c q → p ≡ q
  one_plan c p q one other =
      let asked : one.asked ≡ other.asked = ok_is _ _ (sym one.means ∙ other.means) in
      let all : one.all ≡ other.all = ok_is _ _ (sym one.loaded ∙ ap (λ (r : RequestValue). loads c (files_of r)) asked ∙ other.loaded) in
      ok_is _ _ (other.only (Ok p)
      (subst₂ (λ (r : RequestValue) (l : List (List ℕ)). PlansFrom h (new_names r.files) l (Ok p)) asked all one.planned))

  module _ (c : Contents) (plan : Plan) where
    from_stop : (n : ℕ) → IsPlannedAgain h words c plan n → (status : ℕ) (end : Option Contents)
        → IsSynchronised h words (stop_state c plan n) status end → end ≡ Some (stop_state c plan 3)
    from_stop n so status end whole =
        let same : whole.plan ≡ so.again = one_plan (stop_state c plan n) whole.plan so.again whole.planned so.planned in
        whole.new ∙ ap (λ (p : Plan). Some (stop_state (stop_state c plan n) p 3)) same ∙ ap (λ (d : Contents). Some d) so.ends

    -- the first run stops somewhere, and the second one ends
    two_runs : (left end : Option Contents) → MayGoOn h words c left plan → (k : Contents) → left ≡ Some k → (status : ℕ)
        → IsSynchronised h words k status end → end ≡ Some (stop_state c plan 3)
    two_runs left end may k is status whole =
        let there : k ≡ stop_state c plan may.files = same_Some k (stop_state c plan may.files) (sym is ∙ may.is) in
        from_stop may.files (may.again may.files) status end
        (subst (λ (d : Contents). IsSynchronised h words d status end) there whole)
