-- What the effect of each command writes: nothing, but for a synchronisation.
use Rattle.std.proofs.Common.{◌≡◌, ◌≤◌, ℕ, zero, suc, Bool, true, false, List, [], length, Ok, refl, sym, subst, ap, arith}
use Rattle.hm_tree.specs.Names.{Name}
use Rattle.hm_command_line.specs.declared.request.Command.{Command}
use Rattle.hm_command_line.specs.declared.request.Command.TheVariants.{Sync, Plan, Check, View, Generate}
use Rattle.hm_command_line.specs.Requests.{RequestValue}
use Rattle.hm_run_files.proofs.Steps.{ok_is, then_ok}
use Rattle.hm_run_effects.specs.Effects.{Effect, WritesNothing}
use Rattle.hm_run_generated.proofs.Once.{generates_says}
use Rattle.hm_run_handed.specs.Handed.{Handed}
use Rattle.hm_run_sync.specs.Verdict.{conflicts_status}
use Rattle.hm_run_views.proofs.Once.{check_says, view_says}
use Rattle.hm_run.specs.Commands.{Reconciles, finding_by, finding_of}

conflicts_low : (n : ℕ) → conflicts_status n ≤ 1
conflicts_low zero = omega arith
conflicts_low (suc n) = omega arith

module _ (h : Handed) (quiet : Bool) (files : List Name) (all : List (List ℕ)) (effect : Effect) where
  plan_writes_nothing : Reconciles h false quiet files all (Ok effect) → effect.news ≡ []
  unfolding Reconciles
  plan_writes_nothing k = ap (λ (e : Effect). e.news) (ok_is _ _ (then_ok k).2.2)

  reconciles_low : (writes : Bool) → Reconciles h writes quiet files all (Ok effect) → effect.status ≤ 1
  unfolding Reconciles
  reconciles_low writes k =
      let found = (then_ok k).2 in
      subst (λ s. s ≤ 1) (sym (ap (λ (e : Effect). e.status) (ok_is _ _ found.2))) (conflicts_low (length found.0))

  pub writes_nothing : (command : Command) → (command ≡ Sync → ⊥) → finding_by h command quiet files all (Ok effect) → effect.news ≡ []
  writes_nothing Sync other k = absurd (other refl)
  writes_nothing Plan other k = plan_writes_nothing k
  writes_nothing Check other k = let said = check_says h _ effect k in ap (λ (e : Effect). e.news) said.1
  writes_nothing View other k = let said = view_says h _ _ effect k in ap (λ (e : Effect). e.news) said.1
  writes_nothing (Generate number) other k = let said = generates_says h number effect k in ap (λ (e : Effect). e.news) said.1

  -- its status is 0 or 1
  pub status_low : (command : Command) → finding_by h command quiet files all (Ok effect) → effect.status ≤ 1
  status_low Sync k = reconciles_low true k
  status_low Plan k = reconciles_low false k
  status_low Check k = let said = check_says h _ effect k in subst (λ s. s ≤ 1) (sym (ap (λ (e : Effect). e.status) said.1)) (omega arith)
  status_low View k = let said = view_says h _ _ effect k in subst (λ s. s ≤ 1) (sym (ap (λ (e : Effect). e.status) said.1)) (omega arith)
  status_low (Generate number) k =
      let said = generates_says h number effect k in subst (λ s. s ≤ 1) (sym (ap (λ (e : Effect). e.status) said.1)) (omega arith)

pub only_sync_writes : (h : Handed) (asked : RequestValue) → (asked.command ≡ Sync → ⊥) → WritesNothing (finding_of h asked)
only_sync_writes h asked other all effect k = writes_nothing h asked.quiet asked.files all effect asked.command other k
