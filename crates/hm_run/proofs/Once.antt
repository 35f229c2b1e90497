-- A command finds one thing at the most, and so there is one verdict on words and contents.
use Rattle.std.proofs.Common.{Bool, true, false, List, ℕ}
use Rattle.hm_tree.specs.Names.{Name}
use Rattle.hm_outside.specs.Contents.{Contents}
use Rattle.hm_command_line.specs.declared.request.Command.{Command}
use Rattle.hm_command_line.specs.declared.request.Command.TheVariants.{Sync, Plan, Check, View, Generate}
use Rattle.hm_run_files.specs.Steps.{FindsOne}
use Rattle.hm_run_files.proofs.Steps.{then_once, equals_once}
use Rattle.hm_run_words.specs.Slots.{files_of}
use Rattle.hm_run_effects.proofs.Acting.{effect_once}
use Rattle.hm_run_generated.proofs.Once.{generates_once}
use Rattle.hm_run_handed.specs.Handed.{Handed}
use Rattle.hm_run_sync.proofs.Once.{plan_once, told_once_of}
use Rattle.hm_run_views.proofs.Once.{check_once, view_once}
use Rattle.hm_run.specs.Commands.{new_names, Reconciles, finding_by, finding_of}
use Rattle.hm_run.specs.Endings.{Verdict}

module _ (h : Handed) (quiet : Bool) (files : List Name) (all : List (List ℕ)) where
  reconciles_once : (writes : Bool) → FindsOne (Reconciles h writes quiet files all)
  unfolding Reconciles
  reconciles_once writes = then_once _ _ (plan_once h (new_names files) all) (λ plan. told_once_of plan.before plan.after _)

  finding_once : (command : Command) → FindsOne (finding_by h command quiet files all)
  finding_once Sync = reconciles_once true
  finding_once Plan = reconciles_once false
  finding_once Check = check_once h _
  finding_once View = view_once h _ _
  finding_once (Generate number) = generates_once h number

pub verdict_once : (h : Handed) (c : Contents) (words : List Name) → FindsOne (Verdict h c words)
unfolding Verdict
verdict_once h c words =
    then_once _ _ (equals_once _) (λ asked. effect_once (finding_of h asked) (files_of asked) c (λ all. finding_once h asked.quiet asked.files all asked.command))
