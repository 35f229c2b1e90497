-- What a run left is a stop state of its plan, and from there, as from any other, the same run comes to the same end.
use Rattle.std.proofs.Common.{◌≡◌, ◌⊎◌, inl, inr, ⊎_elim, ℕ, suc, List, [], ◌∷◌, ◌++◌, length, take, Option, Some, Result, Ok, Err, refl, sym, ap, subst, ◌∙◌}
use Rattle.std.proofs.Math.Seq.{take-append_seam}
use Rattle.hm_tree.specs.Names.{Name}
use Rattle.hm_outside.specs.Contents.{Contents}
use Rattle.hm_outside.specs.declared.outside.Failure.{Failure}
use Rattle.hm_command_line.specs.declared.request.Command.{Command}
use Rattle.hm_command_line.specs.declared.request.Command.TheVariants.{Sync, Plan}
use Rattle.hm_command_line.specs.Requests.{RequestValue}
use Rattle.hm_run_files.specs.declared.stop.Refusal.{Refusal}
use Rattle.hm_run_files.specs.declared.stop.Refusal.TheVariants.{Usage, SameName, At}
use Rattle.hm_run_files.specs.declared.stop.Stop.{Stop}
use Rattle.hm_run_files.specs.declared.stop.Stop.TheVariants.{Refused, Fault, Memory}
use Rattle.hm_run_files.specs.Files.{New, loads, written}
use Rattle.hm_run_files.proofs.Steps.{ok_is, then_ok}
use Rattle.hm_run_words.specs.declared.ending.Output.{Output}
use Rattle.hm_run_words.specs.Slots.{slots_of, files_of}
use Rattle.hm_run_words.specs.Words.{names_differ, meaning}
use Rattle.hm_run_words.proofs.Apart.{AreSix, meant_six}
use Rattle.hm_run_effects.specs.Effects.{Effect, EffectOf, Acts}
use Rattle.hm_run_handed.specs.Handed.{Handed}
use Rattle.hm_run_sync.specs.Verdict.{Plan as PlanOf, PlansFrom, news_of}
use Rattle.hm_run.specs.Commands.{Reconciles, new_names, finding_by, finding_of}
use Rattle.hm_run.specs.Endings.{AsksFor, IsPlan, Works, stop_state}
use Rattle.hm_run.specs.Stops.{MayGoOn, ComesToOneEnd}
use Rattle.hm_run.proofs.Worked.{kept}
use Rattle.hm_run.proofs.Replanning.{planned_again}

-- ---- a run has written the first n files of its plan

take_next : {X : Type 0} (xs : List X) (y : X) (ys : List X) → take (suc (length xs)) (xs ++ y ∷ ys) ≡ xs ++ y ∷ []
take_next [] y ys = refl
take_next (x ∷ xs) y ys = ap (λ l. x ∷ l) (take_next xs y ys)

abbrev IsLeft : Contents → PlanOf → Option Contents → Type 0
IsLeft c plan left = (n : ℕ) × (left ≡ Some (stop_state c plan n))

module _ (h : Handed) (words : List Name) (c : Contents) (plan : PlanOf) (is : IsPlan h words c plan) (left : Option Contents) where
  unchanged : left ≡ Some c → IsLeft c plan left
  unfolding written
  unchanged e = (0, e)

  module _ (sync : is.asked.command ≡ Sync) where
    -- the new files of the effect are those of the plan
    news_found : (all : List (List ℕ)) (effect : Effect) → loads c (files_of is.asked) ≡ Ok all → finding_of h is.asked all (Ok effect)
        → effect.news ≡ news_of plan.files plan.texts
    unfolding Reconciles
    news_found all effect loaded found =
        let p = then_ok (subst (λ (k : Command). finding_by h k is.asked.quiet is.asked.files all (Ok effect)) sync found) in
        let same_all : all ≡ is.all = ok_is _ _ (sym loaded ∙ is.loaded) in
        let same : p.0 ≡ plan =
        ok_is _ _ (is.only (Ok p.0) (subst (λ (l : List (List ℕ)). PlansFrom h (new_names is.asked.files) l (Ok p.0)) same_all p.1)) in
        ap (λ (e : Effect). e.news) (ok_is _ _ p.2.2) ∙ ap (λ (q : PlanOf). news_of q.files q.texts) same

    news_are : (effect : Effect) → EffectOf (finding_of h is.asked) (files_of is.asked) c (Ok effect) → effect.news ≡ news_of plan.files plan.texts
    unfolding EffectOf
    news_are effect e = let all = then_ok e in news_found all.0 effect (sym all.1) all.2

    module _ (told : Option Contents) (is_told : told ≡ Some c) (before after : List Failure) where
      left_by : (work : Result Output Stop) → Acts (finding_of h is.asked) (files_of is.asked) told left before after work → IsLeft c plan left
      left_by (Ok output) w =
          let d = w.0.0 c is_told in (3, d.is ∙ ap (λ (l : List New). Some (written c l)) (news_are d.effect d.planned))
      left_by (Err (Refused (At at fault))) w = unchanged (w.0.0 c is_told).1
      left_by (Err (Refused Usage)) w = absurd w.0
      left_by (Err (Refused (SameName one two))) w = absurd w.0
      left_by (Err (Fault kind at)) w = elim w.0.0 [
        | inl unread ↦ unchanged (unread.1 ∙ is_told)
        | inr u ↦
            let among : news_of plan.files plan.texts ≡ u.unwritten.earlier ++ u.unwritten.here ∷ u.unwritten.later =
            sym (news_found u.all u.effect (u.loaded c is_told) u.comes) ∙ u.unwritten.among in
            elim (u.unwritten.left_so c is_told) [
              | inl e ↦ (
                length u.unwritten.earlier,
                e ∙ ap (λ (l : List New). Some (written c l)) (sym (take-append_seam u.unwritten.earlier (u.unwritten.here ∷ u.unwritten.later))
                    ∙ ap (take (length u.unwritten.earlier)) (sym among)),
              )
              | inr e ↦ (
                suc (length u.unwritten.earlier),
                e ∙ ap (λ (l : List New). Some (written c l)) (sym (take_next u.unwritten.earlier u.unwritten.here u.unwritten.later)
                    ∙ ap (take (suc (length u.unwritten.earlier))) (sym among)),
              )
            ]
      ]
      left_by (Err Memory) w = elim (w.1 refl c is_told) [
        | inl e ↦ unchanged e
        | inr s ↦ (s.0, s.1.is ∙ ap (λ (l : List New). Some (written c (take s.0 l))) (news_are s.1.effect s.1.planned))
      ]

-- ---- and from there it comes to the same end

-- the request is the one that the words ask for
asked_for : (words : List Name) (asked : RequestValue) (command : Command) → meaning words ≡ Ok asked → AsksFor words command → asked.command ≡ command
asked_for words asked command means asks =
    let same : asked ≡ asks.0 = ok_is _ _ (sym means ∙ asks.1) in ap (λ (a : RequestValue). a.command) same ∙ asks.2

module _ (h : Handed) (words : List Name) (told left : Option Contents) (before after : List Failure) (work : Result Output Stop)
    (works : Works h (meaning words) told left before after work) (c : Contents) (is_told : told ≡ Some c) (plan : PlanOf)
    (is : IsPlan h words c plan) where
  goes_from : IsLeft c plan left → AreSix is.asked → MayGoOn h words c left plan
  goes_from so six = record { files = so.0; is = so.1; again = planned_again h words c plan is six }

  sync_goes_on : AsksFor words Sync → MayGoOn h words c left plan
  sync_goes_on asks =
      let sync = asked_for words is.asked Sync is.means asks in
      goes_from (left_by h words c plan is left sync told is_told before after work
      (subst (λ (m : Result RequestValue Refusal). Works h m told left before after work) is.means works))
      (meant_six words is.asked is.means (ap slots_of sync) (ap names_differ sync))

  plan_goes_on : AsksFor words Plan → MayGoOn h words c left plan
  plan_goes_on asks =
      let plan_asked = asked_for words is.asked Plan is.means asks in
      goes_from (unchanged h words c plan is left (kept h words told left before after work works
      (λ sync. let e = asked_for words is.asked Sync is.means sync in let no : ⊥ = cc in no) c is_told))
      (meant_six words is.asked is.means (ap slots_of plan_asked) (ap names_differ plan_asked))

pub may_go_on : (h : Handed) (words : List Name) (told left : Option Contents) (before after : List Failure) (work : Result Output Stop)
    → Works h (meaning words) told left before after work → AsksFor words Sync ⊎ AsksFor words Plan → ComesToOneEnd h words told left
may_go_on h words told left before after work works asks c is_told plan is =
    ⊎_elim (sync_goes_on h words told left before after work works c is_told plan is)
    (plan_goes_on h words told left before after work works c is_told plan is) asks
