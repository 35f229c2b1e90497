-- The work of a request, step behind step, whatever its command.
use Rattle.std.proofs.Common.{◌≡◌, inl, inr, ⊎_elim, ℕ, zero, suc, List, [], ◌∷◌, ◌++◌, take, Option, Some, Result, Ok, Err, refl, sym, ap, subst, ◌∙◌}
use Rattle.hm_outside.specs.Contents.{Contents}
use Rattle.hm_outside.specs.declared.outside.Failure.{Failure}
use Rattle.hm_outside.specs.declared.outside.Kind.{Kind}
use Rattle.hm_outside.specs.declared.outside.Kind.TheVariants.{Load}
use Rattle.hm_run_files.specs.declared.slot.Slot.{Slot}
use Rattle.hm_run_files.specs.declared.stop.Refusal.{Refusal}
use Rattle.hm_run_files.specs.declared.stop.Refusal.TheVariants.{Usage, SameName, At}
use Rattle.hm_run_files.specs.declared.stop.Stop.{Stop}
use Rattle.hm_run_files.specs.declared.stop.Stop.TheVariants.{Refused, Fault, Memory}
use Rattle.hm_run_files.specs.Steps.{Stopped, FindsOne, Leaves, WhereTold, stops, goes_on}
use Rattle.hm_run_files.specs.Files.{File, New, loads, written, AreUnread, AreUnwritten}
use Rattle.hm_run_files.proofs.Steps.{stopped, then_once, then_ok, equals_once}
use Rattle.hm_run_words.specs.declared.ending.Output.{Output}
use Rattle.hm_run_effects.specs.Effects.{Effect, Finding, EffectOf, Tells, IsDone, Comes, IsUnfinished, IsFault, Acts, WritesNothing}

-- a request comes to one thing at the most
pub effect_once : (finds : Finding) (files : List File) (c : Contents) → ((all : List (List ℕ)) → FindsOne (finds all)) → FindsOne (EffectOf finds files c)
unfolding EffectOf
effect_once finds files c once = then_once _ _ (equals_once _) once

module _ (finds : Finding) (files : List File) {told left : Option Contents} (same : left ≡ told) where
  loads_first : (c : Contents) (refusal : Refusal) → loads c files ≡ Err refusal → EffectOf finds files c (Err refusal)
  unfolding EffectOf
  loads_first c refusal e = stops (sym e)

  -- before anything was done
  pub none_begun : (old : List Failure) → Acts finds files told left old old (Err Memory)
  none_begun old = (refl, λ spent c is_told. inl (same ∙ is_told))

  pub loads_stop : (old mid : List Failure) (stop : Stop)
      → Stopped (λ refusal. WhereTold told (λ c. loads c files ≡ Err refusal)) (AreUnread told files old mid) old mid stop
      → Acts finds files told left old mid (Err stop)
  loads_stop old mid stop h = (
    stopped (λ refusal. WhereTold told (λ c. loads c files ≡ Err refusal)) (λ refusal. Comes finds files told left (Err refusal))
        (AreUnread told files old mid) (IsFault finds files told left old mid) _ _ _ _ stop h
        (λ refusal k c is_told. (loads_first c refusal (k c is_told), same ∙ is_told))
        (λ kind at k extends. (inl (k, same), extends)) (λ e. e),
    λ spent c is_told. inl (same ∙ is_told),
  )

  -- behind the loads
  module _ {old mid : List Failure} (calm : mid ≡ old) (all : List (List ℕ)) (found : WhereTold told (λ c. loads c files ≡ Ok all)) where
    effect_as : (r : Result Effect Refusal) (c : Contents) → told ≡ Some c → finds all r → EffectOf finds files c r
    unfolding EffectOf
    effect_as r c is_told h = goes_on (sym (found c is_told)) h

    pub effect_stop : (stop : Stop) → Stopped (λ refusal. finds all (Err refusal)) (λ kind at. ⊥) [] [] stop
        → Acts finds files told left old mid (Err stop)
    effect_stop stop h = (
      stopped (λ refusal. finds all (Err refusal)) (λ refusal. Comes finds files told left (Err refusal))
          (λ kind at. ⊥) (IsFault finds files told left old mid) _ _ _ _ stop h
          (λ refusal k c is_told. (effect_as (Err refusal) c is_told k, same ∙ is_told))
          (λ kind at no extends. absurd no) (λ e. calm),
      λ spent c is_told. inl (same ∙ is_told),
    )

    -- behind what they come to
    module _ (effect : Effect) (planned : finds all (Ok effect)) (end : Option Contents) where
      writes_fault : (failed : List Failure) (kind : Kind) (at : Slot) → AreUnwritten left end effect.news mid failed kind at
          → IsFault finds files told end old failed kind at
      writes_fault failed kind at h = inr (record {
        all = all;
        effect = effect;
        comes = planned;
        loaded = found;
        unwritten = rw (← same, ← calm) h;
      })

      pub writes_stop : (failed : List Failure) (stop : Stop)
          → Stopped (λ refusal. Leaves left end (λ c. written c effect.news) (Err refusal)) (AreUnwritten left end effect.news mid failed) mid failed stop
          → (stop ≡ Memory → WhereTold left (λ c. (n : ℕ) × (end ≡ Some (written c (take n effect.news)))))
          → Acts finds files told end old failed (Err stop)
      writes_stop failed stop h memory = (
        stopped (λ refusal. Leaves left end (λ c. written c effect.news) (Err refusal)) (λ refusal. Comes finds files told end (Err refusal))
            (AreUnwritten left end effect.news mid failed) (IsFault finds files told end old failed) _ _ _ _ stop h
            (λ refusal k. absurd (let e = k.0 in let no : ⊥ = cc in no))
            (λ kind at k extends. (writes_fault failed kind at k, rw (← calm) extends)) (λ e. e ∙ calm),
        λ spent c is_told.
            let so_far = memory (let e : stop ≡ Memory = cc in e) c (same ∙ is_told) in
            inr (so_far.0, record { effect = effect; planned = effect_as (Ok effect) c is_told planned; is = so_far.1 }),
      )

      pub done : (output : Output) → Tells effect output → WhereTold left (λ c. end ≡ Some (written c effect.news))
          → WhereTold told (λ c. IsDone finds files c output end)
      done output tells h = λ c is_told. record {
        effect = effect;
        planned = effect_as (Ok effect) c is_told planned;
        is = h c (same ∙ is_told);
        tells = tells;
      }

-- ---- commands that write nothing

none_unwritten : (told left : Option Contents) (before after : List Failure) (kind : Kind) (at : Slot) → AreUnwritten told left [] before after kind at → ⊥
none_unwritten told left before after kind at h = no h.earlier h.among
  where
    no : (earlier : List New) → [] ≡ earlier ++ h.here ∷ h.later → ⊥
    no [] e = cc
    no (f ∷ fs) e = cc

module _ (finds : Finding) (files : List File) (quiet : WritesNothing finds) (told left : Option Contents) (before after : List Failure) where
  never_unfinished : (kind : Kind) (at : Slot) → IsUnfinished finds files told left before after kind at → ⊥
  never_unfinished kind at h =
      none_unwritten told left before after kind at (subst (λ (news : List New). AreUnwritten told left news before after kind at) (quiet h.all h.effect h.comes) h.unwritten)

  nothing_written : (c : Contents) (effect : Effect) → EffectOf finds files c (Ok effect) → effect.news ≡ []
  unfolding EffectOf
  nothing_written c effect h = let all = then_ok h in quiet all.0 effect all.2

  -- they leave what the store holds as it was, whatever comes of them
  pub untouched : (work : Result Output Stop) → Acts finds files told left before after work → WhereTold told (λ c. left ≡ Some c)
  unfolding written
  untouched (Ok output) h = λ c is_told.
      let d = h.0.0 c is_told in d.is ∙ ap (λ (news : List New). Some (written c news)) (nothing_written c d.effect d.planned)
  untouched (Err (Refused (At at fault))) h = λ c is_told. (h.0.0 c is_told).1
  untouched (Err (Refused Usage)) h = absurd h.0
  untouched (Err (Refused (SameName one two))) h = absurd h.0
  untouched (Err (Fault kind at)) h = λ c is_told. ⊎_elim (λ k. k.1 ∙ is_told) (λ k. absurd (never_unfinished kind at k)) h.0.0
  untouched (Err Memory) h = λ c is_told.
      ⊎_elim (λ e. e) (λ k. k.1.is ∙ ap (λ (news : List New). Some (written c (take k.0 news))) (nothing_written c k.1.effect k.1.planned) ∙ none_of k.0 c) (h.1 refl c is_told)
    where
      none_of : (n : ℕ) (c : Contents) → ◌≡◌ {A = Option Contents} (Some (written c (take n []))) (Some c)
      none_of zero c = refl
      none_of (suc n) c = refl

  -- and no call that replaces a file has failed
  pub never_writes : (kind : Kind) (at : Slot) → Acts finds files told left before after (Err (Fault kind at)) → kind ≡ Load
  never_writes kind at h = ⊎_elim (λ k. k.0.unread.is_call) (λ k. absurd (never_unfinished kind at k)) h.0.0
