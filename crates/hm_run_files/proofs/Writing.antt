-- Writing one file after another.
use Rattle.std.proofs.Common.{◌≡◌, ⊎_elim, inl, inr, List, [], ◌∷◌, ◌++◌, Option, Some, Err, refl, ap, sym, ◌∙◌}
use Rattle.std.proofs.lemmas.Grind.{fold-append}
use Rattle.hm_outside.specs.Contents.{Contents, replaced}
use Rattle.hm_outside.specs.declared.outside.Failure.{Failure}
use Rattle.hm_run_files.specs.declared.stop.Stop.{Stop}
use Rattle.hm_run_files.specs.Steps.{WhereTold, Stopped, Leaves}
use Rattle.hm_run_files.specs.Files.{New, written, IsUnwritten, AreUnwritten}
use Rattle.hm_run_files.proofs.Steps.{stopped}

-- all that a loop has written so far
pub record AreWritten (told left : Option Contents) (old new : List Failure) (files : List New) : Type 0 where
  pub calm : new ≡ old
  pub left_so : WhereTold told (λ c. left ≡ Some (written c files))

pub none_written : {told : Option Contents} {old : List Failure} → AreWritten told told old old []
unfolding written
none_written = record { calm = refl; left_so = λ c is_told. is_told }

-- one file more
pub written_more : (c : Contents) (fs : List New) (f : New) → replaced (written c fs) f.name f.bytes ≡ written c (fs ++ f ∷ [])
unfolding written
written_more c fs f = sym (fold-append (λ d g. replaced d g.name g.bytes) c fs (f ∷ []))

module _ {told left : Option Contents} {old mid : List Failure} {earlier : List New} (so_far : AreWritten told left old mid earlier) (f : New) where
  pub write_stop : (after : Option Contents) (new : List Failure) (later files : List New) → files ≡ earlier ++ f ∷ later → (stop : Stop)
      → Stopped (λ refusal. Leaves left after (λ c. replaced c f.name f.bytes) (Err refusal)) (IsUnwritten left after f mid new) mid new stop
      → Stopped (λ refusal. Leaves told after (λ c. written c files) (Err refusal)) (AreUnwritten told after files old new) old new stop
  write_stop after new later files among stop h =
      stopped (λ refusal. Leaves left after (λ c. replaced c f.name f.bytes) (Err refusal)) (λ refusal. Leaves told after (λ c. written c files) (Err refusal))
      (IsUnwritten left after f mid new) (AreUnwritten told after files old new) _ _ _ _ stop h
      (λ refusal k. absurd (let e = k.0 in let no : ⊥ = cc in no))
      (λ kind at k extends. (
        record {
          earlier = earlier;
          here = f;
          later = later;
          among = among;
          failed = rw (← so_far.calm) k.failed;
          left_so = λ c is_told. ⊎_elim (λ e. inl e) (λ e. inr (e ∙ ap (λ (d : Contents). Some d) (written_more c earlier f)))
              (k.left_so (written c earlier) (so_far.left_so c is_told));
        },
        rw (← so_far.calm) extends,
      ))
      (λ e. e ∙ so_far.calm)

  pub write_more : (after : Option Contents) → WhereTold left (λ c. after ≡ Some (replaced c f.name f.bytes))
      → WhereTold told (λ c. after ≡ Some (written c (earlier ++ f ∷ [])))
  write_more after h = λ c is_told. h (written c earlier) (so_far.left_so c is_told) ∙ ap (λ (d : Contents). Some d) (written_more c earlier f)
