-- Loading one file after another.
use Rattle.std.proofs.Common.{◌≡◌, ℕ, List, [], ◌∷◌, ◌++◌, Vec, Option, Ok, Err, refl, ap, ◌∙◌}
use Rattle.std.specs.declared.alloc.Global.{Global}
use Rattle.std.proofs.lemmas.Grind.{fold-append}
use Rattle.std.proofs.lemmas.List.Folds.{fold_stays}
use Rattle.std.specs.List.{fold}
use Rattle.hm_outside.specs.Contents.{Contents, held}
use Rattle.hm_outside.specs.declared.outside.Failure.{Failure}
use Rattle.hm_outside.specs.declared.outside.Kind.TheVariants.{Load}
use Rattle.hm_run_files.specs.declared.stop.Refusal.{Refusal}
use Rattle.hm_run_files.specs.declared.stop.Stop.{Stop}
use Rattle.hm_run_files.specs.Steps.{WhereTold, Stopped}
use Rattle.hm_run_files.specs.Files.{File, all_bytes, load, load_next, loads, HasFailed, AreUnread}
use Rattle.hm_run_files.proofs.Steps.{stopped}

-- all that a loop has loaded so far
pub record AreLoaded (told left : Option Contents) (old new : List Failure) (files : List File) (all : List (List ℕ)) : Type 0 where
  pub same : left ≡ told
  pub calm : new ≡ old
  pub found : WhereTold told (λ c. loads c files ≡ Ok all)

module _ (c : Contents) (fs : List File) (f : File) (all : List (List ℕ)) (h : loads c fs ≡ Ok all) where
  one_more : (bytes : List ℕ) → load f.slot (held c f.name) ≡ Ok bytes → loads c (fs ++ f ∷ []) ≡ Ok (all ++ bytes ∷ [])
  unfolding loads
  one_more bytes k = fold-append (load_next c) (Ok []) fs (f ∷ []) ∙ ap (λ r. load_next c r f) h ∙ rw k refl

  refused_at : (gs : List File) (refusal : Refusal) → load f.slot (held c f.name) ≡ Err refusal → loads c (fs ++ f ∷ gs) ≡ Err refusal
  unfolding loads
  refused_at gs refusal k = fold-append (load_next c) (Ok []) fs (f ∷ gs)
      ∙ ap (λ r. fold (load_next c) (load_next c r f) gs) h ∙ rw k (fold_stays (load_next c) (Err refusal) (λ g. refl) gs)

module _ {told left : Option Contents} {old mid : List Failure} {earlier : List File} {all : List (List ℕ)}
    (so_far : AreLoaded told left old mid earlier all) (f : File) where
  pub load_stop : (new : List Failure) (later files : List File) → files ≡ earlier ++ f ∷ later → (stop : Stop)
      → Stopped (λ refusal. WhereTold left (λ c. load f.slot (held c f.name) ≡ Err refusal)) (HasFailed Load f.slot f.name mid new) mid new stop
      → Stopped (λ refusal. WhereTold told (λ c. loads c files ≡ Err refusal)) (AreUnread told files old new) old new stop
  load_stop new later files among stop h =
      stopped (λ refusal. WhereTold left (λ c. load f.slot (held c f.name) ≡ Err refusal)) (λ refusal. WhereTold told (λ c. loads c files ≡ Err refusal))
      (HasFailed Load f.slot f.name mid new) (AreUnread told files old new) _ _ _ _ stop h
      (λ refusal k c is_told. ap (loads c) among ∙ refused_at c earlier f all (so_far.found c is_told) later refusal (k c (so_far.same ∙ is_told)))
      (λ kind at k extends. (
        record {
          earlier = earlier;
          here = f;
          later = later;
          among = among;
          unread = rw (← so_far.calm) k;
          found = λ c is_told. (all, so_far.found c is_told);
        },
        rw (← so_far.calm) extends,
      ))
      (λ e. e ∙ so_far.calm)

  pub load_more : (bytes : List ℕ) → WhereTold left (λ c. load f.slot (held c f.name) ≡ Ok bytes)
      → WhereTold told (λ c. loads c (earlier ++ f ∷ []) ≡ Ok (all ++ bytes ∷ []))
  load_more bytes h = λ c is_told. one_more c earlier f all (so_far.found c is_told) bytes (h c (so_far.same ∙ is_told))

pub none_loaded : {told : Option Contents} {old : List Failure} (all : Vec (Vec ℕ Global) Global) → all.items ≡ []
    → AreLoaded told told old old [] (all_bytes all)
unfolding loads
none_loaded all none = record { same = refl; calm = refl; found = λ c is_told. rw none refl }
