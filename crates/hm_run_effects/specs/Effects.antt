-- What a request comes to over the contents of a store, in one form for all commands; and what a run of it did.
use Rattle.std.specs.Prelude.{◌≡◌, ◌⊎◌, ℕ, List, [], map, take, Option, Some, Result, Ok, Err}
use Rattle.hm_outside.specs.Contents.{Contents}
use Rattle.hm_outside.specs.declared.outside.Failure.{Failure}
use Rattle.hm_outside.specs.declared.outside.Kind.{Kind}
use Rattle.hm_run_files.specs.declared.slot.Slot.{Slot}
use Rattle.hm_run_files.specs.declared.stop.Refusal.{Refusal}
use Rattle.hm_run_files.specs.declared.stop.Stop.{Stop}
use Rattle.hm_run_files.specs.declared.stop.Stop.TheVariants.{Memory}
use Rattle.hm_run_files.specs.Steps.{Then, WhereTold, Did}
use Rattle.hm_run_files.specs.Files.{File, New, new_of, loads, written, AreUnread, AreUnwritten}
use Rattle.hm_run_words.specs.declared.ending.Output.{Output}
use Rattle.hm_run_effects.specs.declared.effect.Effect.{Effect as NewEffect}

-- the files that are written, in order, and then the status and the text that is put out
pub record Effect : Type 0 where
  pub news : List New
  pub status : ℕ
  pub text : List ℕ

-- nothing is written, and a text is put out
abbrev pub says : List ℕ → Effect
says text = record { news = []; status = 0; text = text }

abbrev pub effect_value : NewEffect → Effect
effect_value e = record { news = map new_of e.news.items; status = e.output.status; text = e.output.text.items }

-- an output beside which nothing is written
abbrev pub output_value : Output → Effect
output_value output = record { news = []; status = output.status; text = output.text.items }

-- a step that says what files of these bytes come to, or for what they are refused
abbrev pub Finding : Type 1
Finding = List (List ℕ) → Result Effect Refusal → Type 0

-- what is to be done over some contents: the files are loaded, and then comes what their bytes come to
unfoldable pub EffectOf : Finding → List File → Contents → Result Effect Refusal → Type 0
EffectOf finds files c = Then (λ r. r ≡ loads c files) finds

pub record Tells (effect : Effect) (output : Output) : Type 0 where
  pub status : output.status ≡ effect.status
  pub text : output.text.items ≡ effect.text

-- the store has the first n new files of the effect of these contents
pub record IsStopState (finds : Finding) (files : List File) (c : Contents) (left : Option Contents) (n : ℕ) : Type 0 where
  pub effect : Effect
  pub planned : EffectOf finds files c (Ok effect)
  pub is : left ≡ Some (written c (take n effect.news))

-- it has all of them, and the output tells the rest
pub record IsDone (finds : Finding) (files : List File) (c : Contents) (output : Output) (left : Option Contents) : Type 0 where
  pub effect : Effect
  pub planned : EffectOf finds files c (Ok effect)
  pub is : left ≡ Some (written c effect.news)
  pub tells : Tells effect output

-- the effect is done; or the refusal is the first one that holds, and nothing has changed
abbrev pub Comes : Finding → List File → Option Contents → Option Contents → Result Output Refusal → Type 0
Comes finds files told left (Ok output) = WhereTold told (λ c. IsDone finds files c output left)
Comes finds files told left (Err refusal) = WhereTold told (λ c. EffectOf finds files c (Err refusal) × (left ≡ Some c))

-- one of the new files of an effect could not be written
pub record IsUnfinished (finds : Finding) (files : List File) (told left : Option Contents) (before after : List Failure) (kind : Kind) (at : Slot) : Type 0 where
  pub all : List (List ℕ)
  pub effect : Effect
  pub comes : finds all (Ok effect)
  pub loaded : WhereTold told (λ c. loads c files ≡ Ok all)
  pub unwritten : AreUnwritten told left effect.news before after kind at

-- a file could not be read, and nothing has changed; or one could not be written
abbrev pub IsFault : Finding → List File → Option Contents → Option Contents → List Failure → List Failure → Kind → Slot → Type 0
IsFault finds files told left before after kind at =
    (AreUnread told files before after kind at × (left ≡ told)) ⊎ IsUnfinished finds files told left before after kind at

-- for want of memory the contents are as before, or the effect was done as far as some file
abbrev pub IsCutOff : Finding → List File → Option Contents → Option Contents → Type 0
IsCutOff finds files told left = WhereTold told (λ c. (left ≡ Some c) ⊎ ((n : ℕ) × IsStopState finds files c left n))

-- the one contract of a run's work, for every command
abbrev pub Acts : Finding → List File → Option Contents → Option Contents → List Failure → List Failure → Result Output Stop → Type 0
Acts finds files told left before after work =
    Did (Comes finds files told left) (IsFault finds files told left before after) before after work
    × (work ≡ Err Memory → IsCutOff finds files told left)

-- a command that writes nothing
abbrev pub WritesNothing : Finding → Type 0
WritesNothing finds = (all : List (List ℕ)) (effect : Effect) → finds all (Ok effect) → effect.news ≡ []
