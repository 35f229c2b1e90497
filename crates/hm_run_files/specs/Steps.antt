-- What a step of a run finds, which is put together step by step, and what a step did, in one contract for all steps.
use Rattle.std.specs.Prelude.{◌≡◌, List, [], Option, Some, Result, Ok, Err}
use Rattle.hm_outside.specs.Contents.{Contents}
use Rattle.hm_outside.specs.Failures.{Extends}
use Rattle.hm_outside.specs.declared.outside.Failure.{Failure}
use Rattle.hm_outside.specs.declared.outside.Kind.{Kind}
use Rattle.hm_run_files.specs.declared.slot.Slot.{Slot}
use Rattle.hm_run_files.specs.declared.stop.Refusal.{Refusal}
use Rattle.hm_run_files.specs.declared.stop.Refusal.TheVariants.{Usage, SameName, At}
use Rattle.hm_run_files.specs.declared.stop.Stop.{Stop}
use Rattle.hm_run_files.specs.declared.stop.Stop.TheVariants.{Refused, Fault, Memory}

-- a first step, and a second one with its value; a refusal of the first is that of both
pub data Then {A B : Type 0} (first : Result A Refusal → Type 0) (second : A → Result B Refusal → Type 0) : Result B Refusal → Type 0 where
  stops : {refusal : Refusal} → first (Err refusal) → Then first second (Err refusal)
  goes_on : {x : A} {r : Result B Refusal} → first (Ok x) → second x r → Then first second r

-- what a reader finds, with its fault told as a refusal
abbrev pub Told : {A F : Type 0} → (F → Stop) → (Result A F → Type 0) → Result A Refusal → Type 0
Told tell reads (Ok x) = reads (Ok x)
Told {F} tell reads (Err refusal) = (fault : F) × reads (Err fault) × (tell fault ≡ Refused refusal)

-- a reader or a step finds one thing at the most
abbrev pub FindsOne : {A F : Type 0} → (Result A F → Type 0) → Type 0
FindsOne {A} {F} finds = (r s : Result A F) → finds r → finds s → r ≡ s

-- a fact on the value, where it is told
abbrev pub WhereTold : {T : Type 0} → Option T → (T → Type 0) → Type 0
WhereTold {T} told P = (x : T) → told ≡ Some x → P x

-- a step stopped: it was refused for a file, met a fault of the store with its cause, or had no memory. But for a fault,
-- no call of the store has failed
abbrev pub Stopped : (Refusal → Type 0) → (Kind → Slot → Type 0) → List Failure → List Failure → Stop → Type 0
Stopped refuses cause before after (Refused (At at fault)) = refuses (At at fault) × (after ≡ before)
Stopped refuses cause before after (Refused Usage) = ⊥
Stopped refuses cause before after (Refused (SameName one two)) = ⊥
Stopped refuses cause before after (Fault kind at) = cause kind at × Extends before after
Stopped refuses cause before after Memory = after ≡ before

-- a step found what it finds, or it stopped
abbrev pub Did : {A : Type 0} → (Result A Refusal → Type 0) → (Kind → Slot → Type 0) → List Failure → List Failure → Result A Stop → Type 0
Did finds cause before after (Ok x) = finds (Ok x) × (after ≡ before)
Did finds cause before after (Err stop) = Stopped (λ refusal. finds (Err refusal)) cause before after stop

-- a step that calls no store
abbrev pub Computes : {A : Type 0} → (Result A Refusal → Type 0) → Result A Stop → Type 0
Computes finds result = Did finds (λ kind at. ⊥) [] [] result

-- what is found, seen so, is what these contents say, where they are told
abbrev pub Finds : {A B : Type 0} → Option Contents → (A → B) → (Contents → Result B Refusal) → Result A Refusal → Type 0
Finds told seen wanted (Ok x) = WhereTold told (λ c. wanted c ≡ Ok (seen x))
Finds told seen wanted (Err refusal) = WhereTold told (λ c. wanted c ≡ Err refusal)

-- nothing is refused, and the contents become these, where they are told
abbrev pub Leaves : Option Contents → Option Contents → (Contents → Contents) → Result (Unit {0}) Refusal → Type 0
Leaves told left become found = (found ≡ Ok tt) × WhereTold told (λ c. left ≡ Some (become c))
