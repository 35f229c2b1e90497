-- What steps find and do one behind another.
use Rattle.std.proofs.Common.{◌≡◌, List, [], Result, Ok, Err, refl, sym, subst, ◌∙◌, ap}
use Rattle.hm_outside.specs.Failures.{Extends}
use Rattle.hm_outside.specs.declared.outside.Failure.{Failure}
use Rattle.hm_outside.specs.declared.outside.Kind.{Kind}
use Rattle.hm_run_files.specs.declared.slot.Slot.{Slot}
use Rattle.hm_run_files.specs.declared.stop.Refusal.{Refusal}
use Rattle.hm_run_files.specs.declared.stop.Refusal.TheVariants.{Usage, SameName, At}
use Rattle.hm_run_files.specs.declared.stop.Stop.{Stop}
use Rattle.hm_run_files.specs.declared.stop.Stop.TheVariants.{Refused, Fault, Memory}
use Rattle.hm_run_files.specs.Steps.{Stopped, Computes, Then, stops, goes_on, Told, FindsOne}

-- ---- a step finds one thing at the most where its parts do

-- two sides, of which each has one value at the most, and never both
pub sides_once : {A F : Type 0} (finds : Result A F → Type 0)
    → ((x y : A) → finds (Ok x) → finds (Ok y) → x ≡ y)
    → ((x : A) (f : F) → finds (Ok x) → finds (Err f) → ⊥)
    → ((f g : F) → finds (Err f) → finds (Err g) → f ≡ g) → FindsOne finds
sides_once finds values apart faults (Ok x) (Ok y) h k = ap Ok (values x y h k)
sides_once finds values apart faults (Ok x) (Err g) h k = absurd (apart x g h k)
sides_once finds values apart faults (Err f) (Ok y) h k = absurd (apart y f k h)
sides_once {F = F} finds values apart faults (Err f) (Err g) h k = ap (λ (z : F). Err z) (faults f g h k)

pub equals_once : {A F : Type 0} (wanted : Result A F) → FindsOne (λ r. r ≡ wanted)
equals_once wanted r s p q = p ∙ sym q

-- what a reader finds, told as a refusal
pub told_once : {A F : Type 0} (tell : F → Stop) (reads : Result A F → Type 0) → FindsOne reads → FindsOne (Told tell reads)
told_once {A} {F} tell reads once = sides_once (Told tell reads)
    (λ x y h k. let e : ◌≡◌ {A = Result A F} (Ok x) (Ok y) = once _ _ h k in cc)
    (λ x f h k. let e : ◌≡◌ {A = Result A F} (Ok x) (Err k.0) = once _ _ h k.1 in cc)
    (λ f g h k. let e : ◌≡◌ {A = Result A F} (Err h.0) (Err k.0) = once _ _ h.1 k.1 in
    let same : h.0 ≡ k.0 = cc in let told : Refused f ≡ Refused g = sym h.2 ∙ ap tell same ∙ k.2 in cc)

-- the second step may rest on what the first one found
module _ {A B : Type 0} (first : Result A Refusal → Type 0) (second : A → Result B Refusal → Type 0)
    (one : FindsOne first) (next : (x : A) → first (Ok x) → FindsOne (second x)) where
  pub then_once_of : FindsOne (Then first second)
  then_once_of _ _ (stops {refusal = p} h) (stops {refusal = q} k) =
      let e = one _ _ h k in let same : p ≡ q = cc in ap (λ (z : Refusal). Err z) same
  then_once_of _ _ (stops h) (goes_on k l) = absurd (let e = one _ _ h k in let no : ⊥ = cc in no)
  then_once_of _ _ (goes_on h l) (stops k) = absurd (let e = one _ _ h k in let no : ⊥ = cc in no)
  then_once_of _ _ (goes_on {x} {r} h l) (goes_on {x = y} {r = s} k m) =
      let e = one _ _ h k in let same : x ≡ y = cc in next y k r s (subst (λ z. second z r) same l) m

pub then_once : {A B : Type 0} (first : Result A Refusal → Type 0) (second : A → Result B Refusal → Type 0)
    → FindsOne first → ((x : A) → FindsOne (second x)) → FindsOne (Then first second)
then_once first second one next = then_once_of first second one (λ x h. next x)

pub ok_is : {A F : Type 0} (x y : A) → ◌≡◌ {A = Result A F} (Ok x) (Ok y) → x ≡ y
ok_is x y e = cc

-- two steps that have a value have it by both
pub then_ok : {A B : Type 0} {first : Result A Refusal → Type 0} {second : A → Result B Refusal → Type 0} {y : B} → Then first second (Ok y)
    → (x : A) × first (Ok x) × second x (Ok y)
then_ok {A} {B} {first} {second} {y} h = at (Ok y) refl h
  where
    at : (r : Result B Refusal) → r ≡ Ok y → Then first second r → (x : A) × first (Ok x) × second x (Ok y)
    at _ e (stops f) = absurd (let no : ⊥ = cc in no)
    at r e (goes_on {x} f k) = (x, f, subst (second x) e k)

-- ---- a step that stopped stops the whole

-- what is refused, and what a fault is caused by, seen from the whole
pub stopped : (refuses refuses2 : Refusal → Type 0) (cause cause2 : Kind → Slot → Type 0) (before mid after end : List Failure) (stop : Stop)
    → Stopped refuses cause mid after stop → ((refusal : Refusal) → refuses refusal → refuses2 refusal)
    → ((kind : Kind) (at : Slot) → cause kind at → Extends mid after → cause2 kind at × Extends before end)
    → (after ≡ mid → end ≡ before) → Stopped refuses2 cause2 before end stop
stopped _ _ _ _ _ _ _ _ (Refused (At at fault)) h f g calm = (f (At at fault) h.0, calm h.1)
stopped _ _ _ _ _ _ _ _ (Refused Usage) h f g calm = h
stopped _ _ _ _ _ _ _ _ (Refused (SameName one two)) h f g calm = h
stopped _ _ _ _ _ _ _ _ (Fault kind at) h f g calm = g kind at h.0 h.1
stopped _ _ _ _ _ _ _ _ Memory h f g calm = calm h

-- a step that calls no store
pub computes_stop : {A : Type 0} (finds : Result A Refusal → Type 0) (refuses : Refusal → Type 0) (stop : Stop) (r : Result A Stop) → r ≡ Err stop
    → Stopped refuses (λ kind at. ⊥) [] [] stop → ((refusal : Refusal) → refuses refusal → finds (Err refusal)) → Computes finds r
computes_stop finds refuses stop r is h f =
    subst (Computes finds) (sym is) (stopped refuses (λ refusal. finds (Err refusal)) (λ kind at. ⊥) (λ kind at. ⊥) _ _ _ _ stop h f
    (λ kind at no e. absurd no) (λ e. e))

-- what is found is something else too
pub computes_as : {A : Type 0} (finds other : Result A Refusal → Type 0) → ((r : Result A Refusal) → finds r → other r) → (r : Result A Stop)
    → Computes finds r → Computes other r
computes_as finds other as_other (Ok x) h = (as_other (Ok x) h.0, h.1)
computes_as finds other as_other (Err stop) h = computes_stop other (λ refusal. finds (Err refusal)) stop (Err stop) refl h (λ refusal f. as_other (Err refusal) f)

module _ {A B : Type 0} (first : Result A Refusal → Type 0) (second : A → Result B Refusal → Type 0) where
  -- a first step that stopped stops both
  pub then_stop : (stop : Stop) (r : Result B Stop) → r ≡ Err stop → Computes first (Err stop) → Computes (Then first second) r
  then_stop stop r is h = computes_stop (Then first second) (λ refusal. first (Err refusal)) stop r is h (λ refusal f. stops f)

  -- behind one that has its value comes what the second finds
  pub then_go : (x : A) (r : Result B Stop) → first (Ok x) → Computes (second x) r → Computes (Then first second) r
  then_go x (Ok y) h k = (goes_on h k.0, refl)
  then_go x (Err stop) h k =
      computes_stop (Then first second) (λ refusal. second x (Err refusal)) stop (Err stop) refl k (λ refusal f. goes_on h f)
