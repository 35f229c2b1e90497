-- A call of a store in memory that fails is noted.
use Rattle.std.proofs.Common.{◌≡◌, ◌∙◌, ℕ, List, [], ◌∷◌, refl, sym, ap, subst, append-nil}
use Rattle.hm_tree.specs.Names.{Name}
use Rattle.hm_outside.specs.declared.outside.Kind.TheVariants.{Load, Replace}
use Rattle.hm_outside.specs.declared.outside.Loaded.{Loaded}
use Rattle.hm_outside.specs.declared.outside.Loaded.TheVariants as loaded
use Rattle.hm_outside.specs.declared.outside.Stored.{Stored}
use Rattle.hm_outside.specs.declared.outside.Stored.TheVariants as stored
use Rattle.hm_outside.specs.Failures.{Extends, HasRisen}
use Rattle.hm_outside.specs.InMemory.{StoreValue, LoadsAs, ReplacesAs}
use Rattle.hm_outside.proofs.Risen.{risen_by_entry}

pub load_rises : (name : Name) (limit : ℕ) (s t : StoreValue) (answer : Loaded) → LoadsAs name limit s answer t → answer ≡ loaded.Failed
    → HasRisen Load name s.failed t.failed
load_rises name limit s t answer loads is =
    let failed = subst (λ (a : Loaded). LoadsAs name limit s a t) is loads in
    risen_by_entry Load name s.failed s.failed t.failed (record { kind = Load; name = name }) refl (ap (λ (v : StoreValue). v.failed) failed.1.1) refl refl

pub replace_extends : (name : Name) (bytes : List ℕ) (s t : StoreValue) (answer : Stored) → ReplacesAs name bytes s answer t → Extends s.failed t.failed
replace_extends name bytes s t stored.Memory is = record { more = []; is = ap (λ (v : StoreValue). v.failed) is.0 ∙ sym (append-nil s.failed) }
replace_extends name bytes s t stored.Failed is =
    record { more = record { kind = Replace; name = name } ∷ []; is = ap (λ (v : StoreValue). v.failed) is.1.1.1 }
replace_extends name bytes s t stored.Done is = record { more = []; is = ap (λ (v : StoreValue). v.failed) is.2 ∙ sym (append-nil s.failed) }

pub replace_rises : (name : Name) (bytes : List ℕ) (s t : StoreValue) (answer : Stored) → ReplacesAs name bytes s answer t → answer ≡ stored.Failed
    → HasRisen Replace name s.failed t.failed
replace_rises name bytes s t answer replaces is =
    let failed = subst (λ (a : Stored). ReplacesAs name bytes s a t) is replaces in
    risen_by_entry Replace name s.failed s.failed t.failed (record { kind = Replace; name = name }) refl (ap (λ (v : StoreValue). v.failed) failed.1.1.1) refl refl
