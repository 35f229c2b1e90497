-- Lists of failed calls that grow, and counts that rise in them.
use Rattle.std.proofs.Common.{◌≡◌, ◌+◌, ◌≤◌, List, [], ◌∷◌, ◌++◌, Bool, true, cond, ◌&&◌, refl, ◌∙◌, ap, arith, rules, append_assoc}
use Rattle.std.specs.Prelude.{count_by, sum_by}
use Rattle.std.specs.Str.{bytes_eq}
use Rattle.std.proofs.lemmas.List.Sums.{sum_by-append}
use Rattle.std.proofs.lemmas.Slice.Eq.{bytes_eq-Decides}
use Rattle.hm_tree.specs.Names.{Name}
use Rattle.hm_outside.specs.declared.outside.Kind.{Kind}
use Rattle.hm_outside.specs.declared.outside.Kind.TheVariants.{Load, Replace}
use Rattle.hm_outside.specs.declared.outside.Failure.{Failure}
use Rattle.hm_outside.specs.Failures.{is_same_kind, count_of, Extends, HasRisen}

-- a list extends itself
pub extends_refl : (failed : List Failure) → Extends failed failed
extends_refl failed = record { more = []; is = search rules }

pub extends_trans : {old mid new : List Failure} → Extends old mid → Extends mid new → Extends old new
extends_trans {old} {mid} {new} e f =
    record { more = e.more ++ f.more; is = f.is ∙ ap (λ (l : List Failure). l ++ f.more) e.is ∙ append_assoc old e.more f.more }

-- no count falls
pub count_of-extends : (kind : Kind) (name : Name) {old new : List Failure} → Extends old new → count_of kind name old ≤ count_of kind name new
count_of-extends kind name {old} {new} e =
    let counts = ap (count_of kind name) e.is ∙ sum_by-append (λ f. cond (is_same_kind kind f.kind && bytes_eq name f.name) 1 0) old e.more in
    omega (arith, counts)

-- what has risen by now has risen since before
pub risen_since : {kind : Kind} {name : Name} {old mid new : List Failure} → Extends old mid → HasRisen kind name mid new → HasRisen kind name old new
risen_since {kind} {name} e h = record { rises = omega (arith, count_of-extends kind name e, h.rises) }

-- an unchanged list has not risen
pub not_risen : {kind : Kind} {name : Name} {old new : List Failure} → new ≡ old → HasRisen kind name old new → ⊥
not_risen {kind} {name} same h = let counts = ap (count_of kind name) same in omega (arith, counts, h.rises)

is_same_kind_refl : (kind : Kind) → is_same_kind kind kind ≡ true
is_same_kind_refl Load = refl
is_same_kind_refl Replace = refl

count_by-snoc : {X : Type 0} (p : X → Bool) (xs : List X) (x : X) → p x ≡ true → count_by p (xs ++ x ∷ []) ≡ count_by p xs + 1
count_by-snoc p xs x h =
    let one : sum_by (λ y. cond (p y) 1 0) (x ∷ []) ≡ 1 = rw h refl in
    omega (arith, sum_by-append (λ y. cond (p y) 1 0) xs (x ∷ []), one)

-- one more entry of this kind and name
pub risen_by_entry : (kind : Kind) (name : Name) (old mid new : List Failure) (entry : Failure) → mid ≡ old → new ≡ mid ++ entry ∷ []
    → entry.kind ≡ kind → entry.name ≡ name → HasRisen kind name old new
risen_by_entry kind name old mid new entry same noted same_kind same_name =
    let passes : is_same_kind kind entry.kind && bytes_eq name entry.name ≡ true =
    rw (same_kind, same_name, is_same_kind_refl kind, (bytes_eq-Decides name name).1 refl) in
    let more = count_by-snoc (λ f. is_same_kind kind f.kind && bytes_eq name f.name) old entry passes in
    let lists : new ≡ old ++ entry ∷ [] = noted ∙ ap (λ (l : List Failure). l ++ entry ∷ []) same in
    let counts : count_of kind name new ≡ count_of kind name old + 1 = ap (count_of kind name) lists ∙ more in
    record { rises = omega (arith, counts) }
