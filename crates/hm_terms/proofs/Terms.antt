-- The lens of a term, by the lenses of the terms inside.
use Rattle.std.proofs.Common.{◌≡◌, Box, sym, ap, ◌∙◌}
use Rattle.std.specs.declared.alloc.Global.{Global}
use Rattle.hm_tree.specs.Names.{Name}
use Rattle.hm_schema.specs.Values.{Names}
use Rattle.hm_terms.specs.declared.term.Term.{Term, Seq, Fork, ByConcrete, ByView, Map as MapOf, List as ListOf}
use Rattle.hm_terms.specs.Lenses.{sequence, fork, each, items, on_concrete, on_view}
use Rattle.hm_terms.specs.Programs.{lens_of}

pub row_sequence : {t l k : Term} {p q : Box Term Global} → t ≡ Seq p q → l ≡ p.value → k ≡ q.value → sequence (lens_of l) (lens_of k) ≡ lens_of t
row_sequence e f g = (λ i. sequence (lens_of (f i)) (lens_of (g i))) ∙ sym (ap lens_of e)

pub row_fork : {t l k : Term} {P Q : Names} {p q : Box Term Global} → t ≡ Fork P Q p q → l ≡ p.value → k ≡ q.value
    → fork P Q (lens_of l) (lens_of k) ≡ lens_of t
row_fork {P = P} {Q = Q} e f g = (λ i. fork P Q (lens_of (f i)) (lens_of (g i))) ∙ sym (ap lens_of e)

pub row_concrete : {t l k : Term} {n : Name} {p q : Box Term Global} → t ≡ ByConcrete n p q → l ≡ p.value → k ≡ q.value
    → on_concrete n (lens_of l) (lens_of k) ≡ lens_of t
row_concrete {n = n} e f g = (λ i. on_concrete n (lens_of (f i)) (lens_of (g i))) ∙ sym (ap lens_of e)

pub row_view : {t l k : Term} {n m : Name} {p q : Box Term Global} → t ≡ ByView n m p q → l ≡ p.value → k ≡ q.value
    → on_view n m (lens_of l) (lens_of k) ≡ lens_of t
row_view {n = n} {m = m} e f g = (λ i. on_view n m (lens_of (f i)) (lens_of (g i))) ∙ sym (ap lens_of e)

pub row_items : {t l : Term} {p : Box Term Global} → t ≡ ListOf p → l ≡ p.value → items (lens_of l) ≡ lens_of t
row_items e f = ap (λ t. items (lens_of t)) f ∙ sym (ap lens_of e)

pub row_each : {t l : Term} {p : Box Term Global} → t ≡ MapOf p → l ≡ p.value → each (lens_of l) ≡ lens_of t
row_each e f = ap (λ t. each (lens_of t)) f ∙ sym (ap lens_of e)
