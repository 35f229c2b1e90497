-- Slots of views: what they have once one was put.
use Rattle.std.proofs.Common.{◌≡◌, ℕ, zero, suc, List, replicate, slice_get, slice_set, Option, Some, None, inl, inr, sym, ap, subst}
use Rattle.std.proofs.lemmas.Option.{same_Some, none-some}
use Rattle.hm_schema.specs.declared.node.NodeId.{NodeId}
use Rattle.hm_types_terms.specs.declared.memo.Known.{Known}
use Rattle.hm_types_terms.specs.declared.memo.Memo.{Memo}
use Rattle.hm_types_terms.specs.Memos.{known, HasKnown, AreAmong, AreKept, Remembers}
use Rattle.hm_types_terms.proofs.Entries.{set_at}

pub kept_nothing : (slots : List (Option Known)) (y : Known) → AreKept slots slots y
kept_nothing slots y = record { each = λ k x e. inl (record { slot = k; is = e }) }

pub kept_set : (slots : List (Option Known)) (slot : ℕ) (y : Known) → AreKept slots (slice_set slots slot (Some y)) y
kept_set slots slot y = record {
  each = λ k x e. elim (set_at slots (Some y) (Some x) slot k e) [
    | inl f ↦ inl (record { slot = k; is = f.0 })
    | inr f ↦ inr (sym (same_Some y x f.1))
  ];
}

pub among_itself : (slots : List (Option Known)) → AreAmong slots slots
among_itself slots = record { each = λ k x e. record { slot = k; is = e } }

none_there : (n k : ℕ) (x : Known) → slice_get (replicate n None) k ≡ Some (Some x) → ⊥
none_there zero k x e = none-some (Some x) e
none_there (suc n) zero x e = none-some x (same_Some None (Some x) e)
none_there (suc n) (suc k) x e = none_there n k x e

pub among_free : (n : ℕ) (slots old : List (Option Known)) → slots ≡ replicate n None → AreAmong slots old
among_free n slots old is = record {
  each = λ k x e. absurd (none_there n k x (subst (λ slots. slice_get slots k ≡ Some (Some x)) is e));
}

pub among_put : (old mid new : List (Option Known)) (y : Known) → AreAmong mid old → AreKept mid new y → HasKnown old y → AreAmong new old
among_put old mid new y among kept has = record {
  each = λ k x e. elim (kept.each k x e) [
    | inl h ↦ among.each h.slot x h.is
    | inr f ↦ subst (HasKnown old) (sym f) has
  ];
}

pub remembers : (old new : Memo) (n : ℕ) (i j : NodeId) (mid : List (Option Known)) → AreAmong mid old.slots.items → AreKept mid new.slots.items (known n i j)
    → Remembers old new n i j
remembers old new n i j mid among kept = record {
  each = λ m k v h. elim (kept.each h.slot (known m k v) h.is) [
    | inl f ↦ inl (among.each f.slot (known m k v) f.is)
    | inr f ↦ inr (ap (λ (x : Known). x.lens) f, (λ t. record { place = (ap (λ (x : Known). x.at) f) t }), ap (λ (x : Known). x.view) f)
  ];
}
