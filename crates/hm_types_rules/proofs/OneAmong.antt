-- Named lenses have one fault at the most: that of the first one that doesn't go.
use Rattle.std.proofs.Common.{◌≡◌, ◌⊎◌, ◌+◌, Some, refl, sym, subst, ◌∙◌, inl, inr}
use Rattle.hm_tree.specs.Names.{Name}
use Rattle.hm_terms.specs.Lenses.{Lens, Lenses, among, none, also, lens_at}
use Rattle.hm_terms.specs.WellFormedPrograms.{IsAmong, here, further}
use Rattle.hm_types_forms.specs.Forms.{Form, named, under}
use Rattle.hm_types_rules.specs.Typing.{Types, Goes, goes_among}
use Rattle.hm_types_rules.specs.Faults.{At, behind, size_of_all, Faults, fault_among, fault_named}
use Rattle.hm_types_rules.proofs.OneFault.{Single, alone}

-- ---- two places among named lenses: one, or one is among those before the other

same_name : {k m : Name} {l j : Lens} {a b : Lenses} → also k l a ≡ also m j b → k ≡ m
same_name e = cc

same_lens : {k m : Name} {l j : Lens} {a b : Lenses} → also k l a ≡ also m j b → l ≡ j
same_lens e = cc

same_rest : {k m : Name} {l j : Lens} {a b : Lenses} → also k l a ≡ also m j b → a ≡ b
same_rest e = cc

record IsOnePlace (b c : Lenses) (k m : Name) (l j : Lens) : Type 0 where
  before : b ≡ c
  name : k ≡ m
  lens : l ≡ j

here_too : {k m : Name} {l j : Lens} (ls : Lenses) → k ≡ m → l ≡ j → IsAmong k l (also m j ls)
here_too {k} {m} {l} {j} ls e f = subst (λ l. IsAmong k l (also m j ls)) (sym f) (subst (λ k. IsAmong k j (also m j ls)) (sym e) here)

two_places : (b c x y : Lenses) (k m : Name) (l j : Lens) → behind b (also k l x) ≡ behind c (also m j y)
    → IsOnePlace b c k m l j ⊎ (IsAmong k l c ⊎ IsAmong m j b)
two_places none none x y k m l j e = inl (record { before = refl; name = same_name e; lens = same_lens e })
two_places none (also n i c) x y k m l j e = inr (inl (here_too c (same_name e) (same_lens e)))
two_places (also n i b) none x y k m l j e = inr (inr (here_too b (sym (same_name e)) (sym (same_lens e))))
two_places (also n i b) (also o h c) x y k m l j e = elim (two_places b c x y k m l j (same_rest e)) [
  | inl p ↦ inl (record { before = (λ z. also (same_name e z) (same_lens e z) (p.before z)); name = p.name; lens = p.lens })
  | inr w ↦ inr (elim w [ inl a ↦ inl (further a) | inr a ↦ inr (further a) ])
]

module _ (T : Types) (ls : Lenses) (each : (k : Name) (l : Lens) → lens_at k ls ≡ Some l → Single T l) where
  pub among_single : Single T (among ls)
  among_single n = alone T (among ls) n never one
    where
      never : (u v : Form) (f : At) → Goes T (among ls) u v → Faults T (among ls) n u f → ⊥
      never u v f (goes_among {a = a} p o e g h r) (fault_among fails) = fails a p o
      never u v f (goes_among p o e g h r) (fault_named before after {k = k} {l = l} q i is at prior fault) =
          (each k l at (n + 1 + size_of_all before)).never (under (named k) u) (under (named k) v) f (g k l at) fault

      one : (u : Form) (f g : At) → Faults T (among ls) n u f → Faults T (among ls) n u g → f ≡ g
      one u f g (fault_among a) (fault_among b) = refl
      one u f g (fault_among fails) (fault_named before after {a = b} q i is at prior fault) = absurd (fails b q i)
      one u f g (fault_named before after {a = b} q i is at prior fault) (fault_among fails) = absurd (fails b q i)
      one u f g (fault_named b x {k = k} {l = l} p o is at prior fault) (fault_named c y {k = m} {l = j} q i is2 at2 prior2 fault2) =
          elim (two_places b c x y k m l j (sym is ∙ is2)) [
            | inl s ↦ (each k l at (n + 1 + size_of_all b)).one_fault (under (named k) u) f g fault
                (subst (λ l. Faults T l (n + 1 + size_of_all b) (under (named k) u) g) (sym s.lens)
                (subst (λ k. Faults T j (n + 1 + size_of_all b) (under (named k) u) g) (sym s.name)
                (subst (λ b. Faults T j (n + 1 + size_of_all b) (under (named m) u) g) (sym s.before) fault2)))
            | inr w ↦ elim w [
              | inl a ↦ let x = prior2 k l a in
                  absurd ((each k l at (n + 1 + size_of_all b)).never (under (named k) u) x.view f x.goes fault)
              | inr a ↦ let x = prior m j a in
                  absurd ((each m j at2 (n + 1 + size_of_all c)).never (under (named m) u) x.view g x.goes fault2)
            ]
          ]
