-- The faults of a lens with two lenses inside, each checked at a form of its own, and with a condition on their views.
use Rattle.std.proofs.Common.{◌≡◌, sym, subst, ◌∙◌}
use Rattle.hm_types_forms.specs.Forms.{Form}
use Rattle.hm_types_rules.specs.Faults.{At}

-- a lens goes to one view at the most, has one fault at the most, and never both
pub record IsSingle (G : Form → Form → Type 0) (F : Form → At → Type 0) : Type 0 where
  pub one_view : (u v w : Form) → G u v → G u w → v ≡ w
  pub never : (u v : Form) (f : At) → G u v → F u f → ⊥
  pub one_fault : (u : Form) (f g : At) → F u f → F u g → f ≡ g

-- the source is at fault, the first lens, the second one, or their views
pub data TwoFaults (here : At) (Source : Form → Form → Type 0) (G : Form → Form → Type 0) (F : Form → At → Type 0)
    (H : Form → Form → Type 0) (E : Form → At → Type 0) (End : Form → Form → Type 0) (f : At) : Type 0 where
  at_source : f ≡ here → ((p q : Form) → ¬ (Source p q)) → TwoFaults here Source G F H E End f
  in_first : {p q : Form} → Source p q → F p f → TwoFaults here Source G F H E End f
  in_second : {p q x : Form} → Source p q → G p x → E q f → TwoFaults here Source G F H E End f
  at_end : {p q x y : Form} → f ≡ here → Source p q → G p x → H q y → ¬ (End x y) → TwoFaults here Source G F H E End f

module _ (Source : Form → Form → Type 0) (G : Form → Form → Type 0) (F : Form → At → Type 0) (H : Form → Form → Type 0)
    (E : Form → At → Type 0) (End : Form → Form → Type 0)
    (source_one : (p q r s : Form) → Source p q → Source r s → (p ≡ r) × (q ≡ s)) (first : IsSingle G F) (second : IsSingle H E) where
  -- the first lens doesn't both go and have a fault, at the two forms of two sources; nor does the second
  clash_first : {p q r s x : Form} {f : At} → Source p q → Source r s → G p x → F r f → ⊥
  clash_first {p} {q} {r} {s} {x} {f} a b g h = first.never r x f (subst (λ u. G u x) (source_one p q r s a b).0 g) h

  clash_second : {p q r s x : Form} {f : At} → Source p q → Source r s → H q x → E s f → ⊥
  clash_second {p} {q} {r} {s} {x} {f} a b g h = second.never s x f (subst (λ u. H u x) (source_one p q r s a b).1 g) h

  pub two_once : {here f g : At} → TwoFaults here Source G F H E End f → TwoFaults here Source G F H E End g → f ≡ g
  two_once (at_source e fails) (at_source i ni) = e ∙ sym i
  two_once (at_source e fails) (in_first {p = p} {q = q} s h) = absurd (fails p q s)
  two_once (at_source e fails) (in_second {p = p} {q = q} s g h) = absurd (fails p q s)
  two_once (at_source e fails) (at_end {p = p} {q = q} i s g h n) = absurd (fails p q s)
  two_once (in_first {p = p} {q = q} s h) (at_source e fails) = absurd (fails p q s)
  two_once {g = j} (in_first {p = p} {q = q} s h) (in_first {p = r} {q = t} s2 h2) =
      first.one_fault p _ _ h (subst (λ u. F u j) (sym (source_one p q r t s s2).0) h2)
  two_once (in_first s h) (in_second s2 g2 h2) = absurd (clash_first s2 s g2 h)
  two_once (in_first s h) (at_end e s2 g2 h2 n) = absurd (clash_first s2 s g2 h)
  two_once (in_second {p = p} {q = q} s g h) (at_source e fails) = absurd (fails p q s)
  two_once (in_second s g h) (in_first s2 h2) = absurd (clash_first s s2 g h2)
  two_once {g = j} (in_second {p = p} {q = q} s g h) (in_second {p = r} {q = t} s2 g2 h2) =
      second.one_fault q _ _ h (subst (λ u. E u j) (sym (source_one p q r t s s2).1) h2)
  two_once (in_second s g h) (at_end e s2 g2 h2 n) = absurd (clash_second s2 s h2 h)
  two_once (at_end {p = p} {q = q} e s g h n) (at_source i fails) = absurd (fails p q s)
  two_once (at_end e s g h n) (in_first s2 h2) = absurd (clash_first s s2 g h2)
  two_once (at_end e s g h n) (in_second s2 g2 h2) = absurd (clash_second s s2 h h2)
  two_once (at_end e s g h n) (at_end i s2 g2 h2 n2) = e ∙ sym i

  -- and where both lenses go and their views meet the condition, there is no fault
  pub two_never : {here f : At} {p q x y : Form} → Source p q → G p x → H q y → End x y → TwoFaults here Source G F H E End f → ⊥
  two_never {p = p} {q = q} s g h z (at_source e fails) = fails p q s
  two_never s g h z (in_first s2 h2) = clash_first s s2 g h2
  two_never s g h z (in_second s2 g2 h2) = clash_second s s2 h h2
  two_never {p = p} {q = q} {x = x} {y = y} s g h z (at_end {p = r} {q = t} {x = x2} {y = y2} i s2 g2 h2 n2) =
      let same = source_one p q r t s s2 in
      n2 (subst (λ u. End u y2) (first.one_view r x x2 (subst (λ u. G u x) same.0 g) g2)
      (subst (λ v. End x v) (second.one_view t y y2 (subst (λ u. H u y) same.1 h) h2) z))
