-- The forms of sound nodes over sound forms are sound.
use Rattle.std.proofs.Common.{◌≡◌, [], ◌∷◌, Option, Some, None, option_and_then, refl, sym, ap, subst, ◌∙◌}
use Rattle.std.specs.Option.{option_map}
use Rattle.std.proofs.lemmas.Option.{same_Some, none-some}
use Rattle.hm_schema.specs.Values.{NodeOver}
use Rattle.hm_types_forms.specs.Forms.{Form, Label, Step, Way, over, label_of, next_of, under, node_of, formed}
use Rattle.hm_types_forms.specs.Sound.{IsSoundNode, IsSound}
use Rattle.hm_types_forms.proofs.Nodes.{sound_over, next_over}

pub under_sound : (s : Step) (u : Form) → IsSound u → IsSound (under s u)
under_sound s u h = record { on_each = λ w l e. h.on_each (s ∷ w) l e }

-- each step from a node leads to a sound form
abbrev pub LeadsToSound : NodeOver Form → Type 0
LeadsToSound n = (s : Step) (v : Form) → next_of n s ≡ Some v → IsSound v

pub formed_sound : (n : NodeOver Form) → IsSoundNode n → LeadsToSound n → IsSound (formed n)
formed_sound n h f = record { on_each = on_each }
  where
    go : (s : Step) (w : Way) (l : Label) (o : Option Form) → next_of n s ≡ o → option_and_then (λ (u : Form). u w) o ≡ Some l → IsSoundNode l
    go s w l None e at = absurd (none-some l at)
    go s w l (Some v) e at = (f s v e).on_each w l at

    on_each : (w : Way) (l : Label) → formed n w ≡ Some l → IsSoundNode l
    on_each [] l e = subst IsSoundNode (same_Some (label_of n) l e) (sound_over (λ s i. tt) n h)
    on_each (s ∷ w) l e = go s w l (next_of n s) refl e

module _ (u : Form) (n : NodeOver Form) (is : node_of u ≡ Some n) (h : IsSound u) where
  pub node_sound : IsSoundNode n
  node_sound = go (u []) refl is
    where
      go : (x : Option Label) → u [] ≡ x → option_map (over (λ s i. under s u)) x ≡ Some n → IsSoundNode n
      go None e f = absurd (none-some n f)
      go (Some l) e f = subst IsSoundNode (same_Some (over (λ s i. under s u) l) n f) (sound_over (λ s i. under s u) l (h.on_each [] l e))

  pub leads_sound : LeadsToSound n
  leads_sound s v at = go (u []) refl is
    where
      led : (l : Label) (o : Option (Unit {0})) → option_map (λ (i : Unit {0}). under s u) o ≡ Some v → IsSound v
      led l None e = absurd (none-some v e)
      led l (Some i) e = subst IsSound (same_Some (under s u) v e) (under_sound s u h)

      go : (x : Option Label) → u [] ≡ x → option_map (over (λ s i. under s u)) x ≡ Some n → IsSound v
      go None e f = absurd (none-some n f)
      go (Some l) e f = led l (next_of l s) (sym (next_over (λ s i. under s u) l s)
          ∙ ap (λ n. next_of n s) (same_Some (over (λ s i. under s u) l) n f) ∙ at)
