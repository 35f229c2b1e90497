-- What a lens goes to from a sound form is sound.
use Rattle.std.proofs.Common.{◌≡◌, Bool, true, false, [], ◌∷◌, Option, Some, None, refl, sym, subst, ◌∙◌}
use Rattle.std.specs.FinSet.{contains}
use Rattle.hm_tree.specs.Names.{Name}
use Rattle.hm_terms.specs.Lenses.{Lens, Lenses, lens_at}
use Rattle.hm_types_forms.specs.Forms.{Form, Label, Step, Way, named, others, under, can_be}
use Rattle.hm_types_rules.specs.Typing.{Types, Goes, goes_identity, goes_sequence, goes_constant, goes_hoist, goes_plunge, goes_fork, goes_each, goes_among, goes_list, goes_items, goes_copy, goes_merge, goes_concrete, goes_view, goes_text, goes_call}
use Rattle.hm_types_forms.specs.Sound.{IsSoundNode, IsSound}
use Rattle.hm_types_forms.proofs.SoundForms.{under_sound, leads_sound}
use Rattle.hm_types_rules.proofs.SoundViews.{inside_sound, outside_sound, with_sound, without_sound, joined_sound, merged_sound, classed_sound, copied_sound, hidden_sound, edge_sound}
use Rattle.hm_types_rules.proofs.TreeForms.{exactly_sound}
use Rattle.hm_types_rules.proofs.ListForms.{list_first_sound, items_first_sound, list_sound, items_sound}

-- a form with the label of a sound one and with sound forms under each step
labelled_sound : (u v : Form) (a : Label) → u [] ≡ Some a → v [] ≡ Some a → IsSound u → ((s : Step) → IsSound (under s v)) → IsSound v
labelled_sound u v a e f h under_it = record { on_each = go }
  where
    go : (w : Way) (l : Label) → v w ≡ Some l → IsSoundNode l
    go [] l at = h.on_each [] l (e ∙ sym f ∙ at)
    go (s ∷ w) l at = (under_it s).on_each w l at

-- each named lens goes to a sound form, and all else is as it was
among_sound : (u v : Form) (ls : Lenses) → ((k : Name) (l : Lens) → lens_at k ls ≡ Some l → IsSound (under (named k) v))
    → ((k : Name) → lens_at k ls ≡ None → under (named k) v ≡ under (named k) u) → under others v ≡ under others u → IsSound u
    → (s : Step) → IsSound (under s v)
among_sound u v ls f g r h = go
  where
    by_name : (k : Name) (x : Option Lens) → lens_at k ls ≡ x → IsSound (under (named k) v)
    by_name k None t = subst IsSound (sym (g k t)) (under_sound (named k) u h)
    by_name k (Some l) t = f k l t

    go : (s : Step) → IsSound (under s v)
    go (named k) = by_name k (lens_at k ls) refl
    go others = subst IsSound (sym r) (under_sound others u h)

-- the declared views of definitions
abbrev pub AreSoundTypes : Types → Type 0
AreSoundTypes T = (n : Name) (x v : Form) → T.declared n ≡ Some (x, v) → IsSound x × IsSound v

module _ (T : Types) (types : AreSoundTypes T) where
  pub goes_sound : {l : Lens} {u v : Form} → Goes T l u v → IsSound u → IsSound v
  goes_sound goes_identity h = h
  goes_sound (goes_sequence f g) h = goes_sound g (goes_sound f h)
  goes_sound (goes_constant {t = t} d e) h = subst IsSound (sym e) (exactly_sound t)
  goes_sound (goes_hoist {m = m} {u = u} {v = v} {n = n} is alone at) h = leads_sound u n is h (named m) v at
  goes_sound (goes_plunge {m = m} {u = u} e) h = subst IsSound (sym e) (edge_sound m u h)
  goes_sound (goes_fork {P = P} {Q = Q} {u = u} {x = x} {y = y} {n = n} {one = one} {two = two} {w = w} {a = a} s f g j is e) h =
      subst IsSound (sym e) (joined_sound (contains Q) x y one two w j.node_one j.node_two j.can is
      (goes_sound f (inside_sound P u n a s h)) (goes_sound g (outside_sound P u n a s h)))
  goes_sound (goes_each {u = u} {v = v} {a = a} p e f g) h =
      labelled_sound u v a p.is e h (λ s. step s (can_be a s) refl (λ t. goes_sound (f s t) (under_sound s u h)))
    where
      step : (s : Step) (b : Bool) → can_be a s ≡ b → (can_be a s ≡ true → IsSound (under s v)) → IsSound (under s v)
      step s true t rest = rest t
      step s false t rest = subst IsSound (sym (g s t)) (under_sound s u h)
  goes_sound (goes_among {ls = ls} {u = u} {v = v} {a = a} p o e f g r) h =
      labelled_sound u v a p.is e h (among_sound u v ls (λ k l t. goes_sound (f k l t) (under_sound (named k) u h)) g r h)
  goes_sound (goes_list {u = u} {x = x} {y = y} {empty_first = b} is f e) h =
      subst IsSound (sym e) (list_sound b y (goes_sound f (list_first_sound u x b is h)))
  goes_sound (goes_items {u = u} {x = x} {y = y} {empty_first = b} is f e) h =
      subst IsSound (sym e) (items_sound b y (goes_sound f (items_first_sound u x b is h)))
  goes_sound (goes_copy {m = m} {o = o} {u = u} {n = n} {w = w} is can copied e) h =
      subst IsSound (sym e) (copied_sound m o u n w is can copied h)
  goes_sound (goes_merge {m = m} {o = o} {u = u} {n = n} is can e) h = subst IsSound (sym e) (hidden_sound m o u n is can h)
  goes_sound (goes_concrete {m = m} {u = u} {n = n} b f g s) h = goes_sound f (with_sound m u n b h)
  goes_sound (goes_view {m = m} {o = o} {u = u} {x = x} {y = y} {n = n} {one = one} {two = two} {w = w} b f g c is e) h =
      subst IsSound (sym e) (merged_sound o x y one two w c.node_one c.node_two c.can is
      (goes_sound f (with_sound m u n b h)) (goes_sound g (without_sound m u n b h)))
  goes_sound (goes_text {c = c} {d = d} {u = u} {n = n} is a e) h = subst IsSound (sym e) (classed_sound c d u n a h)
  goes_sound (goes_call {n = n} {v = v} {x = x} is s) h = (types n x v is).1
