-- What a lens that fits may be run on, and what comes of it.
use Rattle.std.proofs.Common.{◌≡◌, Bool, true, false, List, Option, Some, IfSome, sym, subst, ◌∙◌}
use Rattle.std.proofs.lemmas.Bool.{true≢false}
use Rattle.hm_tree.specs.Nodes.{Tree}
use Rattle.hm_schema.specs.Values.{SchemaValue}
use Rattle.hm_text_lens.specs.Meanings.{TextMeaning}
use Rattle.hm_terms.specs.Lenses.{Lens, Setting}
use Rattle.hm_terms.specs.Shown.{Shows}
use Rattle.hm_terms.specs.Put.{Puts}
use Rattle.hm_terms.specs.Fitting.{Fits}
use Rattle.hm_terms.specs.Programs.{ProgramValue, setting_of}
use Rattle.hm_eval_terms.specs.Conditions.{IsShown, IsPut}
use Rattle.hm_schema.specs.Membership.{IsMemberTree}
use Rattle.hm_types.specs.Checks.{IsAccepted}
use Rattle.hm_terms.specs.declared.typed.Typed.{Typed}
use Rattle.lens_trials.specs.Trials.{FitsTrees}

module _ {S : Setting} {l : Lens} {C A : Tree → Type 0} (f : Fits S l C A) where
  pub can_show : (c : Tree) → C c → IsShown S l c
  can_show c h = let v = f.shows c h in record { tree = v.tree; is = v.is }

  pub in_view : (c v : Tree) → C c → Shows S l c v → A v
  in_view c v h s = let one = f.shows c h in subst A (sym (one.only v s)) one.inside

  pub can_put : (v : Tree) (b : Option Tree) → A v → IfSome b C → IsPut S l v b
  can_put v b a h = let c = f.puts v b a h in record { tree = c.tree; is = c.is }

  pub in_source : (v c : Tree) (b : Option Tree) → A v → IfSome b C → Puts S l v b c → C c
  in_source v c b a h p = let one = f.puts v b a h in subst C (sym (one.only c p)) one.inside

  -- put back, it is the tree
  pub same_tree : (c v b : Tree) → C c → Shows S l c v → Puts S l v (Some c) b → b ≡ c
  same_tree c v b h s p = let one = f.puts v (Some c) (in_view c v h s) h in one.only b p ∙ sym (one.only c (f.get_put c v h s))

  -- put with any tree from before or with none, it shows the same
  pub same_view : (v w c : Tree) (b : Option Tree) → A v → IfSome b C → Puts S l v b c → Shows S l c w → w ≡ v
  same_view v w c b a h p s = let one = f.shows c (in_source v c b a h p) in one.only w s ∙ sym (one.only v (f.put_get v b c a h p))

  -- copies of a view and of the tree from before may be put too
  pub can_put_copies : (v w b d : Tree) → w ≡ v → d ≡ b → A v → C b → IsPut S l w (Some d)
  can_put_copies v w b d e g a h = can_put w (Some d) (subst A (sym e) a) (subst C (sym g) h)

  pub puts_copy_back : (c d v : Tree) → d ≡ c → C c → Shows S l c v → Puts S l v (Some d) d
  puts_copy_back c d v e h s = subst (λ (t : Tree). Puts S l v (Some t) t) (sym e) (f.get_put c v h s)

pub fits_trees : {texts : List TextMeaning} {p : ProgramValue} {s : SchemaValue} (t : Typed) → IsAccepted texts p s t → FitsTrees texts t
fits_trees {texts} {p} {s} t a =
    subst (λ (p : ProgramValue). Fits (setting_of texts p) p.main (IsMemberTree t.source) (IsMemberTree t.view)) (sym a.program)
    (subst (λ (s : SchemaValue). Fits (setting_of texts p) p.main (IsMemberTree s) (IsMemberTree t.view)) (sym a.source) a.fits)

-- a test that holds isn't refused
pub holds : {X : Type 0} {b : Bool} → b ≡ true → b ≡ false → X
holds t f = absurd (true≢false (sym t ∙ f))
