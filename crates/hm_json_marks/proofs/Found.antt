-- The members of a file, and those of its member `roots`.
use Rattle.std.proofs.Common.{◌≡◌, ℕ, List, Option, Some, None, refl, sym, ap, ◌∙◌}
use Rattle.std.specs.Prelude.{option_and_then}
use Rattle.std.proofs.lemmas.Option.{same_Some, none-some}
use Rattle.serde_json.specs.Data.{Data, null, boolean, number, string, array, object, Members}
use Rattle.serde_json.specs.Find.{get}
use Rattle.hm_json_marks.specs.Roots.{roots_key, bar_key, other_key, HasRoots}
use Rattle.hm_json_marks.specs.Writing.{HasMembers}

-- a value in which something is found has members
pub has_members : (k : List ℕ) (d e : Data) → get k d ≡ Some e → (ms : Members) × (d ≡ object ms)
has_members k null e is = absurd (none-some e is)
has_members k (boolean b) e is = absurd (none-some e is)
has_members k (number n) e is = absurd (none-some e is)
has_members k (string s) e is = absurd (none-some e is)
has_members k (array ds) e is = absurd (none-some e is)
has_members k (object ms) e is = (ms, refl)

members_in : (k : List ℕ) (o : Option Data) (e : Data) → option_and_then (get k) o ≡ Some e → (ms : Members) × (o ≡ Some (object ms))
members_in k None e is = absurd (none-some e is)
members_in k (Some d) e is = let found = has_members k d e is in (found.0, ap Some found.1)

module _ {bytes : List ℕ} {bar other : Data} (h : HasRoots bytes bar other) where
  pub file_members : HasMembers h.file
  file_members =
      let roots = members_in bar_key (get roots_key h.file) bar h.bar_is in
      let file = has_members roots_key h.file (object roots.0) roots.1 in
      record { file = file.0; roots = roots.0; is = file.1; roots_are = roots.1 }

  -- the roots are two of the members of `roots`
  pub bar_found : (m : HasMembers h.file) → get bar_key (object m.roots) ≡ Some bar
  bar_found m = sym (ap (option_and_then (get bar_key)) m.roots_are) ∙ h.bar_is

  pub other_found : (m : HasMembers h.file) → get other_key (object m.roots) ≡ Some other
  other_found m = sym (ap (option_and_then (get other_key)) m.roots_are) ∙ h.other_is

-- a value has its members once
module _ {d e : Data} (same : d ≡ e) (h : HasMembers d) (k : HasMembers e) where
  pub file_members_once : h.file ≡ k.file
  file_members_once = let both : object h.file ≡ object k.file = sym h.is ∙ same ∙ k.is in cc

  pub roots_members_once : h.roots ≡ k.roots
  roots_members_once =
      let both = same_Some (object h.roots) (object k.roots) (sym h.roots_are ∙ ap (get roots_key) same ∙ k.roots_are) in cc
