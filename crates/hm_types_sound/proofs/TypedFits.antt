-- The main lens of a typed program fits the members of its source and of its view.
use Rattle.std.proofs.Common.{◌≡◌, ℕ, Bool, true, false, List, [], ◌∷◌, length, Option, Some, None, All, option_and_then, slice_get, refl, sym, ap, subst, arith}
use Rattle.std.specs.Option.{option_map}
use Rattle.std.specs.FinMap.{find}
use Rattle.std.proofs.lemmas.Option.{none-some, same_Some}
use Rattle.hm_tree.specs.Names.{Name, name_cmp}
use Rattle.hm_schema.specs.declared.node.NodeId.{NodeId}
use Rattle.hm_schema.specs.Values.{NodeValue}
use Rattle.hm_schema.specs.WellFormed.{IsWellFormedNode}
use Rattle.hm_schema.proofs.Lists.{all_read}
use Rattle.hm_terms.specs.Lenses.{DefinitionValue, Setting, body_of}
use Rattle.hm_text_lens.specs.Meanings.{TextMeaning, IsLawful}
use Rattle.hm_terms.specs.Fitting.{Fits}
use Rattle.hm_terms.specs.Programs.{ProgramValue, setting_of}
use Rattle.hm_terms_laws.specs.Falling.{Falls, IsAsked}
use Rattle.hm_terms_laws.proofs.Bounded.{fits_all, fits_call}
use Rattle.hm_terms_laws.proofs.Ranks.{steps, rank, body_falls}
use Rattle.hm_terms_laws.proofs.Recursion.{by_falling}
use Rattle.hm_schema.proofs.Reshaped.{plain_requires}
use Rattle.hm_schema.proofs.StandingTrees.{alike_back}
use Rattle.hm_types_forms.specs.Forms.{Form, Label, Way, label_of, next_of, form}
use Rattle.hm_types_forms.specs.Members.{Member}
use Rattle.hm_types_forms.specs.Sound.{IsSoundNode, IsSound}
use Rattle.hm_types_rules.specs.Texts.{HasTexts}
use Rattle.hm_types_forms.specs.SameForms.{IsSame}
use Rattle.hm_types_rules.specs.Typing.{Types, Goes}
use Rattle.hm_types_rules.specs.Programs.{classes_in, types_of, IsTyped}
use Rattle.hm_types_forms.proofs.Nodes.{sound_over}
use Rattle.hm_types_forms.proofs.SameMembers.{sound_same}
use Rattle.hm_types_rules.proofs.SoundGoes.{AreSoundTypes, goes_sound}
use Rattle.hm_types_sound.proofs.ForkFits.{fits_alike}
use Rattle.hm_types_sound.proofs.TextFits.{text_between}
use Rattle.hm_types_sound.proofs.BodyFits.{CallFits, body_fits}

-- ---- the forms of nodes without twins

module _ (nodes : List NodeValue) (well : All (λ n. IsWellFormedNode (length nodes) n × (n.twins ≡ [])) nodes) where
  node_well : (i : ℕ) (n : NodeValue) → slice_get nodes i ≡ Some n → IsSoundNode n
  node_well i n e =
      let w = all_read (λ n. IsWellFormedNode (length nodes) n × (n.twins ≡ [])) nodes i n e well in
      record { ascending = w.0.ascending; some = w.0.some_shape; well = w.0.shapes; own = plain_requires n w.1 }

  form_found : (w : Way) (i : NodeId) (l : Label) → form nodes i w ≡ Some l → IsSoundNode l
  form_found [] i l e = go (slice_get nodes i.place) refl e
    where
      go : (x : Option NodeValue) → slice_get nodes i.place ≡ x → option_map label_of x ≡ Some l → IsSoundNode l
      go None f e = absurd (none-some l e)
      go (Some n) f e = subst IsSoundNode (same_Some (label_of n) l e) (sound_over (λ s i. tt) n (node_well i.place n f))
  form_found (s ∷ w) i l e = go (slice_get nodes i.place) e (λ j. form_found w j l)
    where
      led : (x : Option NodeId) → option_and_then (λ j. form nodes j w) x ≡ Some l → ((j : NodeId) → form nodes j w ≡ Some l → IsSoundNode l) → IsSoundNode l
      led None e rest = absurd (none-some l e)
      led (Some j) e rest = rest j e

      go : (x : Option NodeValue) → option_and_then (λ n. option_and_then (λ j. form nodes j w) (next_of n s)) x ≡ Some l
          → ((j : NodeId) → form nodes j w ≡ Some l → IsSoundNode l) → IsSoundNode l
      go None e rest = absurd (none-some l e)
      go (Some n) e rest = led (next_of n s) e rest

  pub form_sound : (i : NodeId) → IsSound (form nodes i)
  form_sound i = record { on_each = λ w l e. form_found w i l e }

-- ---- typed programs

module _ (texts : List TextMeaning) (lawful : All IsLawful texts) (p : ProgramValue) (types : All (λ n. IsWellFormedNode (length p.options.types) n × (n.twins ≡ [])) p.options.types)
    (named : (n : Name) (d : DefinitionValue) → find name_cmp n p.definitions ≡ Some d → HasTexts d.body) where
  abbrev T : Types
  T = types_of (classes_in texts) p

  abbrev S : Setting
  S = setting_of texts p

  abbrev declaration : DefinitionValue → Form × Form
  declaration d = (form p.options.types d.source, form p.options.types d.view)

  -- what is declared of a definition
  record IsDeclared (n : Name) (x v : Form) : Type 0 where
    definition : DefinitionValue
    is : find name_cmp n p.definitions ≡ Some definition
    source : x ≡ form p.options.types definition.source
    view : v ≡ form p.options.types definition.view

  declared : (n : Name) (x v : Form) → T.declared n ≡ Some (x, v) → IsDeclared n x v
  declared n x v e = go (find name_cmp n p.definitions) refl e
    where
      go : (o : Option DefinitionValue) → find name_cmp n p.definitions ≡ o
          → option_map declaration o ≡ Some (x, v) → IsDeclared n x v
      go None f e = absurd (none-some (x, v) e)
      go (Some d) f e =
          let same = same_Some (form p.options.types d.source, form p.options.types d.view) (x, v) e in
          record { definition = d; is = f; source = sym (ap (λ (q : Form × Form). q.0) same); view = sym (ap (λ (q : Form × Form). q.1) same) }

  pub sound_types : AreSoundTypes T
  sound_types n x v e =
      let d = declared n x v e in (
        subst IsSound (sym d.source) (form_sound p.options.types types d.definition.source),
        subst IsSound (sym d.view) (form_sound p.options.types types d.definition.view),
      )

  module _ (source view : Form) (typed : IsTyped (classes_in texts) p source view) where
    one_call : (n : Name) (d : ℕ)
        → ((s c : Bool) (m : ℕ) (k : Name) → IsAsked s c d m → Falls (steps p.definitions) (rank p.definitions) (steps p.definitions n) (rank p.definitions n) s c k → CallFits T S sound_types (text_between texts lawful) k m)
        → CallFits T S sound_types (text_between texts lawful) n d
    one_call n d calls x v e =
        let c = declared n x v e in
        let body = c.definition.body in
        let t = typed.definitions n c.definition c.is in
        let is : body_of S.definitions n ≡ Some body = ap (option_map (λ (d : DefinitionValue). d.body)) c.is in
        let s = sound_types n x v e in
        let goes = subst (λ x. Goes T body x t.view) (sym c.source) t.goes in
        let inner = body_fits T S sound_types (text_between texts lawful) (steps p.definitions) (rank p.definitions) (steps p.definitions n) (rank p.definitions n) d calls goes s.0 (named n c.definition c.is) false false
        (body_falls p.definitions typed.guarded n body is) d refl in
        let same = subst (λ v. IsSame t.view v) (sym c.view) t.same in
        fits_call S n body is d (Member x) (Member v) (fits_alike S d body (Member x) (Member t.view) (Member x) (Member v)
        (record { into = λ t h. h; from = λ t h. h })
        (alike_back (sound_same t.view v (record { same = same; first = goes_sound T sound_types goes s.0; second = s.1 }))) inner)

    calls_fit : (n : Name) (d : ℕ) → CallFits T S sound_types (text_between texts lawful) n d
    calls_fit = by_falling (steps p.definitions) (rank p.definitions) (CallFits T S sound_types (text_between texts lawful)) one_call

    pub typed_fits : IsSound source → HasTexts p.main → Fits S p.main (Member source) (Member view)
    typed_fits h text = fits_all S p.main (Member source) (Member view) (λ d.
        body_fits T S sound_types (text_between texts lawful) (λ n. 0) (λ n. 0) 1 1 d (λ s c m k asked f. calls_fit k m) typed.main h text true true
        (record { each = λ s c n i. omega arith }) d tt)
