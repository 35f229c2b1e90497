-- A lens file is opened step by step.
use Rattle.std.proofs.Common.{◌≡◌, ℕ, List, [], All, IsUtf8, get_or, slice_get, Some, Result, Ok, Err, IfOk, length, ◌<◌, refl, sym, ap, subst, ◌∙◌}
use Rattle.std.proofs.lemmas.Option.{same_Some, slice_get_read, slice_get_within, get_or_from_slice_get}
use Rattle.hm_tree.specs.Names.{Name}
use Rattle.hm_schema.specs.Values.{NodeValue, SchemaValue, OptionsValue}
use Rattle.hm_schema.specs.Membership.{HasNoTwins}
use Rattle.hm_terms.specs.Programs.{ProgramValue}
use Rattle.hm_terms.specs.WellFormedPrograms.{IsWellFormed}
use Rattle.hm_focal.specs.LensFiles.{ReadsLens}
use Rattle.hm_terms.specs.declared.typed.Typed.{Typed}
use Rattle.hm_types.specs.Checks.{Checks, IsAccepted}
use Rattle.hm_format.specs.Options.{AreSound}
use Rattle.hm_format.specs.Formats.{FormatMeaning, IsLawful}
use Rattle.hm_types_schemas.proofs.Twins.{numbered_plain}
use Rattle.hm_replica.specs.Replicas.{typed_value}
use Rattle.hm_run_files.specs.declared.slot.Slot.{Slot}
use Rattle.hm_run_files.specs.declared.stop.Refusal.{Refusal}
use Rattle.hm_run_files.specs.declared.stop.Stop.{Stop}
use Rattle.hm_run_files.specs.Steps.{Computes, Then, Told, goes_on}
use Rattle.hm_run_files.proofs.Steps.{ok_is, computes_as, then_stop, then_go}
use Rattle.hm_run_sides.specs.declared.side.Side.{Side}
use Rattle.hm_run_sides.specs.Formats.{HasFormat, FindsFormat}
use Rattle.hm_run_handed.specs.Handed.{Handed}
use Rattle.hm_run_sides.specs.Stops.{lens_stop, type_stop}
use Rattle.hm_run_sides.specs.Sides.{SideValue, side_value, seen, source_found, GivesSource, TypesSide, OpensSide, IsSide}

-- ---- the source

-- one that was found is the format's
source_is : (at : Slot) (wanted : Result SchemaValue Name) (s : SchemaValue) → ◌≡◌ {A = Result SchemaValue Refusal} (Ok s) (source_found at wanted)
    → wanted ≡ Ok s
source_is at (Ok t) s e = ap Ok (sym (ok_is s t e))
source_is at (Err key) s e = absurd (let no : ⊥ = cc in no)

module _ {B : Type 0} (means_of : B → FormatMeaning) (formats : List B) (at : Slot) (place : ℕ) (o : OptionsValue) where
  -- the format that is read at the place gives it
  pub gives : (x : B) → place < length formats → x ≡ get_or formats place x → (r : Result SchemaValue Stop)
      → Computes (λ found. found ≡ source_found at ((means_of x).schema_of o)) r → Computes (GivesSource means_of formats at place o) r
  gives x within is r h =
      computes_as (λ found. found ≡ source_found at ((means_of x).schema_of o)) (GivesSource means_of formats at place o)
      (λ found e. record { box = x; is = slice_get_read formats (length formats) place x refl within is; holds = e }) r h

  -- the laws of the format at the place
  laws_of : HasFormat means_of formats place IsLawful → (x : B) → slice_get formats place ≡ Some x → IsLawful (means_of x)
  laws_of l x is = subst (λ b. IsLawful (means_of b)) (same_Some l.box x (sym l.is ∙ is)) l.holds

  pub source_plain : HasFormat means_of formats place IsLawful → AreSound o → (r : Result SchemaValue Stop)
      → Computes (GivesSource means_of formats at place o) r → IfOk r HasNoTwins
  source_plain l sound (Ok s) h =
      (laws_of l h.0.box h.0.is).no_twins o s sound (source_is at ((means_of h.0.box).schema_of o) s h.0.holds)
  source_plain l sound (Err stop) h = tt

-- ---- the steps

module _ (hand : Handed) (at : Slot) (bytes : List ℕ) where
  -- behind a program comes its format, and then the rest
  abbrev Rest : ProgramValue → Result SideValue Refusal → Type 0
  Rest p = Then (FindsFormat hand.means_of hand.formats at p.format) (TypesSide hand at p)

  behind : (p : ProgramValue) (place : ℕ) → ReadsLens bytes (Ok p) → FindsFormat hand.means_of hand.formats at p.format (Ok place)
      → (r : Result SideValue Stop) → Computes (TypesSide hand at p place) r → Computes (OpensSide hand at bytes) r
  unfolding OpensSide
  behind p place reads found r h =
      then_go (Told (lens_stop at) (ReadsLens bytes)) Rest p r reads
      (then_go (FindsFormat hand.means_of hand.formats at p.format) (TypesSide hand at p) place r found h)

  -- the first step that stops stops the whole
  module _ (stop : Stop) (r : Result Side Stop) (is : r ≡ Err stop) where
    stopped : ◌≡◌ {A = Result SideValue Stop} (seen side_value r) (Err stop)
    stopped = ap (seen side_value) is

    pub unread : Computes {A = ProgramValue} (Told (lens_stop at) (ReadsLens bytes)) (Err stop)
        → Computes (OpensSide hand at bytes) (seen side_value r)
    unfolding OpensSide
    unread h = then_stop (Told (lens_stop at) (ReadsLens bytes)) Rest stop (seen side_value r) stopped h

    module _ (p : ProgramValue) (reads : ReadsLens bytes (Ok p)) where
      pub unknown : Computes (FindsFormat hand.means_of hand.formats at p.format) (Err stop)
          → Computes (OpensSide hand at bytes) (seen side_value r)
      unfolding OpensSide
      unknown h =
          then_go (Told (lens_stop at) (ReadsLens bytes)) Rest p (seen side_value r) reads
          (then_stop (FindsFormat hand.means_of hand.formats at p.format) (TypesSide hand at p) stop (seen side_value r) stopped h)

      module _ (place : ℕ) (found : FindsFormat hand.means_of hand.formats at p.format (Ok place)) where
        no_types : Computes (GivesSource hand.means_of hand.formats at place p.options) (Err stop)
            → Computes (TypesSide hand at p place) (seen side_value r)
        unfolding TypesSide
        no_types h = then_stop _ _ stop (seen side_value r) stopped h

        pub no_source : Computes (GivesSource hand.means_of hand.formats at place p.options) (Err stop)
            → Computes (OpensSide hand at bytes) (seen side_value r)
        no_source h = behind p place reads found (seen side_value r) (no_types h)

        bad_types : (s : SchemaValue) → GivesSource hand.means_of hand.formats at place p.options (Ok s)
            → Computes {A = SchemaValue} (Told (type_stop at) (Checks hand.texts p s)) (Err stop)
            → Computes (TypesSide hand at p place) (seen side_value r)
        unfolding TypesSide
        bad_types s source h = then_go _ _ s (seen side_value r) source (then_stop _ _ stop (seen side_value r) stopped h)

        pub untyped : (s : SchemaValue) → GivesSource hand.means_of hand.formats at place p.options (Ok s)
            → Computes {A = SchemaValue} (Told (type_stop at) (Checks hand.texts p s)) (Err stop)
            → Computes (OpensSide hand at bytes) (seen side_value r)
        untyped s source h = behind p place reads found (seen side_value r) (bad_types s source h)

  -- ---- a side

  module _ (p : ProgramValue) (place : ℕ) (s : SchemaValue) (source : GivesSource hand.means_of hand.formats at place p.options (Ok s))
      (t : Typed) (accepted : IsAccepted hand.texts p s t) where
    abbrev side : SideValue
    side = record { place = place; typed = typed_value t }

    abbrev seen_side : SideValue
    seen_side = record { place = place; typed = record { program = p; source = s; view = t.view } }

    value : side ≡ seen_side
    value = λ i. record { place = place; typed = record { program = accepted.program i; source = accepted.source i; view = t.view } }

    all_typed : Checks hand.texts p s (Ok t.view) → TypesSide hand at p place (Ok side)
    unfolding TypesSide
    all_typed checks = goes_on source (goes_on checks (ap Ok value))

    pub opened : ReadsLens bytes (Ok p) → FindsFormat hand.means_of hand.formats at p.format (Ok place) → Checks hand.texts p s (Ok t.view)
        → Computes (OpensSide hand at bytes) (Ok side)
    opened reads found checks = behind p place reads found (Ok side) (all_typed checks, refl)

    -- its view has no twins, as its form has none
    bare : All (λ n. n.twins ≡ []) t.view.nodes → HasNoTwins t.view
    bare all i n e =
        subst (λ (m : NodeValue). m.twins ≡ []) (get_or_from_slice_get t.view.nodes i.place n n e)
        (all i.place n (slice_get_within t.view.nodes i.place n e))

    pub is_side : HasFormat hand.means_of hand.formats place IsLawful → IsWellFormed p → All (λ (q : Name × List Name). All IsUtf8 q.1) p.options.pairs
        → IsSide hand side
    is_side laws well values = subst (IsSide hand) (sym value) (record {
      format = source.box;
      is = source.is;
      lawful = laws_of hand.means_of hand.formats at place p.options laws source.box source.is;
      typed = record {
        sound = record { texts = values; named = well.named; types = well.types };
        schema = source_is at ((hand.means_of source.box).schema_of p.options) s source.holds;
        fits = accepted.fits;
      };
      no_twins = bare ((numbered_plain accepted.shown t.view accepted.numbered).1 accepted.typed.plain);
    })
