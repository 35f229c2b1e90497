-- What is handed in to a run: formats and text lenses, known by what they mean.
use Rattle.std.specs.Prelude.{List, map}
use Rattle.std.specs.declared.alloc.Global.{Global}
use Rattle.std.specs.declared.dyn_box.DynBox.{DynBox}
use Rattle.hm_text_lens.specs.Meanings.{TextMeaning}
use Rattle.hm_format.specs.Formats.{FormatMeaning}
use Rattle.hm_run_handed.specs.declared.handed.HandedIn.{HandedIn}

pub record Handed : Type 1 where
  pub box : Type 0
  pub means_of : box → FormatMeaning
  pub formats : List box
  pub texts : List TextMeaning

abbrev pub handed : {B : Type 0} → (B → FormatMeaning) → List B → List TextMeaning → Handed
handed {B} means_of formats texts = record { box = B; means_of = means_of; formats = formats; texts = texts }

-- the same of boxes, by what the objects in them mean
abbrev pub handed_in : {X Y : Type 0} {F : X → Type 0} {G : Y → Type 0} → HandedIn X Y F G → ((x : X) × F x → FormatMeaning) → ((y : Y) × G y → TextMeaning) → Handed
handed_in {X} {Y} {F} {G} given means_of meaning_of =
    handed (λ (b : DynBox X Global F). means_of (b.vtable, b.value)) given.formats.now
    (map (λ (b : DynBox Y Global G). meaning_of (b.vtable, b.value)) given.texts.now)
