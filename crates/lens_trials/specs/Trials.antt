-- Programs that may be run on trees.
use Rattle.std.specs.Prelude.{List}
use Rattle.hm_text_lens.specs.Meanings.{TextMeaning}
use Rattle.hm_terms.specs.Fitting.{Fits}
use Rattle.hm_terms.specs.Programs.{program_value, setting_of}
use Rattle.hm_schema.specs.Membership.{IsMemberTree}
use Rattle.hm_terms.specs.declared.typed.Typed.{Typed}

-- the main lens fits the trees of the source and of the view, with some text lenses
abbrev pub FitsTrees : List TextMeaning → Typed → Type 0
FitsTrees texts t =
    let p = program_value t.program in
    Fits (setting_of texts p) p.main (IsMemberTree t.source) (IsMemberTree t.view)
