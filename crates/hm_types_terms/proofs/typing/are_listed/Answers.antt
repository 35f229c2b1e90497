use Rattle.std.proofs.Common.{rules, ◌≡◌, ◌<◌, Some, length, slice_get, take, refl, sym, subst}
use Rattle.std.proofs.lemmas.List.{take_all}
use Rattle.std.proofs.lemmas.Option.{slice_get_read}
use mathlib.Core.Bool.{false≢true}
use Rattle.hm_terms.specs.Programs.{lenses_of}
use Rattle.hm_types_forms.specs.Forms.{label_of}
use Rattle.hm_types_rules.specs.Typing.{AreListed}
use Rattle.hm_types_terms.proofs.Named.{listed_next, not_listed, listed_here}
use Rattle.hm_types_terms.proofs.typing.are_listed.Goals as goal

pub returns-then-not-lists : goal.returns-then-not-lists
returns-then-not-lists c n e =
    let lt : c.loop-row.row-index < length c.args.rows.now = search rules in
    let at : slice_get c.args.rows.now c.loop-row.row-index ≡ Some c.row-item.result =
    slice_get_read c.args.rows.now _ c.loop-row.row-index c.row-item.result refl lt c.row-item.is in (
      λ t. absurd (false≢true t),
      λ h. absurd (not_listed c.args.rows.now c.loop-row.row-index c.row-item.result at n (sym (c.if-not-lists.ensures n e)) h),
    )

pub loop-row-preserved : goal.loop-row-preserved
loop-row-preserved c n e =
    let lt : c.loop-row.row-index < length c.args.rows.now = search rules in
    let at : slice_get c.args.rows.now c.loop-row.row-index ≡ Some c.row-item.result =
    slice_get_read c.args.rows.now _ c.loop-row.row-index c.row-item.result refl lt c.row-item.is in
    listed_next c.args.rows.now c.loop-row.row-index c.row-item.result at (label_of n)
    (listed_here n c.row-item.result.0 (sym (c.if-not-lists.ensures n e))) (c.loop-row.invariant n e)

pub returns : goal.returns
returns c n e =
    let all : take c.loop-row.row-index c.args.rows.now ≡ c.args.rows.now = take_all c.loop-row.row-index c.args.rows.now (search rules) in
    (λ t. subst (λ rows. AreListed (label_of n) (lenses_of rows)) all (c.loop-row.invariant n e), λ h. refl)
