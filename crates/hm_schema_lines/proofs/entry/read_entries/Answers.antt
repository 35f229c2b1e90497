use Rattle.std.proofs.Common.{◌∙◌, ap, subst}
use Rattle.std.proofs.lemmas.List.{map-append}
use Rattle.std.specs.List.{AllZip}
use Rattle.hm_schema_lines.specs.Entries.{IsEntry, entry_value, entry_values}
use Rattle.hm_schema_lines.proofs.Entries.{none_read, read_one, all_read}
use Rattle.hm_schema_lines.proofs.entry.read_entries.Goals as goal

pub loop-line-init : goal.loop-line-init
loop-line-init c = none_read _ _ (ap entry_values c.in_ok-entries.ensures.items)

pub loop-line-preserved : goal.loop-line-preserved
loop-line-preserved c =
    read_one _ _ _ c.loop-line.invariant _ _ _ (entry_value c.in_ok-read_entry.field-0) c.in-Some.ensures.steps c.in_ok-read_entry.ensures
    (ap entry_values c.in_ok-push.ensures.items ∙ simp map-append)

pub returns : goal.returns
returns c =
    subst (λ lines. AllZip IsEntry lines (entry_values c.loop-line.entries.items))
    (c.into_iter-line-iterator.ensures.into_iter_gives ∙ c.lines-line-items.ensures.value)
    (all_read _ _ _ c.loop-line.invariant c.in-None.ensures.steps.0)
