use Rattle.std.proofs.Common.{◌≡◌, ◌++◌, take, codes}
use Rattle.std.specs.Prelude.{flat_map}
use Rattle.hm_changes_report.specs.Text.{place_text}
use Rattle.hm_changes_report.proofs.text.put_alike.Given as goal

abbrev pub invariant-loop-name : goal.invariant-loop-name
invariant-loop-name l = l.text.items ≡ (l.fn.text.items ++ codes "alike") ++ flat_map (place_text l.view l.alike.parent) (take l.name-index l.name-items)
