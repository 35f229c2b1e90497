use Rattle.std.proofs.Common.{◌≡◌, ◌++◌, take, filter, not}
use Rattle.std.specs.FinSet.{contains}
use Rattle.hm_csv_fields.specs.Cutting.{lent, AreLentUtf8}
use Rattle.hm_csv_fields.proofs.showing.append_new.Given as goal

abbrev pub invariant-loop-name : goal.invariant-loop-name
invariant-loop-name l = record {
  added : lent l.new.items ≡ lent l.initial.new.items ++ filter (λ k. not (contains l.old k)) (take l.name-index l.name-items);
  utf8 : AreLentUtf8 l.new.items;
}
