use Rattle.std.proofs.Common.{◌≡◌, List, sym, subst}
use Rattle.std.specs.Prelude.{IfOk}
use Rattle.hm_tree.specs.Names.{Name}
use Rattle.hm_tree.proofs.Ascending.{ascending_is}
use Rattle.hm_csv_columns.specs.Fields.{first_of}
use Rattle.hm_csv_columns.proofs.field.one_field.Goals as goal

pub returns : goal.returns
returns c =
    subst (λ (ns : List Name). IfOk c.first_text.result (λ text. text.items ≡ first_of ns))
    (sym (ascending_is c.names.result.now c.args.set.now c.names.ensures.ascending c.names.ensures.same)) c.first_text.ensures
