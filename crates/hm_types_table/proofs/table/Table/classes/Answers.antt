use Rattle.std.proofs.Common.{sym, subst}
use Rattle.hm_types_table.specs.Classes.{HaveClasses}
use Rattle.hm_types_table.proofs.SameNodes.{have_classes}
use Rattle.hm_types_table.proofs.table.Table.classes.Goals as goal

pub returns : goal.returns
returns c =
    let same = have_classes c.self.inside.seats c.self.inside.annotations c.self.invariant in
    subst (HaveClasses c.args.self.now) (sym c.deref.ensures.value) (subst (λ nodes. HaveClasses nodes c.self.inside.annotations.classes.items) c.self.view_is same)
