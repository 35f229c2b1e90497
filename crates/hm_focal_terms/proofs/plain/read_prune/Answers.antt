use Rattle.std.proofs.Common.{◌≤◌, ap, arith}
use Rattle.hm_tree.specs.Nodes.{depth}
use Rattle.hm_focal_terms.specs.Derived.{under_name}
use Rattle.hm_focal_terms.proofs.PlainForms.{no_prune, too_deep}
use Rattle.hm_focal_terms.specs.TermText.{prune_form}
use Rattle.hm_focal_terms.proofs.plain.read_prune.Goals as goal

pub returns-in_default : goal.returns-in_default
returns-in_default c = no_prune _ (rw c.in_default.is at c.in_ok-name.ensures)

pub returns-then-depth-gt-DEEPEST : goal.returns-then-depth-gt-DEEPEST
returns-then-depth-gt-DEEPEST c =
    too_deep _ c.in-Some.name c.in-Some.child c.in-Some.rest.now (rw c.in-Some.is at c.in_ok-name.ensures) c.in_ok-default.default
    c.in_ok-default.ensures (omega (arith, c.depth.ensures))

pub returns : goal.returns
returns c =
    let shallow : depth (under_name c.in-Some.name c.in-Some.child) ≤ 1000 = omega (arith, c.depth.ensures, ap depth c.in_ok-default.ensures) in
    rw (c.in_ok-prune.ensures c.in-Some.child c.in_ok-default.ensures) (prune_form (rw c.in-Some.is at c.in_ok-name.ensures) shallow)
