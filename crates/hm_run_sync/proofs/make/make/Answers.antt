use Rattle.std.proofs.Common.{◌≡◌, Ok, Err, refl, rules}
use Rattle.hm_run_sync.specs.Reads.{before_of}
use Rattle.hm_run_sync.proofs.Making.{may_close_left, may_close_right, made_as_left, made_as_right}
use Rattle.hm_run_sync.proofs.make.make.Goals as goal

pub close_as-requires : goal.close_as-requires
close_as-requires g c = may_close_left _ (before_of c.args.inputs) c.requires _ c.requires.member_right

pub close_as-requires-then-records-2 : goal.close_as-requires-then-records-2
close_as-requires-then-records-2 g c = may_close_right _ (before_of c.args.inputs) c.requires _ c.requires.member_left

pub returns-in_err-one : goal.returns-in_err-one
returns-in_err-one g c =
    let is : c.from_residual.result ≡ Err c.in_err-one.field-0.0 = search rules in
    rw is (made_as_right _ (before_of c.args.inputs) c.requires (c.if-records.ensures.0 refl) (Err c.in_err-one.field-0.0) c.in_err-one.ensures.closes tt c.new-none.result c.new-none.ensures.items)

pub returns-then-records : goal.returns-then-records
returns-then-records g c =
    made_as_right _ (before_of c.args.inputs) c.requires (c.if-records.ensures.0 refl) (Ok c.in_ok-one.one) c.in_ok-one.ensures.closes c.in_ok-one.ensures.counts c.new-none.result c.new-none.ensures.items

pub returns-in_err-one-2 : goal.returns-in_err-one-2
returns-in_err-one-2 g c =
    let is : c.from_residual-in_err-one-2.result ≡ Err c.in_err-one-2.field-0.0 = search rules in
    rw is (made_as_left _ (before_of c.args.inputs) c.requires (c.if-records-2.ensures.0 refl) (Err c.in_err-one-2.field-0.0) c.in_err-one-2.ensures.closes tt c.new-none.result c.new-none.ensures.items)

pub returns-then-records-2 : goal.returns-then-records-2
returns-then-records-2 g c =
    made_as_left _ (before_of c.args.inputs) c.requires (c.if-records-2.ensures.0 refl) (Ok c.in_ok-one-2.one) c.in_ok-one-2.ensures.closes c.in_ok-one-2.ensures.counts c.new-none.result c.new-none.ensures.items
