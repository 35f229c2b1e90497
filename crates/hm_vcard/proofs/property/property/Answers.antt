use Rattle.std.proofs.Common.{sym, ◌∙◌}
use Rattle.hm_vcard.proofs.Frames.{frame_other, unparted_other}
use Rattle.hm_vcard.proofs.property.property.Goals as goal
use Rattle.hm_vcard.proofs.property.property.Goals.{in_default-via-in-Some+else-not-is_frame, in_default-via-in_default}

pub returns-in_default : goal.returns-in_default
returns-in_default c =
    elim c.in_default.branch [
      | in_default-via-in-Some+else-not-is_frame w ↦
          frame_other c.args.text.now w.in-Some.parts w.in-Some.ensures.parts (sym w.is_frame.ensures ∙ w.if-not-is_frame.false)
      | in_default-via-in_default w ↦ unparted_other c.args.text.now w.in_default.ensures.parts
    ]
