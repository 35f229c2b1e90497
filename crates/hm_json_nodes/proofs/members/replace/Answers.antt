use Rattle.std.proofs.Common.{ap, ◌∙◌}
use Rattle.serde_json.specs.Data.{put}
use Rattle.serde_json.specs.Find.{get_member}
use Rattle.serde_json.specs.View.{view, members_view}
use Rattle.serde_json.proofs.Views.{members_view-insert_entry, view-lookup}
use Rattle.std.specs.Prelude.{option_map, string_bytes}
use Rattle.hm_json_nodes.proofs.members.replace.Goals as goal

pub returns-clause-new : goal.returns-clause-new
returns-clause-new c =
    ap members_view c.in_ok-insert.ensures.entries ∙ members_view-insert_entry c.args.members.now.entries c.in_ok-from_str.field-0 c.args.value
    ∙ ap (λ k. put k (view c.args.value) (members_view c.args.members.now.entries)) c.in_ok-from_str.ensures.ok

pub returns-clause-old : goal.returns-clause-old
returns-clause-old c =
    ap (option_map view) c.in_ok-insert.ensures.old ∙ view-lookup (string_bytes c.in_ok-from_str.field-0) c.args.members.now.entries
    ∙ ap (λ k. get_member k (members_view c.args.members.now.entries)) c.in_ok-from_str.ensures.ok
