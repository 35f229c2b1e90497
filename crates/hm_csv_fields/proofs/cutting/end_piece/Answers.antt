use Rattle.std.proofs.Common.{map, [], ◌∷◌, ◌++◌, ℕ, ap, ◌∙◌}
use Rattle.std.specs.Prelude.{Vec}
use Rattle.std.specs.declared.alloc.Global.{Global}
use Rattle.std.proofs.lemmas.List.{map-append}
use Rattle.hm_csv_fields.specs.Cutting.{bytes_of, all_bytes}
use Rattle.hm_csv_fields.proofs.Led.{ends}
use Rattle.hm_csv_fields.proofs.cutting.end_piece.Goals as goal

pub returns : goal.returns
returns c rest =
    ends (all_bytes c.args.cut.now.whole) c.args.cut.now.piece.items rest c.args.cut.now.behind_backslash (all_bytes c.push.new.self)
    c.replace-piece.new.dest.items c.requires
    (ap (map bytes_of) c.in_ok-push.ensures.items ∙ map-append bytes_of c.args.cut.now.whole.items (c.replace-piece.result ∷ [])
    ∙ ap (λ (v : Vec ℕ Global). all_bytes c.args.cut.now.whole ++ v.items ∷ []) c.replace-piece.ensures.value)
    (ap (λ (v : Vec ℕ Global). v.items) c.replace-piece.ensures.after ∙ c.new.ensures.items)
