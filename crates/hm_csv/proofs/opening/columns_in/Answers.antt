use Rattle.std.proofs.Common.{rules, ℕ, Bool, ◌+◌, ◌≡◌, ◌∷◌, ◌++◌, [], List, map, length, get_or, sym, ap, ◌∙◌, ◌<◌}
use Rattle.std.proofs.lemmas.Iterator.Adapters.{YieldsList-from_vec}
use Rattle.std.proofs.lemmas.Iterator.Consumers.{YieldsList-turn}
use Rattle.std.proofs.lemmas.List.{map-append, length-map}
use Rattle.csv.specs.Records.{fields_of}
use Rattle.hm_tree.specs.Names.{Name}
use Rattle.hm_schema.specs.Values.{options_value}
use Rattle.hm_csv_columns.specs.declared.column.Column.{Column}
use Rattle.hm_csv.specs.Options.{shown_of}
use Rattle.hm_csv.specs.Tables.{column_for}
use Rattle.hm_csv.proofs.ColumnFacts.{next_place}
use Rattle.hm_csv.proofs.opening.columns_in.Goals as goal

pub loop-name-preserved : goal.loop-name-preserved
loop-name-preserved c =
    let o = options_value c.args.options.now in
    let header = fields_of c.args.header.now in
    let road = YieldsList-from_vec {s = c.into_iter-name-iterator.result} c.args.shown.items (search rules) (search rules) in
    let turn = YieldsList-turn road c.loop-name.yielded c.loop-name.name-iterator c.loop-name.yielded_by c.next.result c.next.new.self (c.in-Some-2.name, c.in-Some-2.many) c.in-Some-2.is c.next.ensures.steps in
    let s : Name × Bool = (c.in-Some-2.name, c.in-Some-2.many) in
    let n = length c.loop-name.yielded in
    let found = rw c.in-Some.is at c.in_ok-places.ensures in
    let under : n < length (shown_of o) = rw (sym c.requires.shown) turn.0 in
    let is : s ≡ get_or (shown_of o) n s = rw (sym c.requires.shown) turn.1 in
    let long : c.len-in-loop-name.result ≡ length c.loop-name.columns.items = search rules in
    let count : c.len-in-loop-name.result ≡ n = long ∙ ap length c.loop-name.invariant ∙ length-map c.loop-name.yielded (column_for header) in
    let place = c.index-place.ensures ∙ ap (λ i. get_or c.in-Some.places.items (i + 1) c.index-place.result.now) count in
    let right = place ∙ next_place o header c.args.names.now c.in-Some.places.items c.requires.names found n c.index-place.result.now s under is in
    c.in_ok-push.ensures.items
    ∙ ap (λ (cs : List Column). cs ++ record { name = s.0; many = s.1; place = c.index-place.result.now } ∷ []) c.loop-name.invariant
    ∙ ap (λ (p : ℕ). map (column_for header) c.loop-name.yielded ++ record { name = s.0; many = s.1; place = p } ∷ []) right
    ∙ sym (map-append (column_for header) c.loop-name.yielded (s ∷ []))
