use Rattle.std.proofs.Common.{rules, ◌≡◌, ◌+◌, ◌<◌, length, map, slice_get, slice_index_or, Some, refl, sym, ap, subst, ◌∙◌, arith}
use mathlib.Core.Bool.{false≢true}
use Rattle.std.specs.Option.{option_map}
use Rattle.std.proofs.lemmas.List.{length-map}
use Rattle.std.proofs.lemmas.Option.{slice_get_read, slice_get-map}
use Rattle.std.proofs.lemmas.Result.{err_from_is_err_and}
use Rattle.hm_schema.specs.declared.node.NodeId.{NodeId}
use Rattle.hm_schema.specs.Values.{node_value}
use Rattle.hm_terms.specs.declared.term.Definition.{Definition}
use Rattle.hm_terms.specs.Programs.{lens_of, definition_value, program_value}
use Rattle.hm_types_forms.specs.Forms.{form}
use Rattle.hm_types_table.specs.Tables.{shift}
use Rattle.hm_types_schemas.proofs.Twins.{numbered_plain}
use Rattle.hm_types_terms.specs.Courses.{classes_of, scoped, IsStart, IsView, IsAt}
use Rattle.hm_types_terms.specs.Bodies.{IsTypedBody, IsMistypedBody}
use Rattle.hm_types.specs.Checks.{IsMistyped, in_main}
use Rattle.hm_types.proofs.Beginning.{base_is, begun, declared_inside}
use Rattle.hm_types.proofs.CheckSteps.{IsChecked, body_start, body_view_inside, body_rows, body_typed, body_mistyped, checked_next, checked_none, main_start, main_rows, main_fault, main_sound, twins_left, program_typed, program_fits}
use Rattle.hm_types.proofs.ProgramFaults.{mistyped_fault, twins_fault}
use Rattle.hm_types.proofs.checking.checked.Goals as goal

pub declared_of-requires-clause-sources : goal.declared_of-requires-clause-sources
declared_of-requires-clause-sources c k d lt =
    let inside = declared_inside c.args.program.definitions.items (length (program_value c.args.program).options.types) c.requires.program.in_range in
    let types : length (program_value c.args.program).options.types ≡ length c.deref.result.now =
    length-map c.args.program.options.types.items node_value ∙ ap length (sym c.deref.ensures.value) in
    let less = (inside k d (subst (λ ds. k < length ds) c.deref-2.ensures.value lt)).0 in
    let moved = ap (λ ds. (slice_index_or ds k d).source.place) c.deref-2.ensures.value in
    omega (arith, less, moved, types, c.nodes-nodes.type_inv, c.deref.type_inv)

pub declared_of-requires-clause-views : goal.declared_of-requires-clause-views
declared_of-requires-clause-views c k d lt =
    let inside = declared_inside c.args.program.definitions.items (length (program_value c.args.program).options.types) c.requires.program.in_range in
    let types : length (program_value c.args.program).options.types ≡ length c.deref.result.now =
    length-map c.args.program.options.types.items node_value ∙ ap length (sym c.deref.ensures.value) in
    let less = (inside k d (subst (λ ds. k < length ds) c.deref-2.ensures.value lt)).1 in
    let moved = ap (λ ds. (slice_index_or ds k d).view.place) c.deref-2.ensures.value in
    omega (arith, less, moved, types, c.nodes-nodes.type_inv, c.deref.type_inv)

pub loop-definition-init : goal.loop-definition-init
loop-definition-init c =
    let b = begun (program_value c.args.program) c.args.source.now c.nodes-nodes.result.now c.deref.result.now c.deref-2.result.now c.in_ok-table.table
    c.in_ok-declared.declared.items c.nodes-nodes.ensures.nodes (ap (map node_value) c.deref.ensures.value) (ap (map definition_value) c.deref-2.ensures.value)
    c.nodes-nodes.ensures.well_formed c.in_ok-table.ensures.nodes c.in_ok-table.ensures.formed c.in_ok-declared.ensures in
    record {
      begun = b;
      checked = subst (λ nodes. IsChecked (classes_of c.args.texts.now) (program_value c.args.program) c.args.source.now nodes 0)
          (sym (base_is (program_value c.args.program) c.args.source.now c.nodes-nodes.result.now c.deref.result.now c.in_ok-table.table c.nodes-nodes.ensures.nodes
          (ap (map node_value) c.deref.ensures.value) c.in_ok-table.ensures.nodes))
          (checked_none (classes_of c.args.texts.now) (program_value c.args.program) c.args.source.now c.requires.program c.requires.source b.source b.formed c.in_ok-declared.declared.items b.declares);
      number = refl;
    }

pub behind-requires : goal.behind-requires
behind-requires c =
    let inside = declared_inside c.args.program.definitions.items (length (program_value c.args.program).options.types) c.requires.program.in_range in
    let types : length (program_value c.args.program).options.types ≡ length c.deref.result.now =
    length-map c.args.program.options.types.items node_value ∙ ap length (sym c.deref.ensures.value) in
    let lt : c.loop-definition.definition-index < length c.deref-definition-items.result.now = search rules in
    let both = inside c.loop-definition.definition-index c.definition-item.result (subst (λ ds. c.loop-definition.definition-index < length ds) c.deref-definition-items.ensures.value lt) in
    let item = c.definition-item.is ∙ ap (λ ds. slice_index_or ds c.loop-definition.definition-index c.definition-item.result) c.deref-definition-items.ensures.value in
    let moved = ap (λ (d : Definition). d.source.place) item in
    omega (arith, both.0, moved, types, c.nodes-nodes.type_inv, c.deref.type_inv)

pub behind-requires-in-loop-definition : goal.behind-requires-in-loop-definition
behind-requires-in-loop-definition c =
    let inside = declared_inside c.args.program.definitions.items (length (program_value c.args.program).options.types) c.requires.program.in_range in
    let types : length (program_value c.args.program).options.types ≡ length c.deref.result.now =
    length-map c.args.program.options.types.items node_value ∙ ap length (sym c.deref.ensures.value) in
    let lt : c.loop-definition.definition-index < length c.deref-definition-items.result.now = search rules in
    let both = inside c.loop-definition.definition-index c.definition-item.result (subst (λ ds. c.loop-definition.definition-index < length ds) c.deref-definition-items.ensures.value lt) in
    let item = c.definition-item.is ∙ ap (λ ds. slice_index_or ds c.loop-definition.definition-index c.definition-item.result) c.deref-definition-items.ensures.value in
    let moved = ap (λ (d : Definition). d.view.place) item in
    omega (arith, both.1, moved, types, c.nodes-nodes.type_inv, c.deref.type_inv)

pub check_body-requires-clause-start : goal.check_body-requires-clause-start
check_body-requires-clause-start c =
    let b = c.loop-definition.invariant.begun in
    let h = c.loop-definition.invariant.checked in
    let lt : c.loop-definition.definition-index < length c.deref-definition-items.result.now = search rules in
    let read : slice_get c.deref-definition-items.result.now c.loop-definition.definition-index ≡ Some c.definition-item.result =
    slice_get_read c.deref-definition-items.result.now _ c.loop-definition.definition-index c.definition-item.result refl lt c.definition-item.is in
    let at : slice_get (program_value c.args.program).definitions c.loop-definition.definition-index ≡ Some (definition_value c.definition-item.result) =
    ap (λ ds. slice_get (map definition_value ds) c.loop-definition.definition-index) (sym c.deref-definition-items.ensures.value)
    ∙ slice_get-map definition_value c.deref-definition-items.result.now c.loop-definition.definition-index ∙ ap (option_map definition_value) read in
    let d = (definition_value c.definition-item.result).1 in
    let from : c.behind.result ≡ shift (length c.args.source.now.nodes) d.source = c.behind.ensures ∙ ap (λ n. shift n d.source) b.by_is in
    let to : c.behind-in-loop-definition.result ≡ shift (length c.args.source.now.nodes) d.view = c.behind-in-loop-definition.ensures ∙ ap (λ n. shift n d.view) b.by_is in
    let same : c.deref-in-loop-definition.result.now ≡ c.in_ok-declared.declared.items = c.deref-in-loop-definition.ensures.value in
    subst (λ ds. IsStart c.loop-definition.table (scoped c.args.texts.now ds) c.behind.result) (sym same)
    (subst (IsStart c.loop-definition.table (scoped c.args.texts.now c.in_ok-declared.declared.items)) (sym from) (body_start (classes_of c.args.texts.now) (program_value c.args.program) c.args.source.now c.requires.program c.requires.source b.source b.formed c.in_ok-declared.declared.items b.declares c.loop-definition.table c.loop-definition.definition-index h c.definition-item.result.name d at))

pub check_body-requires-clause-view : goal.check_body-requires-clause-view
check_body-requires-clause-view c =
    let b = c.loop-definition.invariant.begun in
    let h = c.loop-definition.invariant.checked in
    let lt : c.loop-definition.definition-index < length c.deref-definition-items.result.now = search rules in
    let read : slice_get c.deref-definition-items.result.now c.loop-definition.definition-index ≡ Some c.definition-item.result =
    slice_get_read c.deref-definition-items.result.now _ c.loop-definition.definition-index c.definition-item.result refl lt c.definition-item.is in
    let at : slice_get (program_value c.args.program).definitions c.loop-definition.definition-index ≡ Some (definition_value c.definition-item.result) =
    ap (λ ds. slice_get (map definition_value ds) c.loop-definition.definition-index) (sym c.deref-definition-items.ensures.value)
    ∙ slice_get-map definition_value c.deref-definition-items.result.now c.loop-definition.definition-index ∙ ap (option_map definition_value) read in
    let d = (definition_value c.definition-item.result).1 in
    let from : c.behind.result ≡ shift (length c.args.source.now.nodes) d.source = c.behind.ensures ∙ ap (λ n. shift n d.source) b.by_is in
    let to : c.behind-in-loop-definition.result ≡ shift (length c.args.source.now.nodes) d.view = c.behind-in-loop-definition.ensures ∙ ap (λ n. shift n d.view) b.by_is in
    subst (λ (j : NodeId). j.place < length c.loop-definition.table) (sym to) (body_view_inside (classes_of c.args.texts.now) (program_value c.args.program) c.args.source.now c.requires.program c.requires.source b.source b.formed c.in_ok-declared.declared.items b.declares c.loop-definition.table c.loop-definition.definition-index h c.definition-item.result.name d at)

pub check_body-requires-clause-rows : goal.check_body-requires-clause-rows
check_body-requires-clause-rows c =
    let b = c.loop-definition.invariant.begun in
    let h = c.loop-definition.invariant.checked in
    let lt : c.loop-definition.definition-index < length c.deref-definition-items.result.now = search rules in
    let read : slice_get c.deref-definition-items.result.now c.loop-definition.definition-index ≡ Some c.definition-item.result =
    slice_get_read c.deref-definition-items.result.now _ c.loop-definition.definition-index c.definition-item.result refl lt c.definition-item.is in
    let at : slice_get (program_value c.args.program).definitions c.loop-definition.definition-index ≡ Some (definition_value c.definition-item.result) =
    ap (λ ds. slice_get (map definition_value ds) c.loop-definition.definition-index) (sym c.deref-definition-items.ensures.value)
    ∙ slice_get-map definition_value c.deref-definition-items.result.now c.loop-definition.definition-index ∙ ap (option_map definition_value) read in
    let d = (definition_value c.definition-item.result).1 in
    body_rows (classes_of c.args.texts.now) (program_value c.args.program) c.args.source.now c.requires.program c.requires.source b.source b.formed c.in_ok-declared.declared.items b.declares c.loop-definition.table c.loop-definition.definition-index h c.definition-item.result.name d at

pub returns-in_err-check_body-clause-fault : goal.returns-in_err-check_body-clause-fault
returns-in_err-check_body-clause-fault c =
    let p = err_from_is_err_and c.from_residual-in_err-check_body.result c.from_residual-in_err-check_body.ensures.1 in
    let b = c.loop-definition.invariant.begun in
    let h = c.loop-definition.invariant.checked in
    let lt : c.loop-definition.definition-index < length c.deref-definition-items.result.now = search rules in
    let read : slice_get c.deref-definition-items.result.now c.loop-definition.definition-index ≡ Some c.definition-item.result =
    slice_get_read c.deref-definition-items.result.now _ c.loop-definition.definition-index c.definition-item.result refl lt c.definition-item.is in
    let at : slice_get (program_value c.args.program).definitions c.loop-definition.definition-index ≡ Some (definition_value c.definition-item.result) =
    ap (λ ds. slice_get (map definition_value ds) c.loop-definition.definition-index) (sym c.deref-definition-items.ensures.value)
    ∙ slice_get-map definition_value c.deref-definition-items.result.now c.loop-definition.definition-index ∙ ap (option_map definition_value) read in
    let d = (definition_value c.definition-item.result).1 in
    let from : c.behind.result ≡ shift (length c.args.source.now.nodes) d.source = c.behind.ensures ∙ ap (λ n. shift n d.source) b.by_is in
    let to : c.behind-in-loop-definition.result ≡ shift (length c.args.source.now.nodes) d.view = c.behind-in-loop-definition.ensures ∙ ap (λ n. shift n d.view) b.by_is in
    let same : c.deref-in-loop-definition.result.now ≡ c.in_ok-declared.declared.items = c.deref-in-loop-definition.ensures.value in
    rw (p.1, p.2)
    (mistyped_fault (classes_of c.args.texts.now) (program_value c.args.program) c.args.source.now (record { known = c.in_ok-check_texts.ensures.known; guarded = c.in_ok-check_cycles.ensures.guarded }) c.loop-definition.number
    (IsMistypedBody (scoped c.args.texts.now c.deref-in-loop-definition.result.now) c.loop-definition.table (lens_of c.definition-item.result.body) c.behind.result c.behind-in-loop-definition.result)
    (λ a f. subst (λ n. IsMistyped (classes_of c.args.texts.now) (program_value c.args.program) c.args.source.now n a) (sym c.loop-definition.invariant.number)
    (body_mistyped (classes_of c.args.texts.now) (program_value c.args.program) c.args.source.now c.requires.program c.requires.source b.source b.formed c.in_ok-declared.declared.items b.declares c.loop-definition.table c.loop-definition.definition-index h c.definition-item.result.name d at a
    (subst (λ (X : Type 0). X) (λ t. IsMistypedBody (scoped c.args.texts.now (same t)) c.loop-definition.table d.body (from t) (to t) a) f)))
    c.in_err-check_body.field-0.0 c.in_err-check_body.ensures.fault)

pub loop-definition-preserved : goal.loop-definition-preserved
loop-definition-preserved c =
    let b = c.loop-definition.invariant.begun in
    let h = c.loop-definition.invariant.checked in
    let lt : c.loop-definition.definition-index < length c.deref-definition-items.result.now = search rules in
    let read : slice_get c.deref-definition-items.result.now c.loop-definition.definition-index ≡ Some c.definition-item.result =
    slice_get_read c.deref-definition-items.result.now _ c.loop-definition.definition-index c.definition-item.result refl lt c.definition-item.is in
    let at : slice_get (program_value c.args.program).definitions c.loop-definition.definition-index ≡ Some (definition_value c.definition-item.result) =
    ap (λ ds. slice_get (map definition_value ds) c.loop-definition.definition-index) (sym c.deref-definition-items.ensures.value)
    ∙ slice_get-map definition_value c.deref-definition-items.result.now c.loop-definition.definition-index ∙ ap (option_map definition_value) read in
    let d = (definition_value c.definition-item.result).1 in
    let from : c.behind.result ≡ shift (length c.args.source.now.nodes) d.source = c.behind.ensures ∙ ap (λ n. shift n d.source) b.by_is in
    let to : c.behind-in-loop-definition.result ≡ shift (length c.args.source.now.nodes) d.view = c.behind-in-loop-definition.ensures ∙ ap (λ n. shift n d.view) b.by_is in
    let same : c.deref-in-loop-definition.result.now ≡ c.in_ok-declared.declared.items = c.deref-in-loop-definition.ensures.value in
    record {
      begun = b;
      checked = checked_next (classes_of c.args.texts.now) (program_value c.args.program) c.args.source.now c.requires.program c.requires.source b.source b.formed c.in_ok-declared.declared.items b.declares c.loop-definition.table c.loop-definition.definition-index h c.definition-item.result.name d at c.check_body.new.table c.check_body.ensures.formed c.check_body.ensures.extends
          (body_typed (classes_of c.args.texts.now) (program_value c.args.program) c.args.source.now c.requires.program c.requires.source b.source b.formed c.in_ok-declared.declared.items b.declares c.loop-definition.table c.loop-definition.definition-index h c.definition-item.result.name d at
          (subst (λ (X : Type 0). X) (λ t. IsTypedBody (scoped c.args.texts.now (same t)) c.loop-definition.table d.body (from t) (to t)) c.in_ok-check_body.ensures.typed))
          c.in_ok-check_body.ensures.texts;
      number = ap (λ n. n + 1) c.loop-definition.invariant.number;
    }

pub view_of-requires-clause-start : goal.view_of-requires-clause-start
view_of-requires-clause-start c =
    let b = c.loop-definition.invariant.begun in
    let end : c.loop-definition.definition-index ≡ length (program_value c.args.program).definitions =
    (let e : c.loop-definition.definition-index ≡ length c.deref-definition-items.result.now = search rules in
    e ∙ ap length c.deref-definition-items.ensures.value ∙ sym (length-map c.args.program.definitions.items definition_value)) in
    let h : IsChecked (classes_of c.args.texts.now) (program_value c.args.program) c.args.source.now c.loop-definition.table (length (program_value c.args.program).definitions) =
    subst (IsChecked (classes_of c.args.texts.now) (program_value c.args.program) c.args.source.now c.loop-definition.table) end c.loop-definition.invariant.checked in
    let number : c.loop-definition.number ≡ length (program_value c.args.program).definitions + 1 = c.loop-definition.invariant.number ∙ ap (λ n. n + 1) end in
    let same : c.deref-3.result.now ≡ c.in_ok-declared.declared.items = c.deref-3.ensures.value in
    let root : c.root.result ≡ c.args.source.now.root = c.root.ensures.root in
    subst (λ (X : Type 0). X) (λ t. IsStart c.loop-definition.table (scoped c.args.texts.now (sym same t)) (sym root t)) (main_start (classes_of c.args.texts.now) (program_value c.args.program) c.args.source.now c.requires.program c.requires.source b.source b.formed c.in_ok-declared.declared.items b.declares c.loop-definition.table (length (program_value c.args.program).definitions) h)

pub view_of-requires-clause-rows : goal.view_of-requires-clause-rows
view_of-requires-clause-rows c =
    let b = c.loop-definition.invariant.begun in
    let end : c.loop-definition.definition-index ≡ length (program_value c.args.program).definitions =
    (let e : c.loop-definition.definition-index ≡ length c.deref-definition-items.result.now = search rules in
    e ∙ ap length c.deref-definition-items.ensures.value ∙ sym (length-map c.args.program.definitions.items definition_value)) in
    let h : IsChecked (classes_of c.args.texts.now) (program_value c.args.program) c.args.source.now c.loop-definition.table (length (program_value c.args.program).definitions) =
    subst (IsChecked (classes_of c.args.texts.now) (program_value c.args.program) c.args.source.now c.loop-definition.table) end c.loop-definition.invariant.checked in
    let number : c.loop-definition.number ≡ length (program_value c.args.program).definitions + 1 = c.loop-definition.invariant.number ∙ ap (λ n. n + 1) end in
    let same : c.deref-3.result.now ≡ c.in_ok-declared.declared.items = c.deref-3.ensures.value in
    let root : c.root.result ≡ c.args.source.now.root = c.root.ensures.root in
    main_rows (classes_of c.args.texts.now) (program_value c.args.program) c.args.source.now c.requires.program c.requires.source b.source b.formed c.in_ok-declared.declared.items b.declares

pub returns-in_err-shown-clause-fault : goal.returns-in_err-shown-clause-fault
returns-in_err-shown-clause-fault c =
    let p = err_from_is_err_and c.from_residual-in_err-shown.result c.from_residual-in_err-shown.ensures.1 in
    let b = c.loop-definition.invariant.begun in
    let end : c.loop-definition.definition-index ≡ length (program_value c.args.program).definitions =
    (let e : c.loop-definition.definition-index ≡ length c.deref-definition-items.result.now = search rules in
    e ∙ ap length c.deref-definition-items.ensures.value ∙ sym (length-map c.args.program.definitions.items definition_value)) in
    let h : IsChecked (classes_of c.args.texts.now) (program_value c.args.program) c.args.source.now c.loop-definition.table (length (program_value c.args.program).definitions) =
    subst (IsChecked (classes_of c.args.texts.now) (program_value c.args.program) c.args.source.now c.loop-definition.table) end c.loop-definition.invariant.checked in
    let number : c.loop-definition.number ≡ length (program_value c.args.program).definitions + 1 = c.loop-definition.invariant.number ∙ ap (λ n. n + 1) end in
    let same : c.deref-3.result.now ≡ c.in_ok-declared.declared.items = c.deref-3.ensures.value in
    let root : c.root.result ≡ c.args.source.now.root = c.root.ensures.root in
    rw (p.1, p.2)
    (mistyped_fault (classes_of c.args.texts.now) (program_value c.args.program) c.args.source.now (record { known = c.in_ok-check_texts.ensures.known; guarded = c.in_ok-check_cycles.ensures.guarded }) c.loop-definition.number
    (IsAt (scoped c.args.texts.now c.deref-3.result.now) c.loop-definition.table (lens_of c.args.program.main) 1 c.root.result)
    (λ a f. subst (λ n. IsMistyped (classes_of c.args.texts.now) (program_value c.args.program) c.args.source.now n a) (sym number)
    (in_main h.typed (main_fault (classes_of c.args.texts.now) (program_value c.args.program) c.args.source.now c.requires.program c.requires.source b.source b.formed c.in_ok-declared.declared.items b.declares c.loop-definition.table (length (program_value c.args.program).definitions) h a
    (subst (λ (X : Type 0). X) (λ t. IsAt (scoped c.args.texts.now (same t)) c.loop-definition.table (lens_of c.args.program.main) 1 (root t) a) f))))
    c.in_err-shown.field-0.0 c.in_err-shown.ensures.fault)

pub numbered-requires-clause-sound : goal.numbered-requires-clause-sound
numbered-requires-clause-sound c =
    let b = c.loop-definition.invariant.begun in
    let end : c.loop-definition.definition-index ≡ length (program_value c.args.program).definitions =
    (let e : c.loop-definition.definition-index ≡ length c.deref-definition-items.result.now = search rules in
    e ∙ ap length c.deref-definition-items.ensures.value ∙ sym (length-map c.args.program.definitions.items definition_value)) in
    let h : IsChecked (classes_of c.args.texts.now) (program_value c.args.program) c.args.source.now c.loop-definition.table (length (program_value c.args.program).definitions) =
    subst (IsChecked (classes_of c.args.texts.now) (program_value c.args.program) c.args.source.now c.loop-definition.table) end c.loop-definition.invariant.checked in
    let number : c.loop-definition.number ≡ length (program_value c.args.program).definitions + 1 = c.loop-definition.invariant.number ∙ ap (λ n. n + 1) end in
    let same : c.deref-3.result.now ≡ c.in_ok-declared.declared.items = c.deref-3.ensures.value in
    let root : c.root.result ≡ c.args.source.now.root = c.root.ensures.root in
    let view : IsView (scoped c.args.texts.now c.in_ok-declared.declared.items) c.loop-definition.table c.view_of.new.table (lens_of c.args.program.main) c.args.source.now.root c.in_ok-shown.shown =
    subst (λ (X : Type 0). X) (λ t. IsView (scoped c.args.texts.now (same t)) c.loop-definition.table c.view_of.new.table (lens_of c.args.program.main) (root t) c.in_ok-shown.shown) c.in_ok-shown.ensures.view in
    main_sound (classes_of c.args.texts.now) (program_value c.args.program) c.args.source.now c.requires.program c.requires.source b.source b.formed c.in_ok-declared.declared.items b.declares c.loop-definition.table (length (program_value c.args.program).definitions) h c.view_of.new.table c.in_ok-shown.shown view

pub returns-then-not-is_plain-clause-fault : goal.returns-then-not-is_plain-clause-fault
returns-then-not-is_plain-clause-fault c =
    let b = c.loop-definition.invariant.begun in
    let end : c.loop-definition.definition-index ≡ length (program_value c.args.program).definitions =
    (let e : c.loop-definition.definition-index ≡ length c.deref-definition-items.result.now = search rules in
    e ∙ ap length c.deref-definition-items.ensures.value ∙ sym (length-map c.args.program.definitions.items definition_value)) in
    let h : IsChecked (classes_of c.args.texts.now) (program_value c.args.program) c.args.source.now c.loop-definition.table (length (program_value c.args.program).definitions) =
    subst (IsChecked (classes_of c.args.texts.now) (program_value c.args.program) c.args.source.now c.loop-definition.table) end c.loop-definition.invariant.checked in
    let number : c.loop-definition.number ≡ length (program_value c.args.program).definitions + 1 = c.loop-definition.invariant.number ∙ ap (λ n. n + 1) end in
    let same : c.deref-3.result.now ≡ c.in_ok-declared.declared.items = c.deref-3.ensures.value in
    let root : c.root.result ≡ c.args.source.now.root = c.root.ensures.root in
    let view : IsView (scoped c.args.texts.now c.in_ok-declared.declared.items) c.loop-definition.table c.view_of.new.table (lens_of c.args.program.main) c.args.source.now.root c.in_ok-shown.shown =
    subst (λ (X : Type 0). X) (λ t. IsView (scoped c.args.texts.now (same t)) c.loop-definition.table c.view_of.new.table (lens_of c.args.program.main) (root t) c.in_ok-shown.shown) c.in_ok-shown.ensures.view in
    let bare = numbered_plain (form c.view_of.new.table c.in_ok-shown.shown) c.in_ok-view.view c.in_ok-view.ensures in
    twins_fault (classes_of c.args.texts.now) (program_value c.args.program) c.args.source.now (record { known = c.in_ok-check_texts.ensures.known; guarded = c.in_ok-check_cycles.ensures.guarded }) c.loop-definition.number number
    (twins_left (classes_of c.args.texts.now) (program_value c.args.program) c.args.source.now c.requires.program c.requires.source b.source b.formed c.in_ok-declared.declared.items b.declares c.loop-definition.table h c.view_of.new.table c.in_ok-shown.shown view (λ none. false≢true (c.if-not-is_plain.ensures.1 (bare.1 none))))
    c.in_ok-twins_left.field-0 c.in_ok-twins_left.ensures

pub returns-clause-typed : goal.returns-clause-typed
returns-clause-typed c =
    let b = c.loop-definition.invariant.begun in
    let end : c.loop-definition.definition-index ≡ length (program_value c.args.program).definitions =
    (let e : c.loop-definition.definition-index ≡ length c.deref-definition-items.result.now = search rules in
    e ∙ ap length c.deref-definition-items.ensures.value ∙ sym (length-map c.args.program.definitions.items definition_value)) in
    let h : IsChecked (classes_of c.args.texts.now) (program_value c.args.program) c.args.source.now c.loop-definition.table (length (program_value c.args.program).definitions) =
    subst (IsChecked (classes_of c.args.texts.now) (program_value c.args.program) c.args.source.now c.loop-definition.table) end c.loop-definition.invariant.checked in
    let number : c.loop-definition.number ≡ length (program_value c.args.program).definitions + 1 = c.loop-definition.invariant.number ∙ ap (λ n. n + 1) end in
    let same : c.deref-3.result.now ≡ c.in_ok-declared.declared.items = c.deref-3.ensures.value in
    let root : c.root.result ≡ c.args.source.now.root = c.root.ensures.root in
    let view : IsView (scoped c.args.texts.now c.in_ok-declared.declared.items) c.loop-definition.table c.view_of.new.table (lens_of c.args.program.main) c.args.source.now.root c.in_ok-shown.shown =
    subst (λ (X : Type 0). X) (λ t. IsView (scoped c.args.texts.now (same t)) c.loop-definition.table c.view_of.new.table (lens_of c.args.program.main) (root t) c.in_ok-shown.shown) c.in_ok-shown.ensures.view in
    let bare = numbered_plain (form c.view_of.new.table c.in_ok-shown.shown) c.in_ok-view.view c.in_ok-view.ensures in
    let none = bare.0 (c.if-not-is_plain.ensures.0 refl) in
    record {
      program = refl;
      source = c.in_ok-source.ensures;
      shown = form c.view_of.new.table c.in_ok-shown.shown;
      typed = program_typed (classes_of c.args.texts.now) (program_value c.args.program) c.args.source.now c.requires.program c.requires.source b.source b.formed c.in_ok-declared.declared.items b.declares c.loop-definition.table h c.view_of.new.table c.in_ok-shown.shown view (record { known = c.in_ok-check_texts.ensures.known; guarded = c.in_ok-check_cycles.ensures.guarded }) none;
      numbered = c.in_ok-view.ensures;
      fits = program_fits (classes_of c.args.texts.now) (program_value c.args.program) c.args.source.now c.requires.program c.requires.source b.source b.formed c.in_ok-declared.declared.items b.declares c.loop-definition.table h c.view_of.new.table c.in_ok-shown.shown view (record { known = c.in_ok-check_texts.ensures.known; guarded = c.in_ok-check_cycles.ensures.guarded }) none c.in_ok-view.view c.nodes.ensures.well_formed c.in_ok-view.ensures c.in_ok-shown.ensures.texts;
    }
