use Rattle.std.proofs.Common.{◌≡◌, ℕ, ◌∷◌, [], ◌++◌, List, ap, ap₂, ◌∙◌, sym, subst, map}
use Rattle.vv_gate.specs.Tree.{Port, Assignment, GateFile, ports_of}
use Rattle.vv_gate.specs.View.{file_of}
use Rattle.vv_gate_text.specs.Made.{made_port, module_of}
use Rattle.vv_gate_text.specs.Names.{mangled}
use Rattle.vv_gate_vhdl.specs.Design.{is_assigned}
use Rattle.vv_vast.specs.Flat.{Flat, FlatDesign}
use Rattle.vv_vast.specs.Tree as vast
use Rattle.vv_gate_run.specs.Circuit.{ports_in, assignments_in, port_of}
use Rattle.vv_gate_run.specs.declared.ports.Port.{Port as OwnPort}
use Rattle.vv_gate_run.specs.Flat.{item_of, object_of}
use Rattle.vv_gate_run.specs.Numbered.{numbered_item, idle_items, numbered_file}
use Rattle.vv_gate_run.proofs.Numbered.{numbered_design}
use Rattle.vv_gate_run.proofs.flat.Flat.of_file.Goals as goal

-- the parts of the flat design, put together
numbered : (f : GateFile) (ports : List Port) (assignments : List Assignment) (objects : List vast.Port) (none old items : List (vast.Item ℕ)) → ports ≡ ports_of f → assignments ≡ f.assignments → none ≡ [] → objects ≡ map made_port ports → old ≡ none ++ map (numbered_item ports) assignments → items ≡ old ++ idle_items (is_assigned ports assignments) ports 0 → ◌≡◌ {A = Flat} (record { objects = objects; items = items }) (numbered_file f)
numbered f ports assignments objects none old items p a n o q i =
    ap₂ (λ (x : List vast.Port) (y : List (vast.Item ℕ)). record { objects = x; items = y }) (o ∙ ap (map made_port) p)
    (i ∙ (ap (λ l. l ++ idle_items (is_assigned ports assignments) ports 0) (q ∙ ap (λ l. l ++ map (numbered_item ports) assignments) n)
    ∙ ap₂ (λ (x : List Port) (y : List Assignment). map (numbered_item x) y ++ idle_items (is_assigned x y) x 0) p a))

pub returns-clause-numbered : goal.returns-clause-numbered
returns-clause-numbered c =
    let circuit = c.in_ok-circuit.circuit in
    numbered (file_of c.args.file.now) (ports_in circuit) (assignments_in circuit) (map object_of c.in_ok-objects.field-0.items) (map item_of c.new-items.result.items) (map item_of c.push_items.new.items.items) (map item_of c.push_idle.new.items.items)
    c.in_ok-circuit.ensures.ports c.in_ok-circuit.ensures.assignments (ap (map item_of) c.new-items.ensures.items)
    (c.in_ok-objects.ensures ∙ ap (λ (l : List OwnPort). map made_port (map port_of l)) c.deref-2.ensures.value)
    (c.in_ok-push_items.ensures ∙ ap (λ (l : List OwnPort). map item_of c.new-items.result.items ++ map (numbered_item (map port_of l)) (assignments_in circuit)) c.deref.ensures.value)
    c.in_ok-push_idle.ensures

pub returns-clause-flat : goal.returns-clause-flat
returns-clause-flat c = λ top placed sound.
    subst (λ (r : Flat). FlatDesign (module_of (file_of c.args.file.now) ∷ []) (mangled (file_of c.args.file.now).entity.text) r) (sym (returns-clause-numbered c)) (numbered_design top (file_of c.args.file.now) placed sound)
