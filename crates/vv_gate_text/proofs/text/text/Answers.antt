use Rattle.std.proofs.Common.{◌≡◌, ℕ, List, ◌++◌, map, ap, ◌∙◌, sym, subst, [], ◌∷◌}
use Rattle.std.specs.HashSet.{contains_by}
use Rattle.std.specs.Str.{bytes_eq}
use Rattle.std.specs.List.{flat_map}
use Rattle.std.specs.Prelude.{codes, filter}
use Rattle.vv_gate.specs.View.{file_of, assignment_of}
use Rattle.vv_gate_text.proofs.Legal.{names_legal}
use Rattle.vv_gate_text.proofs.Printed.{written-VerilogText}
use Rattle.vv_gate_text.proofs.Sound.{sound_flat}
use Rattle.vv_gate_text.proofs.TextParts.{is_idle_by, text_parts}
use Rattle.vv_gate_text.specs.Layout.{written_item, written_ports}
use Rattle.vv_gate_text.specs.Made.{made_assignment, made_idle, made_port, is_assigned, module_of}
use Rattle.vv_gate_text.specs.Text.{text_of}
use Rattle.vv_gate_text.specs.View.{port_of}
use Rattle.vv_vast.specs.Grammar.{VerilogText}
use Rattle.vv_gate_text.proofs.text.text.Goals as goal

pub returns : goal.returns
returns c =
    let targets : (q : List ℕ) → contains_by (λ k. bytes_eq q k.now) c.in_ok-targets.targets ≡ is_assigned (file_of c.args.file.now).assignments q =
    λ q. c.in_ok-targets.ensures q ∙ ap (λ l. is_assigned (map assignment_of l) q) c.deref.ensures.value in
    let f = file_of c.args.file.now in
    let written : c.extend_from_slice-4.new.self.items ≡ text_of f = text_parts (file_of c.args.file.now) (λ q. contains_by (λ k. bytes_eq q k.now) c.in_ok-targets.targets) (map port_of c.in_ok-ports.ports.items)
    c.extend_from_slice.new.self.items c.extend_from_slice-2.new.self.items c.write_ports.new.out.items c.extend_from_slice-3.new.self.items
    c.write_assignments.new.out.items c.write_idles.new.out.items c.extend_from_slice-4.new.self.items
    c.in_ok-ports.ensures targets
    (c.in_ok-extend_from_slice.ensures.items ∙ ap (λ l. l ++ codes "module ") c.new-out.ensures.items)
    (c.in_ok-extend_from_slice-2.ensures.items ∙ ap (λ l. l ++ codes "(") c.in_ok-write_name.ensures)
    (c.in_ok-write_ports.ensures ∙ ap (λ l. c.extend_from_slice-2.new.self.items ++ written_ports (map made_port (map port_of l))) c.deref-2.ensures.value)
    c.in_ok-extend_from_slice-3.ensures.items
    (c.in_ok-write_assignments.ensures ∙ ap (λ l. c.extend_from_slice-3.new.self.items ++ flat_map written_item (map made_assignment (map assignment_of l))) c.deref-3.ensures.value)
    (c.in_ok-write_idles.ensures ∙ ap (λ l. c.write_assignments.new.out.items ++ flat_map written_item (map made_idle (filter (is_idle_by (λ q. contains_by (λ k. bytes_eq q k.now) c.in_ok-targets.targets)) (map port_of l)))) c.deref-4.ensures.value)
    c.in_ok-extend_from_slice-4.ensures.items in
    record {
      written = written;
      verilog = λ placed. subst (λ (l : List ℕ). VerilogText (module_of f ∷ []) l) (sym written) (written-VerilogText (module_of f) (names_legal f placed));
      flat = λ top placed sound. sound_flat top f placed sound;
    }
