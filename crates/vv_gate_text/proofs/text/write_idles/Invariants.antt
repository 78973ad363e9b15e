use Rattle.std.proofs.Common.{◌≡◌, ◌++◌, map, take, ◌&&◌}
use Rattle.std.specs.HashSet.{contains_by}
use Rattle.std.specs.Str.{bytes_eq}
use Rattle.std.specs.List.{flat_map}
use Rattle.std.specs.Prelude.{filter, not}
use Rattle.vv_gate_text.specs.Layout.{written_item}
use Rattle.vv_gate_text.specs.Made.{made_idle}
use Rattle.vv_gate_text.specs.View.{port_of}
use Rattle.vv_gate_text.proofs.text.write_idles.Given as goal

abbrev pub invariant-loop-port : goal.invariant-loop-port
invariant-loop-port l =
    l.out.items ≡ l.initial.out.items ++ flat_map written_item (map made_idle
    (filter (λ p. not p.input && not (contains_by (λ k. bytes_eq p.ident.text k.now) l.targets)) (map port_of (take l.port-index l.ports))))
