-- What contracts see of a port in the program.
use Rattle.vv_gate.specs.Tree as tree
use Rattle.vv_gate.specs.View.{ident_of}
use Rattle.vv_gate_text.specs.declared.ports.Port.{Port}

abbrev pub port_of : Port → tree.Port
port_of p = record { ident = ident_of p.ident; input = p.input }
