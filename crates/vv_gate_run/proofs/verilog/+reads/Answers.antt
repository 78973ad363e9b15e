use Rattle.std.proofs.Common.{ap, ◌∙◌}
use Rattle.vv_events.specs.Items.{has}
use Rattle.vv_gate_text.specs.Made.{binary_of}
use Rattle.vv_vast.specs.Tree as vast
use Rattle.vv_gate_run.specs.Flat.{expr_of}
use Rattle.vv_gate_run.specs.declared.flat.Expr.{Expr}
use Rattle.vv_gate_run.proofs.Events.{reads_left, reads_right}
use Rattle.vv_gate_run.proofs.verilog.+reads.Goals as goal

pub returns-then-reads : goal.returns-then-reads
returns-then-reads t c =
    let left = c.reads-in-Both.ensures ∙ ap (λ (e : Expr). has (vast.reads (expr_of e)) c.args.object) c.deref-in-Both.ensures in
    rw c.in-Both.is (reads_left (binary_of c.in-Both.field-0) (expr_of c.in-Both.left.value) (expr_of c.in-Both.right.value) c.args.object c.reads-in-Both.result left c.if-reads.true)

pub returns-else-reads : goal.returns-else-reads
returns-else-reads t c =
    let left = c.reads-in-Both.ensures ∙ ap (λ (e : Expr). has (vast.reads (expr_of e)) c.args.object) c.deref-in-Both.ensures in
    let right = c.reads-else-reads.ensures ∙ ap (λ (e : Expr). has (vast.reads (expr_of e)) c.args.object) c.deref-else-reads.ensures in
    rw c.in-Both.is (reads_right (binary_of c.in-Both.field-0) (expr_of c.in-Both.left.value) (expr_of c.in-Both.right.value) c.args.object c.reads-in-Both.result c.reads-else-reads.result left c.if-reads.false right)
