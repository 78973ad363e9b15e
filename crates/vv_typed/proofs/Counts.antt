-- Counts of expressions and statements, layer by layer.
use Rattle.std.proofs.Common.{◌≡◌, ℕ, ◌+◌}
use Rattle.vv_typed.specs.Parts.{count_alternative, count_arm, count_element, count_form, count_link, count_range, count_stmt, count_stmt_form, count_suffix, count_typed, form_node_count, node_count, stmt_form_node_count, stmt_node_count, StmtLayer, TypedLayer}
use Rattle.vv_typed.specs.declared.expressions.Typed.{fold-roll-Typed, roll-Typed}
use Rattle.vv_typed.specs.declared.statements.TStmt.{fold-roll-TStmt, roll-TStmt}

pub typed_count : (e : TypedLayer) → node_count (roll-Typed e) ≡ form_node_count e.form + 1
typed_count e = fold-roll-Typed ℕ ℕ ℕ ℕ ℕ ℕ count_form count_suffix count_range count_element count_link count_typed e

pub stmt_count : (s : StmtLayer) → stmt_node_count (roll-TStmt s) ≡ stmt_form_node_count s.form + 1
stmt_count s = fold-roll-TStmt ℕ ℕ ℕ ℕ count_stmt_form count_alternative count_arm count_stmt s
