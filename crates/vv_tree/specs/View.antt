-- What contracts see of the trees: for each type the tree that a value of it stands for.
pub use Rattle.vv_tree.specs.Leaves.{token, word_tree, ident_tree, keyword_tree, literal_tree, symbol_kind, operator_tree, direction_tree, mode_tree, assignment_tree, designator_tree, trees, trees_of, tree_or_absent, node0, node1, node2, node3, node4, node5}
pub use Rattle.vv_tree.specs.Expressions.{expr_tree, expr_kind_tree, part_tree, argument_tree, element_tree, choice_tree, range_tree, operand_tree}
pub use Rattle.vv_tree.specs.Subtypes.{mark_tree, discrete_tree, constraint_tree, subtype_tree}
pub use Rattle.vv_tree.specs.Statements.{assertion_tree, stmt_tree, stmt_kind_tree, if_arm_tree, case_arm_tree}
pub use Rattle.vv_tree.specs.Declarations.{index_tree, definition_tree, interface_tree, specification_tree, selected_tree, use_tree, decl_tree, decl_kind_tree}
pub use Rattle.vv_tree.specs.Concurrents.{sensitivity_tree, waveform_tree, selection_tree, instance_tree, actual_tree, association_tree, conc_tree, conc_kind_tree, context_tree, unit_kind_tree, unit_tree}
