-- No declaration stands twice.
use Rattle.std.proofs.Common.{◌≡◌, ◌≢◌, true, refl, map}
use Rattle.std.specs.List.{AllPairs}
use Rattle.vv_builtin.specs.Builtin.{concatenations_of, logic_of, relations_of}
use Rattle.vv_builtin.proofs.Distinct.{differ, distinct_by_key, key}
use Rattle.vv_num_decls.specs.Declarations.{conversions, declarations_of, functions_of, num_declarations, numbers_of, numbers_on, signs, types}

keys_differ : differ (map key num_declarations) ≡ true
unfolding num_declarations types numbers_on numbers_of signs functions_of conversions declarations_of concatenations_of logic_of relations_of
keys_differ = refl

pub all_differ : AllPairs (λ x y. x ≢ y) num_declarations
all_differ = distinct_by_key num_declarations keys_differ
