-- No declaration stands twice.
use Rattle.std.proofs.Common.{◌≡◌, ◌≢◌, true, refl, map}
use Rattle.std.specs.List.{AllPairs}
use Rattle.vv_builtin.specs.Builtin.{concatenations_of, logic_of, relations_of}
use Rattle.vv_builtin.proofs.Distinct.{differ, distinct_by_key, key}
use Rattle.vv_std_decls.specs.Declarations.{arithmetic, concatenations, edges, literals, logic_operators, named, predefined, std_declarations, types}

keys_differ : differ (map key std_declarations) ≡ true
unfolding std_declarations named types literals predefined arithmetic logic_operators concatenations edges concatenations_of logic_of relations_of
keys_differ = refl

pub all_differ : AllPairs (λ x y. x ≢ y) std_declarations
all_differ = distinct_by_key std_declarations keys_differ
