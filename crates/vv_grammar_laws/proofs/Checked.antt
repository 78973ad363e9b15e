-- Each place passes the check, by computing.
use Rattle.std.proofs.Common.{◌≡◌, true, refl}
use Rattle.vv_grammar.specs.declared.edition.Edition.{Edition}
use Rattle.vv_grammar.specs.declared.edition.Edition.TheVariants as edition
use Rattle.vv_grammar.specs.declared.place.Place.{Place}
use Rattle.vv_grammar.specs.declared.place.Place.TheVariants as place
use Rattle.vv_grammar_laws.proofs.Check.{check}

pub checked : (e : Edition) (p : Place) → check e p ≡ true
checked edition.Vhdl93 place.SensitivityNames = refl
checked edition.Vhdl08 place.SensitivityNames = refl
checked e place.Expression = refl
checked e _ = refl
