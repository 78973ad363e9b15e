-- What a check of a place says: its alternatives are told apart by one token, and what stands behind each step is known.
use Rattle.std.proofs.Common.{ℕ, Bool, true, false, not, ◌||◌, ◌&&◌, List, [], ◌∷◌, ◌++◌, Option, Some, None}
use Rattle.vv_grammar.specs.declared.edition.Edition.{Edition}
use Rattle.vv_grammar.specs.declared.place.Place.{Place}
use Rattle.vv_grammar.specs.declared.step.Step.{Step}
use Rattle.vv_grammar.specs.declared.step.Step.TheVariants as step
use Rattle.vv_grammar.specs.Table.{Choice, alternatives, otherwise}
use Rattle.vv_grammar_laws.proofs.Codes.{code, codes, within, apart}
use Rattle.vv_grammar_laws.proofs.Sets.{empty, first, follow}

abbrev pub joined : Bool → List ℕ → List ℕ → List ℕ
joined true xs ys = xs ++ ys
joined false xs ys = xs

-- what can stand first in steps before something that these can start
abbrev pub firsts : List Step → List ℕ → List ℕ
firsts [] F = F
firsts (step.Make f ∷ R) F = firsts R F
firsts (step.Skip w ∷ R) F = code w ∷ []
firsts (step.Keep w ∷ R) F = code w ∷ []
firsts (step.Call p ∷ R) F = joined (empty p) (first p) (firsts R F)
firsts (step.Many p ∷ R) F = first p ++ firsts R F

abbrev pub nulls : List Step → Bool
nulls [] = true
nulls (step.Make f ∷ R) = nulls R
nulls (step.Skip w ∷ R) = false
nulls (step.Keep w ∷ R) = false
nulls (step.Call p ∷ R) = empty p && nulls R
nulls (step.Many p ∷ R) = nulls R

-- what stands behind each step is among what can follow it
abbrev pub fits : List Step → List ℕ → Bool
fits [] F = true
fits (step.Make f ∷ R) F = fits R F
fits (step.Skip w ∷ R) F = fits R F
fits (step.Keep w ∷ R) F = fits R F
fits (step.Call p ∷ R) F = within (firsts R F) (follow p) && fits R F
fits (step.Many p ∷ R) F = within (first p ++ firsts R F) (follow p) && (apart (firsts R F) (first p) && fits R F)

abbrev pub turns : List Choice → List ℕ
turns [] = []
turns (c ∷ cs) = codes c.on ++ turns cs

-- no token is one of two alternatives
abbrev pub are_single : List Choice → Bool
are_single [] = true
are_single (c ∷ cs) = apart (codes c.on) (turns cs) && are_single cs

abbrev pub each_fits : List Choice → List ℕ → Bool
each_fits [] F = true
each_fits (c ∷ cs) F = fits c.steps F && each_fits cs F

abbrev pub else_fits : Option (List Step) → Place → List Choice → Bool
else_fits None p cs = true
else_fits (Some ss) p cs =
    (not (nulls ss) || empty p)
    && (within (firsts ss []) (first p)
    && (apart (firsts ss (follow p)) (turns cs)
    && fits ss (follow p)))

abbrev pub check : Edition → Place → Bool
check e p =
    are_single (alternatives e p)
    && (within (turns (alternatives e p)) (first p)
    && (each_fits (alternatives e p) (follow p)
    && else_fits (otherwise p) p (alternatives e p)))
