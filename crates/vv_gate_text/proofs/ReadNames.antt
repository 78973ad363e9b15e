-- What holds of the Verilog names of a file's identifiers holds of the names that its items read.
use Rattle.std.proofs.Common.{ℕ, Bool, true, false, cond, List, [], ◌∷◌}
use Rattle.std.specs.List.{flat_map, AllByRecursion}
use Rattle.std.specs.Prelude.{filter}
use Rattle.vv_gate.specs.Tree as gates
use Rattle.vv_gate.specs.Whole.{idents_of_operand, idents_of_term}
use Rattle.vv_gate_text.proofs.Elements.{each_front, each_back, each_both}
use Rattle.vv_gate_text.specs.Made.{made_operand, made_term, chained, made_terms}
use Rattle.vv_gate_text.specs.Names.{mangled}
use Rattle.vv_vast.specs.Tree.{not', Binary, Expr, unary, binary, reads}

abbrev pub OfIdent : (List ℕ → Type 0) → gates.Ident → Type 0
OfIdent P i = P (mangled i.text)

reads_operand : (P : List ℕ → Type 0) (x : gates.Operand) → AllByRecursion (OfIdent P) (idents_of_operand x) → AllByRecursion P (reads (made_operand x))
reads_operand P gates.low h = tt
reads_operand P gates.high h = tt
reads_operand P (gates.port i) h = (h.0, tt)

reads_negated : (P : List ℕ → Type 0) (b : Bool) (x : gates.Operand) → AllByRecursion (OfIdent P) (idents_of_operand x)
    → AllByRecursion P (reads (cond b (unary not' (made_operand x)) (made_operand x)))
reads_negated P true x h = reads_operand P x h
reads_negated P false x h = reads_operand P x h

reads_term : (P : List ℕ → Type 0) (t : gates.Term) → AllByRecursion (OfIdent P) (idents_of_term t) → AllByRecursion P (reads (made_term t))
reads_term P t h = reads_negated P t.negated t.operand h

reads_chained : (P : List ℕ → Type 0) (o : Binary) (e : Expr (List ℕ)) (ts : List gates.Term) → AllByRecursion P (reads e) → AllByRecursion (OfIdent P) (flat_map idents_of_term ts)
    → AllByRecursion P (reads (chained o e ts))
reads_chained P o e [] h k = h
reads_chained P o e (t ∷ ts) h k =
    reads_chained P o (binary o e (made_term t)) ts
    (each_both P (reads e) (reads (made_term t)) h (reads_term P t (each_front (OfIdent P) (idents_of_term t) (flat_map idents_of_term ts) k)))
    (each_back (OfIdent P) (idents_of_term t) (flat_map idents_of_term ts) k)

pub reads_terms : (P : List ℕ → Type 0) (o : Binary) (ts : List gates.Term) → AllByRecursion (OfIdent P) (flat_map idents_of_term ts) → AllByRecursion P (reads (made_terms o ts))
reads_terms P o [] h = tt
reads_terms P o (t ∷ ts) h =
    reads_chained P o (made_term t) ts (reads_term P t (each_front (OfIdent P) (idents_of_term t) (flat_map idents_of_term ts) h))
    (each_back (OfIdent P) (idents_of_term t) (flat_map idents_of_term ts) h)

-- what a filter keeps
pub each_filtered : {X : Type 0} (P : X → Type 0) (p : X → Bool) (xs : List X) → AllByRecursion P xs → AllByRecursion P (filter p xs)
each_filtered P p [] h = tt
each_filtered P p (x ∷ xs) h = kept P (p x) x (filter p xs) h.0 (each_filtered P p xs h.1)
  where
    kept : {X : Type 0} (P : X → Type 0) (b : Bool) (x : X) (xs : List X) → P x → AllByRecursion P xs → AllByRecursion P (cond b (x ∷ xs) xs)
    kept P true x xs h k = (h, k)
    kept P false x xs h k = k
