-- A chain in the order of its text.
use Rattle.std.proofs.Common.{◌≡◌, ℕ, List, [], ◌∷◌, ◌++◌, length, zero, suc, refl, sym, ap, ◌∙◌}
use Rattle.std.proofs.Math.ListN.{replicate}
use Rattle.std.proofs.lemmas.List.{append-nil, append_assoc}
use Rattle.std.specs.List.{flat_map}
use Rattle.std.specs.Prelude.{codes}
use Rattle.vv_gate.specs.Tree.{Term}
use Rattle.vv_gate_text.specs.Layout.{written_expr}
use Rattle.vv_gate_text.specs.Made.{made_term, made_terms, chained}
use Rattle.vv_vast.specs.Grammar.{spelled_binary}
use Rattle.vv_vast.specs.Tree.{Binary, Expr, binary}

-- what follows the left operand
abbrev pub link : Binary → Term → List ℕ
link o t = codes " " ++ spelled_binary o ++ codes " " ++ written_expr (made_term t) ++ codes ")"

open-more : (n : ℕ) (more : List ℕ) → replicate n 40 ++ (40 ∷ more) ≡ 40 ∷ (replicate n 40 ++ more)
open-more zero more = refl
open-more (suc n) more = ap (λ l. 40 ∷ l) (open-more n more)

linked : (left sign right rest : List ℕ) → ((codes "(" ++ left ++ codes " " ++ sign ++ codes " " ++ right ++ codes ")") ++ rest) ≡ 40 ∷ (left ++ ((codes " " ++ sign ++ codes " " ++ right ++ codes ")") ++ rest))
linked left sign right rest = simp append_assoc

pub written_chained : (o : Binary) (e : Expr (List ℕ)) (ts : List Term) → written_expr (chained o e ts) ≡ replicate (length ts) 40 ++ (written_expr e ++ flat_map (link o) ts)
written_chained o e [] = sym (append-nil (written_expr e))
written_chained o e (t ∷ ts) =
    written_chained o (binary o e (made_term t)) ts
    ∙ (ap (λ l. replicate (length ts) 40 ++ l) (linked (written_expr e) (spelled_binary o) (written_expr (made_term t)) (flat_map (link o) ts))
    ∙ open-more (length ts) _)

-- a chain that is written term by term
pub written_terms : (o : Binary) (all : List Term) (t : Term) (ts : List Term) (old opened middle new : List ℕ) → all ≡ t ∷ ts
    → opened ≡ old ++ replicate (length ts) 40 → middle ≡ opened ++ written_expr (made_term t) → new ≡ middle ++ flat_map (link o) ts
    → new ≡ old ++ written_expr (made_terms o all)
written_terms o all t ts old opened middle new e a b d =
    d ∙ (ap (λ l. l ++ flat_map (link o) ts) (b ∙ ap (λ l. l ++ written_expr (made_term t)) a)
    ∙ (append_assoc (old ++ replicate (length ts) 40) (written_expr (made_term t)) (flat_map (link o) ts)
    ∙ (append_assoc old (replicate (length ts) 40) (written_expr (made_term t) ++ flat_map (link o) ts)
    ∙ (ap (λ l. old ++ l) (sym (written_chained o (made_term t) ts)) ∙ ap (λ l. old ++ written_expr (made_terms o l)) (sym e)))))
