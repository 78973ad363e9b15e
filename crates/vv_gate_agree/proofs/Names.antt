-- The numbers of names: a port's Verilog name and its VHDL name have one number.
use Rattle.std.proofs.Common.{◌≡◌, ℕ, ◌<◌, zero, suc, Bool, true, false, not, cond, List, [], ◌∷◌, map, length, get_or, Some, slice_get, ⊎_elim, refl, sym, ap, ◌∙◌, arith, true≢false}
use Rattle.std.proofs.lemmas.Bool.{cases_Bool, false_from_ne_true}
use Rattle.std.proofs.lemmas.Slice.Eq.{bytes_eq-Decides}
use Rattle.std.specs.Str.{bytes_eq}
use Rattle.vv_vast.specs.Flat.{IsDistinct}
use Rattle.vv_vast.specs.Tree as vast
use Rattle.vv_gate.specs.Tree.{Port}
use Rattle.vv_cycle.proofs.Bound.{some_eq, none_eq}
use Rattle.vv_gate_vhdl.specs.Design.{net_of, is_port}
use Rattle.vv_gate_text.specs.Names.{mangled}
use Rattle.vv_gate_text.specs.Made.{made_port}

-- the first place at which the name stands
abbrev pub find : List (List ℕ) → List ℕ → ℕ
find [] n = 0
find (x ∷ xs) n = cond (bytes_eq x n) 0 (suc (find xs n))

find_first : (xs : List (List ℕ)) (n : List ℕ) (k : ℕ) → k < length xs → get_or xs k [] ≡ n → ((j : ℕ) → j < k → get_or xs j [] ≡ n → ⊥) → find xs n ≡ k
find_first [] n k l e f = absurd (omega arith)
find_first (x ∷ xs) n zero l e f = ap (λ b. cond b 0 (suc (find xs n))) ((bytes_eq-Decides x n).1 e)
find_first (x ∷ xs) n (suc k) l e f =
    let other : bytes_eq x n ≡ false = false_from_ne_true (bytes_eq x n) (λ t. f 0 (omega arith) ((bytes_eq-Decides x n).0 t)) in
    ap (λ b. cond b 0 (suc (find xs n))) other ∙ ap suc (find_first xs n k (omega arith) e (λ j h. f (suc j) (omega arith)))

pub find_at : (xs : List (List ℕ)) → IsDistinct xs → (k : ℕ) → k < length xs → find xs (get_or xs k []) ≡ k
find_at xs d k l = find_first xs (get_or xs k []) k l refl (λ j h e. d j k [] h l e)

-- the Verilog names of the ports
abbrev pub names_of : List Port → List (List ℕ)
names_of ports = map (λ (p : vast.Port). p.name) (map made_port ports)

pub name_at_net : (ports : List Port) (k : ℕ) (p : Port) → slice_get ports k ≡ Some p → get_or (names_of ports) k [] ≡ mangled p.ident.text
name_at_net [] k p h = absurd (none_eq p h)
name_at_net (q ∷ ports) zero p h = ap (λ (o : Port). mangled o.ident.text) (some_eq q p h)
name_at_net (q ∷ ports) (suc k) p h = name_at_net ports k p h

-- the port of a name's net has that name
pub record Named (ports : List Port) (k : ℕ) (text : List ℕ) : Type 0 where
  pub p : Port
  pub at : slice_get ports k ≡ Some p
  pub is : p.ident.text ≡ text

pub named : (way : Bool) (ports : List Port) (text : List ℕ) → is_port way ports (net_of ports text) ≡ true → Named ports (net_of ports text) text
named way [] text h = absurd (true≢false (sym h))
named way (q ∷ ports) text h =
    ⊎_elim
    (λ t. record { p = q; at = ap (λ b. slice_get (q ∷ ports) (cond b 0 (suc (net_of ports text)))) t; is = (bytes_eq-Decides q.ident.text text).0 t })
    (λ n. let e : net_of (q ∷ ports) text ≡ suc (net_of ports text) = ap (λ b. cond b 0 (suc (net_of ports text))) n in
    let r = named way ports text (sym (ap (is_port way (q ∷ ports)) e) ∙ h) in
    record { p = r.p; at = ap (slice_get (q ∷ ports)) e ∙ r.at; is = r.is })
    (cases_Bool (bytes_eq q.ident.text text))

pub port_within : (way : Bool) (ports : List Port) (k : ℕ) → is_port way ports k ≡ true → k < length ports
port_within way [] k h = absurd (true≢false (sym h))
port_within way (p ∷ ports) zero h = omega arith
port_within way (p ∷ ports) (suc k) h = let l : k < length ports = port_within way ports k h in omega arith

names_length : (ports : List Port) → length (names_of ports) ≡ length ports
names_length [] = refl
names_length (p ∷ ports) = ap suc (names_length ports)

pub within_names : (ports : List Port) (k : ℕ) → k < length ports → k < length (names_of ports)
within_names ports k l = rw (names_length ports) l

-- the place of the Verilog name of a port is the net of its VHDL name
pub find_net : (ports : List Port) → IsDistinct (names_of ports) → (way : Bool) (text : List ℕ) → is_port way ports (net_of ports text) ≡ true → find (names_of ports) (mangled text) ≡ net_of ports text
find_net ports d way text h =
    let r = named way ports text h in
    ap (find (names_of ports)) (sym (name_at_net ports (net_of ports text) r.p r.at ∙ ap mangled r.is))
    ∙ find_at (names_of ports) d (net_of ports text) (within_names ports (net_of ports text) (port_within way ports (net_of ports text) h))

-- the number of that name is that net
pub number_is : (ports : List Port) → IsDistinct (names_of ports) → (way : Bool) (text : List ℕ) (t : ℕ) → t < length ports → get_or (names_of ports) t [] ≡ mangled text → is_port way ports (net_of ports text) ≡ true → t ≡ net_of ports text
number_is ports d way text t l e h = sym (find_at (names_of ports) d t (within_names ports t l)) ∙ ap (find (names_of ports)) e ∙ find_net ports d way text h

-- a number whose name is that of port k is k
pub place_is : (ports : List Port) → IsDistinct (names_of ports) → (t k : ℕ) (p : Port) → t < length ports → k < length ports → slice_get ports k ≡ Some p → get_or (names_of ports) t [] ≡ mangled p.ident.text → t ≡ k
place_is ports d t k p l m g e =
    sym (find_at (names_of ports) d t (within_names ports t l)) ∙ ap (find (names_of ports)) (e ∙ sym (name_at_net ports k p g)) ∙ find_at (names_of ports) d k (within_names ports k m)

-- an out port's port
pub record OutPort (ports : List Port) (k : ℕ) : Type 0 where
  pub p : Port
  pub at : slice_get ports k ≡ Some p
  pub out : not p.input ≡ true

pub out_port : (ports : List Port) (k : ℕ) → is_port false ports k ≡ true → OutPort ports k
out_port [] k h = absurd (true≢false (sym h))
out_port (p ∷ ports) zero h = record { p = p; at = refl; out = h }
out_port (p ∷ ports) (suc k) h = let r = out_port ports k h in record { p = r.p; at = r.at; out = r.out }
