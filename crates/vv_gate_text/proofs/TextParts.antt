-- The parts of the text put together.
use Rattle.std.proofs.Common.{◌≡◌, ℕ, Bool, List, ◌++◌, map, sym, ap, ◌∙◌}
use Rattle.std.proofs.lemmas.List.{append_assoc}
use Rattle.std.proofs.lemmas.List.Concat.{flat_map-append}
use Rattle.std.proofs.lemmas.List.Elements.{filter_agree}
use Rattle.std.specs.List.{flat_map}
use Rattle.std.specs.Prelude.{codes, filter, not, ◌&&◌}
use Rattle.vv_gate.specs.Tree.{Port, GateFile, ports_of}
use Rattle.vv_gate_text.specs.Layout.{written_item, written_ports, newline}
use Rattle.vv_gate_text.specs.Made.{made_assignment, made_idle, made_port, is_assigned, is_idle, module_of}
use Rattle.vv_gate_text.specs.Names.{mangled}
use Rattle.vv_gate_text.specs.Text.{text_of}

abbrev pub is_idle_by : (List ℕ → Bool) → Port → Bool
is_idle_by assigned p = not p.input && not (assigned p.ident.text)

items_text : (f : GateFile) → flat_map written_item (module_of f).items ≡ flat_map written_item (map made_assignment f.assignments) ++ flat_map written_item (map made_idle (filter (is_idle f) (ports_of f)))
items_text f = flat_map-append written_item (map made_assignment f.assignments) (map made_idle (filter (is_idle f) (ports_of f)))

joined : (m name a ports b n first second e : List ℕ) → ((((((m ++ name) ++ a) ++ ports) ++ (b ++ n)) ++ first) ++ second) ++ (e ++ n) ≡ m ++ name ++ a ++ ports ++ b ++ n ++ (first ++ second) ++ e ++ n
joined m name a ports b n first second e = simp append_assoc

pub text_parts : (f : GateFile) (assigned : List ℕ → Bool) (ports : List Port) (one two three four five six all : List ℕ) → ports ≡ ports_of f → ((q : List ℕ) → assigned q ≡ is_assigned f.assignments q)
    → one ≡ codes "module " → two ≡ (one ++ mangled f.entity.text) ++ codes "(" → three ≡ two ++ written_ports (map made_port ports) → four ≡ three ++ (codes ");" ++ newline)
    → five ≡ four ++ flat_map written_item (map made_assignment f.assignments) → six ≡ five ++ flat_map written_item (map made_idle (filter (is_idle_by assigned) ports))
    → all ≡ six ++ (codes "endmodule" ++ newline) → all ≡ text_of f
text_parts f assigned ports one two three four five six all p q a b d e g h i =
    let idle : filter (is_idle_by assigned) ports ≡ filter (is_idle f) (ports_of f) =
    ap (filter (is_idle_by assigned)) p ∙ filter_agree (is_idle_by assigned) (is_idle f) (λ x. ap (λ b. not x.input && not b) (q x.ident.text)) (ports_of f) in
    let first = flat_map written_item (map made_assignment f.assignments) in
    let second = flat_map written_item (map made_idle (filter (is_idle f) (ports_of f))) in
    let four' : four ≡ (((codes "module " ++ mangled f.entity.text) ++ codes "(") ++ written_ports (map made_port (ports_of f))) ++ (codes ");" ++ newline) =
    e ∙ ap (λ l. l ++ (codes ");" ++ newline)) (d ∙ ap (λ l. l ++ written_ports (map made_port ports)) (b ∙ ap (λ l. (l ++ mangled f.entity.text) ++ codes "(") a)
    ∙ ap (λ l. (((codes "module " ++ mangled f.entity.text) ++ codes "(") ++ written_ports (map made_port l))) p) in
    let six' : six ≡ ((((((codes "module " ++ mangled f.entity.text) ++ codes "(") ++ written_ports (map made_port (ports_of f))) ++ (codes ");" ++ newline)) ++ first) ++ second) =
    h ∙ (ap (λ l. l ++ flat_map written_item (map made_idle (filter (is_idle_by assigned) ports))) (g ∙ ap (λ l. l ++ first) four')
    ∙ ap (λ l. ((((((codes "module " ++ mangled f.entity.text) ++ codes "(") ++ written_ports (map made_port (ports_of f))) ++ (codes ");" ++ newline)) ++ first) ++ flat_map written_item (map made_idle l))) idle) in
    i ∙ (ap (λ l. l ++ (codes "endmodule" ++ newline)) six'
    ∙ (joined (codes "module ") (mangled f.entity.text) (codes "(") (written_ports (map made_port (ports_of f))) (codes ");") newline first second (codes "endmodule")
    ∙ ap (λ l. codes "module " ++ mangled f.entity.text ++ codes "(" ++ written_ports (map made_port (ports_of f)) ++ codes ");" ++ newline ++ l ++ codes "endmodule" ++ newline) (sym (items_text f))))
