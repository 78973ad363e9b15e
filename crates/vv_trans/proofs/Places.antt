-- The place of a broken condition lies in the file.
use Rattle.std.proofs.Common.{◌≡◌, ℕ, suc, ◌≤◌, List, [], ◌∷◌, length, map, Some, All, ap, ◌∙◌, subst, arith, inl, inr}
use Rattle.std.proofs.lemmas.List.Elements.{All-nil, All-cons, All-head, All-tail, All-map, All-contains}
use Rattle.vv_gate.specs.Tree.{Ident, GateFile}
use Rattle.vv_gate.specs.Whole.{idents_of}
use Rattle.vv_gate_lex.specs.Symbols.{Symbol, name, mark, other, finish, Token}
use Rattle.vv_gate_lex.specs.Lexical.{tokens}
use Rattle.vv_gate_read.specs.Reading.{IsReading}
use Rattle.vv_gate_lex.specs.Lexical.{tokens_of}
use Rattle.vv_gate_read.proofs.Order.{NameAt, HasName, names_of, names_of-spelled, tokens-ordered, all_within}
use Rattle.vv_gate.specs.Conditions.{IsSound}
use Rattle.vv_gate_text.specs.Text.{text_of}
use Rattle.vv_gate_text.specs.Map.{map_of}
use Rattle.vv_gate_text.specs.Made.{module_of}
use Rattle.vv_gate_text.specs.Names.{mangled}
use Rattle.vv_vast.specs.Grammar.{VerilogText}
use Rattle.vv_vast.specs.Flat.{Flat, FlatDesign}
use Rattle.vv_gate_agree.proofs.Meaning.{text_keeps_meaning}
use Rattle.vv_vast.proofs.OneTree.{one_text}
use Rattle.vv_trans.specs.Translation.{folded, IsTranslation}
use Rattle.vv_gate_check.specs.Places.{first, broken_places}
use Rattle.vv_gate_check.proofs.Law.{first_among}

symbol_within : (n : ℕ) (s : Symbol) (at : ℕ) (ss : List Symbol) → NameAt s at → at ≤ n → All (λ i. i.at ≤ n) (names_of ss) → All (λ i. i.at ≤ n) (names_of (s ∷ ss))
symbol_within n (name i) at ss h k rest = All-cons (λ (i : Ident). i.at ≤ n) i (names_of ss) (omega (arith, h.1)) rest
symbol_within n (mark m) at ss h k rest = rest
symbol_within n (other b) at ss h k rest = rest
symbol_within n finish at ss h k rest = rest

names_within : (n : ℕ) (ts : List Token) → All HasName ts → All (λ t. t.at ≤ n) ts → All (λ i. i.at ≤ n) (names_of (map (λ t. t.symbol) ts))
names_within n [] h k = All-nil (λ (i : Ident). i.at ≤ n)
names_within n (t ∷ ts) h k =
    symbol_within n t.symbol t.at (map (λ t. t.symbol) ts) (All-head HasName t ts h) (All-head (λ (t : Token). t.at ≤ n) t ts k)
    (names_within n ts (All-tail HasName t ts h) (All-tail (λ (t : Token). t.at ≤ n) t ts k))

tokens_in_file : (bytes : List ℕ) → All (λ t. t.at ≤ length bytes) (tokens_of bytes)
unfolding tokens
tokens_in_file bytes = all_within (suc (length bytes)) (length bytes) bytes

idents_in_file : (bytes : List ℕ) (f : GateFile) → IsReading f (tokens_of bytes) → All (λ i. i.at ≤ length bytes) (idents_of f)
idents_in_file bytes f r =
    subst (λ (k : List Ident). All (λ i. i.at ≤ length bytes) k) (ap names_of r.text.spells ∙ names_of-spelled f)
    (names_within (length bytes) (tokens_of bytes) (tokens-ordered bytes).names (tokens_in_file bytes))

pub place_in_file : (top bytes : List ℕ) (f : GateFile) (at : ℕ) → IsReading f (tokens_of bytes) → first (broken_places top f) ≡ Some at → at ≤ length bytes
place_in_file top bytes f at r e = elim (first_among top f at e) [
  | inl z ↦ omega (arith, z)
  | inr c ↦ All-contains (λ (n : ℕ). n ≤ length bytes) (map (λ i. i.at) (idents_of f)) at (All-map (λ (n : ℕ). n ≤ length bytes) (λ (i : Ident). i.at) (idents_of f) (idents_in_file bytes f r)) c
]

-- what stands for the file, from its parts
pub stands : (top file word bytes text lines : List ℕ) (f : GateFile) → bytes ≡ folded file → word ≡ folded top → IsReading f (tokens_of bytes) → IsSound word f
    → text ≡ text_of f → VerilogText (module_of f ∷ []) text → ((top : List ℕ) → IsSound top f → (flat : Flat) × FlatDesign (module_of f ∷ []) (mangled f.entity.text) flat) → lines ≡ map_of f
    → IsTranslation top file text lines
stands top file word bytes text lines f b n reading sound text_is verilog flat map_is =
    let design = flat word sound in
    record {
      tree = f;
      reading = subst (λ (k : List ℕ). IsReading f (tokens_of k)) b reading;
      sound = subst (λ (k : List ℕ). IsSound k f) n sound;
      text_is = text_is;
      verilog = verilog;
      flat = design.0;
      design = design.1;
      meaning = λ modules other is_text is_design. text_keeps_meaning word (mangled f.entity.text) f other sound (subst (λ ms. FlatDesign ms (mangled f.entity.text) other) (one_text modules (module_of f ∷ []) text is_text verilog) is_design);
      map_is = map_is;
    }
