use Rattle.std.proofs.Common.{◌≡◌, ℕ, ◌<◌, ◌≤◌, ◌+◌, take, drop, List, ◌-◌, ◌++◌, ◌∷◌, [], length, map, option_map, refl, false, Ok, sym, ◌∙◌, ap, arith}
use Rattle.std.proofs.lemmas.List.{map-append, length-map, take_rest, length-drop}
use Rattle.vv_base.specs.declared.rules.Rule.TheVariants.{L1}
use Rattle.vv_vlex.specs.declared.element.Element.TheVariants as element
use Rattle.vv_vlex.specs.declared.element.Lexeme as code
use Rattle.vv_vlex.specs.Elements.{Lexeme, finish, lexeme_of, element_of}
use Rattle.vv_vlex.specs.Lexical.{Elements, scan, elements_of}
use Rattle.vv_vlex.proofs.Scan.{scan-step, scan-stop, scan-end, slice_within, over_limit, within_limit, told}
use Rattle.vv_vlex.proofs.lexer.elements.Goals as goal

with_end : (items all : List code.Lexeme) (total : ℕ) → all ≡ items ++ (record { element = element.End; at = total; len = 0 } ∷ [])
    → map lexeme_of all ≡ map lexeme_of items ++ (record { element = finish; at = total; len = 0 } ∷ [])
with_end items all total e = ap (map lexeme_of) e ∙ map-append lexeme_of items (record { element = element.End; at = total; len = 0 } ∷ [])

few_left : (rest : List ℕ) (size total before now : ℕ) → 0 < size → size ≤ length rest → now ≤ before + 1 → before + length rest ≤ total → now + length (take (length rest - size) (drop size rest)) ≤ total
few_left rest size total before now some within few all = rw (take_rest rest size) (omega (arith, length-drop size rest))

pub returns-then-bytes-gt-MOST_BYTES-clause-refused : goal.returns-then-bytes-gt-MOST_BYTES-clause-refused
returns-then-bytes-gt-MOST_BYTES-clause-refused c =
    told c.refused.result c.args.file 0 0 L1 (elements_of c.args.bytes.now) c.refused.ensures (over_limit c.args.bytes.now c.if-bytes-gt-MOST_BYTES.true)

pub returns-in-Err-clause-refused : goal.returns-in-Err-clause-refused
returns-in-Err-clause-refused c =
    let bytes = c.args.bytes.now in
    let rest = c.pieces.rest.now in
    told c.refused-in-Err.result c.args.file (length bytes - length rest) 1 c.in-Err.rule (elements_of bytes) c.refused-in-Err.ensures
    (scan-stop (length bytes) (elements_of bytes) (map lexeme_of c.pieces.found.items) rest c.pieces.is_named c.in-Err.rule c.in-len1-up.len_at_least c.in-Err.ensures.value
    (c.pieces.invariant.value ∙ sym (within_limit bytes c.if-bytes-gt-MOST_BYTES.false)))

pub pieces-preserved : goal.pieces-preserved
pieces-preserved c =
    let bytes = c.args.bytes.now in
    let rest = c.pieces.rest.now in
    let piece = c.in-Ok.piece in
    record {
      value = scan-step (length bytes) (scan (length bytes) bytes 0 false) (map lexeme_of c.pieces.found.items) (map lexeme_of c.place.new.found.items) rest c.pieces.is_named
          c.is_named_behind-is_named.result (option_map element_of piece.element) piece.size (length bytes - length rest) c.in-len1-up.len_at_least c.in-Ok.ensures.value c.in-Ok.ensures.size.some
          refl c.in_ok-place.ensures.ok c.is_named_behind-is_named.ensures c.pieces.invariant.value;
      within = slice_within rest piece.size (length bytes) c.pieces.invariant.within;
      few = few_left rest piece.size (length bytes) (length c.pieces.found.items) (length c.place.new.found.items) c.in-Ok.ensures.size.some c.in-Ok.ensures.size.within c.place.ensures.few c.pieces.invariant.few;
      limit = c.pieces.invariant.limit;
      all = refl;
    }

pub returns-clause-found : goal.returns-clause-found
returns-clause-found c =
    let bytes = c.args.bytes.now in
    let items = c.pieces.found.items in
    let all : map lexeme_of c.push.new.self.items ≡ map lexeme_of items ++ (record { element = finish; at = length bytes; len = 0 } ∷ []) = with_end items c.push.new.self.items (length bytes) c.in_ok-push.ensures.items in
    within_limit bytes c.if-bytes-gt-MOST_BYTES.false
    ∙ scan-end (length bytes) (scan (length bytes) bytes 0 false) (map lexeme_of items) c.pieces.rest.now c.pieces.is_named c.in_default.len_below c.pieces.invariant.value
    ∙ ap (λ (ls : List Lexeme). let r : Elements = Ok ls in r) (sym all)

pub returns-clause-ended : goal.returns-clause-ended
returns-clause-ended c =
    let items = c.pieces.found.items in
    record {
      before = map lexeme_of items;
      all = with_end items c.push.new.self.items (length c.args.bytes.now) c.in_ok-push.ensures.items;
      few = (let h = c.pieces.invariant.few in omega (arith, length-map items lexeme_of));
    }
