use Rattle.std.proofs.Common.{◌≡◌, length, Some, sym, ◌∙◌, ap, arith}
use Rattle.std.proofs.lemmas.List.{length-map}
use Rattle.std.specs.Char.{to_ascii_lowercase}
use Rattle.vv_gate.specs.View.{file_of}
use Rattle.vv_gate.specs.Conditions.{IsSound}
use Rattle.vv_gate_check.specs.Places.{first, broken_places}
use Rattle.vv_trans.specs.Translation.{folded}
use Rattle.vv_trans.proofs.Places.{place_in_file, stands}
use Rattle.vv_trans.proofs.translate.translate_gates.Goals as goal

pub returns-in-Ok-out_of-clause-stands : goal.returns-in-Ok-out_of-clause-stands
returns-in-Ok-out_of-clause-stands c =
    let bytes : c.as_slice.result.now ≡ folded c.args.file.now = c.as_slice.ensures.value ∙ c.in_ok-folded.ensures.ok in
    let name : c.as_slice-2.result.now ≡ folded c.args.top.now = c.as_slice-2.ensures.value ∙ (c.in_ok-name.ensures.ok ∙ ap folded c.as_bytes.ensures.value) in
    let sound : IsSound c.as_slice-2.result.now (file_of c.in-Ok.tree) = rw c.in-Ok-None.field-0-is at c.in-Ok-None.ensures.least in
    stands c.args.top.now c.args.file.now c.as_slice-2.result.now c.as_slice.result.now c.in-Ok-out_of.out.text c.in-Ok-out_of.out.map (file_of c.in-Ok.tree) bytes name c.in-Ok.ensures.tree sound
    c.in-Ok-out_of.ensures.text c.in-Ok-out_of.ensures.verilog c.in-Ok-out_of.ensures.flat c.in-Ok-out_of.ensures.map

pub refused-requires : goal.refused-requires
refused-requires c =
    let place : first (broken_places c.as_slice-2.result.now (file_of c.in-Ok.tree)) ≡ Some c.in-Ok-Some.at = sym c.in-Ok-Some.ensures.place ∙ c.in-Ok-Some.field-0-is in
    let inside = place_in_file c.as_slice-2.result.now c.as_slice.result.now (file_of c.in-Ok.tree) c.in-Ok-Some.at c.in-Ok.ensures.tree place in
    let same : length c.as_slice.result.now ≡ length c.args.file.now = ap length (c.as_slice.ensures.value ∙ c.in_ok-folded.ensures.ok) ∙ length-map c.args.file.now to_ascii_lowercase in
    omega (arith, inside, same)

pub returns-in-Ok-Some-clause-inside : goal.returns-in-Ok-Some-clause-inside
returns-in-Ok-Some-clause-inside c =
    let place : first (broken_places c.as_slice-2.result.now (file_of c.in-Ok.tree)) ≡ Some c.in-Ok-Some.at = sym c.in-Ok-Some.ensures.place ∙ c.in-Ok-Some.field-0-is in
    let inside = place_in_file c.as_slice-2.result.now c.as_slice.result.now (file_of c.in-Ok.tree) c.in-Ok-Some.at c.in-Ok.ensures.tree place in
    let same : length c.as_slice.result.now ≡ length c.args.file.now = ap length (c.as_slice.ensures.value ∙ c.in_ok-folded.ensures.ok) ∙ length-map c.args.file.now to_ascii_lowercase in
    c.refused.ensures.inside (length c.args.file.now) (omega (arith, inside, same))
