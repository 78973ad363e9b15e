use Rattle.std.proofs.Common.{◌≡◌, ◌<◌, ◌≤◌, ℕ, List, [], get_or, length, map, refl, ap, arith}
use Rattle.std.proofs.lemmas.List.{length-map}
use Rattle.vv_trans.specs.Translation.{told, IsTranslated, IsRefusal}
use Rattle.vv_top.specs.Words.{wanted}
use Rattle.vv_top.proofs.Loaded.{of_files, place_of}
use Rattle.vv_top.proofs.run.translate_files.Goals as goal

pub returns-in-Ok-translate_loaded-clause-translated : goal.returns-in-Ok-translate_loaded-clause-translated
returns-in-Ok-translate_loaded-clause-translated g c =
    let top = c.args.command.now.top.now in
    let bytes : List (List ℕ) = map (λ file. file.items) c.in-Ok.files.items in
    let here : IsTranslated top bytes c.in-Ok-translate_loaded.out.text c.in-Ok-translate_loaded.out.map = rw (← c.as_slice.ensures.value) c.in-Ok-translate_loaded.ensures.translated in
    of_files (wanted c.args.command.now) (g.D.Shelf.held c.args.shelf.now) bytes (λ files. IsTranslated top files c.in-Ok-translate_loaded.out.text c.in-Ok-translate_loaded.out.map) c.in-Ok.ensures.loaded here

pub returns-in-Err-Refused-clause-stopped : goal.returns-in-Err-Refused-clause-stopped
returns-in-Err-Refused-clause-stopped g c =
    let bytes : List (List ℕ) = map (λ file. file.items) c.in-Ok.files.items in
    let here : IsRefusal c.args.command.now.top.now bytes (told c.in-Err-Refused.refusal) = rw (← c.as_slice.ensures.value) (rw c.in-Err-Refused.field-0-is at c.in-Err-Refused.ensures.refused) in
    record {
      broken = here;
      loaded = of_files (wanted c.args.command.now) (g.D.Shelf.held c.args.shelf.now) bytes (λ files. files ≡ bytes) c.in-Ok.ensures.loaded refl;
      same = c.load_all.ensures.held;
    }

pub returns-in-Err-Refused-clause-inside : goal.returns-in-Err-Refused-clause-inside
returns-in-Err-Refused-clause-inside g c =
    let bytes : List (List ℕ) = map (λ file. file.items) c.in-Ok.files.items in
    let inside : c.in-Err-Refused.refusal.span.at ≤ length (get_or bytes c.in-Err-Refused.refusal.span.file []) = rw (← c.as_slice.ensures.value) (rw c.in-Err-Refused.field-0-is at c.in-Err-Refused.ensures.inside) in
    let as_many : length c.as_slice.result.now ≡ length bytes = rw (length-map c.in-Ok.files.items (λ file. file.items)) (ap length c.as_slice.ensures.value) in
    let some : 0 < length c.args.command.now.files.now = simp length-map at c.requires.some in
    let file : 0 < length c.as_slice.result.now → c.in-Err-Refused.refusal.span.file < length c.as_slice.result.now = rw c.in-Err-Refused.field-0-is at c.in-Err-Refused.ensures.file in
    place_of (g.D.Shelf.held c.args.shelf.now) c.args.command.now.files.now bytes c.in-Err-Refused.refusal.span.file c.in-Err-Refused.refusal.span.at c.in-Ok.ensures.loaded some
    (λ h. let here : c.in-Err-Refused.refusal.span.file < length c.as_slice.result.now = file (omega (arith, as_many, h)) in omega (arith, here, as_many)) inside
