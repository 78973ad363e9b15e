-- What follows from why a translation stopped, and from what was printed of it.
use Rattle.std.proofs.Common.{◌≡◌, ◌≢◌, ◌⊎◌, inl, inr, ℕ, List, [], Option, Some, None, map, refl, sym, ◌∙◌, subst, arith}
use Rattle.std.proofs.lemmas.List.Elements.{All-get_or}
use Rattle.std.specs.Io.KnownBytes.{Appends, Keeps}
use Rattle.vv_base.specs.Outside.{Told, Rose}
use Rattle.vv_trans.proofs.Ways.{reading_first}
use Rattle.vv_trans.specs.Translation.{Report, reading, report, told, IsRefusal, misread, later}
use Rattle.vv_top.specs.declared.run.Stop.{Stop}
use Rattle.vv_top.specs.declared.run.Stop.TheVariants.{ReadFault, OutputFault, MapFault, Refused, Memory}
use Rattle.vv_top.specs.Lines.{Announced, Cut, memory_line, report_line}
use Rattle.vv_top.specs.Run.{RuleBroken, BothHold, OfFiles, Saved, SavedPart}
use Rattle.vv_top.specs.Stops.{Means, line_of, status_of}
use Rattle.vv_top.specs.Top.{IsRefused, IsReadFault, IsSaveFault, IsStopped, NoFault, Accepts, Refuses, Translates}
use Rattle.vv_top.specs.Words.{Wanted}

-- a status that is neither 4 nor 5 is the line's own, and the whole line stands
put_whole : (line : List ℕ) (status result : ℕ) (was is : Option (List ℕ)) (before now : ℕ) → Announced line status result was is before now → result ≢ 4 → result ≢ 5 → (result ≡ status) × Appends was is line
put_whole line status result was is before now (inl (inl p)) not4 not5 = p
put_whole line status result was is before now (inl (inr (inl p))) not4 not5 = absurd (not4 p.0)
put_whole line status result was is before now (inl (inr (inr p))) not4 not5 = absurd (not5 p.0)
put_whole line status result was is before now (inr (inl p)) not4 not5 = absurd (not5 p.0)
put_whole line status result was is before now (inr (inr (inl p))) not4 not5 = absurd (not4 p.0)
put_whole line status result was is before now (inr (inr (inr p))) not4 not5 = absurd (not5 p.0)

-- at status 4 the whole line stands, or a put failed
put_at_4 : (line : List ℕ) (status result : ℕ) (was is : Option (List ℕ)) (before now : ℕ) → Announced line status result was is before now → result ≡ 4 → ((status ≡ 4) × Appends was is line) ⊎ (Rose before now × (Cut was is line ⊎ Cut was is memory_line))
put_at_4 line status result was is before now (inl (inl p)) at4 = inl (sym p.0 ∙ at4, p.1)
put_at_4 line status result was is before now (inl (inr (inl p))) at4 = inr (p.1, inl p.2)
put_at_4 line status result was is before now (inl (inr (inr p))) at4 = absurd (omega (arith, p.0, at4))
put_at_4 line status result was is before now (inr (inl p)) at4 = absurd (omega (arith, p.0, at4))
put_at_4 line status result was is before now (inr (inr (inl p))) at4 = inr (p.1, inr p.2)
put_at_4 line status result was is before now (inr (inr (inr p))) at4 = absurd (omega (arith, p.0, at4))

-- the bytes that break a rule are those of the files, where these are told
refused_of : (w : Wanted) (old new : List ℕ → Told) (bytes : List (List ℕ)) (r : Report) (P : List ℕ → Type 0) → RuleBroken w old new bytes r → P (report_line w.files bytes r) → IsRefused w old new P
refused_of w old new bytes r P m p = record {
  same = m.same;
  line = λ files told. subst (λ f. (q : Report) × IsRefusal w.top f q × P (report_line w.files f q)) (sym (m.loaded files told)) (r, m.broken, p);
}

-- P of the line that tells why
stopped_of : (w : Wanted) (old new : List ℕ → Told) (loads loaded saves saved : List ℕ → ℕ) (P : List ℕ → Type 0) (stop : Stop) → Means w old new loads loaded saves saved stop → P (line_of w stop) → IsStopped w old new loads loaded saves saved P
stopped_of w old new loads loaded saves saved P (ReadFault number) m p = inr (inl (record { number = number; failed = m; line = p }))
stopped_of w old new loads loaded saves saved P OutputFault m p = inr (inr (inl (inl (record { failed = m; line = p }))))
stopped_of w old new loads loaded saves saved P MapFault m p = inr (inr (inl (inr (record { failed = m; line = p }))))
stopped_of w old new loads loaded saves saved P (Refused files refusal) m p = inl (refused_of w old new (map (λ file. file.items) files.items) (told refusal) P m p)
stopped_of w old new loads loaded saves saved P Memory m p = inr (inr (inr p))

read_of : (w : Wanted) (old new : List ℕ → Told) (loads loaded saves saved : List ℕ → ℕ) (P : List ℕ → Type 0) (stop : Stop) → Means w old new loads loaded saves saved stop → status_of stop ≡ 3 → P (line_of w stop) → IsReadFault w old new loads loaded P
read_of w old new loads loaded saves saved P (ReadFault number) m e p = record { number = number; failed = m; line = p }
read_of w old new loads loaded saves saved P OutputFault m e p = absurd (omega (arith, e))
read_of w old new loads loaded saves saved P MapFault m e p = absurd (omega (arith, e))
read_of w old new loads loaded saves saved P (Refused files refusal) m e p = absurd (omega (arith, e))
read_of w old new loads loaded saves saved P Memory m e p = absurd (omega (arith, e))

save_of : (w : Wanted) (old new : List ℕ → Told) (loads loaded saves saved : List ℕ → ℕ) (P : List ℕ → Type 0) (stop : Stop) → Means w old new loads loaded saves saved stop → status_of stop ≡ 4 → P (line_of w stop) → IsSaveFault w old new saves saved P
save_of w old new loads loaded saves saved P (ReadFault number) m e p = absurd (omega (arith, e))
save_of w old new loads loaded saves saved P OutputFault m e p = inl (record { failed = m; line = p })
save_of w old new loads loaded saves saved P MapFault m e p = inr (record { failed = m; line = p })
save_of w old new loads loaded saves saved P (Refused files refusal) m e p = absurd (omega (arith, e))
save_of w old new loads loaded saves saved P Memory m e p = absurd (omega (arith, e))

-- status 3
pub read_told : (w : Wanted) (old new : List ℕ → Told) (loads loaded saves saved : List ℕ → ℕ) (stop : Stop) (result : ℕ) (was is : Option (List ℕ)) (before now : ℕ) → Means w old new loads loaded saves saved stop → Announced (line_of w stop) (status_of stop) result was is before now → result ≡ 3 → IsReadFault w old new loads loaded (Appends was is)
read_told w old new loads loaded saves saved stop result was is before now m a at3 =
    let put = put_whole (line_of w stop) (status_of stop) result was is before now a (omega (arith, at3)) (omega (arith, at3)) in
    read_of w old new loads loaded saves saved (Appends was is) stop m (sym put.0 ∙ at3) put.1

-- status 4
pub fault_told : (w : Wanted) (old new : List ℕ → Told) (loads loaded saves saved : List ℕ → ℕ) (stop : Stop) (result : ℕ) (was is : Option (List ℕ)) (before now : ℕ) → Means w old new loads loaded saves saved stop → Announced (line_of w stop) (status_of stop) result was is before now → result ≡ 4 → IsSaveFault w old new saves saved (Appends was is) ⊎ (Rose before now × IsStopped w old new loads loaded saves saved (Cut was is))
fault_told w old new loads loaded saves saved stop result was is before now m a at4 =
    elim (put_at_4 (line_of w stop) (status_of stop) result was is before now a at4) [
      | inl p ↦ inl (save_of w old new loads loaded saves saved (Appends was is) stop m p.0 p.1)
      | inr p ↦ inr (
        p.0,
        elim p.1 [
          | inl cut ↦ stopped_of w old new loads loaded saves saved (Cut was is) stop m cut
          | inr cut ↦ inr (inr (inr cut))
        ],
      )
    ]

-- where no save failed, nothing or OUT alone is saved
pub part_of : (w : Wanted) (old new : List ℕ → Told) (saves saved : List ℕ → ℕ) → Saved w old new saves saved → (¬ Rose (saves w.output) (saved w.output)) → (¬ Rose (saves w.map) (saved w.map)) → SavedPart w old new
part_of w old new saves saved (inl all) output map = inl all
part_of w old new saves saved (inr (inl one)) output map = inr one
part_of w old new saves saved (inr (inr (inl failed))) output map = absurd (output failed.rose)
part_of w old new saves saved (inr (inr (inr failed))) output map = absurd (map failed.rose)

-- with no fault no save failed
no_save_fault : (w : Wanted) (old new : List ℕ → Told) (loads loaded saves saved : List ℕ → ℕ) (before now : ℕ) (P : List ℕ → Type 0) → NoFault w loads loaded saves saved before now → ¬ IsSaveFault w old new saves saved P
no_save_fault w old new loads loaded saves saved before now P none (inl fault) = none.output fault.failed.rose
no_save_fault w old new loads loaded saves saved before now P none (inr fault) = none.map fault.failed.rose

-- with no fault the status is not 4
not_4 : (w : Wanted) (old new : List ℕ → Told) (loads loaded saves saved : List ℕ → ℕ) (stop : Stop) (result : ℕ) (was is : Option (List ℕ)) (before now : ℕ) → Means w old new loads loaded saves saved stop → Announced (line_of w stop) (status_of stop) result was is before now → NoFault w loads loaded saves saved before now → result ≢ 4
not_4 w old new loads loaded saves saved stop result was is before now m a none at4 =
    elim (fault_told w old new loads loaded saves saved stop result was is before now m a at4) [
      | inl fault ↦ no_save_fault w old new loads loaded saves saved before now (Appends was is) none fault
      | inr p ↦ none.put p.0
    ]

none_some : (r : Report) → None ≡ Some r → ⊥
none_some r e = cc

same_some : (a b : Report) → Some a ≡ Some b → a ≡ b
same_some a b e = cc

-- what is refused is no file of gates that breaks none of its conditions
not_gates : (top : List ℕ) (files : List (List ℕ)) (r : Report) → IsRefusal top files r → ¬ (report top files ≡ None)
not_gates top files r (misread e) = λ h. none_some r (sym h ∙ reading_first top files r e)
not_gates top files r (later e h) = h

-- what is refused where reading tells something is refused by that
by_reading : (top : List ℕ) (files : List (List ℕ)) (r q : Report) → IsRefusal top files r → reading files ≡ Some q → r ≡ q
by_reading top files r q (misread e) h = same_some r q (sym e ∙ h)
by_reading top files r q (later e h) k = absurd (none_some q (sym e ∙ k))

refuses_all : (w : Wanted) (files : List (List ℕ)) (r : Report) (status : ℕ) (held kept : List ℕ → Told) (was is : Option (List ℕ)) → Refuses w files r status held kept was is → Translates w files status held kept was is
refuses_all w files r status held kept was is f = record {
  gates = λ h. absurd (not_gates w.top files r f.refused h);
  misread = λ q h. subst (λ (x : Report). Refuses w files x status held kept was is) (by_reading w.top files r q f.refused h) f;
  others = inr (r, f);
}

-- a translation that was made and saved
pub accepts_all : (w : Wanted) (files : List (List ℕ)) (status : ℕ) (held kept : List ℕ → Told) (was is : Option (List ℕ)) → Accepts w files status held kept was is → Translates w files status held kept was is
accepts_all w files status held kept was is a = record {
  gates = λ h. a;
  misread = λ q h. absurd (none_some q (sym a.translated.read ∙ h));
  others = inl a;
}

-- both stand under their names
pub both_accept : (w : Wanted) (held kept : List ℕ → Told) (was is : Option (List ℕ)) → BothHold w held kept → Keeps was is → OfFiles w held (λ files. Translates w files 0 held kept was is)
both_accept w held kept was is b k = λ files told. accepts_all w files 0 held kept was is (record {
  answer = refl;
  text = b.text;
  lines = b.lines;
  translated = b.translated files told;
  output = b.output;
  map = b.map;
  silent = k;
})

-- with no fault a stop is a refusal, and the line is told
translates_of : (w : Wanted) (old new : List ℕ → Told) (loads loaded saves saved : List ℕ → ℕ) (stop : Stop) (result : ℕ) (was is : Option (List ℕ)) (before now : ℕ) → Means w old new loads loaded saves saved stop → result ≡ status_of stop → Appends was is (line_of w stop) → NoFault w loads loaded saves saved before now → result ≢ 5 → OfFiles w old (λ files. Translates w files result old new was is)
translates_of w old new loads loaded saves saved (ReadFault number) result was is before now m e p none not5 =
    absurd (All-get_or (λ name. ¬ Rose (loads name) (loaded name)) w.files number [] m.load.within none.load m.load.rose)
translates_of w old new loads loaded saves saved OutputFault result was is before now m e p none not5 = absurd (none.output m.rose)
translates_of w old new loads loaded saves saved MapFault result was is before now m e p none not5 = absurd (none.map m.rose)
translates_of w old new loads loaded saves saved (Refused files refusal) result was is before now m e p none not5 =
    let bytes : List (List ℕ) = map (λ file. file.items) files.items in
    let r = told refusal in
    λ told_files told. subst (λ f. Translates w f result old new was is) (sym (m.loaded told_files told))
    (refuses_all w bytes r result old new was is (record { answer = e; refused = m.broken; same = m.same; line = p }))
translates_of w old new loads loaded saves saved Memory result was is before now m e p none not5 = absurd (not5 e)

-- with no fault and no want of memory the bytes of the files settle what a stop comes to
pub headline_told : (w : Wanted) (old new : List ℕ → Told) (loads loaded saves saved : List ℕ → ℕ) (stop : Stop) (result : ℕ) (was is : Option (List ℕ)) (before now : ℕ) → Means w old new loads loaded saves saved stop → Announced (line_of w stop) (status_of stop) result was is before now → NoFault w loads loaded saves saved before now → result ≢ 5 → OfFiles w old (λ files. Translates w files result old new was is)
headline_told w old new loads loaded saves saved stop result was is before now m a none not5 =
    let not4 = not_4 w old new loads loaded saves saved stop result was is before now m a none in
    let put = put_whole (line_of w stop) (status_of stop) result was is before now a not4 not5 in
    translates_of w old new loads loaded saves saved stop result was is before now m put.0 put.1 none not5
