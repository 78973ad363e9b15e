-- What the laws say of derivations, said of matches.
use Rattle.std.proofs.Common.{◌≡◌, ℕ, List, [], ◌∷◌, ◌++◌, sym, ap, ◌∙◌}
use Rattle.vv_vlex.specs.declared.token.Token.{Token}
use Rattle.vv_grammar.specs.declared.edition.Edition.{Edition}
use Rattle.vv_grammar.specs.declared.event.Event.{Event}
use Rattle.vv_grammar.specs.declared.terminal.Terminal.{Terminal}
use Rattle.vv_grammar.specs.Terminals.{terminals_of}
use Rattle.vv_grammar.specs.Trees.{Tree, absent, replay}
use Rattle.vv_grammar_laws.specs.Derivations.{IsViable}
use Rattle.vv_grammar_laws.specs.Readings as table
use Rattle.vv_grammar_laws.specs.Readings.{MayEnd}
use Rattle.vv_grammar_laws.specs.Starts.{Start, steps_for}
use Rattle.vv_grammar_laws.proofs.Verdicts.{one_misplaced, one_deep, apart, not_deep, not_misplaced}
use Rattle.vv_productions.specs.Readings.{IsStart, GoesOn, IsRead, IsMisplaced, IsDeep, IsTreeOf, nowhere}
use Rattle.vv_productions.proofs.Main.{admits, derives, admitted, derived, one_match, too_deep_matches, too_deep_derives}

start-of : (e : Edition) (s : Start) (u : List Terminal) → IsViable e (steps_for s) u → IsStart e s u
start-of e s u v = record { more = v.more; events = v.events; matches = admits e s (u ++ v.more) v.events v.derives }

viable-of : (e : Edition) (s : Start) (u : List Terminal) → IsStart e s u → IsViable e (steps_for s) u
viable-of e s u v = record { more = v.more; events = v.events; derives = derives e s (u ++ v.more) v.events v.matches }

on-of : (e : Edition) (s : Start) (a n : ℕ) (q : List Terminal) → table.GoesOn e s a n q → GoesOn e s a n q
on-of e s a n q g =
    let x = admitted e s (q ++ g.more) g.events a g.derives in
    record {
      more = g.more;
      events = g.events;
      matches = x.matches;
      free = λ m l h. g.free m l (too_deep_derives e s (q ++ g.more) g.events a m g.derives x.matches x.same h);
    }

on-from : (e : Edition) (s : Start) (a n : ℕ) (q : List Terminal) → GoesOn e s a n q → table.GoesOn e s a n q
on-from e s a n q g =
    let x = derived e s (q ++ g.more) g.events a g.matches in
    record {
      more = g.more;
      events = g.events;
      derives = x.derives;
      free = λ m l h. g.free m l (too_deep_matches e s (q ++ g.more) g.events a m x.derives g.matches x.same h);
    }

pub read-of : (e : Edition) (s : Start) (ts : List Terminal) (a b : ℕ) (es : List Event) → table.IsReading e s ts a b es → IsRead e s ts a b es
read-of e s ts a b es r =
    let x = admitted e s r.tokens es a r.derives in
    record {
      tokens = r.tokens;
      between = r.between;
      matches = x.matches;
      shallow = λ n h. r.shallow n (too_deep_derives e s r.tokens es a n r.derives x.matches x.same h);
      longest = λ t n i. r.longest t n (viable-of e s (r.tokens ++ (t ∷ [])) i);
    }

read-from : (e : Edition) (s : Start) (ts : List Terminal) (a b : ℕ) (es : List Event) → IsRead e s ts a b es → table.IsReading e s ts a b es
read-from e s ts a b es r =
    let x = derived e s r.tokens es a r.matches in
    record {
      tokens = r.tokens;
      between = r.between;
      derives = x.derives;
      shallow = λ n h. r.shallow n (too_deep_matches e s r.tokens es a n x.derives r.matches x.same h);
      longest = λ t n i. r.longest t n (start-of e s (r.tokens ++ (t ∷ [])) i);
    }

pub misplaced-of : (e : Edition) (s : Start) (ts : List Terminal) (a n : ℕ) → table.IsRefusal e s ts a n → IsMisplaced e s ts a n
misplaced-of e s ts a n r = record {
  tokens = r.tokens;
  between = r.between;
  goes_on = on-of e s a n r.tokens r.goes_on;
  never = λ t k i. r.never t k (viable-of e s (r.tokens ++ (t ∷ [])) i);
  ends = λ es k m. r.ends es k (derives e s r.tokens es m);
}

misplaced-from : (e : Edition) (s : Start) (ts : List Terminal) (a n : ℕ) → IsMisplaced e s ts a n → table.IsRefusal e s ts a n
misplaced-from e s ts a n r = record {
  tokens = r.tokens;
  between = r.between;
  goes_on = on-from e s a n r.tokens r.goes_on;
  never = λ t k i. r.never t k (start-of e s (r.tokens ++ (t ∷ [])) i);
  ends = λ es k d. r.ends es k (admits e s r.tokens es d);
}

pub deep-of : (e : Edition) (s : Start) (ts : List Terminal) (a n : ℕ) → table.IsDeep e s ts a n → IsDeep e s ts a n
deep-of e s ts a n d = record {
  next = d.next;
  by = d.by;
  tokens = d.tokens;
  between = d.between;
  goes_on = on-of e s a d.next d.tokens d.goes_on;
  token = d.token;
  here = d.here;
  first = on-of e s a n (d.tokens ++ (d.token ∷ [])) d.first;
  settled = λ more es m.
      let u = d.tokens ++ (d.token ∷ more) in
      let x = derived e s u es a m in
      too_deep_matches e s u es a n x.derives m x.same (d.settled more es x.derives);
}

deep-from : (e : Edition) (s : Start) (ts : List Terminal) (a n : ℕ) → IsDeep e s ts a n → table.IsDeep e s ts a n
deep-from e s ts a n d = record {
  next = d.next;
  by = d.by;
  tokens = d.tokens;
  between = d.between;
  goes_on = on-from e s a d.next d.tokens d.goes_on;
  token = d.token;
  here = d.here;
  first = on-from e s a n (d.tokens ++ (d.token ∷ [])) d.first;
  settled = λ more es x.
      let u = d.tokens ++ (d.token ∷ more) in
      let m = admitted e s u es a x in
      too_deep_derives e s u es a n x m.matches m.same (d.settled more es m.matches);
}

-- there is one verdict
pub one_place : (e : Edition) (s : Start) (ts : List Terminal) (a n m : ℕ) → IsMisplaced e s ts a n → IsMisplaced e s ts a m → n ≡ m
one_place e s ts a n m x y = one_misplaced e s ts a n m (misplaced-from e s ts a n x) (misplaced-from e s ts a m y)

pub one_depth : (e : Edition) (s : Start) (ts : List Terminal) (a n m : ℕ) → IsDeep e s ts a n → IsDeep e s ts a m → n ≡ m
one_depth e s ts a n m x y = one_deep e s ts a n m (deep-from e s ts a n x) (deep-from e s ts a m y)

pub not_both : (e : Edition) (s : Start) (ts : List Terminal) (a n m : ℕ) → IsDeep e s ts a n → IsMisplaced e s ts a m → ⊥
not_both e s ts a n m x y = apart e s ts a n m (deep-from e s ts a n x) (misplaced-from e s ts a m y)

pub read_shallow : (e : Edition) (s : Start) (ts : List Terminal) (a n b : ℕ) (es : List Event) → IsRead e s ts a b es → IsDeep e s ts a n → ⊥
read_shallow e s ts a n b es r x = not_deep e s ts a n b es (read-from e s ts a b es r) (deep-from e s ts a n x)

pub read_whole : (e : Edition) (s : Start) (ts : List Terminal) (a n b : ℕ) (es : List Event) → MayEnd s ts b → IsRead e s ts a b es → IsMisplaced e s ts a n → ⊥
read_whole e s ts a n b es m r x = not_misplaced e s ts a n b es m (read-from e s ts a b es r) (misplaced-from e s ts a n x)

first-of : List Tree → Tree
first-of [] = absent
first-of (t ∷ V) = t

pub one_tree : (e : Edition) (s : Start) (ts : List Token) (a b : Tree) → IsTreeOf e s ts a → IsTreeOf e s ts b → a ≡ b
unfolding first-of
one_tree e s ts a b x y =
    ap first-of (sym x.made ∙ ap (λ (es : List Event). replay es ts nowhere []) (one_match e s (terminals_of ts) x.events y.events x.matches y.matches) ∙ y.made)
