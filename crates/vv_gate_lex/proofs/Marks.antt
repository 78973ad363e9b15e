-- Marks are told apart by their codes.
use Rattle.std.proofs.Common.{◌≡◌, ℕ, true, false, ◌==◌, if◌then◌else◌, refl, sym, ap, ◌∙◌, eqb-true}
use denote.Enum.Declared.{tag_of}
use Rattle.vv_gate.specs.contracts.token.Mark.{the_type}
use Rattle.vv_gate.specs.declared.token.Mark.{Mark}
use Rattle.vv_gate.specs.declared.token.Mark.TheVariants as mk
use Rattle.vv_gate_lex.specs.Symbols.{Symbol, name, mark, other, finish, mark_code, is_mark}

pub tag_code : (m : Mark) → tag_of the_type m ≡ mark_code m
tag_code mk.Library = refl
tag_code mk.Use = refl
tag_code mk.All = refl
tag_code mk.Entity = refl
tag_code mk.Is = refl
tag_code mk.Port = refl
tag_code mk.In = refl
tag_code mk.Out = refl
tag_code mk.End = refl
tag_code mk.Architecture = refl
tag_code mk.Of = refl
tag_code mk.Begin = refl
tag_code mk.Not = refl
tag_code mk.And = refl
tag_code mk.Or = refl
tag_code mk.Xor = refl
tag_code mk.Ieee = refl
tag_code mk.StdLogic = refl
tag_code mk.Reserved = refl
tag_code mk.Semicolon = refl
tag_code mk.Dot = refl
tag_code mk.Open = refl
tag_code mk.Close = refl
tag_code mk.Colon = refl
tag_code mk.Comma = refl
tag_code mk.Arrow = refl
tag_code mk.Zero = refl
tag_code mk.One = refl

abbrev decoded : ℕ → Mark
decoded n =
    if n == 0 then mk.Library
    else if n == 1 then mk.Use
    else if n == 2 then mk.All
    else if n == 3 then mk.Entity
    else if n == 4 then mk.Is
    else if n == 5 then mk.Port
    else if n == 6 then mk.In
    else if n == 7 then mk.Out
    else if n == 8 then mk.End
    else if n == 9 then mk.Architecture
    else if n == 10 then mk.Of
    else if n == 11 then mk.Begin
    else if n == 12 then mk.Not
    else if n == 13 then mk.And
    else if n == 14 then mk.Or
    else if n == 15 then mk.Xor
    else if n == 16 then mk.Ieee
    else if n == 17 then mk.StdLogic
    else if n == 18 then mk.Reserved
    else if n == 19 then mk.Semicolon
    else if n == 20 then mk.Dot
    else if n == 21 then mk.Open
    else if n == 22 then mk.Close
    else if n == 23 then mk.Colon
    else if n == 24 then mk.Comma
    else if n == 25 then mk.Arrow
    else if n == 26 then mk.Zero
    else mk.One

decoded-code : (m : Mark) → decoded (mark_code m) ≡ m
decoded-code mk.Library = refl
decoded-code mk.Use = refl
decoded-code mk.All = refl
decoded-code mk.Entity = refl
decoded-code mk.Is = refl
decoded-code mk.Port = refl
decoded-code mk.In = refl
decoded-code mk.Out = refl
decoded-code mk.End = refl
decoded-code mk.Architecture = refl
decoded-code mk.Of = refl
decoded-code mk.Begin = refl
decoded-code mk.Not = refl
decoded-code mk.And = refl
decoded-code mk.Or = refl
decoded-code mk.Xor = refl
decoded-code mk.Ieee = refl
decoded-code mk.StdLogic = refl
decoded-code mk.Reserved = refl
decoded-code mk.Semicolon = refl
decoded-code mk.Dot = refl
decoded-code mk.Open = refl
decoded-code mk.Close = refl
decoded-code mk.Colon = refl
decoded-code mk.Comma = refl
decoded-code mk.Arrow = refl
decoded-code mk.Zero = refl
decoded-code mk.One = refl

-- a test that holds tells the symbol
pub mark_is : (m : Mark) (t : Symbol) → is_mark m t ≡ true → t ≡ mark m
unfolding is_mark
mark_is m (mark n) h =
    let same : mark_code n ≡ mark_code m = eqb-true (mark_code n) (mark_code m) h in
    ap mark (sym (decoded-code n) ∙ (ap decoded same ∙ decoded-code m))
mark_is m (name i) h = let e : false ≡ true = h in cc
mark_is m (other b) h = let e : false ≡ true = h in cc
mark_is m finish h = let e : false ≡ true = h in cc

pub is_mark-same : (m : Mark) → is_mark m (mark m) ≡ true
unfolding is_mark
is_mark-same mk.Library = refl
is_mark-same mk.Use = refl
is_mark-same mk.All = refl
is_mark-same mk.Entity = refl
is_mark-same mk.Is = refl
is_mark-same mk.Port = refl
is_mark-same mk.In = refl
is_mark-same mk.Out = refl
is_mark-same mk.End = refl
is_mark-same mk.Architecture = refl
is_mark-same mk.Of = refl
is_mark-same mk.Begin = refl
is_mark-same mk.Not = refl
is_mark-same mk.And = refl
is_mark-same mk.Or = refl
is_mark-same mk.Xor = refl
is_mark-same mk.Ieee = refl
is_mark-same mk.StdLogic = refl
is_mark-same mk.Reserved = refl
is_mark-same mk.Semicolon = refl
is_mark-same mk.Dot = refl
is_mark-same mk.Open = refl
is_mark-same mk.Close = refl
is_mark-same mk.Colon = refl
is_mark-same mk.Comma = refl
is_mark-same mk.Arrow = refl
is_mark-same mk.Zero = refl
is_mark-same mk.One = refl
