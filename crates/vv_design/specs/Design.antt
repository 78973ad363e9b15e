-- The design: the elements of nets, the sources of an element, and which instances are alike.
use Rattle.std.specs.Prelude.{ℕ, ◌+◌, ◌*◌, ◌<◌, ◌≤◌, ◌≡◌, ◌↔◌, ◌&&◌, Bool, true, false, List, map, Option, Some, None, nat_eq, nat_le, nat_lt, slice_get}
use Rattle.std.specs.List.{filter}
use Rattle.vv_types.specs.Subtype.{index_count}
use Rattle.vv_types.specs.declared.base.Subtype.{Subtype, fold-Subtype}
use Rattle.vv_types.specs.declared.base.Subtype.TheOpen.{Subtype-F}
use Rattle.vv_types.specs.declared.base.Subtype.TheOpen as s
use Rattle.vv_design.specs.declared.design.Design.{Design}
use Rattle.vv_design.specs.declared.design.Inst.{Inst}
use Rattle.vv_design.specs.declared.design.Net.{Net}
use Rattle.vv_design.specs.declared.design.NetKind.{NetKind}
use Rattle.vv_design.specs.declared.design.NetKind.TheVariants as n
use Rattle.vv_design.specs.declared.design.Source.{Source}
use Rattle.vv_design.specs.declared.run.Run.{Run}

abbrev pub element_count_step : Subtype-F ℕ → ℕ
element_count_step (s.Scalar base left right down count) = 1
element_count_step (s.Array base bounds elem) = index_count bounds * elem

-- how many scalar elements an object of the subtype has
abbrev pub element_count : Subtype → ℕ
element_count t = fold-Subtype ℕ element_count_step t

-- the element is one of the net's
abbrev pub HasElement : Net → ℕ → Type 0
HasElement net e = (net.first ≤ e) × (e < net.first + element_count net.subtype)

-- whether an element is one of a run
abbrev pub covers : Run → ℕ → Bool
covers run e = nat_le run.first e && nat_lt e (run.first + run.len)

-- the sources of an element, on all levels
abbrev pub sources_of : Design → ℕ → List Source
sources_of d e = filter (λ source. covers source.run e) d.sources

-- the net that a port is joined with
abbrev pub actual_of : NetKind → Option ℕ
actual_of n.Signal = None
actual_of (n.Port mode actual) = actual

abbrev pub is_port : NetKind → Bool
is_port n.Signal = false
is_port (n.Port mode actual) = true

-- the subtypes of the ports of an instance, in the order of its entity
abbrev pub port_subtypes : Design → ℕ → List Subtype
port_subtypes d i = map (λ net. net.subtype) (filter (λ net. nat_eq net.inst i && is_port net.kind) d.nets)

-- two instances, with their numbers, have the same entity, architecture, values of generics and subtypes of ports
pub record Alike (d : Design) (i : ℕ) (a : Inst) (j : ℕ) (b : Inst) : Type 0 where
  pub entities : a.entity ≡ b.entity
  pub archs : a.arch ≡ b.arch
  pub values : a.generics ≡ b.generics
  pub subtypes : port_subtypes d i ≡ port_subtypes d j

-- exactly the instances that are alike have one number of a specialisation
abbrev pub HasSpecialisations : Design → Type 0
HasSpecialisations d = (i j : ℕ) (a b : Inst) → slice_get d.insts i ≡ Some a → slice_get d.insts j ≡ Some b →
    (a.spec ≡ b.spec) ↔ Alike d i a j b
