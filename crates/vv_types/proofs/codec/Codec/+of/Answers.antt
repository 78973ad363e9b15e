-- The element of an array is as small as the array.
use Rattle.std.proofs.Common.{rules, ◌≤◌, subst, sym, arith}
use Rattle.vv_types.specs.Codec.{codec_of, width_of}
use Rattle.vv_types.specs.Subtype.{HasElements}
use Rattle.vv_types.specs.declared.base.Subtype.{the_lemmas}
use Rattle.vv_types.proofs.SubtypeLaws.{element_fits}
use Rattle.vv_types.proofs.codec.Codec.+of.Goals as goal

pub of-requires : goal.of-requires
of-requires t c =
    let has = subst HasElements c.in-Array.is c.requires.elements in
    let bits = subst (λ s. width_of (codec_of s) ≤ 65536) c.in-Array.is c.requires.bits in
    let fits = element_fits c.in-Array.base c.in-Array.bounds c.in-Array.elem 65536 has bits in
    let same = sym c.get.ensures in
    (search (rules, the_lemmas), (subst HasElements same fits.0, subst (λ s. width_of (codec_of s) ≤ 65536) same fits.1))

pub index_count-requires : goal.index_count-requires
index_count-requires t c =
    let has = subst HasElements c.in-Array.is c.requires.elements in
    let bits = subst (λ s. width_of (codec_of s) ≤ 65536) c.in-Array.is c.requires.bits in
    omega (arith, (element_fits c.in-Array.base c.in-Array.bounds c.in-Array.elem 65536 has bits).2)
