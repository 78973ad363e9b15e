use Rattle.std.proofs.Common.{map, ap, ◌∙◌}
use Rattle.std.specs.Str.{bytes_eq}
use Rattle.vv_base.specs.Names.{number_of, with_text}
use Rattle.vv_base.proofs.Mapped.{position_map, insert_map}
use Rattle.vv_base.proofs.names.Names.intern.Goals as goal

pub returns-clause-number : goal.returns-clause-number
returns-clause-number c =
    rw (← c.self.view_is)
    (c.in_ok-number.ensures.index
    ∙ (position_map (λ t. t.items) (bytes_eq c.in_ok-folded.folded.items) c.self.inside.texts.keys
    ∙ ap (number_of (map (λ t. t.items) c.self.inside.texts.keys)) c.in_ok-folded.ensures.ok))

pub returns-clause-texts : goal.returns-clause-texts
returns-clause-texts c =
    rw (← c.self.view_is)
    (ap (map (λ t. t.items)) c.in_ok-number.ensures.keys
    ∙ (insert_map (λ t. t.items) (bytes_eq c.in_ok-folded.folded.items) c.self.inside.texts.keys c.in_ok-folded.folded
    ∙ ap (with_text (map (λ t. t.items) c.self.inside.texts.keys)) c.in_ok-folded.ensures.ok))
