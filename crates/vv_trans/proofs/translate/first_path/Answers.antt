use Rattle.std.proofs.Common.{ℕ, List, [], get_or, arith}
use denote.Ref.{Bor}
use Rattle.std.proofs.lemmas.Result.{IfOk-weaker}
use Rattle.vv_base.specs.declared.rules.Rule.TheVariants.{Y1}
use Rattle.vv_trans.specs.Translation.{bytes_of, report, IsTranslation, Stands}
use Rattle.vv_trans.proofs.Arms.{tells, none_told, more_told, alone, alone_short, alone_told, alone_stands}
use Rattle.vv_trans.proofs.translate.first_path.Goals as goal

-- what an element is beyond the end
abbrev nothing : Bor (List ℕ)
nothing = record { ref_ptr = (0, 0); now = [] }

pub returns-in-empty-clause-refused : goal.returns-in-empty-clause-refused
returns-in-empty-clause-refused c =
    tells c.refused.result (report c.args.top.now (bytes_of c.args.files.now)) (record { rule = Y1; file = 0; at = 0 })
    (none_told c.args.top.now c.args.files.now (omega arith) c.requires.lexed c.requires.parsed) c.refused.ensures.told

pub translate_gates-requires : goal.translate_gates-requires
translate_gates-requires c =
    alone_short (bytes_of c.args.files.now) (get_or c.args.files.now 0 nothing).now
    (alone c.args.files.now nothing c.in-len1.len_at_least c.in-len1.len_below) c.requires.lexed

pub returns-in-len1-clause-refused : goal.returns-in-len1-clause-refused
returns-in-len1-clause-refused c =
    rw (alone_told c.args.top.now (bytes_of c.args.files.now) (get_or c.args.files.now 0 nothing).now
    (alone c.args.files.now nothing c.in-len1.len_at_least c.in-len1.len_below) c.requires.lexed c.requires.parsed)
    c.translate_gates.ensures.refused

pub returns-in-len1-clause-stands : goal.returns-in-len1-clause-stands
returns-in-len1-clause-stands c =
    let file = (get_or c.args.files.now 0 nothing).now in
    IfOk-weaker c.translate_gates.result (λ out. IsTranslation c.args.top.now file out.text out.map) (λ out. Stands c.args.top.now (bytes_of c.args.files.now) out.text out.map)
    (λ out h. alone_stands c.args.top.now (bytes_of c.args.files.now) file out.text out.map (alone c.args.files.now nothing c.in-len1.len_at_least c.in-len1.len_below) h)
    c.translate_gates.ensures.stands

pub returns-in-len2-up-clause-refused : goal.returns-in-len2-up-clause-refused
returns-in-len2-up-clause-refused c =
    tells c.refused-in-len2-up.result (report c.args.top.now (bytes_of c.args.files.now)) (record { rule = Y1; file = 1; at = 0 })
    (more_told c.args.top.now c.args.files.now c.in-len2-up.len_at_least c.requires.lexed c.requires.parsed) c.refused-in-len2-up.ensures.told
