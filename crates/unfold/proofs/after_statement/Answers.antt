use mathlib.Core.Path.{sym, ◌∙◌}
use native.Mathlib.Omega.{arith}
use Rattle.unfold.specs.Onward.{onward, beyond, calm_of}
use Rattle.unfold.proofs.after_statement.Goals as goal

pub overflow_add-at : goal.overflow_add-at
overflow_add-at c = omega (arith, c.requires.some, c.requires.here.short)

pub after_parts-i-requires : goal.after_parts-i-requires
after_parts-i-requires c = calm_of c.requires

pub among-requires : goal.among-requires
among-requires c = c.requires.here.limit

pub body_at-requires : goal.body_at-requires
body_at-requires c =
    let w = c.requires in
    let l = (beyond w.text w.statements w.here w.some c.after_parts-i.ensures (sym c.among.ensures ∙ c.if-among.true)).0 in
    (omega (arith, l, w.here.limit), omega (arith, l, w.here.short))

pub returns-then-among : goal.returns-then-among
returns-then-among c len b h s =
    let r = beyond len b h s c.after_parts-i.ensures (sym c.among.ensures ∙ c.if-among.true) in
    rw c.body_at.ensures (r.1, r.2)

pub returns : goal.returns
returns c len b h s = onward len b h s c.after_parts-i.ensures (sym c.among.ensures ∙ c.if-among.false)
