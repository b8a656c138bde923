use Rattle.std.proofs.Common.{sym, ap, ◌∙◌}
use Rattle.rules.specs.Text.{zeros}
use Rattle.flatten.specs.Ways.{done-is, no-is}
use Rattle.flatten.proofs.flatten_named.Goals as goal

pub returns-then-is_err : goal.returns-then-is_err
returns-then-is_err c s P h is =
    no-is _ _ _ _ (sym c.is_err.ensures.value ∙ c.if-is_err.true) (c.unfold_main-steps.ensures.by_index s P h is) (c.all.ensures ∙ ap zeros c.unfold_main-steps.ensures.net_len_unchanged)

pub returns-else-is_err : goal.returns-else-is_err
returns-else-is_err c s P h is = done-is _ _ _ _ (sym c.is_err.ensures.value ∙ c.if-is_err.false) (c.unfold_main-steps.ensures.by_index s P h is)
