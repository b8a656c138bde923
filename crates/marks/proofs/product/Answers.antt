use Rattle.rules.specs.Grammar.{is_product}
use Rattle.tape.specs.Layout.{head_of}
use Rattle.std.proofs.Common.{refl, ◌∙◌}
use Rattle.rules.specs.Text.{pick}
use Rattle.marks.proofs.Others.{coded, uncoded}
use Rattle.marks.proofs.product.Goals as goal

pub returns-in_err-next-clause-joins : goal.returns-in_err-next-clause-joins
returns-in_err-next-clause-joins c = rw c.from_residual.ensures (uncoded is_product 42 _ (λ b e. e) c.in_err-next.ensures.spots)

pub returns-clause-joins : goal.returns-clause-joins
unfolding pick head_of
returns-clause-joins c =
    let (e, f) = c.in_ok-next.ensures.spots in
    let (p, is) = coded 42 _ e in
    record { by = 42; place = p; is = is ∙ rw f; joining = refl; head = refl }
